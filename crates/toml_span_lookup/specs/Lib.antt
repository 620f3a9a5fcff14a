pub mod Addresses
pub mod Catalog
pub mod Choice
pub mod Directive
pub mod Findings
