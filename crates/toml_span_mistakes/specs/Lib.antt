pub mod Errors
pub mod Findings
pub mod Reads
pub mod Reported
pub mod UnknownKeys
