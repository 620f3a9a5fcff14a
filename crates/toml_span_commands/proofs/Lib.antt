pub mod Added
pub mod Configurations
pub mod Rows
pub mod Said
