pub mod Records
pub mod Faults
pub mod Edits
pub mod Calls
pub mod code
