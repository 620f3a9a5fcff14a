-- Definitions for functions that only this project calls. Nothing else in `specs/` cites them.
pub mod Faults
pub mod Gaps
pub mod Strings
pub mod Wanted
pub mod Keys
pub mod Numbers
pub mod Dates
pub mod Earlier
pub mod Values
pub mod Sections
