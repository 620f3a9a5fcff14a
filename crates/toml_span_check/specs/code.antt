-- Definitions for functions that only this project calls. Nothing else in `specs/` cites them.
pub mod Every
pub mod Judged
pub mod Collected
pub mod Entries
