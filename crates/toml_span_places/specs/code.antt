-- Definitions for functions that only this project calls. Nothing else in `specs/` cites them.
pub mod Dotted
pub mod Opened
pub mod Spelled
