-- Definitions for functions that only this project calls. Nothing else in `specs/` cites them.
pub mod Pointer
pub mod Lending
pub mod Errors
