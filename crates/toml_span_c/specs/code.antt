-- Definitions for functions that only this project calls. Nothing else in `specs/` cites them.
pub mod Filling
pub mod Sites
pub mod Answers
