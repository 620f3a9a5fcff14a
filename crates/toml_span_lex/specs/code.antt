-- Definitions for functions that only this project calls. Nothing else in `specs/` cites them.
pub mod Text
pub mod Escapes
pub mod Lanes
pub mod Pieces
pub mod Strings
pub mod Tokens
