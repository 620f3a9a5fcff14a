-- Definitions for functions that only this project calls. Nothing else in `specs/` cites them.
pub mod Arrays
pub mod Integers
pub mod Maps
pub mod TableHelper
pub mod Tags
pub mod WithWarnings
