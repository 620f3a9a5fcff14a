-- Definitions for functions that only this project calls. Nothing else in `specs/` cites them.
pub mod ClaimInfos
pub mod Machine
pub mod Tree
pub mod Relative
pub mod Placing
pub mod Borrowed
pub mod Assembling
pub mod Lines
pub mod Built
pub mod RootTable
