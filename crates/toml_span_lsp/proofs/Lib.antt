pub mod Headers
pub mod ListLemmas
pub mod Params
pub mod Phases
pub mod Responses
pub mod Served
pub mod Written
