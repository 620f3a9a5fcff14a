pub mod Arrays
pub mod Integers
pub mod Tables
pub mod Whole
pub mod Maps
pub mod Tuples
pub mod WithWarnings
