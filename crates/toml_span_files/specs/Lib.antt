pub mod Diff
pub mod Past
pub mod Place
