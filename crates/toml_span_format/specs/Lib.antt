pub mod Document
pub mod Entries
pub mod Keys
pub mod Options
pub mod Permuted
pub mod Same
pub mod Tokens
