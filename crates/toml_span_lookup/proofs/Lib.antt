pub mod Texts
pub mod Warned
