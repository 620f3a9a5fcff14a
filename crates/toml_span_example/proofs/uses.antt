pub mod Conclusions
pub mod Reading
