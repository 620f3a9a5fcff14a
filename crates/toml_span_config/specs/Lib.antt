pub mod Config
pub mod Layers
pub mod Sources
pub mod Tables
