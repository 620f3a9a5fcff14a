pub mod Ends
pub mod Held
pub mod Lines
pub mod Run
pub mod Shown
