-- Definitions that only the laws in `judged.rt` cite.
pub mod Judged
