pub mod Around
pub mod CommentLemmas
pub mod Elements
pub mod Refusals
pub mod Retried
pub mod Steps
pub mod EditedAt
pub mod FormLemmas
