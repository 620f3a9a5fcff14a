pub mod Blanks
mod Boundaries
pub mod EncodingLemmas
pub mod Endings
pub mod Entries
pub mod Errors
pub mod Fixings
mod Ignored
pub mod Judged
mod Marks
pub mod Missings
mod Names
mod PatternLemmas
mod PatternLists
pub mod Pieces
pub mod Shows
pub mod Sorts
pub mod Statuses
pub mod Collecting
mod Trimmed
