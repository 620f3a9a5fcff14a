pub mod Documents
pub mod EntryLemmas
pub mod Lists
pub mod NameLemmas
pub mod Permutations
pub mod PieceLemmas
pub mod Texts
pub mod Values
