pub mod Known
pub mod Fronts
pub mod Walks
pub mod Entries
pub mod EntryLines
pub mod EntryOrder
pub mod EntryPlaces
pub mod TreeShown
