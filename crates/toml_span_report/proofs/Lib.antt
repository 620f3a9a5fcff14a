pub mod PlaceLemmas
pub mod LineEndLemmas
pub mod StripLemmas
pub mod NearestLemmas
pub mod OrderLemmas
