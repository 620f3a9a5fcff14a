pub mod DiagnosticLemmas
pub mod EditLemmas
pub mod KeyLemmas
pub mod PositionLemmas
pub mod RoundTrip
pub mod SuggestionLemmas
mod PartLemmas
mod PartialLemmas
