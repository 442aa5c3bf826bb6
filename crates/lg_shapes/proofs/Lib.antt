pub mod DefinedLemmas
pub mod InputLemmas
pub mod LackLemmas
pub mod PlexersDefined
pub mod ReadLemmas
pub mod StepLemmas
pub mod WidthLemmas
