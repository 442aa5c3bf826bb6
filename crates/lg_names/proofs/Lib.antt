pub mod OneNumbering
pub mod OneNaming
pub mod NumberingLemmas
pub mod NameLemmas
pub mod NextLemmas
pub mod SpelledLemmas
pub mod SomeNumbers
pub mod SomeNames
