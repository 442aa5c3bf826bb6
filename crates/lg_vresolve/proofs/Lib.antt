pub mod ExprInduction
pub mod OperatorLemmas
pub mod TermLemmas
pub mod FitLemmas
pub mod ResolvedLemmas
pub mod ReadLemmas
