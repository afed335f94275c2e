pub mod LetterLemmas
pub mod SymbolLemmas
pub mod KindLemmas
pub mod Counted
pub mod Tallies
pub mod FieldCounts
pub mod PartLimits
pub mod RulesSteps
pub mod RulesMeanings
pub mod OnceLaws
mod Examples
