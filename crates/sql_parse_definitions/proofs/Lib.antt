pub mod NameSets
pub mod TableSteps
pub mod TraitSteps
