pub mod ProgramNodes
pub mod ProgramSteps
