pub mod ChangeNodes
pub mod AssignmentNodes
