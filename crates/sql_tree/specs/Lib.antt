pub mod Tree
pub mod BuiltIns
pub mod Statement
pub mod View
pub mod StatementView
pub mod Depth
pub mod Well
pub mod Worked
