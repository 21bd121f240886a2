pub mod BuiltIns
pub mod NestedLaws
