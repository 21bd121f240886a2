pub mod Sets
pub mod Reader
pub mod Grammar
pub mod Rule
pub mod Whole
pub mod Sums
