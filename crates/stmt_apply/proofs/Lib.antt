pub mod Bounded
pub mod Defined
pub mod Following
pub mod Going
pub mod Leading
pub mod Ran
pub mod Staying
