pub mod Following
pub mod Unread
pub mod Whole
