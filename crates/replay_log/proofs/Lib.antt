pub mod Stepping
pub mod Applying
pub mod Keeping
pub mod Groups
pub mod Marking
pub mod Taking
pub mod Endings
pub mod Opening
