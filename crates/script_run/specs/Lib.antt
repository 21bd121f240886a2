pub mod Asking
pub mod Beginning
pub mod Disks
pub mod Faults
pub mod Generations
pub mod Logged
pub mod Marks
pub mod Opening
pub mod Ran
pub mod Running
pub mod Survives
pub mod Together
-- the crates below that this one speaks of, passed on
pub use Rattle.run_stores.specs as run_stores
pub use Rattle.run_streams.specs as run_streams
