pub mod Asking
pub mod Beginning
pub mod Checkpointing
pub mod Disks
pub mod Drawing
pub mod Generations
pub mod Logged
pub mod Marks
pub mod Opened
pub mod Recovering
pub mod Running
pub mod Scripts
pub mod Serving
pub mod Spoken
pub mod Surviving
-- the crate below that it speaks of, passed on
pub use Rattle.run_stores.proofs as of_run_stores
