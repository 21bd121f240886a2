pub mod Answering
pub mod Nested
pub mod Performed
pub mod Stepping
-- the crates below that this one speaks of, passed on
pub use Rattle.proc_parts.proofs.of_proc_model as of_proc_model
