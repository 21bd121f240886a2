pub mod Checkpoints
-- the crates below that this one speaks of, passed on
pub use Rattle.commit_store.specs as commit_store
pub use Rattle.checkpoint_pieces.specs as checkpoint_pieces
