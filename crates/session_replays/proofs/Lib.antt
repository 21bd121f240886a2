mod Calling
mod Closing
mod Defining
mod Evaluating
mod Following
mod Giving
mod Keeping
mod Locals
mod Locking
mod Rerunning
mod Saying
mod SayingCalls
mod SayingTurns
mod Sizing
mod Spending
mod Staying
mod Stepping
mod Turning
-- the crates below that this one speaks of, passed on
pub use Rattle.session_model.proofs.of_proc_model as of_proc_model
