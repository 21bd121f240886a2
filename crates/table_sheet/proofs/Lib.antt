pub mod Above
pub mod Agreeing
pub mod Apart
pub mod Below
pub mod Copies
pub mod Costing
pub mod Counted
pub mod Entering
pub mod Exchanged
pub mod Firsts
pub mod Fronts
pub mod Hiding
pub mod Keeping
pub mod Lasting
pub mod Looking
pub mod Moving
pub mod OnKey
pub mod OnValues
pub mod Passing
pub mod Ranging
pub mod Refusing
pub mod Settled
pub mod Shown
pub mod Slotted
pub mod Steps
pub mod Turning
-- the crate below that this one speaks of, passed on
pub use Rattle.row_index.proofs.of_row_sheets as of_row_sheets
