use Rattle.std.proofs.Common.{◌≡◌, drop, length}
use Rattle.val_types.specs.Fitting.{row_fits}
use Rattle.val_types.proofs.fitting.row_fits.Given as goal

-- the values so far may stand where they do, so the rest decides
abbrev pub invariant-loop-i : goal.invariant-loop-i
invariant-loop-i l = record {
  long : length l.columns ≡ length l.row;
  rest : row_fits (drop l.i l.columns) (drop l.i l.row) ≡ row_fits l.columns l.row;
}
