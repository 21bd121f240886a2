-- Where nothing was kept, nothing is owed.
use Rattle.std.proofs.Common.{◌≡◌, ℕ, Bool, true, false, cond, eqb, List, [], drop, refl}
use Rattle.store_model.specs.Held.{nothing_held}
use Rattle.durable_runs.specs.Behind.{Behind, nothing_stored}

either_nothing : (b : Bool) (bytes : List ℕ) → bytes ≡ [] → cond b (drop 0 bytes) bytes ≡ []
either_nothing true bytes is = is
either_nothing false bytes is = is

pub nothing_is_owed : Behind nothing_stored nothing_held []
nothing_is_owed = record {
  made = tt;
  base = refl;
  number = refl;
  place = refl;
  begins = tt;
  ends = refl;
  logs = λ n le. either_nothing (eqb n 0) [] refl;
}
