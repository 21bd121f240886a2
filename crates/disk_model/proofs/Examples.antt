-- The stories by hand are of bytes.
use Rattle.std.proofs.Common.{Bool, true, false, ◌==◌, cond, [], ◌∷◌, refl}
use Rattle.hex.specs.Hex.{IsBytes}
use Rattle.disk_model.specs.Left.{AreBytes}
use Rattle.disk_model.specs.Worked.{six_bytes, two_writes, one_synced, cut_and_grown}
use Rattle.disk_model.proofs.ByHand.{bytes_by_test, all_below}

six : (b : Bool) → IsBytes (cond b (10 ∷ 11 ∷ 12 ∷ 13 ∷ 14 ∷ 15 ∷ []) [])
unfolding all_below
six true = bytes_by_test (10 ∷ 11 ∷ 12 ∷ 13 ∷ 14 ∷ 15 ∷ []) refl
six false = bytes_by_test [] refl

pub two_bytes : AreBytes six_bytes two_writes
unfolding all_below
two_bytes = (bytes_by_test (33 ∷ 34 ∷ []) refl, (bytes_by_test (21 ∷ 22 ∷ 23 ∷ []) refl, λ f. six (f == 8)))

pub synced_bytes : AreBytes six_bytes one_synced
unfolding all_below
synced_bytes = (bytes_by_test (33 ∷ 34 ∷ []) refl, (bytes_by_test [] refl, (bytes_by_test (21 ∷ 22 ∷ 23 ∷ []) refl, λ f. six (f == 8))))

pub cut_bytes : AreBytes six_bytes cut_and_grown
unfolding all_below
cut_bytes = (bytes_by_test (40 ∷ []) refl, (bytes_by_test [] refl, λ f. six (f == 8)))
