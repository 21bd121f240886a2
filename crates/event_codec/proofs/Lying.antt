-- An event lies within its bytes.
use Rattle.std.proofs.Common.{◌≡◌, ℕ, arith, Bool, true, false, leb, ltb, eqb, List, length, Result, Ok, Err, refl}
use Rattle.std.specs.Prelude.{◌&&◌, ◌+◌, not, if◌then◌else◌, slice_index, slice_range}
use Rattle.std.proofs.lemmas.Bool.{leb-true, ltb-false, eqb-true}
use Rattle.byte_fields.specs.Field.{number_at}
use Rattle.event_codec.specs.declared.fault.Fault.{Fault}
use Rattle.event_codec.specs.declared.fault.Fault.TheVariants.{Damaged, Foreign}
use Rattle.event_codec.specs.Event.{Body}
use Rattle.event_codec.specs.Reading.{reading, Within, Stop, short, damaged, none, read_as, headed, body_at}

within_by : (bytes : List ℕ) (stamp size next pos kind : ℕ) (a e f h d : Bool) (r : Result Body Fault) (x y z : Stop) → leb 19 size ≡ e → eqb next (pos + size) ≡ f → leb next 1200000000 ≡ h
    → ltb (length bytes) size ≡ d
    → Within bytes pos (if a then none x else if not ((e && f) && h) then none y else if d then none z else read_as pos kind (headed stamp size r))
within_by bytes stamp size next pos kind true e f h d r x y z t v w u = tt
within_by bytes stamp size next pos kind false false f h d r x y z t v w u = tt
within_by bytes stamp size next pos kind false true false h d r x y z t v w u = tt
within_by bytes stamp size next pos kind false true true false d r x y z t v w u = tt
within_by bytes stamp size next pos kind false true true true true r x y z t v w u = tt
within_by bytes stamp size next pos kind false true true true false (Ok b) x y z t v w u =
    let same = eqb-true next (pos + size) v in
    let low = leb-true next 1200000000 w in
    (leb-true _ _ t, ltb-false _ _ u, omega arith)
within_by bytes stamp size next pos kind false true true true false (Err Damaged) x y z t v w u = tt
within_by bytes stamp size next pos kind false true true true false (Err Foreign) x y z t v w u = tt

pub lies_within : (bytes : List ℕ) (pos : ℕ) → Within bytes pos (reading bytes pos)
unfolding reading
lies_within bytes pos =
    within_by bytes (number_at 0 4 bytes) (number_at 9 4 bytes) (number_at 13 4 bytes) pos (slice_index bytes 4) (ltb (length bytes) 19) _ _ _ _
    (body_at (slice_index bytes 4) (slice_range bytes 19 (number_at 9 4 bytes))) (short 19) (damaged pos) (short (number_at 9 4 bytes)) refl refl refl refl
