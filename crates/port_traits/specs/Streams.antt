-- What a read takes from a stream of bytes, and what a write adds to one.
use Rattle.std.specs.Prelude.{◌≡◌, ℕ, ◌<◌, ◌≤◌, zero, suc, Bool, true, false, ◌||◌, nat_lt, if◌then◌else◌, List, ◌++◌, length, take, drop, Option, Result, Ok, Err, MatchResult, IfSome, option_map}
use Rattle.fault_counts.specs.Causes.{one_more}

-- `count` bytes went from the front of what was left into the front of the buffer; what is said of
-- the bytes holds where the stream tells what it has left
pub record Took (before after : Option (List ℕ)) (count : ℕ) (buffer : List ℕ) : Type 0 where
  pub fits : count ≤ length buffer
  pub within : IfSome before (λ left. count ≤ length left)
  pub bytes : IfSome before (λ left. take count buffer ≡ take count left)
  pub rest : after ≡ option_map (λ left. drop count left) before
  -- none is taken only where there is no room or nothing left
  pub some : IfSome before (λ left. 0 < length buffer → 0 < length left → 0 < count)

-- a read takes bytes from the front at Ok, and nothing at Err
abbrev pub Takes : {E : Type 0} → Option (List ℕ) → Option (List ℕ) → Result ℕ E → List ℕ → Type 0
Takes before after result buffer = MatchResult result (λ count. Took before after count buffer) (λ _. after ≡ before)

-- the first `count` bytes of the piece stand at the end of what was written, where that is told
pub record Put (before after : Option (List ℕ)) (count : ℕ) (piece : List ℕ) : Type 0 where
  pub fits : count ≤ length piece
  pub bytes : after ≡ option_map (λ written. written ++ take count piece) before

-- a write adds the front of the piece at Ok, and nothing at Err
abbrev pub Puts : {E : Type 0} → Option (List ℕ) → Option (List ℕ) → Result ℕ E → List ℕ → Type 0
Puts before after result piece = MatchResult result (λ count. Put before after count piece) (λ _. after ≡ before)

-- ---- the end of a stream, and the calls from there on

-- whether a call on these bytes is the end of its stream: it failed, or there was room and it took none
abbrev pub is_end : {E : Type 0} → Result ℕ E → List ℕ → Bool
is_end (Ok zero) bytes = nat_lt 0 (length bytes)
is_end (Ok (suc n)) bytes = false
is_end (Err e) bytes = true

-- how many calls there were from the first one on that was the end, after one call more: 0 while none was
abbrev pub ended_after : ℕ → Bool → ℕ
ended_after ended end = if end || nat_lt 0 ended then one_more ended else 0
