-- Small logs, of which worked examples are made.
use Rattle.std.specs.Prelude.{ℕ, List, [], ◌∷◌, ◌++◌, flat_map, replicate}
use Rattle.log_group_laws.specs.log_model.Log.{head, rotation}
use Rattle.log_group_laws.specs.log_model.Worked.{first_log}
use Rattle.log_group_laws.specs.log_model.Written.{bytes_of}

-- lines, each with its end
abbrev pub lines_shown : List (List ℕ) → List ℕ
lines_shown lines = flat_map (λ line. line ++ 0x0a ∷ []) lines

-- a log that ends with the name of the next one
unfoldable pub rotated : List ℕ
rotated = head 1700000000 1 ++ bytes_of 1 123 (rotation 1700000003 2)

-- an event of 61 bytes behind position 336, of type 34
abbrev pub unknown_event : List ℕ
unknown_event = 0 ∷ 0 ∷ 0 ∷ 0 ∷ 34 ∷ 1 ∷ 0 ∷ 0 ∷ 0 ∷ 61 ∷ 0 ∷ 0 ∷ 0 ∷ 0x8d ∷ 0x01 ∷ 0 ∷ 0 ∷ 0 ∷ 0 ∷ replicate 42 0

-- behind a log whose transaction is whole
unfoldable pub with_unknown : List ℕ
with_unknown = first_log ++ unknown_event
