-- What was read of an input that tells its bytes.
use Rattle.std.specs.Prelude.{◌≡◌, ℕ, ◌+◌, ◌≤◌, List, [], drop, Option, option_map, Some, IfOk}
use Rattle.answer_text.specs.declared.status.Status.{Status}
use Rattle.answer_text.specs.declared.status.Status.TheVariants.{BadScript}
use Rattle.script_read.specs.Script.{script_limit, split_of}

-- the bytes that were read of an input, and what is left of it: at most one byte more than a script may have was read; these
-- bytes split as the whole input does, and where that splits all of it was read
pub record IsRead (script all : List ℕ) (left : Option (List ℕ)) : Type 0 where
  pub same : split_of script ≡ split_of all
  pub rest : left ≡ Some (drop (script_limit + 1) all)
  pub end : IfOk (split_of all) (λ commands. left ≡ Some [])

-- the input lost at most one byte more than a script may have
pub record TakesUpToLimit (before now : Option (List ℕ)) : Type 0 where
  pub count : ℕ
  pub within : count ≤ script_limit + 1
  pub rest : now ≡ option_map (drop count) before

-- a script that was refused was read to its end, or to one byte past the greatest length
abbrev pub RestBehindScript : Status → List ℕ → Option (List ℕ) → Type 0
RestBehindScript (BadScript at) script left = left ≡ Some (drop (script_limit + 1) script)
RestBehindScript _ script left = Unit {0}
