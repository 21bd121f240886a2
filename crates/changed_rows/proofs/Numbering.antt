-- The AUTO_INCREMENT value of a row, one step at a time.
use Rattle.std.proofs.Common.{◌≡◌, ℕ, Bool, true, Some, None, ℤ, refl}
use Rattle.std.specs.Prelude.{is_some}
use Rattle.std.specs.Option.{option_map}
use Rattle.auto_inc.specs.Generating.{Sequence, next_value}
use Rattle.sql_evaluation.specs.sql_meaning.Frames.{World}
use Rattle.sql_evaluation.specs.sql_meaning.Changing.{generated_next}

-- ---- the next value

pub unforced_next : (w : World) (top : ℤ) (counter : ℕ) (s : Sequence) → generated_next w None top counter s ≡ next_value counter w.setting.context.increment w.setting.context.offset top s
unforced_next w top counter s = refl

pub later_next : (w : World) (forced top : ℤ) (counter : ℕ) (s : Sequence) (b : Bool) → b ≡ is_some (option_map (λ (g : ℤ × ℕ). g.0) s) → b ≡ true
    → generated_next w (Some forced) top counter s ≡ next_value counter w.setting.context.increment w.setting.context.offset top s
later_next w forced top counter None b is e = cc
later_next w forced top counter (Some g) b is e = refl

pub ruleset generating = (unforced_next, later_next)
