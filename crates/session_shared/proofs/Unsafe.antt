-- How statements are logged, by their reasons.
use Rattle.std.proofs.Common.{◌≡◌, List, [], ◌∷◌, not, false, refl}
use Rattle.session_model.specs.sql_reach.Reasons.{Reason}
use Rattle.waiting_entries.specs.binlog_items.unsafe_rules.Unsafe.{is_nothing}
use Rattle.session_model.specs.Formats.{is_unsafe, warns}
use Rattle.session_model.specs.declared.format.Format.TheVariants.{Mixed}

-- a reason is there where there is not none
pub unsafe_by : (rs : List Reason) → not (is_nothing rs) ≡ is_unsafe rs
unsafe_by [] = refl
unsafe_by (r ∷ rs) = refl

-- nothing that is logged by its rows where that is safer is warned
pub mixed_warns : (rs : List Reason) → false ≡ warns Mixed rs
mixed_warns [] = refl
mixed_warns (r ∷ rs) = refl

pub ruleset by_reasons = (unsafe_by, mixed_warns)
