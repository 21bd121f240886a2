-- Items that are not warned follow, and under MIXED and ROW none is warned.
use Rattle.std.proofs.Common.{◌≡◌, inl, inr, Bool, true, false, List, [], ◌∷◌, refl, ◌∙◌, ap}
use Rattle.std.specs.Prelude.{◌&&◌, not}
use Rattle.name_const_laws.specs.log_entries.declared.entries.Entry.TheVariants.{Transaction, Definition, LogStart}
use Rattle.name_const_laws.specs.sql_reach.Reasons.{Reason}
use Rattle.independence_laws.specs.Laws.{SafeIsFollowed, RandIsFollowed}
use Rattle.session_model.specs.Formats.{is_unsafe}
use Rattle.session_model.specs.Machine.{Whole}
use Rattle.session_model.specs.Holding.{AreIn, is_warned, reasons_of}
use Rattle.session_model.specs.declared.format.Format.TheVariants.{Mixed, Row}
use Rattle.session_replays.specs.Followed.{IsFollowed, AllFollow, IsUnwarned, AreUnwarned, UnwarnedFollow, MixedIsUnwarned, RowsAreUnwarned}

-- ---- what is not warned follows

module _ (safe : SafeIsFollowed) (rand : RandIsFollowed) where
  item_follows : (i : Whole) → IsUnwarned i → IsFollowed i
  item_follows i (inr e) = inr (rand i.began.catalog i.began.tree e)
  item_follows i (inl e) = by i.kept.rows (reasons_of i) refl refl e
    where
      by : (rows : Bool) (rs : List Reason) → i.kept.rows ≡ rows → reasons_of i ≡ rs → (not rows && is_unsafe rs) ≡ false → IsFollowed i
      by true rs p q x = inl p
      by false [] p q x = inr (safe i.began.catalog i.began.tree q)
      by false (r ∷ rs) p q x = cc

  items_follow : (is : List Whole) → AreUnwarned is → AllFollow is
  items_follow [] u = tt
  items_follow (i ∷ is) u = (item_follows i u.0, items_follow is u.1)

  pub unwarned_follow : UnwarnedFollow
  unwarned_follow [] u = tt
  unwarned_follow (Transaction stamp server items ∷ es) u = (items_follow items u.0, unwarned_follow es u.1)
  unwarned_follow (Definition stamp server i ∷ es) u = unwarned_follow es u
  unwarned_follow (LogStart stamp server ∷ es) u = unwarned_follow es u

-- ---- under MIXED and ROW nothing is warned

not_both : (b : Bool) → (not b && b) ≡ false
not_both true = refl
not_both false = refl

warned_by : (i : Whole) (rows : Bool) → i.kept.rows ≡ rows → is_warned i ≡ (not rows && is_unsafe (reasons_of i))
warned_by i rows e = ap (λ (b : Bool). not b && is_unsafe (reasons_of i)) e

mixed_items : (is : List Whole) → AreIn Mixed is → AreUnwarned is
mixed_items [] f = tt
mixed_items (i ∷ is) f = (inl (warned_by i (is_unsafe (reasons_of i)) f.0 ∙ not_both (is_unsafe (reasons_of i))), mixed_items is f.1)

pub mixed_is_unwarned : MixedIsUnwarned
mixed_is_unwarned [] f = tt
mixed_is_unwarned (Transaction stamp server items ∷ es) f = (mixed_items items f.0, mixed_is_unwarned es f.1)
mixed_is_unwarned (Definition stamp server i ∷ es) f = mixed_is_unwarned es f
mixed_is_unwarned (LogStart stamp server ∷ es) f = mixed_is_unwarned es f

row_items : (is : List Whole) → AreIn Row is → AreUnwarned is
row_items [] f = tt
row_items (i ∷ is) f = (inl (warned_by i true f.0), row_items is f.1)

pub rows_are_unwarned : RowsAreUnwarned
rows_are_unwarned [] f = tt
rows_are_unwarned (Transaction stamp server items ∷ es) f = (row_items items f.0, rows_are_unwarned es f.1)
rows_are_unwarned (Definition stamp server i ∷ es) f = rows_are_unwarned es f
rows_are_unwarned (LogStart stamp server ∷ es) f = rows_are_unwarned es f
