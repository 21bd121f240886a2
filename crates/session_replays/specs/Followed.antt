-- Which committed items do the same at every replica.
use Rattle.std.specs.Prelude.{◌≡◌, ◌⊎◌, true, false, List, [], ◌∷◌}
use Rattle.name_const_laws.specs.log_entries.declared.entries.Entry.{Entry}
use Rattle.name_const_laws.specs.log_entries.declared.entries.Entry.TheVariants.{Transaction, Definition, LogStart}
use Rattle.independence_laws.specs.Followed.{is_followed, is_unsafe_by_rand_alone}
use Rattle.session_model.specs.Machine.{Whole}
use Rattle.session_model.specs.Holding.{EntriesIn, is_warned}
use Rattle.session_model.specs.declared.format.Format.TheVariants.{Mixed, Row}

-- ---- items that follow

-- An item that does the same at every replica: it is logged by its rows, or what its statement does follows from its tables and from
-- what it carries.
abbrev pub IsFollowed : Whole → Type 0
IsFollowed i = (i.kept.rows ≡ true) ⊎ (is_followed i.began.catalog i.began.tree ≡ true)

abbrev pub AllFollow : List Whole → Type 0
AllFollow [] = Unit {0}
AllFollow (i ∷ is) = IsFollowed i × AllFollow is

-- entries whose transactions have such items
abbrev pub EntriesFollow : List (Entry Whole) → Type 0
EntriesFollow [] = Unit {0}
EntriesFollow (Transaction stamp server items ∷ es) = AllFollow items × EntriesFollow es
EntriesFollow (Definition stamp server i ∷ es) = EntriesFollow es
EntriesFollow (LogStart stamp server ∷ es) = EntriesFollow es

-- ---- items that are not warned

-- An item that is not warned, or whose reasons all come from RAND() alone, since its seeds are carried.
abbrev pub IsUnwarned : Whole → Type 0
IsUnwarned i = (is_warned i ≡ false) ⊎ (is_unsafe_by_rand_alone i.began.catalog i.began.tree ≡ true)

abbrev pub AreUnwarned : List Whole → Type 0
AreUnwarned [] = Unit {0}
AreUnwarned (i ∷ is) = IsUnwarned i × AreUnwarned is

abbrev pub EntriesUnwarned : List (Entry Whole) → Type 0
EntriesUnwarned [] = Unit {0}
EntriesUnwarned (Transaction stamp server items ∷ es) = AreUnwarned items × EntriesUnwarned es
EntriesUnwarned (Definition stamp server i ∷ es) = EntriesUnwarned es
EntriesUnwarned (LogStart stamp server ∷ es) = EntriesUnwarned es

-- ---- laws

-- what is not warned follows
abbrev pub UnwarnedFollow : Type 0
UnwarnedFollow = (es : List (Entry Whole)) → EntriesUnwarned es → EntriesFollow es

-- and under MIXED and ROW nothing is warned
abbrev pub MixedIsUnwarned : Type 0
MixedIsUnwarned = (es : List (Entry Whole)) → EntriesIn Mixed es → EntriesUnwarned es

abbrev pub RowsAreUnwarned : Type 0
RowsAreUnwarned = (es : List (Entry Whole)) → EntriesIn Row es → EntriesUnwarned es
