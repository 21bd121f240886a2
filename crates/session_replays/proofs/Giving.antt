-- Items and entries that give their changes, put together and cut.
use Rattle.std.proofs.Common.{◌≡◌, ℕ, zero, suc, List, [], ◌∷◌, ◌++◌, take, Option, Some, sym, ◌∙◌, ap, subst}
use Rattle.std.proofs.lemmas.List.{append-nil, append_assoc}
use Rattle.std.specs.Option.{option_and_then}
use Rattle.val_types.specs.declared.change.Change.{Change}
use Rattle.name_const_laws.specs.catalog_rules.Bases.{Base}
use Rattle.name_const_laws.specs.log_entries.declared.entries.Entry.{Entry}
use Rattle.name_const_laws.specs.log_entries.declared.entries.Entry.TheVariants.{Definition}
use Rattle.name_const_laws.specs.log_entries.Entries.{after}
use Rattle.session_model.specs.Machine.{Whole}
use Rattle.session_model.specs.Holding.{changes_of, define, changes_in}
use Rattle.session_replays.specs.Again.{Gives, AllGive, EntriesGive}

-- the first items of some
pub all_front : (k : ℕ) (base : Base) (before : List Change) (items : List Whole) → AllGive base before items → AllGive base before (take k items)
all_front zero base before items g = tt
all_front (suc k) base before [] g = tt
all_front (suc k) base before (i ∷ is) g = (g.0, all_front k base (before ++ changes_of i) is g.1)

-- one item more behind the others
pub all_behind : (base : Base) (before : List Change) (items : List Whole) (item : Whole) → AllGive base before items → Gives base (before ++ changes_in items) item
    → AllGive base before (items ++ item ∷ [])
all_behind base before [] item g one = (subst (λ (cs : List Change). Gives base cs item) (append-nil before) one, tt)
all_behind base before (i ∷ is) item g one =
    (g.0, all_behind base (before ++ changes_of i) is item g.1 (subst (λ (cs : List Change). Gives base cs item) (sym (append_assoc before (changes_of i) (changes_in is))) one))

-- none behind no item
pub none_give : (base : Base) (items : List Whole) → items ≡ [] → AllGive base [] items
none_give base [] e = tt
none_give base (i ∷ is) e = cc

-- a definition behind other entries
pub define_behind : (base : Base) (es : List (Entry Whole)) (stamp server : ℕ) (item : Whole) → EntriesGive base es → EntriesGive base (es ++ Definition stamp server item ∷ [])
define_behind base [] stamp server item g = (tt, λ next q. tt)
define_behind base (e ∷ es) stamp server item g = (g.0, λ next q. define_behind next es stamp server item (g.1 next q))

-- entries behind others, on the base that those made
pub entries_behind : (front back : List (Entry Whole)) (base last : Base) → EntriesGive base front → after changes_of define front base ≡ Some last → EntriesGive last back
    → EntriesGive base (front ++ back)
entries_behind [] back base last g made more = subst (λ (b : Base). EntriesGive b back) (same (sym made)) more
  where
    same : {b c : Base} → Some b ≡ Some c → b ≡ c
    same p = cc
entries_behind (e ∷ es) back base last g made more = (
  g.0,
  λ next q. entries_behind es back next last (g.1 next q) (sym (ap (λ (o : Option Base). option_and_then (after changes_of define es) o) q) ∙ made) more,
)
