-- Items that give their changes one after the other, run as a whole.
use Rattle.std.proofs.Common.{◌≡◌, List, [], ◌∷◌, ◌++◌, Option, Some, None, refl, sym, ◌∙◌, ap}
use Rattle.std.proofs.lemmas.List.{append-nil, append_assoc}
use Rattle.std.specs.Prelude.{unwrap_or}
use Rattle.std.specs.Option.{option_map, option_and_then}
use Rattle.val_types.specs.declared.change.Change.{Change}
use Rattle.table_rules.specs.Tables.{Table}
use Rattle.table_rules.specs.Stored.{all_applied}
use Rattle.name_const_laws.specs.catalog_rules.Bases.{Base}
use Rattle.name_const_laws.specs.log_entries.declared.entries.Entry.{Entry}
use Rattle.name_const_laws.specs.log_entries.declared.entries.Entry.TheVariants.{Transaction, Definition, LogStart}
use Rattle.name_const_laws.specs.log_entries.Entries.{entry_applied, after, with_tables}
use Rattle.name_const_laws.specs.sql_meaning.Scenes.{Scene}
use Rattle.session_model.specs.Machine.{Whole}
use Rattle.session_model.specs.Holding.{changes_of, define, changes_in}
use Rattle.session_replays.specs.Again.{AllGive, EntryGives, EntriesGive}
use Rattle.session_replays.specs.Rerun.{if_done, changes_again, with_changes, entry_again, after_again, RunsAgain}

items_again : (base : Base) (before : List Change) (items : List Whole) → AllGive base before items → changes_again base before items ≡ Some (before ++ changes_in items)
items_again base before [] g = ap Some (sym (append-nil before))
items_again base before (i ∷ is) g =
    ap (if_done (λ (scene : Scene). changes_again base scene.changes is)) g.0.ends
    ∙ (ap (λ (cs : List Change). changes_again base cs is) g.0.changes
    ∙ (items_again base (before ++ changes_of i) is g.1 ∙ ap Some (append_assoc before (changes_of i) (changes_in is))))

-- an entry that can be made
made_again : (e : Entry Whole) (base next : Base) → EntryGives base e → entry_applied changes_of define e base ≡ Some next → entry_again e base ≡ Some next
made_again (Transaction stamp server items) base next g made =
    ap (option_map (with_changes base)) (items_again base [] items g) ∙ by (all_applied (changes_in items) base.tables) made
  where
    by : (o : Option (List Table)) → option_map (with_tables base) o ≡ Some next → Some (with_tables base (unwrap_or o base.tables)) ≡ Some next
    by None q = cc
    by (Some tables) q = q
made_again (Definition stamp server item) base next g made = made
made_again (LogStart stamp server) base next g made = made

-- and then the rest
behind : (e : Entry Whole) (es : List (Entry Whole)) (base last : Base) (made : Option Base) → EntryGives base e → entry_applied changes_of define e base ≡ made
    → ((next : Base) → made ≡ Some next → after changes_of define es next ≡ Some last → after_again es next ≡ Some last)
    → option_and_then (after changes_of define es) made ≡ Some last → after_again (e ∷ es) base ≡ Some last
behind e es base last None g q rest m = cc
behind e es base last (Some next) g q rest m = ap (option_and_then (after_again es)) (made_again e base next g q) ∙ rest next refl m

entries_again : (es : List (Entry Whole)) (base last : Base) → EntriesGive base es → after changes_of define es base ≡ Some last → after_again es base ≡ Some last
entries_again [] base last g made = made
entries_again (e ∷ es) base last g made =
    behind e es base last (entry_applied changes_of define e base) g.0 refl (λ next q m. entries_again es next last (g.1 next q) m) made

pub runs_again : RunsAgain
runs_again from m r = entries_again m.history from.base m.state.shared.base r.history r.holds.entries
