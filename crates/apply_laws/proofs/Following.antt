-- The entries of a run can be carried out as their source did.
use Rattle.std.proofs.Common.{◌≡◌, true, false, List, [], ◌∷◌, ◌++◌, inl, inr, true≢false, sym, ◌∙◌}
use Rattle.val_types.specs.declared.change.Change.{Change}
use Rattle.statement_names.specs.catalog_rules.Bases.{Base}
use Rattle.session_replays.specs.independence_laws.Followed.{is_followed}
use Rattle.log_entry_laws.specs.log_entries.declared.entries.Entry.TheVariants.{Transaction, Definition, LogStart}
use Rattle.session_replays.specs.session_model.Machine.{Whole}
use Rattle.session_replays.specs.session_model.Holding.{changes_of}
use Rattle.session_replays.specs.Again.{Gives, AllGive}
use Rattle.session_replays.specs.Followed.{IsFollowed, AllFollow}
use Rattle.session_replays.specs.Texts.{SaysItself, AllSay}
use Rattle.apply_laws.specs.Following.{ItemCanFollow, AllCanFollow, EntriesOfRunsFollow}

-- what is not logged by its rows follows by its text
text_follows : (i : Whole) → IsFollowed i → i.kept.rows ≡ false → is_followed i.began.catalog i.began.tree ≡ true
text_follows i (inl by-rows) by-text = absurd (true≢false (sym by-rows ∙ by-text))
text_follows i (inr f) by-text = f

item_follows : (base : Base) (before : List Change) (i : Whole) → Gives base before i → SaysItself i → IsFollowed i → ItemCanFollow base before i
item_follows base before i gives says follows = record {
  catalog = gives.catalog;
  text = λ by-text. record { says = says; gives = gives; follows = text_follows i follows by-text };
}

items_follow : (base : Base) (before : List Change) (is : List Whole) → AllGive base before is → AllSay is → AllFollow is → AllCanFollow base before is
items_follow base before [] give say follow = tt
items_follow base before (i ∷ is) give say follow =
    (item_follows base before i give.0 say.0 follow.0, items_follow base (before ++ changes_of i) is give.1 say.1 follow.1)

pub entries_of_runs_follow : EntriesOfRunsFollow
entries_of_runs_follow base (Transaction stamp server items) give say follow = items_follow base [] items give say.0 follow.0
entries_of_runs_follow base (Definition stamp server i) give say follow = tt
entries_of_runs_follow base (LogStart stamp server) give say follow = tt
