-- Open changes set aside, and put back behind what a statement did meanwhile.
use Rattle.std.proofs.Common.{◌≡◌, ℕ, true, List, Some, refl, sym, ap, subst, ◌∙◌}
use Rattle.val_types.specs.declared.change.Change.{Change}
use Rattle.auto_inc.specs.declared.counters.Counter.{Counter}
use Rattle.auto_inc.specs.Counting.{tables_of}
use Rattle.table_rules.specs.Tables.{Table}
use Rattle.table_rules.specs.Stores.{Store, keeps, KeepsAll, AreNoLess, Still}
use Rattle.table_rules.specs.Leads.{Leads}
use Rattle.table_rules.proofs.Leading.{no_change_leads}
use Rattle.row_store.specs.Asides.{FitsIn, with_aside}
use Rattle.row_store.specs.Asides as store
use Rattle.row_store.proofs.Asides.{asides_return_so}
use Rattle.catalog.specs.catalog_objects.declared.object.Object.{Object}
use Rattle.exec_state.specs.declared.stage.Stage.{Stage}
use Rattle.prog_work.specs.declared.aside.OpenChanges.{OpenChanges}
use Rattle.prog_work.specs.Contents.{Contents, as_committed, contents_of, without_changes}
use Rattle.prog_work.specs.Asides.{are_back, AreOpen, FitBack, just_committed}
use Rattle.prog_work.specs.Together.{AreTogether}
use Rattle.prog_work.proofs.Holding.{committed_is}
use Rattle.prog_work.proofs.Carried.{together_counted, together_led}

-- more or less room keeps the same keys
keeps_whatever_room : (s : Store) (room : List ℕ) → KeepsAll s (record s { room = room })
unfolding keeps
keeps_whatever_room s room name row h = h

-- what a statement works on, with the open changes set aside
pub contents_aside : (objects : List Object) (stage : Stage) → AreTogether objects stage.tables stage.undo stage.counters
    → contents_of objects (just_committed stage) ≡ as_committed (contents_of objects stage)
contents_aside objects stage h =
    ap (λ (ts : List Table). record (contents_of objects (just_committed stage)) { tables = ts }) (sym (committed_is objects stage.tables stage.undo stage.counters h))

-- a stage with its open changes set aside led on to another, where they are put back
module _ (aside : OpenChanges) (before read left : Stage) (set : AreOpen aside before) (shown : read.tables ≡ store.just_committed before.tables)
    (still : Still read.tables left.tables) where
  still_there : Still before.tables left.tables
  still_there = record {
    committed = still.committed ∙ ap (λ (s : Store). s.committed) shown;
    room = subst (λ (s : Store). AreNoLess s.room left.tables.room) shown still.room;
  }

  returned : FitsIn aside.rows left.tables × (with_aside aside.rows left.tables ≡ record (before.tables) { room = left.tables.room })
  returned = asides_return_so aside.rows before.tables left.tables set.rows still_there

  pub fit_back : FitBack aside left
  fit_back = returned.0

  -- the same is shown, and can be taken back
  pub contents_back : (objects : List Object) → contents_of objects (are_back aside left) ≡ record (contents_of objects before) { counters = left.counters }
  contents_back objects = λ i. record { objects = objects; tables = (returned.1 i).tables; changes = set.undo i; counters = left.counters }

  leads_back : Leads before.tables before.undo (with_aside aside.rows left.tables) aside.undo
  leads_back =
      subst (λ (s : Store). Leads before.tables before.undo s aside.undo) (sym returned.1)
      (subst (λ (changes : List Change). Leads before.tables before.undo (record (before.tables) { room = left.tables.room }) changes) (sym set.undo)
      (no_change_leads before.tables (record (before.tables) { room = left.tables.room }) before.undo refl (keeps_whatever_room before.tables left.tables.room)
      (record { committed = refl; room = still_there.room })))

  pub together_back_again : (objects : List Object) → AreTogether objects before.tables before.undo before.counters → tables_of left.counters ≡ tables_of before.counters
      → AreTogether objects (with_aside aside.rows left.tables) aside.undo left.counters
  together_back_again objects h same =
      let back = together_led objects before.tables (with_aside aside.rows left.tables) before.undo aside.undo before.counters h leads_back in
      together_counted objects (with_aside aside.rows left.tables) aside.undo before.counters left.counters back same
