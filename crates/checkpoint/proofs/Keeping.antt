-- What is held, by what a node keeps of it.
use Rattle.std.proofs.Common.{◌≡◌, ℕ, ◌+◌, List, [], ◌∷◌, Option, refl, sym, ◌∙◌, ap, subst, arith}
use Rattle.std.specs.Prelude.{IfSome}
use Rattle.disk_model.specs.Story.{Story, seen}
use Rattle.disk_model.specs.Moments.{Only}
use Rattle.disk_model.proofs.Laws.{if_both}
use Rattle.table_rules.specs.Stores.{Store as Rows}
use Rattle.snapshot_bodies.specs.catalog_show_create.catalog_objects.declared.object.Object.{Object}
use Rattle.gate_journal.specs.Journal.{IsAtGate}
use Rattle.store_model.specs.declared.record.Kind.{Kind}
use Rattle.store_model.specs.Held.{LogEnd, Held}
use Rattle.store_model.specs.Snapshots.{snapshot_body}
use Rattle.store_model.specs.Stores.{journal_of}
use Rattle.commit_store.specs.declared.store.Store.{Store}
use Rattle.commit_store.specs.Keeping.{AreDurable, MovesTo, positions}
use Rattle.commit_store.proofs.Standing.{kept_low}
use Rattle.checkpoint_model.specs.Pieces.{snapshot_file, snapshot_framed}
use Rattle.checkpoint_model.specs.Moments.{StandsEither}
use Rattle.snapshot_bodies.specs.store_bodies.Ends.{ends_at}
use Rattle.checkpoint_pieces.specs.Newest.{IsNewest, IsReadAgain, IsToWork}
use Rattle.checkpoint.specs.Checkpoints.{CanCheckpoint, HasSizes, held_kept}
use Rattle.checkpoint_pieces.specs.Working.{WorksOnBoth}
use Rattle.checkpoint_pieces.proofs.Stages.{State, idle}

ends_same : (ends : List LogEnd) → ends_at (positions ends) ≡ ends
ends_same [] = refl
ends_same (e ∷ ends) = ap (λ rest. e ∷ rest) (ends_same ends)

module _ (t : Option Story) (store : Store) (tables : Rows) (objects : List Object) (held : Held) (can : CanCheckpoint t store tables objects held) where
  held_is : held_kept store tables objects ≡ held
  held_is =
      let shows = can.keeps.holds.shows in
      let kept = held_kept store tables objects in
      ap (λ base. record kept { base = base }) (sym can.base)
      ∙ ap (λ n. record kept { base = held.base; number = n }) shows.number
      ∙ ap (λ ends. record kept { base = held.base; number = held.number; ends = ends }) (ap ends_at shows.ends ∙ ends_same held.ends)
      ∙ ap (λ log. record kept { base = held.base; number = held.number; ends = held.ends; place = record { log = log; pos = store.pos } }) shows.log
      ∙ ap (λ pos. record kept { base = held.base; number = held.number; ends = held.ends; place = record { log = held.place.log; pos = pos } }) shows.pos

  pub state : State store.node store.generation held t
  state = record { durable = can.keeps.holds.durable; stands = can.keeps.holds.stands }

  pub to_work : (generation : ℕ) (framed : List ℕ) → generation ≡ store.generation + 1 → framed ≡ snapshot_framed (snapshot_body store.node generation (held_kept store tables objects))
      → HasSizes store.node generation (held_kept store tables objects) → IsToWork t store.node store.generation framed held
  to_work generation framed next same has = let sizes = subst (HasSizes store.node (store.generation + 1)) held_is
      (subst (λ g. HasSizes store.node g (held_kept store tables objects)) next has) in record {
        durable = can.keeps.holds.durable;
        own = can.keeps.holds.own;
        stands = can.keeps.holds.stands;
        is = same ∙ ap (λ g. snapshot_framed (snapshot_body store.node g (held_kept store tables objects))) next
            ∙ ap (λ h. snapshot_framed (snapshot_body store.node (store.generation + 1) h)) held_is;
        fits = sizes.body;
        again = if_both t (HasSizes store.node (store.generation + 1) held → IsReadAgain store.node (store.generation + 1) held)
            (HasSizes store.node (store.generation + 1) held → IsReadAgain store.node (store.generation + 1) held)
            (IsReadAgain store.node (store.generation + 1) held) can.again can.again (λ again again'. again sizes);
      }

  pub moves : (u : Option Story) → IsNewest u store.node (store.generation + 1) held → MovesTo u store (store.generation + 1) held
  moves u newest = record {
    durable = newest.durable;
    stands = newest.stands;
    closed = newest.closed;
    shows = can.keeps.holds.shows;
    own = can.keeps.holds.own;
  }

-- ---- a checkpoint's clauses

-- its two files are durable
pub snapshot_durable : (kind : Kind) (t : Option Story) (next : ℕ) → AreDurable kind t → Only t (snapshot_file next) (seen t (snapshot_file next))
snapshot_durable kind t next durable = durable (snapshot_file next) (kept_low kind (snapshot_file next) (omega arith))

pub journal_durable : (kind : Kind) (t : Option Story) (next : ℕ) → AreDurable kind t → Only t (journal_of next) (seen t (journal_of next))
journal_durable kind t next durable = durable (journal_of next) (kept_low kind (journal_of next) (omega arith))

module _ (store : Store) (tables : Rows) (objects : List Object) (next : ℕ) (next_is : next ≡ store.generation + 1) where
  abbrev pub Works : (t u : Option Story) (held : Held) → Type 0
  Works t u held = WorksOnBoth t u (snapshot_file (store.generation + 1)) (journal_of (store.generation + 1)) (StandsEither store.node store.generation held)

  -- where no disk was called
  pub untouched : (t : Option Story) (held : Held) → CanCheckpoint t store tables objects held → Works t t held
  untouched t held can = idle store.node store.generation held (snapshot_file (store.generation + 1)) (journal_of (store.generation + 1)) refl refl can.keeps.holds.own t
      (state t store tables objects held can)

  pub at_next : (t u : Option Story) (held : Held) → WorksOnBoth t u (snapshot_file next) (journal_of next) (StandsEither store.node store.generation held) → Works t u held
  at_next t u held works = subst (λ n. WorksOnBoth t u (snapshot_file n) (journal_of n) (StandsEither store.node store.generation held)) next_is works

  -- the store goes on where the disk stands at the next generation
  pub goes_on : (t u : Option Story) (held : Held) → CanCheckpoint t store tables objects held → IsNewest u store.node next held → MovesTo u store next held
  goes_on t u held can newest = subst (λ n. MovesTo u store n held) (sym next_is) (moves t store tables objects held can u (subst (λ n. IsNewest u store.node n held) next_is newest))

  -- and that generation's journal has no record
  pub closes : (u : Option Story) (held : Held) → IsNewest u store.node next held → IfSome u (λ _. IsAtGate (seen u (journal_of (store.generation + 1))) 0)
  closes u held newest = subst (λ n. IfSome u (λ _. IsAtGate (seen u (journal_of n)) 0)) next_is newest.closed
