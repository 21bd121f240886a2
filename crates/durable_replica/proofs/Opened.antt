-- A replica opens on what its disk has.
use Rattle.std.proofs.Common.{◌≡◌, ℕ, List, [], length, Option, Some, None, Result, Ok, Err, sym, ◌∙◌, ap, subst}
use Rattle.std.specs.Prelude.{IfSome}
use Rattle.disk_model.specs.Story.{Story, seen}
use Rattle.disk_model.proofs.Laws.{if_both}
use Rattle.commit_store.specs.Keeping.{HasEnds}
use Rattle.prog_work.specs.Contents.{base_of}
use Rattle.replica_node.specs.replica_model.Replica.{Replica as Model, reopened, replica_from}
use Rattle.replica_node.specs.Kept.{held_of}
use Rattle.store_model.specs.Held.{Held, LogEnd}
use Rattle.store_model.specs.Stores.{first_log, held_by}
use Rattle.store_model.specs.declared.record.Kind.{Kind}
use Rattle.store_model.specs.declared.record.Kind.TheVariants.{Replica}
use Rattle.store_checkpoints.specs.store_replica.store_open.declared.opening.Opened.{Opened}
use Rattle.store_checkpoints.specs.store_replica.store_open.Opened.{held_with}
use Rattle.store_checkpoints.specs.store_replica.Opening.{IsReady}
use Rattle.store_checkpoints.specs.store_replica.Writing.{IsOn, OpensOn}

pub if_map : (t : Option Story) (X Y : Type 0) → IfSome t (λ _. X) → (X → Y) → IfSome t (λ _. Y)
if_map None X Y told f = tt
if_map (Some s) X Y told f = f told

pub first_of : (t : Option Story) (X Y : Type 0) → IfSome t (λ _. X × Y) → IfSome t (λ _. X)
first_of None X Y told = tt
first_of (Some s) X Y told = told.0

same_ok : {A E : Type 0} (x y : A) (r : Result A E) → r ≡ Ok x → r ≡ Ok y → x ≡ y
same_ok {A} {E} x y r e f = ap (λ (q : Result A E). elim q [ Ok a ↦ a | Err error ↦ x ]) (sym e ∙ f)

-- the replica that is founded on what was opened
abbrev pub founded : Opened → (number log pos : ℕ) → Model
founded o number log pos = record { base = base_of o.work; counters = o.work.counters; number = number; place = record { log = log; pos = pos }; relay = [] }

module _ (t u : Option Story) (o : Opened) (ready : IsReady t u o) (number log pos : ℕ) (number_is : number ≡ o.store.number) (log_is : log ≡ o.store.log) (pos_is : pos ≡ o.store.pos)
    (r : Model) (is : r ≡ founded o number log pos) where
  there : r ≡ founded o o.store.number o.store.log o.store.pos
  there =
      is ∙ ap (λ (n : ℕ). founded o n log pos) number_is ∙ ap (λ (l : ℕ). founded o o.store.number l pos) log_is
      ∙ ap (λ (p : ℕ). founded o o.store.number o.store.log p) pos_is

  -- a replica has no logs of its own
  none : (held_with o.work o.store).ends ≡ []
  none = subst (λ (kind : Kind). HasEnds kind (held_with o.work o.store).ends) ready.on.node ready.on.keeps.holds.own

  held_is : held_with o.work o.store ≡ held_of r
  held_is =
      ap (λ (ends : List LogEnd). record (held_with o.work o.store) { ends = ends }) none ∙ sym (ap held_of there)

  pub opened_on : IsOn u o.store (held_of r)
  opened_on = subst (λ (h : Held). IsOn u o.store h) held_is ready.on

  pub opened_empty : IfSome u (λ _. length (seen u first_log) ≡ 0)
  opened_empty = if_map u (seen u first_log ≡ []) (length (seen u first_log) ≡ 0) ready.relay (ap length)

  pub opened_again : r ≡ reopened r
  opened_again =
      there ∙ ap (λ cs. record (founded o o.store.number o.store.log o.store.pos) { counters = cs }) ready.counters ∙ sym (ap reopened there)

  pub opened_held : IfSome t (λ _. held_by Replica (seen t) ≡ Ok (held_of r))
  opened_held =
      if_map t (held_by Replica (seen t) ≡ Ok (held_with o.work o.store)) (held_by Replica (seen t) ≡ Ok (held_of r)) ready.told (λ e. e ∙ ap (λ (h : Held). Ok h) held_is)

  pub opened_from : (held : Held) → OpensOn t held → IfSome t (λ _. (r ≡ replica_from held.base held.number held.place) × (held_of r ≡ held))
  opened_from held opens =
      if_both t (held_by Replica (seen t) ≡ Ok (held_of r)) (held_by Replica (seen t) ≡ Ok held) ((r ≡ replica_from held.base held.number held.place) × (held_of r ≡ held)) opened_held opens
      (λ e f.
      let same : held_of r ≡ held = same_ok (held_of r) held (held_by Replica (seen t)) e f in
      (opened_again ∙ ap (λ (h : Held). replica_from h.base h.number h.place) same, same))
