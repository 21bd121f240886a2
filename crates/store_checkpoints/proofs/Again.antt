-- What is held is read again from a snapshot of the next generation.
use Rattle.std.proofs.Common.{◌≡◌, ◌<◌, ◌^◌, ◌⊎◌, inl, inr, ℕ, ◌+◌, ◌-◌, ◌==◌, cond, List, [], ◌∷◌, length, min, Option, Some, None, ◌∙◌, subst, arith}
use Rattle.std.specs.Prelude.{IfSome}
use Rattle.std.proofs.lemmas.Bool.{leb-true, cases_eq, cond-true, cond-false, eq-eqb, ne_eqb}
use Rattle.disk_model.specs.Story.{Story, seen}
use Rattle.disk_model.specs.Left.{AreBytes}
use Rattle.disk_model.proofs.Told.{seen_bytes}
use Rattle.store_laws.specs.Laws.{HeldIsMadeAgain}
use Rattle.snapshot_laws.specs.Laws.{AreTablesOf, HeldIsReadAgain, SourcesHavePlaces}
use Rattle.store_model.specs.declared.record.Kind.{Kind}
use Rattle.store_model.specs.declared.record.Kind.TheVariants.{Source, Replica}
use Rattle.store_model.specs.Held.{LogEnd, Held}
use Rattle.store_model.specs.Snapshots.{HasPlaces}
use Rattle.store_model.specs.Stores.{Stands}
use Rattle.store_model.proofs.Standing.{together}
use Rattle.commit_store.specs.declared.store.Store.{Store}
use Rattle.commit_store.specs.Keeping.{HasEnds, positions}
use Rattle.checkpoint_model.specs.Pieces.{last_generation}
use Rattle.checkpoint.specs.checkpoint_pieces.Newest.{IsReadAgain}
use Rattle.checkpoint.specs.Checkpoints.{HasSizes}
use Rattle.store_source.specs.Writing.{IsOn as SourceIsOn}
use Rattle.store_replica.specs.Writing.{IsOn as ReplicaIsOn}
use Rattle.store_source.specs.durable_runs.Sources.{Stored}

-- what has sizes is read again
abbrev pub WillBeRead : Kind → (generation : ℕ) → Held → Type 0
WillBeRead kind generation held = HasSizes kind generation held → IsReadAgain kind generation held

-- what is asked of its numbers
abbrev pub HasNumbers : Kind → Held → Type 0
HasNumbers kind held = HasPlaces kind held × (held.number < 2 ^ 64)

module _ (made : HeldIsMadeAgain) (read : HeldIsReadAgain) (kind : Kind) (generation : ℕ) (held : Held) (tables : AreTablesOf held.base.catalog held.base.tables)
    (next : generation + 1 < 2 ^ 64) where
  pub read_again : (t : Option Story) → IfSome t (λ s. AreBytes s.first s.calls) → IfSome t (λ _. Stands kind generation (seen t) held)
      → (Stands kind generation (seen t) held → HasNumbers kind held) → IfSome t (λ _. WillBeRead kind (generation + 1) held)
  read_again None bytes stands numbers = tt
  read_again (Some s) bytes stands numbers =
      λ sizes. read kind (generation + 1) held
      (made kind (seen (Some s)) held (λ f. seen_bytes s.first s.calls f bytes) (together kind (seen (Some s)) held generation stands))
      tables (numbers stands).0 next (numbers stands).1 sizes.objects sizes.body

-- ---- a source

any_end : (list : List ℕ) (ends : List LogEnd) → list ≡ positions ends → (list ≡ [] → ⊥) → 0 < length ends
any_end list [] is some = absurd (some is)
any_end list (e ∷ ends) is some = omega arith

pub has_log : (t : Option Story) (store : Store) (s : Stored) → SourceIsOn t store s → (store.ends.list ≡ [] → ⊥) → 0 < length s.held.ends
has_log t store s on some = any_end store.ends.list s.held.ends on.keeps.holds.shows.ends some

pub source_numbers : SourcesHavePlaces → (generation : ℕ) (t : Option Story) (held : Held) → 0 < length held.ends → Stands Source generation (seen t) held → HasNumbers Source held
source_numbers have generation t held some stands =
    let places = have generation (seen t) held stands some in
    let few = leb-true held.number (2 ^ 32 - 1) places.0.0 in
    (places, omega (arith, few))

-- ---- a replica

none_of : (kind : Kind) (ends : List LogEnd) → kind ≡ Replica → HasEnds kind ends → ends ≡ []
none_of kind ends is own = subst (λ (k : Kind). HasEnds k ends) is own

pub replica_numbers : (t : Option Story) (store : Store) (held : Held) → ReplicaIsOn t store held → store.log < 2 ^ 32 → store.pos < 2 ^ 32 → HasNumbers Replica held
replica_numbers t store held on log pos = (
  (
    none_of store.node held.ends on.node on.keeps.holds.own,
    (subst (λ (n : ℕ). n < 2 ^ 32) on.keeps.holds.shows.log log, subst (λ (n : ℕ). n < 2 ^ 32) on.keeps.holds.shows.pos pos),
  ),
  on.fits,
)

-- ---- the next generation

pub not_last : (g : ℕ) → g < 2 ^ 64 → (g ≡ last_generation → ⊥) → g + 1 < 2 ^ 64
not_last g fits not = omega (arith, fits, not)

pub next_is : (g : ℕ) → g < 2 ^ 64 → cond (g == last_generation) g (g + 1) ≡ min (g + 1) (2 ^ 64 - 1)
next_is g fits = by (cases_eq g last_generation)
  where
    by : (g ≡ last_generation) ⊎ (g ≡ last_generation → ⊥) → cond (g == last_generation) g (g + 1) ≡ min (g + 1) (2 ^ 64 - 1)
    by (inl last) = cond-true (g == last_generation) g (g + 1) (eq-eqb g last_generation last) ∙ omega (arith, last)
    by (inr not) = cond-false (g == last_generation) g (g + 1) (ne_eqb g last_generation not) ∙ omega (arith, fits, not)
