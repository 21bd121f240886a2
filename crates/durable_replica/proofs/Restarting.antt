-- A replica that opens again.
use Rattle.std.proofs.Common.{◌≡◌, ℕ, Option, Some, None, Result, Ok, Err, sym, ◌∙◌, ap, subst}
use Rattle.std.specs.Prelude.{IfSome}
use Rattle.disk_model.specs.Story.{Story, seen}
use Rattle.disk_model.specs.declared.refusals.OpenRefusal.{OpenRefusal}
use Rattle.disk_model.specs.declared.refusals.OpenRefusal.TheVariants.{Disk, Damaged, NoMemory}
use Rattle.disk_model.proofs.Laws.{if_both}
use Rattle.commit_store.specs.Keeping.{AreDurable}
use Rattle.replica_node.specs.Kept.{held_of, replica_of}
use Rattle.store_checkpoints.specs.store_replica.store_open.Opened.{IsActive}
use Rattle.store_checkpoints.specs.store_replica.store_open.store_load.Loading.{TellsDamage}
use Rattle.store_model.specs.Held.{Held}
use Rattle.store_model.specs.Stores.{Spot, Stands, begun_from, held_by}
use Rattle.store_model.specs.declared.record.Kind.{Kind}
use Rattle.store_model.specs.declared.record.Kind.TheVariants.{Replica}
use Rattle.store_checkpoints.specs.store_replica.Writing.{OpensOn}
use Rattle.store_checkpoints.proofs.of_store_replica.Standings.{opens_now}
use Rattle.durable_replica.specs.Standing.{IsOnDisk}
use Rattle.durable_replica.specs.declared.replica.DurableReplica.{DurableReplica}
use Rattle.durable_replica.proofs.Opened.{if_map}

same_begun : (r : Result (ℕ × Held) Spot) (a b : ℕ × Held) → r ≡ Ok a → r ≡ Ok b → a.0 ≡ b.0
same_begun r a b e f = ap (λ (x : Result (ℕ × Held) Spot). elim x [ Ok p ↦ p.0 | Err spot ↦ 0 ]) (sym e ∙ f)

module _ (t : Option Story) (k : DurableReplica) (is : IsOnDisk t k) where
  -- the files of its store are durable, and hold what it keeps
  pub is_durable : AreDurable Replica t
  is_durable = subst (λ (kind : Kind). AreDurable kind t) is.on.node is.on.keeps.holds.durable

  pub opens : OpensOn t (held_of (replica_of k.node))
  opens = opens_now t k.store (held_of (replica_of k.node)) is.on

  -- what its image begins with is of the store's generation
  pub same_generation : (generation : ℕ) → IsActive t Replica generation → IfSome t (λ _. generation ≡ k.store.generation)
  same_generation generation active =
      if_both t ((begun : Held) × (begun_from Replica (seen t) ≡ Ok (generation, begun))) (Stands Replica k.store.generation (seen t) (held_of (replica_of k.node)))
      (generation ≡ k.store.generation) active
      (subst (λ (kind : Kind). IfSome t (λ _. Stands kind k.store.generation (seen t) (held_of (replica_of k.node)))) is.on.node is.on.keeps.holds.stands)
      (λ begun stands. same_begun (begun_from Replica (seen t)) (generation, begun.0) (k.store.generation, stands.begun) begun.1 stands.from)

-- ---- what a replica has on its disk is not damaged

ok_or_err : {A E : Type 0} (r : Result A E) (a : A) (e : E) → r ≡ Ok a → r ≡ Err e → ⊥
ok_or_err r a e is other = cc

none_damaged : (A : Type 0) (t : Option Story) (held : Held) (r : OpenRefusal) (file at : ℕ) → OpensOn t held → TellsDamage {A = A} t Replica (Err r)
    → IfSome t (λ _. r ≡ Damaged file at → ⊥)
none_damaged A None held r file at opens tells = tt
none_damaged A (Some x) held Disk file at opens tells = λ is. cc
none_damaged A (Some x) held NoMemory file at opens tells = λ is. cc
none_damaged A (Some x) held (Damaged f a) file at opens tells = λ is. ok_or_err (held_by Replica (seen (Some x))) held (record { file = f; at = a }) opens tells

same_err : {A : Type 0} (x : Result A OpenRefusal) (r q : OpenRefusal) → x ≡ Err r → x ≡ Err q → r ≡ q
same_err {A} x r q e f = ap (λ (y : Result A OpenRefusal). elim y [ Ok a ↦ r | Err error ↦ error ]) (sym e ∙ f)

pub not_damaged : (A B : Type 0) (t : Option Story) (held : Held) (result : Result B OpenRefusal) (r : OpenRefusal) (file at : ℕ) → result ≡ Err r → OpensOn t held
    → TellsDamage {A = A} t Replica (Err r) → IfSome t (λ _. result ≡ Err (Damaged file at) → ⊥)
not_damaged A B t held result r file at is opens tells =
    if_map t (r ≡ Damaged file at → ⊥) (result ≡ Err (Damaged file at) → ⊥) (none_damaged A t held r file at opens tells) (λ not e. not (same_err result r (Damaged file at) is e))
