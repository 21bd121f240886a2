-- Bytes that were fetched, put behind the others.
use Rattle.std.proofs.Common.{◌≡◌, ◌≤◌, ℕ, ◌+◌, List, [], ◌++◌, length, take, drop, leb, map, Option, sym, ◌∙◌, ap, subst, arith}
use Rattle.std.specs.Prelude.{IfSome}
use Rattle.std.proofs.lemmas.Bool.{cond-true, le-leb}
use Rattle.std.proofs.lemmas.List.{length-append, length-drop, length-take}
use Rattle.answer_text.specs.declared.report.Mark.{Mark}
use Rattle.disk_model.specs.Story.{Story, overwritten, seen}
use Rattle.disk_model.specs.Moments.{GoesOn}
use Rattle.disk_model.proofs.Laws.{if_both, if_on}
use Rattle.store_checkpoints.specs.store_replica.durable_runs.Marks.{replica_mark}
use Rattle.store_checkpoints.specs.store_replica.durable_runs.Replicas.{ReplicaRuns, replica_side}
use Rattle.store_checkpoints.proofs.of_store_replica.of_durable_runs.Joining.{runs_none}
use Rattle.replica_node.specs.replica_model.Replica.{Replica, fetched}
use Rattle.replica_node.specs.Kept.{held_of, replica_of}
use Rattle.store_model.specs.Held.{Held}
use Rattle.store_model.specs.Stores.{first_log}
use Rattle.store_checkpoints.specs.store_replica.Writing.{IsOn}
use Rattle.store_checkpoints.proofs.of_store_replica.Standings.{each_stands}
use Rattle.durable_replica.specs.Standing.{IsOnDisk}
use Rattle.durable_replica.specs.declared.replica.DurableReplica.{DurableReplica}
use Rattle.durable_replica.proofs.Opened.{if_map}

-- a piece behind a file's end
put_length : (at : ℕ) (piece file : List ℕ) → length file ≡ at → length (overwritten at piece file) ≡ at + length piece
put_length at piece file same =
    ap length (cond-true (leb at (length file)) (take at file ++ piece ++ drop (at + length piece) file) file (le-leb at (length file) (omega (arith, same))))
    ∙ omega (
      arith,
      same,
      length-append (take at file ++ piece) (drop (at + length piece) file),
      length-append (take at file) piece,
      length-take at file,
      length-drop (at + length piece) file,
    )

module _ (t : Option Story) (k : DurableReplica) (is : IsOnDisk t k) where
  pub relay_end : IfSome t (λ _. k.fetched ≤ length (seen t first_log))
  relay_end = if_map t (length (seen t first_log) ≡ k.fetched) (k.fetched ≤ length (seen t first_log)) is.relay (λ e. omega (arith, e))

  -- no disk was called
  pub none_run : (marks : List Mark) → ReplicaRuns t t (held_of (replica_of k.node)) [] marks marks
  none_run marks = runs_none replica_side t (held_of (replica_of k.node)) (map replica_mark marks) (each_stands t k.store (held_of (replica_of k.node)) is.on)

  pub fetched_on : (u : Option Story) (r : Replica) (piece : List ℕ) → r ≡ fetched piece (replica_of k.node)
      → ((held : Held) → IsOn t k.store held → IsOn u k.store held) → IsOn u k.store (held_of r)
  fetched_on u r piece took stays = subst (λ (x : Replica). IsOn u k.store (held_of x)) (sym took) (stays (held_of (replica_of k.node)) is.on)

  pub fetched_end : (u : Option Story) (slice piece : List ℕ) → slice ≡ piece → (end : ℕ) → end ≡ k.fetched + length piece → GoesOn t u
      → IfSome t (λ _. seen u first_log ≡ overwritten k.fetched slice (seen t first_log)) → IfSome u (λ _. length (seen u first_log) ≡ end)
  fetched_end u slice piece same end count goes reads =
      if_on t u (length (seen u first_log) ≡ end) (length (seen u first_log) ≡ end) goes
      (if_both t (length (seen t first_log) ≡ k.fetched) (seen u first_log ≡ overwritten k.fetched slice (seen t first_log)) (length (seen u first_log) ≡ end) is.relay reads
      (λ e f. ap length f ∙ put_length k.fetched slice (seen t first_log) e ∙ omega (arith, count, ap length same))) (λ x. x)
