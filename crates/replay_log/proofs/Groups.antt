-- Groups, one after the other.
use Rattle.std.proofs.Common.{◌≡◌, List, [], ◌∷◌, ◌++◌, Option, Some, None, refl, sym, ap, ◌∙◌}
use Rattle.port_traits.specs.declared.identity.Identity.{Identity}
use Rattle.port_traits.specs.declared.identity.Draw.{Draw}
use Rattle.durable_replica.specs.replica_node.apply_model.Stops.{Differs}
use Rattle.durable_replica.specs.replica_node.replica_model.Replaying.{Replay, by_form, unless_stopped, all_replayed}
use Rattle.log_reader.specs.log_file_model.Walk.{Piece}

module _ (identity : Identity) (draw : Draw) where
  stopped_by : (qs : List Piece) (s : Replay) (d : Differs) → s.stop ≡ Some d → s ≡ unless_stopped (all_replayed identity draw qs) s s.stop
  stopped_by qs s d is = sym (ap (unless_stopped (all_replayed identity draw qs) s) is)

  joined_by : (more : Replay → Replay) (ps qs : List Piece) → ((t : Replay) → t.stop ≡ None → more t ≡ unless_stopped (all_replayed identity draw qs) (all_replayed identity draw ps t) (all_replayed identity draw ps t).stop)
      → (s : Replay) (o : Option Differs) → s.stop ≡ o
      → unless_stopped more s o
      ≡ unless_stopped (all_replayed identity draw qs) (unless_stopped (all_replayed identity draw ps) s o) (unless_stopped (all_replayed identity draw ps) s o).stop
  joined_by more ps qs again s None is = again s is
  joined_by more ps qs again s (Some d) is = stopped_by qs s d is

  -- groups behind others
  pub joined : (ps qs : List Piece) (r : Replay) → r.stop ≡ None
      → all_replayed identity draw (ps ++ qs) r ≡ unless_stopped (all_replayed identity draw qs) (all_replayed identity draw ps r) (all_replayed identity draw ps r).stop
  joined [] qs r running = sym (ap (unless_stopped (all_replayed identity draw qs) r) running)
  joined (p ∷ ps) qs r running =
      let s : Replay = by_form identity draw p.group r p.group.form in
      joined_by (all_replayed identity draw (ps ++ qs)) ps qs (λ (t : Replay) is. joined ps qs t is) s s.stop refl

  one_by : (s : Replay) (o : Option Differs) → unless_stopped (all_replayed identity draw []) s o ≡ s
  one_by s None = refl
  one_by s (Some d) = refl

  -- one group more
  pub one_more : (ps : List Piece) (p : Piece) (first s : Replay) → first.stop ≡ None → all_replayed identity draw ps first ≡ s → s.stop ≡ None
      → all_replayed identity draw (ps ++ p ∷ []) first ≡ by_form identity draw p.group s p.group.form
  one_more ps p first s fresh is running =
      let there : Replay = by_form identity draw p.group s p.group.form in
      joined ps (p ∷ []) first fresh
      ∙ ap (λ (t : Replay). unless_stopped (all_replayed identity draw (p ∷ [])) t t.stop) is
      ∙ ap (unless_stopped (all_replayed identity draw (p ∷ [])) s) running
      ∙ one_by there there.stop

  -- behind an item that has no effect nothing is carried out
  pub stopped_there : (ps qs : List Piece) (first : Replay) (stop : Differs) → first.stop ≡ None → (all_replayed identity draw ps first).stop ≡ Some stop
      → all_replayed identity draw (ps ++ qs) first ≡ all_replayed identity draw ps first
  stopped_there ps qs first stop fresh is =
      joined ps qs first fresh ∙ ap (unless_stopped (all_replayed identity draw qs) (all_replayed identity draw ps first)) is
