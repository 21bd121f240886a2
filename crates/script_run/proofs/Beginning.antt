-- Where a run begins.
use Rattle.std.proofs.Common.{◌≡◌, ◌≤◌, ℕ, zero, suc, if◌then◌else◌, List, [], ◌∷◌, length, None, Ok, refl, sym, ap, ◌∙◌, arith, append-nil}
use Rattle.std.proofs.lemmas.List.{length-take}
use Rattle.disk_model.specs.Story.{Image, seen}
use Rattle.disk_model.specs.Moments.{IsSettled}
use Rattle.store_model.specs.declared.record.Kind.{Kind}
use Rattle.store_model.specs.declared.record.Kind.TheVariants.{Source, Replica}
use Rattle.store_model.specs.Held.{LogEnd, Held, last_end, nothing_held}
use Rattle.store_model.specs.Entries.{writer_at}
use Rattle.store_model.specs.Laws.{HeldStand, LogsAreLong}
use Rattle.store_model.specs.Snapshots.{is_open, snapshot_in}
use Rattle.store_model.specs.Stores.{AreLong, begun_by, begun_from, begun_in, first_log, greater_if, held_by, journal_applied, with_journal, with_logs}
use Rattle.durable_source.specs.Standing.{beginning_of}
use Rattle.run_stores.specs.durable_runs.Sources.{Stored, log_in}
use Rattle.run_stores.specs.Standing.{StandAt}
use Rattle.run_laws.specs.apply_laws.catalog_rules.Bases.{Base}
use Rattle.run_laws.specs.log_model.Log.{LogPlace}
use Rattle.run_laws.specs.run_model.replica_model.Replica.{replica_from}
use Rattle.run_laws.specs.run_model.Run.{bytes_to, Starts, source_from}
use Rattle.run_laws.specs.Openings.{BeginWithNothing}
use Rattle.script_run.specs.Beginning.{EmptyBegins, FromEach, RunStands, StoresStand}
use Rattle.script_run.specs.Disks.{Disks}
use Rattle.script_run.proofs.Disks.{both_map}

-- ---- an empty disk

empty_held : (kind : Kind) (image : Image) → ((f : ℕ) → image f ≡ []) → held_by kind image ≡ Ok nothing_held
unfolding held_by journal_applied begun_from
empty_held kind image none =
    ap (λ (xs : List ℕ). with_journal kind image (greater_if (if is_open xs then begun_by 0 (snapshot_in kind 0 xs) else Ok None) (begun_in kind image 1))) (none 0)
    ∙ ap (λ (xs : List ℕ). with_journal kind image (greater_if (Ok None) (if is_open xs then begun_by 1 (snapshot_in kind 1 xs) else Ok None))) (none 1)
    ∙ ap (λ (xs : List ℕ). with_logs 2 image (journal_applied kind xs nothing_held)) (none 2)

none_in : (n : ℕ) (image : Image) → log_in n [] image ≡ []
none_in zero image = refl
none_in (suc zero) image = refl
none_in (suc (suc n)) image = refl

pub empty_begins : BeginWithNothing → EmptyBegins
empty_begins nothing_is t settled rep_settled none rep_none = record {
  stands = record {
    settled = settled;
    held = nothing_held;
    holds = empty_held Source (seen t.source) none;
    one = record { one = omega arith; long = refl; others = λ n other. none_in n (seen t.source) };
    rep_settled = rep_settled;
    rep_held = nothing_held;
    rep_holds = empty_held Replica (seen t.replica) rep_none;
    owed = tt;
    stand = record { base = refl; number = refl; place = refl; log = refl; opens = refl };
  };
  begins = nothing_is.begins;
}

-- ---- a store of one log

-- what an image has of other logs: nothing
others_none : (ends : List LogEnd) (n : ℕ) (image : Image) → length ends ≤ 1 → (n ≡ 1 → ⊥) → log_in n ends image ≡ []
others_none [] n image few other = none_in n image
others_none (e ∷ []) zero image few other = refl
others_none (e ∷ []) (suc zero) image few other = absurd (other refl)
others_none (e ∷ []) (suc (suc n)) image few other = none_in (suc n) image
others_none (e ∷ f ∷ ends) n image few other = let no : ⊥ = omega (arith, few) in absurd no

-- where its one log ends it has as many bytes
log_long : (ends : List LogEnd) (image : Image) → length ends ≡ 1 → AreLong first_log ends image → length (log_in 1 ends image) ≡ last_end ends
log_long [] image one are = let no : ⊥ = omega (arith, one) in absurd no
log_long (e ∷ []) image one are = omega (arith, length-take e.pos (image 8), are.0)
log_long (e ∷ f ∷ ends) image one are = let no : ⊥ = omega (arith, one) in absurd no

-- so that all of its log is what was read of it
stands_for : (t : Disks) (held carried : Held) → IsSettled t.source → IsSettled t.replica → held_by Source (seen t.source) ≡ Ok held → held_by Replica (seen t.replica) ≡ Ok carried → length held.ends ≡ 1
    → AreLong first_log held.ends (seen t.source) → (from : Starts) × RunStands t from
stands_for t held carried settled rep_settled holds rep_holds one has =
    let bytes : List ℕ = log_in 1 held.ends (seen t.source) in
    let long : length bytes ≡ last_end held.ends = log_long held.ends (seen t.source) one has in
    let from : Starts = record { read = bytes_to bytes held.number; owed = []; base = held.base; replica = replica_from carried.base carried.number carried.place } in (
      from,
      record {
        settled = settled;
        held = held;
        holds = holds;
        one = record { one = omega (arith, one); long = long; others = λ n other. others_none held.ends n (seen t.source) (omega (arith, one)) other };
        rep_settled = rep_settled;
        rep_held = carried;
        rep_holds = rep_holds;
        owed = tt;
        stand = record {
          base = refl;
          number = refl;
          place = ap (λ (n : ℕ). record { log = n; pos = last_end held.ends }) one ∙ ap (λ (n : ℕ). record { log = 1; pos = n }) (sym long);
          log = sym (append-nil bytes);
          opens = refl;
        };
      },
    )

pub stores_stand : HeldStand → LogsAreLong → StoresStand
stores_stand apart long t held carried settled rep_settled holds rep_holds one =
    let there = apart Source (seen t.source) held holds in
    stands_for t held carried settled rep_settled holds rep_holds one ((long first_log held.ends (seen t.source)).0 there.1.logs)

-- ---- where the source stands

-- the source stands where the run's does
pub beginning_is : (source : Stored) (held : Held) (from : Starts) → StandAt source held from → beginning_of source ≡ source_from from
beginning_is source held from stand =
    ap (λ (b : Base). record { base = b; committed = source.held.number; place = writer_at source.held }) stand.base
    ∙ ap (λ (n : ℕ). record { base = from.base; committed = n; place = writer_at source.held }) stand.number
    ∙ ap (λ (p : LogPlace). record { base = from.base; committed = (source_from from).committed; place = p }) stand.place

-- ---- wherever it begins

-- what is claimed of each beginning
pub each_from : (t : Disks) (P Q : Starts → Type 0) → ((from : Starts) → P from → Q from) → FromEach t P → FromEach t Q
each_from t P Q step all = both_map t ((from : Starts) → RunStands t from → P from) ((from : Starts) → RunStands t from → Q from) (λ each from stands. step from (each from stands)) all
