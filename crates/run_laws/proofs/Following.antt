-- The replica follows its source behind each command.
use Rattle.std.proofs.Common.{◌≡◌, ◌≤◌, ◌^◌, ℕ, ◌+◌, ◌-◌, ◌==◌, false, List, [], ◌∷◌, ◌++◌, map, length, drop, take, Some, Ok, refl, sym, ap, ◌∙◌, subst, append_assoc, append-nil, arith}
use Rattle.std.specs.Prelude.{min}
use Rattle.port_traits.specs.declared.identity.Draw.{Draw}
use Rattle.apply_laws.specs.catalog_rules.Bases.{Base}
use Rattle.apply_laws.specs.log_entries.declared.entries.Entry.{Entry}
use Rattle.apply_laws.specs.log_entries.Entries.{after}
use Rattle.apply_laws.specs.log_model.Groups.{Group}
use Rattle.apply_laws.specs.log_model.Log.{log}
use Rattle.apply_laws.specs.apply_model.Groups.{Applied, and_then}
use Rattle.apply_laws.specs.Laws.{BasesHold}
use Rattle.apply_laws.specs.session_model.Machine.{Whole, whole, kept_entry, Machine, machine_after, Step, step, log_bytes}
use Rattle.apply_laws.specs.session_model.declared.format.Format.{Format}
use Rattle.apply_laws.specs.session_model.declared.format.Format.TheVariants.{Statement, Mixed, Row}
use Rattle.apply_laws.specs.session_model.Holding.{changes_of, define, EntriesIn, format_of, session_at}
use Rattle.apply_laws.specs.session_model.Openings.{opening_entries}
use Rattle.apply_laws.specs.session_replays.Followed.{EntriesFollow, UnwarnedFollow, MixedIsUnwarned, RowsAreUnwarned}
use Rattle.run_model.specs.replica_model.Replica.{Replica, want, fetched, reopened}
use Rattle.run_model.specs.replica_model.Applying.{apply, go_on, going_from}
use Rattle.run_model.specs.Asked.{Asked, say, select, take_bytes, take_groups, checkpoint_source, checkpoint_replica, restart_source, restart_replica}
use Rattle.run_model.specs.Run.{Names, Both, ReplicaStep, opened_again, carried_in, Starts, first_both, log_with, next, number_before}
use Rattle.run_model.specs.Following.{AreCommitted, all_carried, applied_of, begun_anew, Follows, groups_of, head_entries, place_behind}
use Rattle.run_laws.specs.Laws.{IsSound, FollowsBegins, FollowsOpened, FollowsGoOn, FollowsOnTheWay, NoApplyStops, NothingIsDamaged, AllCarriedIsEqual, IsLoggedAsSet, IsUnderOther, OthersFollow, WarnedAsShown, may_warn}
use Rattle.run_laws.proofs.Places.{Line, count_of, log_grows, place_of}
use Rattle.run_laws.proofs.Committing.{committed_behind, step_puts}
use Rattle.run_laws.proofs.Fetching.{Below, want_at, piece_is, fetched_rest}
use Rattle.run_laws.proofs.Carrying.{Appliers, all_ready, in_both, nothing_is_owed}
use Rattle.run_laws.proofs.Groups.{carried_both, groups_length, opened_last}
use Rattle.run_laws.proofs.Restarting.{head_follows, source_follows}
use Rattle.run_laws.proofs.Applying.{Came, Round, steps_from}

pub follows_begins : FollowsBegins
follows_begins names b stamp server es rest behind same none history committed relay = record {
  stamp = stamp;
  server = server;
  carried = [];
  more = es;
  history = history;
  committed = committed;
  steps = ap carried_in none;
  makes = ap (λ (ss : List ReplicaStep). all_carried names.replica [] ss (applied_of b.from.replica)) none ∙ ap Ok (ap applied_of (sym same));
  base = λ follow. ap (λ (r : Replica). Some r.base) (sym same);
  number = ap (λ (r : Replica). r.number) same ∙ small b.from.replica.number behind.number;
  place = ap (λ (r : Replica). r.place) same ∙ behind.place;
  rest = rest;
  relay = relay;
}
  where
    small : (n : ℕ) → n ≤ 2 ^ 64 - 1 → n ≡ min (n + 0) (2 ^ 64 - 1)
    small n within = omega (arith, within)

pub follows_opened : BasesHold → FollowsOpened
follows_opened hold names src =
    let b : Both = first_both names src in
    follows_begins names b src.now names.source.server_id [] (drop 4 (log_with b.from b.machine)) (nothing_is_owed hold) refl refl refl tt refl

-- ---- a session's text

-- what it put out stands behind all that was there
said_follows : Below → (names : Names) (b : Both) (s : Step Whole) → AreCommitted s.committed → Follows names b → Follows names (record b { machine = machine_after b.machine s })
said_follows below names b s puts f =
    let m : Machine = b.machine in
    let from : Starts = b.from in
    let on : List (Entry Whole) = f.more ++ s.committed in
    let l : Line = record { read = from.read; stamp = f.stamp; server = f.server } in
    let committed : List ℕ = log (map kept_entry s.committed) (count_of l (f.carried ++ f.more)) (place_of l (f.carried ++ f.more)) in
    let assoc : (f.carried ++ f.more) ++ s.committed ≡ f.carried ++ on = append_assoc f.carried f.more s.committed in
    let history : from.owed ++ (m.history ++ s.committed) ≡ head_entries from.read f.stamp f.server ++ (f.carried ++ on) =
    sym (append_assoc from.owed m.history s.committed) ∙ ap (λ (es : List (Entry Whole)). es ++ s.committed) f.history
    ∙ append_assoc (head_entries from.read f.stamp f.server) (f.carried ++ f.more) s.committed ∙ ap (λ (es : List (Entry Whole)). head_entries from.read f.stamp f.server ++ es) assoc in
    record {
      stamp = f.stamp;
      server = f.server;
      carried = f.carried;
      more = on;
      history = history;
      committed = subst AreCommitted assoc (committed_behind (f.carried ++ f.more) s.committed f.committed puts);
      steps = f.steps;
      makes = f.makes;
      base = f.base;
      number = f.number;
      place = f.place;
      rest = f.rest ++ committed;
      relay = sym (append_assoc b.replica.relay f.rest committed) ∙ ap (λ (bs : List ℕ). bs ++ committed) f.relay
          ∙ sym (log_grows below.heads below.goes_on from m f.stamp f.server f.carried f.more s.committed b.replica.place f.history history f.place);
    }

-- ---- FETCH

fetch_follows : Below → (names : Names) (b : Both) (n : ℕ) → Follows names b → IsSound b.from b.machine → Follows names (record b { replica = fetched (log_bytes (log_with b.from b.machine) (want b.replica) n) b.replica })
fetch_follows below names b n f sound =
    let at = want_at below b.from b.machine b.replica f.stamp f.server f.carried f.more f.rest f.history f.committed sound.logs f.place f.relay in
    let piece : log_bytes (log_with b.from b.machine) (want b.replica) n ≡ take n f.rest = piece_is (want b.replica) (log_with b.from b.machine) b.replica.relay f.rest b.replica.place.pos n at f.relay in
    subst (λ (bs : List ℕ). Follows names (record b { replica = fetched bs b.replica })) (sym piece) (record {
      stamp = f.stamp;
      server = f.server;
      carried = f.carried;
      more = f.more;
      history = f.history;
      committed = f.committed;
      steps = f.steps;
      makes = f.makes;
      base = f.base;
      number = f.number;
      place = f.place;
      rest = drop n f.rest;
      relay = fetched_rest b.replica.relay f.rest (drop b.replica.place.pos (log_with b.from b.machine)) n f.relay;
    })

-- ---- APPLY

-- behind so many steps of it
steps_came : Below → Appliers → (names : Names) (draw : Draw) (steps wanted : ℕ) (b : Both) → Follows names b → IsSound b.from b.machine
    → Came (record { names = names; draw = draw; before = b.steps }) b.from b.machine (go_on steps wanted names.replica draw (going_from b.replica))
steps_came below appliers names draw steps wanted b f sound =
    let t : Round = record { names = names; draw = draw; before = b.steps } in
    steps_from below appliers t b.from b.machine f.stamp f.server sound steps wanted f.carried f.more f.rest b.replica f.history f.committed f.steps f.makes f.base f.number f.place f.relay

apply_came : Below → Appliers → (names : Names) (draw : Draw) (wanted : ℕ) (b : Both) → Follows names b → IsSound b.from b.machine
    → Came (record { names = names; draw = draw; before = b.steps }) b.from b.machine (apply wanted names.replica draw b.replica)
unfolding apply
apply_came below appliers names draw wanted b f sound = steps_came below appliers names draw (length b.replica.relay) wanted b f sound

pub follows_on_the_way : Below → Appliers → FollowsOnTheWay
follows_on_the_way below appliers names b draw steps wanted f sound = (steps_came below appliers names draw steps wanted b f sound).follows

-- ---- RESTART of the replica

reopened_follows : (names : Names) (b : Both) → Follows names b → Follows names (record b { replica = reopened b.replica; steps = b.steps ++ opened_again ∷ [] })
reopened_follows names b f =
    let n : ℕ = number_before b.from.read in
    let p = place_behind b.from.read in
    let gs : List Group = groups_of (map kept_entry f.carried) n p in
    let many : length gs ≡ carried_in b.steps = groups_length f.carried n p ∙ sym f.steps in
    record {
      stamp = f.stamp;
      server = f.server;
      carried = f.carried;
      more = f.more;
      history = f.history;
      committed = f.committed;
      steps = no_more (carried_in (b.steps ++ opened_again ∷ [])) (carried_in b.steps) (length f.carried) (carried_both b.steps (opened_again ∷ [])) f.steps;
      makes = opened_last names.replica gs b.steps (applied_of b.from.replica) many ∙ ap (and_then (λ (y : Applied). Ok (begun_anew y))) f.makes;
      base = f.base;
      number = f.number;
      place = f.place;
      rest = drop b.replica.place.pos (log_with b.from b.machine);
      relay = refl;
    }
  where
    no_more : (n k m : ℕ) → n ≡ k + 0 → k ≡ m → n ≡ m
    no_more n k m is same = omega (arith, is, same)

-- ---- each command

pub follows_go_on : Below → Appliers → FollowsGoOn
follows_go_on below appliers names b (say n text) draw f sound =
    said_follows below names b (step whole names.source b.machine.state n text draw) (step_puts names.source b.machine.state n text draw) f
follows_go_on below appliers names b (select text) draw f sound = f
follows_go_on below appliers names b (take_bytes n) draw f sound = fetch_follows below names b n f sound
follows_go_on below appliers names b (take_groups n) draw f sound = (apply_came below appliers names draw n b f sound).follows
follows_go_on below appliers names b checkpoint_source draw f sound = f
follows_go_on below appliers names b checkpoint_replica draw f sound = f
follows_go_on below appliers names b restart_source draw f sound = source_follows below.have below.heads names b draw f sound
follows_go_on below appliers names b restart_replica draw f sound = reopened_follows names b f

pub no_apply_stops : Below → Appliers → NoApplyStops
no_apply_stops below appliers names draw wanted b f sound follow = (apply_came below appliers names draw wanted b f sound).through follow

pub nothing_is_damaged : Below → Appliers → NothingIsDamaged
nothing_is_damaged below appliers names draw wanted b f sound = (apply_came below appliers names draw wanted b f sound).stop

-- ---- all carried out

pub all_carried_is_equal : AllCarriedIsEqual
all_carried_is_equal names b f behind replays none follow =
    let history : b.from.owed ++ b.machine.history ≡ head_entries b.from.read f.stamp f.server ++ f.carried =
    f.history ∙ ap (λ (es : List (Entry Whole)). head_entries b.from.read f.stamp f.server ++ (f.carried ++ es)) none
    ∙ ap (λ (es : List (Entry Whole)). head_entries b.from.read f.stamp f.server ++ es) (append-nil f.carried) in
    let made : after changes_of define f.carried b.from.replica.base ≡ Some b.machine.state.shared.base = (all_ready b.from b.machine f.stamp f.server f.carried behind replays history).makes in
    same (sym (f.base follow) ∙ made)
  where
    same : {x y : Base} → Some x ≡ Some y → x ≡ y
    same q = cc

-- ---- how a run is logged

pub warned_as_shown : WarnedAsShown
warned_as_shown format i logged = rw logged.0 refl

-- what is put out in a format that logs nothing unsafe by its text
put_follows : UnwarnedFollow → MixedIsUnwarned → RowsAreUnwarned → (format : Format) (es : List (Entry Whole)) → may_warn format ≡ false → EntriesIn format es → EntriesFollow es
put_follows unwarned mixed rows Statement es none logged = cc
put_follows unwarned mixed rows Mixed es none logged = unwarned es (mixed es logged)
put_follows unwarned mixed rows Row es none logged = unwarned es (rows es logged)

-- one command
other_follows : UnwarnedFollow → MixedIsUnwarned → RowsAreUnwarned → (names : Names) (b : Both) (c : Asked) (draw : Draw) → EntriesFollow b.machine.history → IsLoggedAsSet names b c draw → IsUnderOther b c draw
    → EntriesFollow (next names b c draw).both.machine.history
other_follows unwarned mixed rows names b (say n text) draw before logged other =
    let s : Step Whole = step whole names.source b.machine.state n text draw in
    in_both b.machine.history s.committed before (put_follows unwarned mixed rows (format_of (session_at n b.machine)) s.committed other logged)
other_follows unwarned mixed rows names b (select text) draw before logged other = before
other_follows unwarned mixed rows names b (take_bytes n) draw before logged other = before
other_follows unwarned mixed rows names b (take_groups n) draw before logged other = before
other_follows unwarned mixed rows names b checkpoint_source draw before logged other = before
other_follows unwarned mixed rows names b checkpoint_replica draw before logged other = before
other_follows unwarned mixed rows names b restart_source draw before logged other =
    in_both b.machine.history (opening_entries names.source draw b.machine.state.shared.place) before (head_follows draw.now names.source.server_id (b.machine.state.shared.place.log == 0))
other_follows unwarned mixed rows names b restart_replica draw before logged other = before

pub others_follow : UnwarnedFollow → MixedIsUnwarned → RowsAreUnwarned → OthersFollow
others_follow unwarned mixed rows names b [] ds before logged other = before
others_follow unwarned mixed rows names b (c ∷ cs) [] before logged other = before
others_follow unwarned mixed rows names b (c ∷ cs) (d ∷ ds) before logged other =
    others_follow unwarned mixed rows names (next names b c d).both cs ds (other_follows unwarned mixed rows names b c d before logged.0 other.0) logged.1 other.1
