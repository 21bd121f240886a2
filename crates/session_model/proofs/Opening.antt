-- What holds of every run holds of a source that opens, and behind a RESTART.
use Rattle.std.proofs.Common.{◌≡◌, ℕ, ◌==◌, ◌∙◌, Bool, true, false, List, [], ◌∷◌, Option, refl, ap, if◌then◌else◌}
use Rattle.std.specs.Option.{option_and_then}
use Rattle.port_traits.specs.declared.identity.Identity.{Identity}
use Rattle.port_traits.specs.declared.identity.Draw.{Draw}
use Rattle.session_ctx.specs.catalog_rules.Bases.{Base}
use Rattle.binlog_sizes.specs.log_entries.declared.entries.Entry.{Entry}
use Rattle.binlog_sizes.specs.log_entries.declared.entries.Entry.TheVariants.{LogStart}
use Rattle.binlog_sizes.specs.log_entries.Entries.{after}
use Rattle.binlog_sizes.proofs.of_log_entries.Following.{go_on}
use Rattle.session_model.specs.Machine.{Whole, Machine}
use Rattle.session_model.specs.Holding.{changes_of, define, Beginning, Holds}
use Rattle.session_model.specs.Openings.{begun_by, opened_from, committed_in, restarted, OpensWithNothing, OpeningsHold, RestartsHold}
use Rattle.session_model.proofs.Holding.{none_owned}
use Rattle.session_model.proofs.Logging.{Logged, logged_on}
use Rattle.session_model.proofs.Saving.{none_made}

pub opens_with_nothing : OpensWithNothing
opens_with_nothing identity draw = refl

-- with the head of the first log, or nothing
begun_holds : (stamp server : ℕ) (from : Beginning) (first : Bool) → Holds from (begun_by from (if first then LogStart stamp server ∷ [] else []))
begun_holds stamp server from true = record {
  entries = refl;
  count = refl;
  place = refl;
  made = (tt, tt);
  shared = record { free = λ _. refl; makes = none_made _ };
  each = none_owned _ refl;
}
begun_holds stamp server from false = record {
  entries = refl;
  count = refl;
  place = refl;
  made = tt;
  shared = record { free = λ _. refl; makes = none_made _ };
  each = none_owned _ refl;
}

pub openings_hold : OpeningsHold
openings_hold identity draw from = begun_holds draw.now identity.server_id from (from.place.log == 0)

pub restarts_hold : RestartsHold
restarts_hold identity draw from m holds =
    let again : Machine = opened_from identity draw (committed_in m) in
    let opening : Holds (committed_in m) again = openings_hold identity draw (committed_in m) in
    let so_far : Logged (Unit {0}) m.history from.committed from.place m.state.shared.committed m.state.shared.place =
    record { count = holds.count; place = holds.place; made = λ _. holds.made } in
    let new : Logged (Unit {0}) again.history m.state.shared.committed m.state.shared.place again.state.shared.committed again.state.shared.place =
    record { count = opening.count; place = opening.place; made = λ _. opening.made } in
    let log = logged_on m.history again.history from.committed m.state.shared.committed again.state.shared.committed from.place m.state.shared.place again.state.shared.place so_far new in
    record {
      entries = go_on changes_of define m.history again.history from.base
          ∙ (ap (λ (b : Option Base). option_and_then (after changes_of define again.history) b) holds.entries ∙ opening.entries);
      count = log.count;
      place = log.place;
      made = log.made tt;
      shared = opening.shared;
      each = opening.each;
    }
