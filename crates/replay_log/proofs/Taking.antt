-- The log on an input, group by group.
use Rattle.std.proofs.Common.{◌≡◌, inl, inr, ◌<◌, ◌≤◌, ℕ, ◌+◌, ◌-◌, false, List, [], ◌∷◌, ◌++◌, length, Option, Some, None, Result, Err, refl, sym, ap, ◌∙◌, arith, subst, length-append}
use Rattle.std.proofs.lemmas.List.{take_all, take-append-le}
use Rattle.answer_text.specs.declared.report.Mark.{Mark}
use Rattle.answer_text.specs.declared.status.Status.{Status}
use Rattle.answer_text.specs.declared.status.Status.TheVariants.{Done, BadWords, BadScript, ReadFault, WriteFault, SourceDisk, ReplicaDisk, SourceDamaged, ReplicaDamaged, LogDamaged, LogForeign, Differs, NoMemory}
use Rattle.port_traits.specs.declared.identity.Identity.{Identity}
use Rattle.port_traits.specs.declared.identity.Draw.{Draw}
use Rattle.disk_model.specs.Story.{Story}
use Rattle.disk_model.specs.Moments.{GoesOn}
use Rattle.disk_model.proofs.Moments.{on_refl, on_trans}
use Rattle.store_model.specs.Held.{Held}
use Rattle.durable_replica.specs.store_replica.durable_runs.Replicas.{Carries, CarriesTo}
use Rattle.durable_replica.specs.store_replica.durable_runs.Runs.{CallsFit}
use Rattle.durable_replica.proofs.of_store_replica.of_durable_runs.States.{carries_idle, carries_behind, carries_join, carries_widen, carries_to_widen}
use Rattle.durable_replica.proofs.of_store_replica.Standings.{each_stands}
use Rattle.durable_replica.specs.Standing.{IsOnDisk}
use Rattle.log_reader.specs.log_model.Groups.{Group, group}
use Rattle.log_reader.specs.log_model.Log.{LogPlace}
use Rattle.log_reader.specs.declared.reader.Found.{Found}
use Rattle.log_reader.specs.declared.reader.Found.TheVariants as found
use Rattle.log_reader.specs.Behind.{Behind, CallsLead, FrontLeads, FrontsAreKnown, IsLogFront, LeadsTo, piece_read}
use Rattle.log_reader.specs.Reading.{Reader, IsGroup, IsEnd, Reads, ReadsFront, next_pos, begun_at}
use Rattle.durable_replica.specs.replica_node.Kept.{held_of}
use Rattle.durable_replica.specs.replica_node.replica_model.Replica.{Replica}
use Rattle.durable_replica.specs.replica_node.replica_model.Replaying.{Replay, by_form, all_replayed, replay_by}
use Rattle.run_streams.specs.Reports.{first_mark}
use Rattle.run_streams.specs.Stops.{StopsReading, status_of}
use Rattle.log_reader.proofs.of_log_group_laws.Lying.{group_lies}
use Rattle.log_reader.specs.log_file_model.Passing.{names_next}
use Rattle.log_reader.specs.log_file_model.Walk.{damaged, ended, Piece}
use Rattle.replay_log.specs.declared.replaying.Replaying as code_replaying
use Rattle.replay_log.specs.Ends.{IsBehind, held_in}
use Rattle.replay_log.specs.Keeping.{IsWhole}
use Rattle.replay_log.specs.Replaying.{Stands, IsFresh, IsReady, IsNext, IsStop, IsEither, Went, GroupKept, GroupBroke, KeptBy, Lasts, Broke, Under, Through, UpToFault, ComesTo, kept, read_by}
use Rattle.replay_log.proofs.Groups.{one_more}
use Rattle.replay_log.proofs.Keeping.{fit_before, held_kept, none_named}
use Rattle.replay_log.proofs.Marking.{marks_more, named_all}

-- ---- a group that was read

-- what was taken is a whole group
abbrev Taken : Reader → Reader → Type 0
Taken old new = (g : Group) × IsWhole new.bytes new.begin g × (old.closed ≡ false) × (new.closed ≡ names_next g.form)

taken_is : (old new : Reader) (bytes : List ℕ) → IsGroup old new bytes → Taken old new
taken_is old new bytes is =
    (is.one, subst (λ (bs : List ℕ). IsWhole bs new.begin is.one) (sym is.bytes) (record { reads = is.reads; whole = is.whole }), is.opened, is.closed)

pub next_is : (identity : Identity) (draw : Draw) (from : Replica) (start before after : Option (List ℕ)) (t u : Option Story) (old new : Reader) (r : code_replaying.Replaying) (marks : List Mark)
    → Under identity draw from start before t u old r marks → Reads old new before after found.Group → IsNext r new
next_is identity draw from start before after t u old new r marks under reads =
    let taken = taken_is old new reads.taken reads.finds in
    record { group = taken.0; is = taken.1; ready = subst (IsReady r) (sym reads.begin) (under.ready taken.2) }

-- where the next group ends
pub further : (start before after : Option (List ℕ)) (old new : Reader) → Reads old new before after found.Group → 1200000000 - next_pos new < 1200000000 - next_pos old
further start before after old new reads =
    let taken = taken_is old new reads.taken reads.finds in
    let lies = group_lies new.bytes new.begin taken.0 taken.1.reads in
    omega (arith, reads.begin, taken.1.whole, lies.header, lies.ends)

-- what a group leads to, by a status
abbrev pub Leads : Identity → Draw → Reader → (r r' : code_replaying.Replaying) → Status → Type 0
Leads identity draw new r r' status =
    (g : Group) (s : Replay) → IsWhole new.bytes new.begin g → Stands r s → s.stop ≡ None
    → Went status r' (by_form identity draw g s g.form) (names_next g.form) (next_pos new)

pub leads_by : (identity identity' : Identity) (draw : Draw) (new : Reader) (r r' : code_replaying.Replaying) (status status' : Status) → identity ≡ identity' → status ≡ status'
    → Leads identity draw new r r' status → Leads identity' draw new r r' status'
leads_by identity identity' draw new r r' status status' who how leads =
    subst (λ (i : Identity). Leads i draw new r r' status') who (subst (λ (x : Status). Leads identity draw new r r' x) how leads)

-- and on the disk
abbrev pub Leaves : Identity → Draw → Reader → (u v : Option Story) → (r r' : code_replaying.Replaying) → (marks more : List Mark) → Status → Type 0
Leaves identity draw new u v r r' marks more status =
    (g : Group) (s : Replay) → IsWhole new.bytes new.begin g → Stands r s → s.stop ≡ None
    → KeptBy status u v r r' s (by_form identity draw g s g.form) first_mark marks more

pub leaves_by : (identity identity' : Identity) (draw : Draw) (new : Reader) (u v : Option Story) (r r' : code_replaying.Replaying) (marks more : List Mark) (status status' : Status)
    → identity ≡ identity' → status ≡ status' → (now : Mark) → now ≡ first_mark
    → ((g : Group) (s : Replay) → IsWhole new.bytes new.begin g → Stands r s → s.stop ≡ None → KeptBy status u v r r' s (by_form identity draw g s g.form) now marks more)
    → Leaves identity' draw new u v r r' marks more status'
leaves_by identity identity' draw new u v r r' marks more status status' who how now is leaves =
    subst (λ (i : Identity). Leaves i draw new u v r r' marks more status') who
    (subst (λ (x : Status). Leaves identity draw new u v r r' marks more x) how
    (λ g s whole stands running. subst (λ (m : Mark). KeptBy status u v r r' s (by_form identity draw g s g.form) m marks more) is (leaves g s whole stands running)))

-- ---- the beginning

begins_ready : (r : code_replaying.Replaying) → IsFresh r → 4 ≤ r.pos → IsReady r r.pos
begins_ready r fresh four =
    let at : r.pos ≡ (kept r).place.pos = ap (λ (p : LogPlace). p.pos) fresh.stands.place in
    ((omega (arith, at, ap length fresh.relay), inl fresh.relay), omega (arith, fresh.stands.count, four))

lasts_first : (identity : Identity) (draw : Draw) (t : Option Story) (r : code_replaying.Replaying) → IsFresh r → IsOnDisk t r.node → Lasts identity draw (kept r) [] t t r []
lasts_first identity draw t r fresh on = record {
  on = on;
  goes = on_refl t;
  carries = λ fit. carries_idle (IsBehind identity draw (kept r) []) t (held_of (kept r)) [] []
      (record { first = 0; within = omega arith; is = refl }) (each_stands t r.node.store (held_of (kept r)) on.on) (none_named t);
  marked = record { named = tt; each = sym fresh.stands.count; reached = refl };
}

-- ---- faults

-- no group was read
nothing_front : (from : Replica) (start : Option (List ℕ)) → IsLogFront (read_by from) start []
nothing_front from None = record { bytes = []; input_is = tt; more = read_by from []; groups = refl }
nothing_front from (Some all) = record { bytes = all; input_is = refl; more = read_by from all; groups = refl }

pub broke_of : (identity : Identity) (draw : Draw) (from : Replica) (pieces : List Piece) (t u : Option Story) (r : code_replaying.Replaying) (marks : List Mark)
    → Lasts identity draw from pieces t u r marks → Broke identity draw from pieces t u marks
broke_of identity draw from pieces t u r marks lasts = record { goes = lasts.goes; carries = λ fit. (lasts.carries fit).carries; named = lasts.marked.named }

-- a status with which reading stopped says that there was a fault
pub stops_reading : (identity : Identity) (draw : Draw) (from : Replica) (start left : Option (List ℕ)) (t u : Option Story) (r : code_replaying.Replaying) (marks : List Mark) (status : Status) (first last : ℕ)
    → StopsReading status first last → UpToFault identity draw from start t u marks → ComesTo status identity draw from start left t u r marks
stops_reading identity draw from start left t u r marks Done first last stops fault = absurd stops
stops_reading identity draw from start left t u r marks BadWords first last stops fault = absurd stops
stops_reading identity draw from start left t u r marks (BadScript at) first last stops fault = absurd stops
stops_reading identity draw from start left t u r marks ReadFault first last stops fault = fault
stops_reading identity draw from start left t u r marks WriteFault first last stops fault = absurd stops
stops_reading identity draw from start left t u r marks SourceDisk first last stops fault = absurd stops
stops_reading identity draw from start left t u r marks ReplicaDisk first last stops fault = absurd stops
stops_reading identity draw from start left t u r marks (SourceDamaged file at) first last stops fault = absurd stops
stops_reading identity draw from start left t u r marks (ReplicaDamaged file at) first last stops fault = absurd stops
stops_reading identity draw from start left t u r marks (LogDamaged pos) first last stops fault = absurd stops
stops_reading identity draw from start left t u r marks (LogForeign pos kind) first last stops fault = absurd stops
stops_reading identity draw from start left t u r marks (Differs pos code table key) first last stops fault = absurd stops
stops_reading identity draw from start left t u r marks NoMemory first last stops fault = fault

-- there were no marks
pub unmarked : (status : Status) (identity : Identity) (draw : Draw) (from : Replica) (start left : Option (List ℕ)) (t u : Option Story) (r : code_replaying.Replaying) (marks : List Mark) → marks ≡ []
    → ComesTo status identity draw from start left t u r [] → ComesTo status identity draw from start left t u r marks
unmarked status identity draw from start left t u r marks none comes = subst (λ (ms : List Mark). ComesTo status identity draw from start left t u r ms) (sym none) comes

-- before the first group
pub nothing_read : (identity : Identity) (draw : Draw) (start : Option (List ℕ)) (t : Option Story) (r : code_replaying.Replaying) → IsFresh r → IsOnDisk t r.node
    → UpToFault identity draw (kept r) start t t []
nothing_read identity draw start t r fresh on =
    record { pieces = []; log = nothing_front (kept r) start; broke = broke_of identity draw (kept r) [] t t r [] (lasts_first identity draw t r fresh on) }

-- ---- the front of the log

module _ (identity : Identity) (draw : Draw) (start after : Option (List ℕ)) (t : Option Story) (r : code_replaying.Replaying) (fresh : IsFresh r) (on : IsOnDisk t r.node) where
  abbrev at_place : ℕ
  at_place = r.pos

  same_place : r.pos ≡ (kept r).place.pos
  same_place = ap (λ (p : LogPlace). p.pos) fresh.stands.place

  module _ (leads : FrontLeads) where
    -- the log is reached at the replica's place
    pub under_first : ReadsFront r.pos start after None → (reader : Reader) → reader ≡ begun_at r.pos → Under identity draw (kept r) start after t t reader r []
    under_first reads reader is =
        let at : ReadsFront (kept r).place.pos start after None = subst (λ (n : ℕ). ReadsFront n start after None) same_place reads in
        let here : reader ≡ begun_at (kept r).place.pos = is ∙ ap begun_at same_place in
        let there : r.pos ≡ next_pos (begun_at r.pos) = omega arith in
        record {
          pieces = [];
          behind = subst (λ (x : Reader). Behind (read_by (kept r)) start after [] x) (sym here) (leads (kept r).place.pos start after None at);
          running = refl;
          stands = fresh.stands;
          ready = λ unclosed. subst (λ (x : Reader). IsReady r (next_pos x)) (sym is) (subst (IsReady r) there (begins_ready r fresh reads.finds.1));
          lasts = lasts_first identity draw t r fresh on;
        }

    -- or it is damaged before
    pub damaged_first : (pos : ℕ) → ReadsFront r.pos start after (Some pos) → ComesTo (LogDamaged pos) identity draw (kept r) start after t t r []
    damaged_first pos reads = record {
      pieces = [];
      log = leads (kept r).place.pos start after (Some pos) (subst (λ (n : ℕ). ReadsFront n start after (Some pos)) same_place reads);
      running = refl;
      stands = fresh.stands;
      lasts = lasts_first identity draw t r fresh on;
    }

pub under_marked : (identity : Identity) (draw : Draw) (from : Replica) (start left : Option (List ℕ)) (t u : Option Story) (reader : Reader) (r : code_replaying.Replaying) (marks : List Mark) → marks ≡ []
    → Under identity draw from start left t u reader r [] → Under identity draw from start left t u reader r marks
under_marked identity draw from start left t u reader r marks none under = subst (λ (ms : List Mark). Under identity draw from start left t u reader r ms) (sym none) under

-- ---- what is kept of one group more

module _ (identity : Identity) (draw : Draw) (from : Replica) (pieces : List Piece) (p : Piece) (t u v : Option Story) (r : code_replaying.Replaying) (marks more : List Mark)
    (lasts : Lasts identity draw from pieces t u r marks) (s behind : Replay) (before : all_replayed identity draw pieces (replay_by from) ≡ s)
    (then : all_replayed identity draw (pieces ++ p ∷ []) (replay_by from) ≡ behind) (goes : GoesOn u v) (stands : Stands r s) where
  abbrev grown : List Piece
  grown = pieces ++ p ∷ []

  abbrev P : Held → Type 0
  P = IsBehind identity draw from pieces

  abbrev Q : Held → Type 0
  Q = IsBehind identity draw from grown

  abbrev replayed_to : List Piece → Held
  replayed_to ps = held_in (all_replayed identity draw ps (replay_by from))

  longer : length grown ≡ length pieces + 1
  longer = length-append pieces (p ∷ [])

  front_in : (h : Held) → P h → Q h
  front_in h state = record {
    first = state.first;
    within = let le = state.within in omega (arith, longer, le);
    is = state.is ∙ ap replayed_to (sym (take-append-le state.first pieces (p ∷ []) state.within));
  }

  either_in : (h : Held) → IsEither s behind h → Q h
  either_in h (inl is) = record {
    first = length pieces;
    within = omega (arith, longer);
    is = is ∙ ap held_in (sym before)
        ∙ ap replayed_to (sym (take-append-le (length pieces) pieces (p ∷ []) (omega arith) ∙ take_all (length pieces) pieces (omega arith)));
  }
  either_in h (inr is) = record {
    first = length grown;
    within = omega arith;
    is = is ∙ ap held_in (sym then) ∙ ap replayed_to (sym (take_all (length grown) grown (omega arith)));
  }

  was : CallsFit v → CarriesTo Q t u (held_of from) (held_of (kept r)) [] marks
  was fit = carries_to_widen P Q t u (held_of from) (held_of (kept r)) [] marks front_in (lasts.carries (fit_before u v goes fit))

  holds_before : held_in s ≡ held_of (kept r)
  holds_before = sym (held_kept (kept r) s stands.keeps)

  pub lasts_more : (r' : code_replaying.Replaying) → Stands r' behind → GroupKept u v r r' s behind first_mark marks more → Lasts identity draw from grown t v r' more
  lasts_more r' there group_kept = record {
    on = group_kept.on;
    goes = on_trans t u v lasts.goes goes;
    carries = λ fit.
        carries_join Q t u v (held_of from) (held_of (kept r)) (held_of (kept r')) [] marks more (was fit)
        (carries_to_widen (IsEither s behind) Q u v (held_of (kept r)) (held_of (kept r')) marks more either_in
        (subst (λ (h : Held). CarriesTo (IsEither s behind) u v (held_of (kept r)) h marks more) (sym (held_kept (kept r') behind there.keeps))
        (subst (λ (h : Held). CarriesTo (IsEither s behind) u v h (held_in behind) marks more) holds_before (group_kept.runs fit))));
    marked = marks_more from.number r.count (kept r).number marks lasts.marked (kept r').number more group_kept.pushed r'.count group_kept.counted;
  }

  pub broke_more : GroupBroke u v r s behind first_mark marks more → Broke identity draw from grown t v more
  broke_more broke = record {
    goes = on_trans t u v lasts.goes goes;
    carries = λ fit.
        carries_behind Q t u v (held_of from) (held_of (kept r)) [] marks more (was fit)
        (carries_widen (IsEither s behind) Q u v (held_of (kept r)) marks more either_in
        (subst (λ (h : Held). Carries (IsEither s behind) u v h marks more) holds_before (broke.runs fit)));
    named = named_all from.number r.count (kept r).number marks lasts.marked broke.number more broke.pushed;
  }

-- ---- the groups, one after the other

module _ (leads : CallsLead) (fronts : FrontsAreKnown) (identity : Identity) (draw : Draw) (from : Replica) (start before after : Option (List ℕ)) (t u : Option Story) (old new : Reader)
    (r : code_replaying.Replaying) (marks : List Mark) (under : Under identity draw from start before t u old r marks) where
  -- reading stopped
  pub at_fault : UpToFault identity draw from start t u marks
  at_fault = record {
    pieces = under.pieces;
    log = fronts (read_by from) start before under.pieces old under.behind;
    broke = broke_of identity draw from under.pieces t u r marks under.lasts;
  }

  -- ---- no more groups

  pub at_end : Reads old new before after found.End → Through ended identity draw from start t u r marks × IsEnd after
  at_end reads = (
    record {
      pieces = under.pieces;
      log = leads (read_by from) start before after under.pieces old new found.End under.behind reads;
      running = under.running;
      stands = under.stands;
      lasts = under.lasts;
    },
    reads.finds.1,
  )

  pub at_damage : (pos : ℕ) → Reads old new before after (found.Damaged pos) → ComesTo (LogDamaged pos) identity draw from start after t u r marks
  at_damage pos reads = record {
    pieces = under.pieces;
    log = leads (read_by from) start before after under.pieces old new (found.Damaged pos) under.behind reads;
    running = under.running;
    stands = under.stands;
    lasts = under.lasts;
  }

  pub at_foreign : (pos kind : ℕ) → Reads old new before after (found.Foreign pos kind) → ComesTo (LogForeign pos kind) identity draw from start after t u r marks
  at_foreign pos kind reads = record {
    pieces = under.pieces;
    log = leads (read_by from) start before after under.pieces old new (found.Foreign pos kind) under.behind reads;
    running = under.running;
    stands = under.stands;
    lasts = under.lasts;
  }

  -- ---- one group more

  module _ (reads : Reads old new before after found.Group) where
    abbrev led : LeadsTo (read_by from) start after under.pieces new found.Group
    led = leads (read_by from) start before after under.pieces old new found.Group under.behind reads

    abbrev more : Group
    more = led.0

    abbrev all : List Piece
    all = under.pieces ++ piece_read new more ∷ []

    abbrev state : Replay
    state = all_replayed identity draw under.pieces (replay_by from)

    same_group : (g : Group) → group g ≡ group more → g ≡ more
    same_group g e = cc

    taken_more : IsWhole new.bytes new.begin more × (new.closed ≡ names_next more.form)
    taken_more =
        let taken = taken_is old new reads.taken reads.finds in
        let same : taken.0 ≡ more = same_group taken.0 (sym taken.1.reads ∙ led.1) in
        subst (λ (g : Group). IsWhole new.bytes new.begin g × (new.closed ≡ names_next g.form)) same (taken.1, taken.3)

    abbrev behind : Replay
    behind = by_form identity draw more state more.form

    all_is : all_replayed identity draw all (replay_by from) ≡ behind
    all_is = one_more identity draw under.pieces (piece_read new more) (replay_by from) state refl refl under.running

    module _ (r' : code_replaying.Replaying) (v : Option Story) (goes : GoesOn u v) (pushed : List Mark) where
      group_lasts : Stands r' behind → GroupKept u v r r' state behind first_mark marks pushed → Lasts identity draw from all t v r' pushed
      group_lasts there group_kept =
          lasts_more identity draw from under.pieces (piece_read new more) t u v r marks pushed under.lasts state behind refl all_is goes under.stands r' there group_kept

      group_broke : GroupBroke u v r state behind first_mark marks pushed → UpToFault identity draw from start t v pushed
      group_broke broke = record {
        pieces = all;
        log = fronts (read_by from) start after all new led.2;
        broke = broke_more identity draw from under.pieces (piece_read new more) t u v r marks pushed under.lasts state behind refl all_is goes under.stands broke;
      }

      pub under_more : Leads identity draw new r r' Done → Leaves identity draw new u v r r' marks pushed Done → Under identity draw from start after t v new r' pushed
      under_more went kept_so =
          let on = went more state taken_more.0 under.stands under.running in
          record {
            pieces = all;
            behind = led.2;
            running = ap (λ (s : Replay). s.stop) all_is ∙ on.running;
            stands = subst (Stands r') (sym all_is) on.stands;
            ready = λ unclosed. on.ready (sym taken_more.1 ∙ unclosed);
            lasts = group_lasts on.stands (kept_so more state taken_more.0 under.stands under.running);
          }

      stops_by : (status : Status) → IsStop status → Went status r' behind (names_next more.form) (next_pos new) → KeptBy status u v r r' state behind first_mark marks pushed
          → ComesTo status identity draw from start after t v r' pushed
      stops_by Done stop went kept_so = absurd stop
      stops_by BadWords stop went kept_so = absurd went
      stops_by (BadScript at) stop went kept_so = absurd went
      stops_by ReadFault stop went kept_so = absurd stop
      stops_by WriteFault stop went kept_so = absurd went
      stops_by SourceDisk stop went kept_so = absurd went
      stops_by ReplicaDisk stop went kept_so = group_broke kept_so
      stops_by (SourceDamaged file at) stop went kept_so = absurd went
      stops_by (ReplicaDamaged file at) stop went kept_so = absurd went
      stops_by (LogDamaged pos) stop went kept_so = absurd went
      stops_by (LogForeign pos kind) stop went kept_so = absurd went
      stops_by (Differs pos code table key) stop went kept_so = record {
        pieces = all;
        log = fronts (read_by from) start after all new led.2;
        stopped = ap (λ (s : Replay). s.stop) all_is ∙ went.stopped;
        stands = subst (Stands r') (sym all_is) went.stands;
        lasts = group_lasts went.stands kept_so;
      }
      stops_by NoMemory stop went kept_so = group_broke kept_so

      pub stops_more : (status : Status) → IsStop status → Leads identity draw new r r' status → Leaves identity draw new u v r r' marks pushed status
          → ComesTo status identity draw from start after t v r' pushed
      stops_more status stop went kept_so =
          stops_by status stop (went more state taken_more.0 under.stands under.running) (kept_so more state taken_more.0 under.stands under.running)

-- a stop is no fault of the input, and no end
pub no_fault : (A P : Type 0) (r : Result A Status) (status : Status) → r ≡ Err status → IsStop status → r ≡ Err ReadFault → P
no_fault A P r status is stop e = let same : status ≡ ReadFault = cc in absurd (subst IsStop same stop)

pub no_end : (A P : Type 0) (r : Result A Status) (status : Status) → r ≡ Err status → IsStop status → status_of r ≡ Done → P
no_end A P r status is stop e = let same : status ≡ Done = sym (ap status_of is) ∙ e in absurd (subst IsStop same stop)

-- what a call found is known by its case
pub found_is : (old new : Reader) (before after : Option (List ℕ)) (f f' : Found) → f ≡ f' → Reads old new before after f → Reads old new before after f'
found_is old new before after f f' is reads = subst (Reads old new before after) is reads
