-- Each step keeps that committed statements give the changes of the entries, and that their texts say them.
use Rattle.std.proofs.Common.{◌≡◌, ◌≢◌, ◌<◌, ℕ, ◌⊎◌, inl, inr, Bool, true, false, ◌==◌, List, [], ◌∷◌, length, Option, Some, None, refl, sym, subst, if◌then◌else◌}
use Rattle.std.proofs.lemmas.List.{get_or-set_same, get_or-set_other}
use Rattle.std.proofs.lemmas.Bool.{eqb-true, eqb-false}
use Rattle.std.specs.Prelude.{slice_index_or, slice_set, replicate}
use Rattle.name_const_laws.specs.catalog_rules.Bases.{Base, empty_base}
use Rattle.answer_text.specs.declared.answer.Answer.{Answer}
use Rattle.session_model.specs.text_answers.Answers.{text_answer}
use Rattle.name_const_laws.specs.sql_meaning.Leading.{StatementsEndWell, EvaluationsEndWell}
use Rattle.name_const_laws.specs.Laws.{ClosedDoesTheSame}
use Rattle.session_model.specs.Sessions.{Open, Session, Shared}
use Rattle.session_model.specs.Running.{Call, Turn, is_other, items_of}
use Rattle.session_model.specs.declared.format.Format.{Format}
use Rattle.name_const_laws.specs.log_entries.declared.entries.Entry.{Entry}
use Rattle.name_const_laws.specs.log_entries.declared.entries.Entry.TheVariants.{LogStart}
use Rattle.session_model.specs.Machine.{Whole, whole, Machine, text_turn, at_work, with_count, session_slots, step}
use Rattle.session_model.specs.Holding.{Owns, format_of, transaction_of, RunsBegin, RunsOpen, RunsGoOn}
use Rattle.session_model.specs.Openings.{opened_from, committed_in, OpeningsHold, RestartsHold}
use Rattle.session_model.proofs.Holding.{none_there, work_owns, work_same}
use Rattle.session_model.proofs.Owning.{not_both}
use Rattle.session_replays.specs.Again.{AllGive}
use Rattle.session_replays.specs.Bodies.{AreWellDefined}
use Rattle.session_replays.specs.Replaying.{ReplaysBegin, ReplaysOpen, ReplaysGoOn, OpeningsReplay, RestartsReplay}
use Rattle.session_replays.specs.Again.{EntriesGive}
use Rattle.session_replays.specs.Texts.{AllSay, EntriesSay}
use Rattle.session_replays.proofs.Closing.{ClosingLaws}
use Rattle.session_replays.proofs.Defining.{catalogs_stay_well, histories_stay_well, well_behind}
use Rattle.session_replays.proofs.Giving.{none_give, entries_behind}
use Rattle.session_replays.proofs.Saying.{Leaves, say_behind, TextLaws}
use Rattle.session_replays.proofs.SayingTurns.{command_leaves}
use Rattle.session_replays.proofs.Sizing.{entries_keep}
use Rattle.session_replays.proofs.Spending.{Spend}
use Rattle.session_replays.proofs.Turning.{command_kept}

-- for a session of another number: the base stays, or it has no item
other_gives : (n k : ℕ) (old : Shared) (base : Base) (format : Format) (t : Option (Open Whole)) → k ≢ n → (base ≡ old.base) ⊎ (is_other n old.writer ≡ false) → Owns k old format t → AllGive old.base [] (items_of t)
    → AllGive base [] (items_of t)
other_gives n k old base format t differ (inl e) o g = subst (λ (b : Base). AllGive b [] (items_of t)) (sym e) g
other_gives n k old base format t differ (inr q) o g = none_give base (items_of t) (o.none (not_both n k old.writer differ q))

each_gives : (n k : ℕ) (old : Shared) (base : Base) (sessions : List (Option (Session Whole))) (session : Session Whole) → n < length sessions → AllGive base [] (items_of session.transaction)
    → (base ≡ old.base) ⊎ (is_other n old.writer ≡ false) → ((j : ℕ) → Owns j old (format_of (slice_index_or sessions j None)) (transaction_of (slice_index_or sessions j None)))
    → ((j : ℕ) → AllGive old.base [] (items_of (transaction_of (slice_index_or sessions j None))))
    → AllGive base [] (items_of (transaction_of (slice_index_or (slice_set sessions n (Some session)) k None)))
each_gives n k old base sessions session within own frame owns each = by (k == n) refl
  where
    by : (b : Bool) → (k == n) ≡ b → AllGive base [] (items_of (transaction_of (slice_index_or (slice_set sessions n (Some session)) k None)))
    by true e =
        subst (λ (j : ℕ). AllGive base [] (items_of (transaction_of (slice_index_or (slice_set sessions n (Some session)) j None)))) (sym (eqb-true k n e))
        (subst (λ (s : Option (Session Whole)). AllGive base [] (items_of (transaction_of s))) (sym (get_or-set_same sessions n (Some session) None within)) own)
    by false e =
        let differ : k ≢ n = eqb-false k n e in
        subst (λ (s : Option (Session Whole)). AllGive base [] (items_of (transaction_of s))) (sym (get_or-set_other sessions n k (Some session) None differ))
        (other_gives n k old base _ _ differ frame (owns k) (each k))

-- items say themselves whatever the base is
each_says : (n k : ℕ) (sessions : List (Option (Session Whole))) (session : Session Whole) → n < length sessions → AllSay (items_of session.transaction)
    → ((j : ℕ) → AllSay (items_of (transaction_of (slice_index_or sessions j None)))) → AllSay (items_of (transaction_of (slice_index_or (slice_set sessions n (Some session)) k None)))
each_says n k sessions session within own each = by (k == n) refl
  where
    by : (b : Bool) → (k == n) ≡ b → AllSay (items_of (transaction_of (slice_index_or (slice_set sessions n (Some session)) k None)))
    by true e =
        subst (λ (j : ℕ). AllSay (items_of (transaction_of (slice_index_or (slice_set sessions n (Some session)) j None)))) (sym (eqb-true k n e))
        (subst (λ (s : Option (Session Whole)). AllSay (items_of (transaction_of s))) (sym (get_or-set_same sessions n (Some session) None within)) own)
    by false e = subst (λ (s : Option (Session Whole)). AllSay (items_of (transaction_of s))) (sym (get_or-set_other sessions n k (Some session) None (eqb-false k n e))) (each k)

pub replays_go_on : StatementsEndWell → EvaluationsEndWell → ClosedDoesTheSame → TextLaws → ClosingLaws → Spend → RunsGoOn → ReplaysGoOn
unfolding step
replays_go_on statements evaluations closes texts laws spend goes_on from m identity n text draw r within short bytes =
    let call : Call Whole = record { identity = identity; draw = draw; number = n; known = whole } in
    let session : Session Whole = at_work call (slice_index_or m.state.sessions n None) in
    let same : session.transaction ≡ transaction_of (slice_index_or m.state.sessions n None) = work_same call (slice_index_or m.state.sessions n None) in
    let own : Owns n m.state.shared session.format session.transaction = work_owns call n m.state.shared (slice_index_or m.state.sessions n None) (r.holds.each n) in
    let open_items : AllGive m.state.shared.base [] (items_of session.transaction) =
    subst (λ (t : Option (Open Whole)). AllGive m.state.shared.base [] (items_of t)) (sym same) (r.open_ones n) in
    let turn : Turn Whole Answer = with_count (text_turn call text (text_answer text) m.state.shared session) in
    let sized = entries_keep m.history from.base m.state.shared.base r.holds.entries r.sizes in
    let bodies = catalogs_stay_well m.history from.base m.state.shared.base r.well r.holds.entries r.bodies in
    let kept = command_kept identity draw n m.state.shared session r.holds.shared own open_items statements evaluations closes laws spend sized bodies text in
    let open_says : AllSay (items_of session.transaction) = subst (λ (t : Option (Open Whole)). AllSay (items_of t)) (sym same) (r.open_say n) in
    let says : Leaves turn = command_leaves identity draw n m.state.shared session open_says texts laws spend sized bodies text short bytes in
    record {
      holds = goes_on from m identity n text draw r.holds within short;
      sizes = r.sizes;
      bodies = r.bodies;
      history = entries_behind m.history turn.committed from.base m.state.shared.base r.history r.holds.entries kept.entries;
      open_ones = λ k. each_gives n k m.state.shared turn.shared.base m.state.sessions turn.session within kept.items kept.frame r.holds.each r.open_ones;
      well = histories_stay_well texts.well m identity n text draw bytes r.well;
      says = say_behind m.history turn.committed r.says says.0;
      open_say = λ k. each_says n k m.state.sessions turn.session within says.1 r.open_say;
    }

-- ---- the beginning

none_open : (base : Base) (n : ℕ) → AllGive base [] (items_of (transaction_of (slice_index_or {A = Option (Session Whole)} (replicate session_slots None) n None)))
none_open base n = subst (λ (s : Option (Session Whole)). AllGive base [] (items_of (transaction_of s))) (sym (none_there session_slots n)) tt

none_say : (n : ℕ) → AllSay (items_of (transaction_of (slice_index_or {A = Option (Session Whole)} (replicate session_slots None) n None)))
none_say n = subst (λ (s : Option (Session Whole)). AllSay (items_of (transaction_of s))) (sym (none_there session_slots n)) tt

pub replays_begin : RunsBegin → ReplaysBegin
replays_begin begins from counters sizes bodies = record {
  holds = begins from counters;
  sizes = sizes;
  bodies = bodies;
  history = tt;
  open_ones = none_open from.base;
  well = tt;
  says = tt;
  open_say = none_say;
}

pub replays_open : RunsOpen → ReplaysOpen
replays_open opens identity draw = record {
  holds = opens identity draw;
  sizes = refl;
  bodies = refl;
  history = (tt, λ next made. tt);
  open_ones = none_open empty_base;
  well = (tt, tt);
  says = tt;
  open_say = none_say;
}

-- ---- a source that opens

-- of the head of a log nothing is asked
record OpeningSays (base : Base) (es : List (Entry Whole)) : Type 0 where
  gives : EntriesGive base es
  well : AreWellDefined es
  says : EntriesSay es

head_says : (stamp server : ℕ) (base : Base) (first : Bool) → OpeningSays base (if first then LogStart stamp server ∷ [] else [])
head_says stamp server base true = record { gives = (tt, λ next made. tt); well = (tt, tt); says = tt }
head_says stamp server base false = record { gives = tt; well = tt; says = tt }

pub openings_replay : OpeningsHold → OpeningsReplay
openings_replay opens identity draw from sizes bodies =
    let head = head_says draw.now identity.server_id from.base (from.place.log == 0) in
    record {
      holds = opens identity draw from;
      sizes = sizes;
      bodies = bodies;
      history = head.gives;
      open_ones = none_open from.base;
      well = head.well;
      says = head.says;
      open_say = none_say;
    }

pub restarts_replay : RestartsHold → RestartsReplay
restarts_replay restarts identity draw from m r =
    let again : Machine = opened_from identity draw (committed_in m) in
    let head = head_says draw.now identity.server_id m.state.shared.base (m.state.shared.place.log == 0) in
    record {
      holds = restarts identity draw from m r.holds;
      sizes = r.sizes;
      bodies = r.bodies;
      history = entries_behind m.history again.history from.base m.state.shared.base r.history r.holds.entries head.gives;
      open_ones = none_open m.state.shared.base;
      well = well_behind m.history again.history r.well head.well;
      says = say_behind m.history again.history r.says head.says;
      open_say = none_say;
    }
