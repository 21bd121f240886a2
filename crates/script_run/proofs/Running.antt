-- Commands, one after the other.
use Rattle.std.proofs.Common.{◌≡◌, inl, inr, ◌<◌, ◌≤◌, ℕ, ◌+◌, zero, suc, Bool, true, false, List, [], ◌∷◌, ◌++◌, length, map, Option, Some, None, Result, Ok, Err, IfOk, IfSome, OnOk, OnErr, IfErr, refl, sym, ap, ◌∙◌, subst, append_assoc, append-nil, arith, length-append, get_or}
use Rattle.std.proofs.lemmas.List.{length-map}
use Rattle.std.proofs.lemmas.Option.{slice_get-get_or}
use Rattle.std.specs.Prelude.{◌^◌, slice_get}
use Rattle.port_traits.specs.declared.identity.Draw.{Draw}
use Rattle.answer_text.specs.declared.report.Mark.{Mark}
use Rattle.answer_text.specs.declared.report.Report.{Report}
use Rattle.answer_text.specs.declared.status.Status.{Status}
use Rattle.answer_text.specs.declared.status.Status.TheVariants.{Done, BadWords, BadScript, ReadFault, WriteFault, SourceDisk, ReplicaDisk, SourceDamaged, ReplicaDamaged, LogDamaged, LogForeign, Differs, NoMemory}
use Rattle.fault_counts.specs.Causes.{Rose}
use Rattle.disk_model.specs.Story.{Story, seen}
use Rattle.run_stores.specs.durable_runs.Laws.{SourcesLast}
use Rattle.run_stores.specs.durable_runs.Replicas.{Carries, IsCarried}
use Rattle.run_stores.specs.durable_runs.Runs.{CallsFit}
use Rattle.run_stores.specs.durable_runs.Sources.{Stored}
use Rattle.durable_replica.proofs.of_store_replica.of_durable_runs.States.{carries_marks}
use Rattle.run_laws.specs.log_entries.declared.entries.Entry.{Entry}
use Rattle.run_laws.specs.session_model.Machine.{Whole}
use Rattle.run_stores.specs.Carried.{AllSound, CarriedOnTheWay, FollowersAreServed, ImagesHaveCarried, StatesHaveCarried}
use Rattle.run_stores.specs.Standing.{StandAt}
use Rattle.run_laws.specs.session_replays.Followed.{EntriesFollow}
use Rattle.store_model.specs.Held.{Held}
use Rattle.durable_replica.specs.replica_node.Kept.{held_of}
use Rattle.durable_replica.specs.replica_node.replica_model.Replica.{Replica}
use Rattle.run_laws.specs.run_model.Asked.{Asked, say, select, take_bytes, take_groups, checkpoint_source, checkpoint_replica, restart_source, restart_replica}
use Rattle.run_laws.specs.run_model.Run.{Names, Both, Starts, both_from, next, end_of, told_lines, lines_shown, draws_of, kept_if, draws_source, draws_replica, mark_at, last_mark, number_before, place_before, source_from}
use Rattle.run_laws.specs.run_model.Following.{Follows}
use Rattle.run_laws.specs.Laws.{GoesThrough, IsLoggedAsSet, IsSound, OfEach}
use Rattle.run_laws.specs.Openings.{Begins}
use Rattle.run_streams.specs.Reports.{first_mark}
use Rattle.run_streams.specs.Stops.{StopsWriting}
use Rattle.run_streams.specs.Wrote.{Wrote, WroteFront}
use Rattle.run_streams.proofs.Writing.{wrote_nothing, wrote_more}
use Rattle.script_run.specs.declared.nodes.Nodes.{Nodes}
use Rattle.script_run.specs.Beginning.{FromEach, ReplicaWasDamaged, SourceWasDamaged, StoodFor}
use Rattle.disk_model.specs.Moments.{GoesOn}
use Rattle.script_run.specs.Disks.{BothGoOn, Disks, Faults, NoFewer, Stores, stores_in}
use Rattle.script_run.specs.Faults.{RefusesNodes, RefusesOpening, StopsCommands, StopsRunning, status_by}
use Rattle.script_run.specs.declared.stops.Refusal.{Refusal}
use Rattle.script_run.specs.declared.stops.Refusal.TheVariants as refusals
use Rattle.script_run.specs.Marks.{AreMarks, CalledNow, Numbers, Pushed, command_marks, committed_of, marks_of, numbers_behind, numbers_of, uncounted}
use Rattle.script_run.specs.Together.{Before, Began, Together, Drew, GaveUp, Grew, CarriedOut, Marked, Told, ToldFront, Stopped, Opened}
use Rattle.script_run.specs.Ran.{Reports, Ran, Broke, Ceased, NotBegun}
use Rattle.script_run.specs.Running.{Going, Ends, EndsRunning}
use Rattle.script_run.specs.Survives.{CarriedSince, CarriesOn, HasCarriedPrefix, CarriesSome, IsHeldOf, Lasted, LastsOn, NamesAll, NamesOn, ReplicaRecovers, ServedSince, Survives}
use Rattle.script_run.proofs.Recovering.{recovers_by, served_begins, served_more}
use Rattle.script_run.proofs.Surviving.{carried_next, carried_some, fits_before, on_some, rep_survives_by, rep_survives_since, survives_by}
use Rattle.script_run.proofs.Beginning.{each_from}
use Rattle.script_run.proofs.Disks.{both_trans, if_told, where_told}
use Rattle.script_run.proofs.Generations.{AreTold, RaisedNow, both_still, more_now, none_now}
use Rattle.script_run.proofs.Marks.{called_last, called_within, marks_begin, marks_last, marks_on, no_marks, numbers_are}

-- what the laws say of disks, and of what a replica has carried out
pub record Lasting : Type 0 where
  pub sources : SourcesLast
  pub states : StatesHaveCarried
  pub way : CarriedOnTheWay
  pub served : FollowersAreServed
  pub images : ImagesHaveCarried

-- ---- no draw yet

no_draws : (p : Asked → Bool) (cs : List Asked) → draws_of p cs [] ≡ []
no_draws p [] = refl
no_draws p (c ∷ cs) = refl

no_lines : (names : Names) (b : Both) (k : ℕ) (cs : List Asked) → lines_shown names b k cs [] ≡ []
no_lines names b k [] = refl
no_lines names b k (c ∷ cs) = refl

no_mark : (names : Names) (b : Both) (k : ℕ) (cs : List Asked) (before : Mark) → last_mark names b k cs [] before ≡ before
no_mark names b k [] before = refl
no_mark names b k (c ∷ cs) before = refl

-- ---- one draw more

kept_append : (b : Bool) (x : Draw) (ds es : List Draw) → kept_if b x (ds ++ es) ≡ kept_if b x ds ++ es
kept_append true x ds es = refl
kept_append false x ds es = refl

draws_last : (p : Asked → Bool) (cs : List Asked) (ds : List Draw) (d : Draw) (c : Asked) → slice_get cs (length ds) ≡ Some c
    → draws_of p cs (ds ++ d ∷ []) ≡ draws_of p cs ds ++ kept_if (p c) d []
draws_last p [] ds d c is = cc
draws_last p (x ∷ cs) [] d c is = let same : x ≡ c = cc in ap (kept_if (p x) d) (no_draws p cs) ∙ ap (λ y. kept_if (p y) d []) same
draws_last p (x ∷ cs) (y ∷ ds) d c is = ap (kept_if (p x) y) (draws_last p cs ds d c is) ∙ kept_append (p x) y (draws_of p cs ds) (kept_if (p c) d [])

end_last : (names : Names) (b : Both) (cs : List Asked) (ds : List Draw) (d : Draw) (c : Asked) → slice_get cs (length ds) ≡ Some c
    → end_of names b cs (ds ++ d ∷ []) ≡ (next names (end_of names b cs ds) c d).both
end_last names b [] ds d c is = cc
end_last names b (x ∷ cs) [] d c is = let same : x ≡ c = cc in end_none (next names b x d).both cs ∙ ap (λ y. (next names b y d).both) same
  where
    end_none : (b : Both) (cs : List Asked) → end_of names b cs [] ≡ b
    end_none b [] = refl
    end_none b (c ∷ cs) = refl
end_last names b (x ∷ cs) (y ∷ ds) d c is = end_last names (next names b x y).both cs ds d c is

lines_last : (names : Names) (b : Both) (k : ℕ) (cs : List Asked) (ds : List Draw) (d : Draw) (c : Asked) → slice_get cs (length ds) ≡ Some c
    → lines_shown names b k cs (ds ++ d ∷ []) ≡ lines_shown names b k cs ds ++ told_lines (k + length ds) (next names (end_of names b cs ds) c d).told
lines_last names b k [] ds d c is = cc
lines_last names b k (x ∷ cs) [] d c is =
    let same : x ≡ c = cc in
    let here : k + 0 ≡ k = omega arith in
    ap (λ rest. told_lines k (next names b x d).told ++ rest) (no_lines names (next names b x d).both (k + 1) cs) ∙ append-nil (told_lines k (next names b x d).told)
    ∙ ap (λ y. told_lines k (next names b y d).told) same ∙ ap (λ n. told_lines n (next names b c d).told) (sym here)
lines_last names b k (x ∷ cs) (y ∷ ds) d c is =
    let there : k + 1 + length ds ≡ k + suc (length ds) = omega arith in
    ap (λ rest. told_lines k (next names b x y).told ++ rest) (lines_last names (next names b x y).both (k + 1) cs ds d c is)
    ∙ sym (append_assoc (told_lines k (next names b x y).told) (lines_shown names (next names b x y).both (k + 1) cs ds) (told_lines (k + 1 + length ds) (next names (end_of names (next names b x y).both cs ds) c d).told))
    ∙ ap (λ n. lines_shown names b k (x ∷ cs) (y ∷ ds) ++ told_lines n (next names (end_of names (next names b x y).both cs ds) c d).told) there

mark_last : (names : Names) (b : Both) (k : ℕ) (cs : List Asked) (ds : List Draw) (d : Draw) (c : Asked) (before : Mark) → slice_get cs (length ds) ≡ Some c
    → last_mark names b k cs (ds ++ d ∷ []) before ≡ mark_at (k + length ds) (end_of names b cs ds)
mark_last names b k [] ds d c before is = cc
mark_last names b k (x ∷ cs) [] d c before is =
    let here : k + 0 ≡ k = omega arith in
    no_mark names (next names b x d).both (k + 1) cs (mark_at k b) ∙ ap (λ n. mark_at n b) (sym here)
mark_last names b k (x ∷ cs) (y ∷ ds) d c before is =
    let there : k + 1 + length ds ≡ k + suc (length ds) = omega arith in
    mark_last names (next names b x y).both (k + 1) cs ds d c (mark_at k b) is ∙ ap (λ n. mark_at n (end_of names (next names b x y).both cs ds)) there

-- ---- what holds of each command

each_none : (P : Both → Asked → Draw → Type 0) (names : Names) (b : Both) (cs : List Asked) → OfEach P names b cs []
each_none P names b [] = tt
each_none P names b (c ∷ cs) = tt

each_last : (P : Both → Asked → Draw → Type 0) (names : Names) (b : Both) (cs : List Asked) (ds : List Draw) (d : Draw) (c : Asked) → slice_get cs (length ds) ≡ Some c → OfEach P names b cs ds
    → P (end_of names b cs ds) c d → OfEach P names b cs (ds ++ d ∷ [])
each_last P names b [] ds d c is before here = cc
each_last P names b (x ∷ cs) [] d c is before here =
    let same : x ≡ c = cc in (subst (λ (y : Asked). P b y d) (sym same) here, each_none P names (next names b x d).both cs)
each_last P names b (x ∷ cs) (y ∷ ds) d c is before here = (before.0, each_last P names (next names b x y).both cs ds d c is before.1 here)

-- ---- where a run began

-- no command changes it
next_from : (names : Names) (b : Both) (c : Asked) (d : Draw) → (next names b c d).both.from ≡ b.from
next_from names b (say n text) d = refl
next_from names b (select text) d = refl
next_from names b (take_bytes n) d = refl
next_from names b (take_groups n) d = refl
next_from names b checkpoint_source d = refl
next_from names b checkpoint_replica d = refl
next_from names b restart_source d = refl
next_from names b restart_replica d = refl

pub end_from : (names : Names) (b : Both) (cs : List Asked) (ds : List Draw) → (end_of names b cs ds).from ≡ b.from
end_from names b [] ds = refl
end_from names b (c ∷ cs) [] = refl
end_from names b (c ∷ cs) (d ∷ ds) = end_from names (next names b c d).both cs ds ∙ next_from names b c d

-- ---- the report

-- one draw more, with the marks of its command
told_on : (names : Names) (src rep : Draw) (from : Starts) (t u v : Disks) (cs : List Asked) (ds : List Draw) (d : Draw) (c : Asked) (old new : Report) → slice_get cs (length ds) ≡ Some c
    → BothGoOn t u → BothGoOn u v → Began (1 + length ds) (end_of names (both_from names src from) cs ds) u new
    → Marked (1 + length ds) (end_of names (both_from names src from) cs ds) (next names (end_of names (both_from names src from) cs ds) c d).both old new
    → Reports names src rep from t u cs ds old → Drew c d old new → Reports names src rep from t v cs (ds ++ d ∷ []) new
told_on names src rep from t u v cs ds d c old new is first second began marked told drew =
    let start : Both = both_from names src from in
    let b : Both = end_of names start cs ds in
    let these : List Mark = marks_of names start 1 cs ds in
    let b' : Both = (next names b c d).both in
    let on : AreMarks (numbers_of start) (numbers_behind (numbers_of b) marked.commits marked.groups) (these ++ command_marks (mark_at (1 + length ds) b) marked.commits marked.groups) new.marks =
    marks_on (numbers_of start) (numbers_of b) marked.commits marked.groups (mark_at (1 + length ds) b) these old.marks new.marks refl refl began.few told.marks marked.pushed in
    let numbers : numbers_behind (numbers_of b) marked.commits marked.groups ≡ numbers_of (end_of names start cs (ds ++ d ∷ [])) =
    numbers_are b b' marked.commits marked.groups marked.number marked.applied ∙ ap numbers_of (sym (end_last names start cs ds d c is)) in
    record {
      source = drew.source ∙ told.source;
      replica = drew.replica ∙ told.replica;
      src_draws = drew.src_draws ∙ ap (λ xs. xs ++ kept_if (draws_source c) d []) told.src_draws ∙ ap (λ xs. src ∷ xs) (sym (draws_last draws_source cs ds d c is));
      rep_draws = drew.rep_draws ∙ ap (λ xs. xs ++ kept_if (draws_replica c) d []) told.rep_draws ∙ ap (λ xs. rep ∷ xs) (sym (draws_last draws_replica cs ds d c is));
      now = began.now ∙ sym (mark_last names start 1 cs ds d c first_mark is);
      calls = called_last t.source v.source ds d new.now.src_calls (called_within t.source u.source v.source new.now.src_calls first.source second.source began.calls);
      rep_calls = called_last t.replica v.replica ds d new.now.rep_calls (called_within t.replica u.replica v.replica new.now.rep_calls first.replica second.replica began.rep_calls);
      marks = subst (λ (n : Numbers). AreMarks (numbers_of start) n (marks_of names start 1 cs (ds ++ d ∷ [])) new.marks) numbers
          (subst (λ (ms : List Mark). AreMarks (numbers_of start) (numbers_behind (numbers_of b) marked.commits marked.groups) ms new.marks)
          (sym (marks_last names start 1 marked.commits marked.groups cs ds d c is marked.number marked.carried)) on);
    }

pub grew_none : (report : Report) → Grew report report
grew_none report = record {
  source = refl;
  replica = refl;
  src_more = [];
  rep_more = [];
  src_draws = sym (append-nil report.src_draws);
  rep_draws = sym (append-nil report.rep_draws);
}

pub grew_more : (old mid new : Report) → Grew old mid → Grew mid new → Grew old new
grew_more old mid new first second = record {
  source = second.source ∙ first.source;
  replica = second.replica ∙ first.replica;
  src_more = first.src_more ++ second.src_more;
  rep_more = first.rep_more ++ second.rep_more;
  src_draws = second.src_draws ∙ ap (λ ds. ds ++ second.src_more) first.src_draws ∙ append_assoc old.src_draws first.src_more second.src_more;
  rep_draws = second.rep_draws ∙ ap (λ ds. ds ++ second.rep_more) first.rep_draws ∙ append_assoc old.rep_draws first.rep_more second.rep_more;
}

-- ---- a run goes on

end_none : (names : Names) (b : Both) (cs : List Asked) → end_of names b cs [] ≡ b
end_none names b [] = refl
end_none names b (c ∷ cs) = refl

-- a source is sound before a command
abbrev SoundBefore : Both → Asked → Draw → Type 0
SoundBefore before c draw = IsSound before.from before.machine

-- before any command the states are those of no command
since_none : (t u : Option Story) (names : Names) (b : Both) (cs : List Asked) (marks : List Mark) → CarriedSince t u names b [] [] b.replica marks → CarriedSince t u names b cs [] b.replica marks
since_none t u names b [] marks since = since
since_none t u names b (c ∷ cs) marks since = since

pub starts : Lasting → (from : Starts) (t u : Disks) (cs : List Asked) (report : Report) (before : Option (List ℕ)) (nodes : Nodes) → Opened from t u nodes report → Going from t u cs 0 report before before nodes
starts law from t u cs report before nodes opened =
    let b : Both = both_from opened.names opened.src from in
    let generations : RaisedNow t u cs [] report.marks =
    none_now t u cs opened.src_first opened.rep_first report.marks opened.marks opened.on opened.began opened.rep_began opened.at in
    record {
      names = opened.names;
      src = opened.src;
      rep = opened.rep;
      draws = [];
      count_is = refl;
      told = record {
        source = opened.source;
        replica = opened.replica;
        src_draws = opened.src_draws ∙ ap (λ ds. opened.src ∷ ds) (sym (no_draws draws_source cs));
        rep_draws = opened.rep_draws ∙ ap (λ ds. opened.rep ∷ ds) (sym (no_draws draws_replica cs));
        now = ap uncounted opened.stays ∙ sym (no_mark opened.names b 1 cs first_mark);
        calls = ap (λ (m : Mark). m.src_calls) opened.stays;
        rep_calls = ap (λ (m : Mark). m.rep_calls) opened.stays;
        marks = subst (λ (ms : List Mark). AreMarks (numbers_of b) (numbers_of (end_of opened.names b cs [])) (marks_of opened.names b 1 cs []) ms) (sym opened.marks)
            (subst (λ (ms : List Mark). AreMarks (numbers_of b) (numbers_of (end_of opened.names b cs [])) ms []) (sym (no_marks opened.names b 1 cs))
            (subst (λ (e : Both). AreMarks (numbers_of b) (numbers_of e) [] []) (sym (end_none opened.names b cs)) (marks_begin (numbers_of b))));
      };
      wrote = subst (λ (l : List ℕ). Wrote before before l) (sym (no_lines opened.names b 1 cs)) (wrote_nothing before);
      unstopped = λ begins. each_none (GoesThrough opened.names) opened.names b cs;
      formats = each_none (IsLoggedAsSet opened.names) opened.names b cs;
      followed = opened.together.follows;
      sounds = λ begins. each_none SoundBefore opened.names b cs;
      on = opened.on;
      held = opened.held;
      holds = opened.holds;
      rep_holds = opened.rep_holds;
      lasts = subst (λ (e : Both). Lasted t.source u.source (stores_in t opened.held (held_of from.replica)).source e.machine.history report.marks) (sym (end_none opened.names b cs)) opened.lasts;
      carries = subst (λ (e : Both). CarriedSince t.replica u.replica opened.names b cs [] e.replica report.marks) (sym (end_none opened.names b cs))
          (since_none t.replica u.replica opened.names b cs report.marks opened.carries);
      serves = λ begins fits. subst (λ (e : Both). ServedSince t.replica u.replica (source_from from).committed (committed_of e) report.marks) (sym (end_none opened.names b cs))
          (served_begins law.served opened.names opened.src from t.replica u.replica report.marks (opened.together.follows begins) begins opened.together.holds opened.carries fits);
      raised = generations.raised;
      at = generations.at;
      together = subst (λ (e : Both). Together opened.names u (stores_in t opened.held (held_of from.replica)) nodes e) (sym (end_none opened.names b cs)) opened.together;
    }

-- a run that began as one may has come to where the same is known of it
pub from_there : (names : Names) (src : Draw) (from : Starts) (cs : List Asked) (ds : List Draw) → Begins from → Begins (end_of names (both_from names src from) cs ds).from
from_there names src from cs ds begins = subst Begins (sym (end_from names (both_from names src from) cs ds)) begins

-- no mark says more calls than the disks have had, as runs from the start say
are_told : Lasting → (t v : Disks) (start : Stored) (es : List (Entry Whole)) (State : Held → Type 0) (held : Held) (marks : List Mark) → Lasted t.source v.source start es marks
    → (CallsFit v.replica → Carries State t.replica v.replica held [] marks) → AreTold v marks
are_told law t v start es State held marks lasts carries = record {
  source = λ fits. law.sources.behind t.source v.source start es marks (lasts fits);
  replica = λ fits. carries_marks State t.replica v.replica held marks (carries fits);
}

pub goes_on : Lasting → (from : Starts) (t u v : Disks) (cs : List Asked) (i k : ℕ) (c : Asked) (old new : Report) (before now after : Option (List ℕ)) (nodes nodes' : Nodes) → slice_get cs i ≡ Some c → k ≡ i + 1
    → Going from t u cs i old before now nodes → ((names : Names) (start : Stores) (b : Both) → Together names u start nodes b → Told names b k c u v start old new nodes' now after)
    → Going from t v cs (i + 1) new before after nodes'
goes_on law from t u v cs i k c old new before now after nodes nodes' is k_is going step =
    let names = going.names in
    let ds = going.draws in
    let first : Both = both_from names going.src from in
    let b : Both = end_of names first cs ds in
    let start : Stores = stores_in t going.held (held_of from.replica) in
    let told = step names start b going.together in
    let here : slice_get cs (length ds) ≡ Some c = ap (slice_get cs) going.count_is ∙ is in
    let number : k ≡ 1 + length ds = omega (arith, k_is, going.count_is) in
    let b' : Both = (next names b c told.draw).both in
    let all_told : AreTold v new.marks = are_told law t v start.source b'.machine.history (IsHeldOf names first cs (ds ++ told.draw ∷ [])) (held_of first.replica) new.marks (told.lasts t.source going.lasts)
    (λ fits. (carried_next names first cs ds told.draw c here t.replica u.replica v.replica old.marks new.marks told.on.replica going.carries told.carries fits).carries) in
    let generations : RaisedNow t v cs (ds ++ told.draw ∷ []) new.marks =
    more_now t u v cs ds told.draw c (mark_at k b) told.marked.commits told.marked.groups old.marks new.marks going.raised going.at here going.on told.on (omega (arith, number)) told.marked.pushed all_told told.raises in
    record {
      names = names;
      src = going.src;
      rep = going.rep;
      draws = ds ++ told.draw ∷ [];
      count_is = length-append ds (told.draw ∷ []) ∙ ap (λ n. n + 1) going.count_is;
      told = told_on names going.src going.rep from t u v cs ds told.draw c old new here going.on told.on (subst (λ (n : ℕ). Began n b u new) number told.began)
          (subst (λ (n : ℕ). Marked n b b' old new) number told.marked) going.told told.drew;
      wrote = subst (λ (l : List ℕ). Wrote before after l) (sym (lines_last names first 1 cs ds told.draw c here))
          (wrote_more before now after (lines_shown names first 1 cs ds) (told_lines (1 + length ds) (next names b c told.draw).told) going.wrote
          (subst (λ (n : ℕ). Wrote now after (told_lines n (next names b c told.draw).told)) number told.wrote));
      unstopped = λ begins. each_last (GoesThrough names) names first cs ds told.draw c here (going.unstopped begins) (told.through (from_there names going.src from cs ds begins));
      formats = each_last (IsLoggedAsSet names) names first cs ds told.draw c here going.formats told.logged;
      followed = going.followed;
      sounds = λ begins. each_last SoundBefore names first cs ds told.draw c here (going.sounds begins) (going.together.sound (from_there names going.src from cs ds begins));
      on = both_trans t u v going.on told.on;
      held = going.held;
      holds = going.holds;
      rep_holds = going.rep_holds;
      lasts = subst (λ (e : Both). Lasted t.source v.source start.source e.machine.history new.marks) (sym (end_last names first cs ds told.draw c here)) (told.lasts t.source going.lasts);
      carries = subst (λ (e : Both). CarriedSince t.replica v.replica names first cs (ds ++ told.draw ∷ []) e.replica new.marks) (sym (end_last names first cs ds told.draw c here))
          (carried_next names first cs ds told.draw c here t.replica u.replica v.replica old.marks new.marks told.on.replica going.carries told.carries);
      serves = λ begins fits.
          let there : Begins b.from = from_there names going.src from cs ds begins in
          let so_far : ServedSince t.replica u.replica (source_from from).committed (committed_of b) old.marks = going.serves begins (fits_before u.replica v.replica told.on.replica fits) in
          record {
            served = served_more law.way names b c told.draw t.replica u.replica v.replica (source_from from).committed old.marks new.marks told.marked.pushed.more start.source (held_of from.replica) going.on.replica told.on.replica
                told.marked.pushed.marks (going.together.follows there) (going.together.sound there) there going.together.began (going.serves begins)
                (on_some u.replica v.replica names b c told.draw old.marks new.marks told.carries) fits;
            named_all = subst (λ (e : Both). NamesAll v.replica (source_from from).committed (committed_of e) new.marks) (sym (end_last names first cs ds told.draw c here))
                (told.all_named (source_from from).committed fits so_far.named_all);
          };
      raised = generations.raised;
      at = generations.at;
      together = subst (λ (e : Both). Together names v start nodes' e) (sym (end_last names first cs ds told.draw c here)) told.together;
    }

-- ---- what the replica has carried out

has_carried : StatesHaveCarried → (names : Names) (src : Draw) (from : Starts) (cs : List Asked) (ds : List Draw) (source : Stored) → Follows names (both_from names src from) → AllSound names (both_from names src from) cs ds → Begins from
    → StandAt source (held_of from.replica) from → HasCarriedPrefix names src from cs ds
has_carried law names src from cs ds source follows sounds begins stand held state =
    let first : Both = both_from names src from in
    let begun : (end_of names first cs ds).from ≡ from = end_from names first cs ds in
    subst (λ (h : Held). IsCarried EntriesFollow (held_of from.replica) (from.owed ++ (end_of names first cs ds).machine.history) (number_before from.read) (place_before from.read) h) (sym state.1.1)
    (subst (λ (x : Starts). IsCarried EntriesFollow (held_of from.replica) (x.owed ++ (end_of names first cs ds).machine.history) (number_before x.read) (place_before x.read) (held_of state.0)) begun
    (law names first cs ds source (held_of from.replica) state.0 follows sounds begins stand state.1.0))

-- where the run began
stood_at : (from : Starts) (t u : Disks) (cs : List Asked) (count : ℕ) (report : Report) (before now : Option (List ℕ)) (nodes : Nodes) (going : Going from t u cs count report before now nodes)
    → StandAt (stores_in t going.held (held_of from.replica)).source (held_of from.replica) from
stood_at from t u cs count report before now nodes going =
    subst (λ (x : Starts). StandAt (stores_in t going.held (held_of from.replica)).source (held_of from.replica) x) (end_from going.names (both_from going.names going.src from) cs going.draws) going.together.began

-- through the commands until now, and through one more
carried_now : Lasting → (from : Starts) (t u : Disks) (cs : List Asked) (count : ℕ) (report : Report) (before now : Option (List ℕ)) (nodes : Nodes) (going : Going from t u cs count report before now nodes)
    → Begins from → HasCarriedPrefix going.names going.src from cs going.draws
carried_now law from t u cs count report before now nodes going begins =
    has_carried law.states going.names going.src from cs going.draws (stores_in t going.held (held_of from.replica)).source (going.followed begins) (going.sounds begins) begins
    (stood_at from t u cs count report before now nodes going)

carried_more : Lasting → (from : Starts) (t u : Disks) (cs : List Asked) (count : ℕ) (report : Report) (before now : Option (List ℕ)) (nodes : Nodes) (going : Going from t u cs count report before now nodes) (d : Draw) (c : Asked)
    → slice_get cs (length going.draws) ≡ Some c → Begins from → HasCarriedPrefix going.names going.src from cs (going.draws ++ d ∷ [])
carried_more law from t u cs count report before now nodes going d c here begins =
    has_carried law.states going.names going.src from cs (going.draws ++ d ∷ []) (stores_in t going.held (held_of from.replica)).source (going.followed begins)
    (each_last SoundBefore going.names (both_from going.names going.src from) cs going.draws d c here (going.sounds begins) (going.together.sound (from_there going.names going.src from cs going.draws begins))) begins
    (stood_at from t u cs count report before now nodes going)

-- and each image of the replica's disk, through one command more
recovered_more : Lasting → (from : Starts) (t u v : Disks) (cs : List Asked) (count : ℕ) (old new : Report) (before now : Option (List ℕ)) (nodes : Nodes) (going : Going from t u cs count old before now nodes) (d : Draw) (c : Asked)
    → slice_get cs (length going.draws) ≡ Some c → GoesOn u.replica v.replica → (more : List Mark) → new.marks ≡ old.marks ++ more
    → CarriesSome u.replica v.replica going.names (end_of going.names (both_from going.names going.src from) cs going.draws) c d old.marks new.marks
    → Begins from → ReplicaRecovers going.names going.src from cs (going.draws ++ d ∷ []) t.replica v.replica new.marks
recovered_more law from t u v cs count old new before now nodes going d c here on more is carries begins =
    let names = going.names in
    let ds = going.draws in
    let first : Both = both_from names going.src from in
    let b : Both = end_of names first cs ds in
    let source : Stored = (stores_in t going.held (held_of from.replica)).source in
    let there : Begins b.from = from_there names going.src from cs ds begins in
    recovers_by law.images names going.src from cs (ds ++ d ∷ []) source t.replica v.replica new.marks (end_from names first cs (ds ++ d ∷ [])) (going.followed begins)
    (each_last SoundBefore names first cs ds d c here (going.sounds begins) (going.together.sound there)) begins (stood_at from t u cs count old before now nodes going)
    (carried_some names first cs ds d c here t.replica u.replica v.replica old.marks new.marks on going.carries carries)
    (λ fits. served_more law.way names b c d t.replica u.replica v.replica (source_from from).committed old.marks new.marks more source (held_of from.replica) going.on.replica on is
    (going.together.follows there) (going.together.sound there) there going.together.began (going.serves begins) carries fits)

-- ---- a run stops

ceased : Lasting → (from : Starts) (t u v : Disks) (cs : List Asked) (i k : ℕ) (c : Asked) (old new : Report) (before now after : Option (List ℕ)) (nodes : Nodes) → slice_get cs i ≡ Some c → k ≡ i + 1 → after ≡ now → Grew old new
    → (going : Going from t u cs i old before now nodes) → GaveUp going.names (end_of going.names (both_from going.names going.src from) cs going.draws) k c u v (stores_in t going.held (held_of from.replica)) old new
    → Ceased from t v cs new before after
ceased law from t u v cs i k c old new before now after nodes is k_is same grew going left =
    let names = going.names in
    let ds = going.draws in
    let first : Both = both_from names going.src from in
    let b : Both = end_of names first cs ds in
    let number : k ≡ 1 + length ds = omega (arith, k_is, going.count_is) in
    let began : Began (1 + length ds) b u new = subst (λ (n : ℕ). Began n b u new) number left.began in
    let here : slice_get cs (length ds) ≡ Some c = ap (slice_get cs) going.count_is ∙ is in
    let pushed : Pushed (mark_at (1 + length ds) b) left.commits left.groups old.marks new.marks = subst (λ (n : ℕ). Pushed (mark_at n b) left.commits left.groups old.marks new.marks) number left.pushed in
    record {
      names = names;
      src = going.src;
      rep = going.rep;
      draws = ds;
      command = c;
      command_is = ap (slice_get cs) going.count_is ∙ is;
      source = grew.source ∙ going.told.source;
      replica = grew.replica ∙ going.told.replica;
      src_more = grew.src_more;
      rep_more = grew.rep_more;
      src_draws = grew.src_draws ∙ ap (λ xs. xs ++ grew.src_more) going.told.src_draws;
      rep_draws = grew.rep_draws ∙ ap (λ xs. xs ++ grew.rep_more) going.told.rep_draws;
      wrote = subst (λ (w : Option (List ℕ)). Wrote before w (lines_shown names first 1 cs ds)) (sym same) going.wrote;
      unstopped = going.unstopped;
      formats = going.formats;
      now = began.now;
      calls = called_within t.source u.source v.source new.now.src_calls going.on.source left.on.source began.calls;
      rep_calls = called_within t.replica u.replica v.replica new.now.rep_calls going.on.replica left.on.replica began.rep_calls;
      kept = left.commits;
      groups = left.groups;
      marks = marks_on (numbers_of first) (numbers_of b) left.commits left.groups (mark_at (1 + length ds) b) (marks_of names first 1 cs ds) old.marks new.marks refl refl began.few going.told.marks pushed;
      put = left.put;
      may = left.may;
      survives = survives_by law.sources t.source v.source going.held left.put new.marks going.holds left.begins (left.lasts t.source going.lasts);
      at = left.at;
      rep_survives = rep_survives_by (IsHeldOf names first cs (ds ++ left.at ∷ [])) t.replica v.replica (held_of from.replica) new.marks going.rep_holds
          (carried_some names first cs ds left.at c here t.replica u.replica v.replica old.marks new.marks left.on.replica going.carries left.carries);
      carried = carried_more law from t u cs i old before now nodes going left.at c here;
      recovers = recovered_more law from t u v cs i old new before now nodes going left.at c here left.on.replica left.pushed.more left.pushed.marks left.carries;
      raised = both_still t u v cs ds (mark_at k b) left.commits left.groups old.marks new.marks (omega (arith, number)) left.on left.pushed going.raised;
    }

broke : Lasting → (from : Starts) (t u v : Disks) (cs : List Asked) (i k : ℕ) (c : Asked) (old new : Report) (before now after : Option (List ℕ)) (nodes : Nodes) → slice_get cs i ≡ Some c → k ≡ i + 1
    → (going : Going from t u cs i old before now nodes) → ToldFront going.names (end_of going.names (both_from going.names going.src from) cs going.draws) k c u v (stores_in t going.held (held_of from.replica)) old new now after
    → Broke from t v cs new before after
broke law from t u v cs i k c old new before now after nodes is k_is going told =
    let names = going.names in
    let ds = going.draws in
    let first : Both = both_from names going.src from in
    let b : Both = end_of names first cs ds in
    let here : slice_get cs (length ds) ≡ Some c = ap (slice_get cs) going.count_is ∙ is in
    let number : k ≡ 1 + length ds = omega (arith, k_is, going.count_is) in
    let b' : Both = (next names b c told.draw).both in
    let all_told : AreTold v new.marks = are_told law t v (stores_in t going.held (held_of from.replica)).source b'.machine.history (IsHeldOf names first cs (ds ++ told.draw ∷ [])) (held_of first.replica) new.marks (told.lasts t.source going.lasts)
    (λ fits. (carried_next names first cs ds told.draw c here t.replica u.replica v.replica old.marks new.marks told.on.replica going.carries told.carries fits).carries) in
    let generations : RaisedNow t v cs (ds ++ told.draw ∷ []) new.marks =
    more_now t u v cs ds told.draw c (mark_at k b) told.marked.commits told.marked.groups old.marks new.marks going.raised going.at here going.on told.on (omega (arith, number)) told.marked.pushed all_told told.raises in
    record {
      names = names;
      src = going.src;
      rep = going.rep;
      draws = ds;
      last = told.draw;
      command = c;
      command_is = here;
      told = told_on names going.src going.rep from t u v cs ds told.draw c old new here going.on told.on (subst (λ (n : ℕ). Began n b u new) number told.began)
          (subst (λ (n : ℕ). Marked n b b' old new) number told.marked) going.told told.drew;
      between = now;
      wrote = going.wrote;
      front = subst (λ (n : ℕ). WroteFront now after (told_lines n (next names b c told.draw).told)) number told.wrote;
      unstopped = λ begins. each_last (GoesThrough names) names first cs ds told.draw c here (going.unstopped begins) (told.through (from_there names going.src from cs ds begins));
      formats = each_last (IsLoggedAsSet names) names first cs ds told.draw c here going.formats told.logged;
      survives = subst (λ (e : Both). Survives t.source v.source e.machine.history new.marks) (sym (end_last names first cs ds told.draw c here))
          (survives_by law.sources t.source v.source going.held b'.machine.history new.marks going.holds told.begins (told.lasts t.source going.lasts));
      rep_survives = rep_survives_since t.replica v.replica names first cs (ds ++ told.draw ∷ []) b'.replica new.marks going.rep_holds
          (carried_next names first cs ds told.draw c here t.replica u.replica v.replica old.marks new.marks told.on.replica going.carries told.carries);
      carried = carried_more law from t u cs i old before now nodes going told.draw c here;
      recovers = recovered_more law from t u v cs i old new before now nodes going told.draw c here told.on.replica told.marked.pushed.more told.marked.pushed.marks
          (on_some u.replica v.replica names b c told.draw old.marks new.marks told.carries);
      raised = generations.raised;
      at = generations.at;
    }

stops_by : Lasting → (status : Status) (from : Starts) (t u v : Disks) (cs : List Asked) (i k : ℕ) (c : Asked) (old new : Report) (before now after : Option (List ℕ)) (nodes : Nodes) → slice_get cs i ≡ Some c → k ≡ i + 1 → Grew old new
    → (going : Going from t u cs i old before now nodes) → Stopped status going.names (end_of going.names (both_from going.names going.src from) cs going.draws) k c u v (stores_in t going.held (held_of from.replica)) old new now after → Ends status from t v cs new before after
stops_by law Done from t u v cs i k c old new before now after nodes is k_is grew going stopped = stopped
stops_by law BadWords from t u v cs i k c old new before now after nodes is k_is grew going stopped = stopped
stops_by law (BadScript at) from t u v cs i k c old new before now after nodes is k_is grew going stopped = stopped
stops_by law ReadFault from t u v cs i k c old new before now after nodes is k_is grew going stopped = stopped
stops_by law WriteFault from t u v cs i k c old new before now after nodes is k_is grew going stopped = broke law from t u v cs i k c old new before now after nodes is k_is going stopped
stops_by law SourceDisk from t u v cs i k c old new before now after nodes is k_is grew going stopped = ceased law from t u v cs i k c old new before now after nodes is k_is stopped.0 grew going stopped.1
stops_by law ReplicaDisk from t u v cs i k c old new before now after nodes is k_is grew going stopped = ceased law from t u v cs i k c old new before now after nodes is k_is stopped.0 grew going stopped.1
stops_by law (SourceDamaged file at) from t u v cs i k c old new before now after nodes is k_is grew going stopped = stopped
stops_by law (ReplicaDamaged file at) from t u v cs i k c old new before now after nodes is k_is grew going stopped = stopped
stops_by law (LogDamaged pos) from t u v cs i k c old new before now after nodes is k_is grew going stopped = stopped
stops_by law (LogForeign pos kind) from t u v cs i k c old new before now after nodes is k_is grew going stopped = stopped
stops_by law (Differs pos code table key) from t u v cs i k c old new before now after nodes is k_is grew going stopped = stopped
stops_by law NoMemory from t u v cs i k c old new before now after nodes is k_is grew going stopped = ceased law from t u v cs i k c old new before now after nodes is k_is stopped.0 grew going stopped.1

pub stops : Lasting → (r : Result (Unit {0}) Status) (from : Starts) (t u v : Disks) (cs : List Asked) (i k : ℕ) (c : Asked) (old new : Report) (before now after : Option (List ℕ)) (nodes : Nodes) → slice_get cs i ≡ Some c → k ≡ i + 1 → Grew old new
    → Going from t u cs i old before now nodes → ((names : Names) (start : Stores) (b : Both) → Together names u start nodes b → IfErr r (λ status. Stopped status names b k c u v start old new now after))
    → IfErr r (λ status. Ends status from t v cs new before after)
stops law (Ok done) from t u v cs i k c old new before now after nodes is k_is grew going stopped = tt
stops law (Err status) from t u v cs i k c old new before now after nodes is k_is grew going stopped =
    stops_by law status from t u v cs i k c old new before now after nodes is k_is grew going (stopped going.names (stores_in t going.held (held_of from.replica)) (end_of going.names (both_from going.names going.src from) cs going.draws) going.together)

-- ---- a run ends

ends : Lasting → (from : Starts) (t u : Disks) (cs : List Asked) (report : Report) (before after : Option (List ℕ)) (nodes : Nodes) → Going from t u cs (length cs) report before after nodes → Ran from t u cs report before after
ends law from t u cs report before after nodes going =
    let names = going.names in
    let first : Both = both_from names going.src from in
    let b : Both = end_of names first cs going.draws in
    let begun : b.from ≡ from = end_from names first cs going.draws in
    record {
      names = names;
      src = going.src;
      rep = going.rep;
      draws = going.draws;
      count = going.count_is;
      told = going.told;
      wrote = going.wrote;
      unstopped = going.unstopped;
      formats = going.formats;
      sound = λ begins. subst (λ (x : Starts). IsSound x b.machine) begun (going.together.sound (from_there names going.src from cs going.draws begins));
      begun = begun;
      survives = survives_by law.sources t.source u.source going.held b.machine.history report.marks going.holds going.together.stands.first going.lasts;
      rep_survives = rep_survives_since t.replica u.replica names first cs going.draws b.replica report.marks going.rep_holds going.carries;
      carried = carried_now law from t u cs (length cs) report before after nodes going;
      recovers = λ begins. recovers_by law.images names going.src from cs going.draws (stores_in t going.held (held_of from.replica)).source t.replica u.replica report.marks begun (going.followed begins) (going.sounds begins) begins
          (stood_at from t u cs (length cs) report before after nodes going) (λ fits. (going.carries fits).carries) (λ fits. (going.serves begins fits).served);
      raised = going.raised;
      at = going.at;
      follows = λ begins. going.together.follows (from_there names going.src from cs going.draws begins);
    }

-- all commands, as they were counted
all_going : Lasting → {A : Type 0} (seen : A → Asked) (xs : List A) (from : Starts) (t u : Disks) (report : Report) (before after : Option (List ℕ)) (nodes : Nodes) → Going from t u (map seen xs) (length xs) report before after nodes
    → Ran from t u (map seen xs) report before after
all_going law seen xs from t u report before after nodes going =
    let count : length xs ≡ length (map seen xs) = sym (simp length-map) in
    ends law from t u (map seen xs) report before after nodes (subst (λ (n : ℕ). Going from t u (map seen xs) n report before after nodes) count going)

pub all_ran : Lasting → {A : Type 0} (r : Result (Unit {0}) Status) (seen : A → Asked) (xs : List A) (t u v : Disks) (old new : Report) (before after : Option (List ℕ)) (nodes nodes' : Nodes) → FromEach t (λ from. Opened from t u nodes old)
    → ((from : Starts) (t : Disks) → Opened from t u nodes old → OnOk r (Going from t v (map seen xs) (length xs) new before after nodes'))
    → OnOk r (FromEach t (λ from. Ran from t v (map seen xs) new before after))
all_ran law (Err status) seen xs t u v old new before after nodes nodes' opened going = tt
all_ran law (Ok done) seen xs t u v old new before after nodes nodes' opened going =
    each_from t (λ from. Opened from t u nodes old) (λ from. Ran from t v (map seen xs) new before after)
    (λ from o. all_going law seen xs from t v new before after nodes' (going from t o)) opened

-- ---- why commands stopped

rose_since : (before mid now : ℕ) → before ≤ mid → Rose mid now → Rose before now
rose_since before mid now later rose = omega (arith, later, rose)

-- a disk that went on telling was told before
never_before : (t u : Option Story) → GoesOn t u → IfSome u (λ _. ⊥) → IfSome t (λ _. ⊥)
never_before None u on never = tt
never_before (Some s) None on never = absurd on
never_before (Some s) (Some r) on never = never

-- in a later command
stops_since_by : (status : Status) (t u : Disks) (write wrote then : ℕ) (disk looked later : Faults) → BothGoOn t u → write ≤ wrote → NoFewer disk looked → StopsRunning status u wrote then looked later → StopsRunning status t write then disk later
stops_since_by Done t u write wrote then disk looked later on first second stops = stops
stops_since_by BadWords t u write wrote then disk looked later on first second stops = stops
stops_since_by (BadScript at) t u write wrote then disk looked later on first second stops = stops
stops_since_by ReadFault t u write wrote then disk looked later on first second stops = stops
stops_since_by WriteFault t u write wrote then disk looked later on first second stops = rose_since write wrote then first stops
stops_since_by SourceDisk t u write wrote then disk looked later on first second stops = rose_since disk.source looked.source later.source second.source stops
stops_since_by ReplicaDisk t u write wrote then disk looked later on first second stops = rose_since disk.replica looked.replica later.replica second.replica stops
stops_since_by (SourceDamaged file at) t u write wrote then disk looked later on first second stops = never_before t.source u.source on.source stops
stops_since_by (ReplicaDamaged file at) t u write wrote then disk looked later on first second stops = never_before t.replica u.replica on.replica stops
stops_since_by (LogDamaged pos) t u write wrote then disk looked later on first second stops = stops
stops_since_by (LogForeign pos kind) t u write wrote then disk looked later on first second stops = stops
stops_since_by (Differs pos code table key) t u write wrote then disk looked later on first second stops = stops
stops_since_by NoMemory t u write wrote then disk looked later on first second stops = stops

pub stops_since : (r : Result (Unit {0}) Status) (t u : Disks) (write wrote then : ℕ) (disk looked later : Faults) → BothGoOn t u → write ≤ wrote → NoFewer disk looked → IfErr r (λ status. StopsRunning status u wrote then looked later)
    → IfErr r (λ status. StopsRunning status t write then disk later)
stops_since (Ok done) t u write wrote then disk looked later on first second stops = tt
stops_since (Err status) t u write wrote then disk looked later on first second stops = stops_since_by status t u write wrote then disk looked later on first second stops

-- nodes that refused, as a status
pub refused_stops : (refusal : Refusal) (t : Disks) (write then : ℕ) (disk later : Faults) → RefusesNodes refusal t disk later → StopsRunning (status_by refusal) t write then disk later
refused_stops refusals.SourceDisk t write then disk later refuses = refuses
refused_stops refusals.ReplicaDisk t write then disk later refuses = refuses
refused_stops (refusals.SourceDamaged file at) t write then disk later refuses = refuses
refused_stops (refusals.ReplicaDamaged file at) t write then disk later refuses = refuses
refused_stops refusals.NoMemory t write then disk later refuses = refuses

-- writing that stopped
pub write_stops : (r : Result (Unit {0}) Status) (t : Disks) (write then : ℕ) (disk later : Faults) → IfErr r (λ status. status ≡ WriteFault) → IfErr r (λ status. StopsWriting status write then) → IfErr r (λ status. StopsRunning status t write then disk later)
write_stops (Ok done) t write then disk later fault stops = tt
write_stops (Err status) t write then disk later fault stops =
    subst (λ (s : Status). StopsRunning s t write then disk later) (sym fault) (subst (λ (s : Status). StopsWriting s write then) fault stops)

-- an opening, and commands behind it, by why they stopped
commands_stop_by : (status : Status) (t : Disks) (write then : ℕ) (disk mid later : Faults) → NoFewer disk mid → StopsRunning status t write then mid later → StopsCommands status write then disk later
commands_stop_by Done t write then disk mid later before stops = stops
commands_stop_by BadWords t write then disk mid later before stops = stops
commands_stop_by (BadScript at) t write then disk mid later before stops = stops
commands_stop_by ReadFault t write then disk mid later before stops = stops
commands_stop_by WriteFault t write then disk mid later before stops = stops
commands_stop_by SourceDisk t write then disk mid later before stops = rose_since disk.source mid.source later.source before.source stops
commands_stop_by ReplicaDisk t write then disk mid later before stops = rose_since disk.replica mid.replica later.replica before.replica stops
commands_stop_by (SourceDamaged file at) t write then disk mid later before stops = tt
commands_stop_by (ReplicaDamaged file at) t write then disk mid later before stops = tt
commands_stop_by (LogDamaged pos) t write then disk mid later before stops = stops
commands_stop_by (LogForeign pos kind) t write then disk mid later before stops = stops
commands_stop_by (Differs pos code table key) t write then disk mid later before stops = stops
commands_stop_by NoMemory t write then disk mid later before stops = stops

pub commands_stop : (r : Result (Unit {0}) Status) (t : Disks) (write then : ℕ) (disk mid later : Faults) → NoFewer disk mid → IfErr r (λ status. StopsRunning status t write then mid later) → IfErr r (λ status. StopsCommands status write then disk later)
commands_stop (Ok done) t write then disk mid later before stops = tt
commands_stop (Err status) t write then disk mid later before stops = commands_stop_by status t write then disk mid later before stops

pub opening_stops : (refusal : Refusal) (t : Disks) (write then : ℕ) (disk later : Faults) → RefusesOpening refusal t disk later → StopsCommands (status_by refusal) write then disk later
opening_stops refusals.SourceDisk t write then disk later refuses = refuses
opening_stops refusals.ReplicaDisk t write then disk later refuses = refuses
opening_stops (refusals.SourceDamaged file at) t write then disk later refuses = tt
opening_stops (refusals.ReplicaDamaged file at) t write then disk later refuses = tt
opening_stops refusals.NoMemory t write then disk later refuses = tt

-- ---- a run that stopped

-- where both disks' stories are told the claims are those of them
ends_each : (cs : List Asked) (t u v : Disks) (old new : Report) (before after : Option (List ℕ)) (nodes : Nodes) (Came : Starts → Type 0) → FromEach t (λ from. Opened from t u nodes old) → StoodFor t
    → ((from : Starts) → Opened from t u nodes old → Came from) → StoodFor t × FromEach t Came
ends_each cs t u v old new before after nodes Came opened stood came = (stood, each_from t (λ from. Opened from t u nodes old) Came came opened)

-- what never comes where a disk tells
never_told : (t u : Option Story) (P : Type 0) → GoesOn t u → IfSome u (λ _. ⊥) → IfSome t (λ _. P)
never_told None u P on never = tt
never_told (Some s) None P on never = absurd on
never_told (Some s) (Some r) P on never = absurd never

-- by its status, from wherever it began
stopped_by_status : (status : Status) (cs : List Asked) (t u v : Disks) (old new : Report) (before after : Option (List ℕ)) (nodes : Nodes) (write then : ℕ) (disk later : Faults) → FromEach t (λ from. Opened from t u nodes old) → StoodFor t
    → BothGoOn t u → StopsRunning status u write then disk later → ((from : Starts) → Opened from t u nodes old → Ends status from t v cs new before after) → EndsRunning status t v cs new before after
stopped_by_status Done cs t u v old new before after nodes write then disk later opened stood goes stop came = stop
stopped_by_status BadWords cs t u v old new before after nodes write then disk later opened stood goes stop came = stop
stopped_by_status (BadScript at) cs t u v old new before after nodes write then disk later opened stood goes stop came = stop
stopped_by_status ReadFault cs t u v old new before after nodes write then disk later opened stood goes stop came = stop
stopped_by_status WriteFault cs t u v old new before after nodes write then disk later opened stood goes stop came =
    ends_each cs t u v old new before after nodes (λ from. Broke from t v cs new before after) opened stood came
stopped_by_status SourceDisk cs t u v old new before after nodes write then disk later opened stood goes stop came =
    inr (ends_each cs t u v old new before after nodes (λ from. Ceased from t v cs new before after) opened stood came)
stopped_by_status ReplicaDisk cs t u v old new before after nodes write then disk later opened stood goes stop came =
    inr (ends_each cs t u v old new before after nodes (λ from. Ceased from t v cs new before after) opened stood came)
stopped_by_status (SourceDamaged file at) cs t u v old new before after nodes write then disk later opened stood goes stop came =
    never_told t.source u.source (SourceWasDamaged t.source (record { file = file; at = at }) × NotBegun t v new before after) goes.source stop
stopped_by_status (ReplicaDamaged file at) cs t u v old new before after nodes write then disk later opened stood goes stop came =
    never_told t.replica u.replica (ReplicaWasDamaged t.replica (record { file = file; at = at }) × NotBegun t v new before after) goes.replica stop
stopped_by_status (LogDamaged pos) cs t u v old new before after nodes write then disk later opened stood goes stop came = stop
stopped_by_status (LogForeign pos kind) cs t u v old new before after nodes write then disk later opened stood goes stop came = stop
stopped_by_status (Differs pos code table key) cs t u v old new before after nodes write then disk later opened stood goes stop came = stop
stopped_by_status NoMemory cs t u v old new before after nodes write then disk later opened stood goes stop came =
    inr (ends_each cs t u v old new before after nodes (λ from. Ceased from t v cs new before after) opened stood came)

pub all_stopped : (r : Result (Unit {0}) Status) (cs : List Asked) (t u v : Disks) (old new : Report) (before after : Option (List ℕ)) (nodes : Nodes) (write then : ℕ) (disk later : Faults) → FromEach t (λ from. Opened from t u nodes old) → StoodFor t
    → BothGoOn t u → IfErr r (λ status. StopsRunning status u write then disk later)
    → ((from : Starts) (t : Disks) → Opened from t u nodes old → IfErr r (λ status. Ends status from t v cs new before after)) → IfErr r (λ status. EndsRunning status t v cs new before after)
all_stopped (Ok done) cs t u v old new before after nodes write then disk later opened stood goes stop came = tt
all_stopped (Err status) cs t u v old new before after nodes write then disk later opened stood goes stop came =
    stopped_by_status status cs t u v old new before after nodes write then disk later opened stood goes stop (λ from o. came from t o)

-- nodes that were not opened
pub not_opened : (refusal : Refusal) (cs : List Asked) (t u : Disks) (report : Report) (before after : Option (List ℕ)) (disk later : Faults) → RefusesOpening refusal t disk later → NotBegun t u report before after
    → EndsRunning (status_by refusal) t u cs report before after
not_opened refusals.SourceDisk cs t u report before after disk later refuses none = inl none
not_opened refusals.ReplicaDisk cs t u report before after disk later refuses none = inl none
not_opened (refusals.SourceDamaged file at) cs t u report before after disk later refuses none =
    if_told t.source (SourceWasDamaged t.source (record { file = file; at = at }) × NotBegun t u report before after) (refuses, none)
not_opened (refusals.ReplicaDamaged file at) cs t u report before after disk later refuses none =
    if_told t.replica (ReplicaWasDamaged t.replica (record { file = file; at = at }) × NotBegun t u report before after) (refuses, none)
not_opened refusals.NoMemory cs t u report before after disk later refuses none = inl none

-- ---- one command

-- the draw of a command that began by setting the mark
since : (old mid new : Report) (now : Mark) (c : Asked) (d : Draw) → mid ≡ record old { now = now } → Drew c d mid new → Drew c d old new
since old mid new now c d began drew = record {
  source = drew.source ∙ ap (λ (r : Report). r.src_identity) began;
  replica = drew.replica ∙ ap (λ (r : Report). r.rep_identity) began;
  src_draws = drew.src_draws ∙ ap (λ (r : Report). r.src_draws ++ kept_if (draws_source c) d []) began;
  rep_draws = drew.rep_draws ∙ ap (λ (r : Report). r.rep_draws ++ kept_if (draws_replica c) d []) began;
}

-- and its marks
since_pushed : (old mid : Report) (new : List Mark) (now at : Mark) (commits groups : ℕ) → mid ≡ record old { now = now } → Pushed at commits groups mid.marks new → Pushed at commits groups old.marks new
since_pushed old mid new now at commits groups began pushed = subst (λ (ms : List Mark). Pushed at commits groups ms new) (ap (λ (r : Report). r.marks) began) pushed

pub before_by : (names : Names) (t : Disks) (start : Stores) (nodes : Nodes) (k : ℕ) (b : Both) (old mid : Report) (now : Mark) → mid ≡ record old { now = now } → Together names t start nodes b
    → uncounted now ≡ mark_at k b → CalledNow t.source now.src_calls → CalledNow t.replica now.rep_calls → Before names t start nodes k b mid
before_by names t start nodes k b old mid now is together numbers calls rep_calls = record {
  together = together;
  began = record {
    now = ap (λ (r : Report). uncounted r.now) is ∙ numbers;
    few = subst (λ (x : Replica). x.number < 2 ^ 64) together.replica together.replica_on.on.fits;
    calls = subst (λ (r : Report). CalledNow t.source r.now.src_calls) (sym is) calls;
    rep_calls = subst (λ (r : Report). CalledNow t.replica r.now.rep_calls) (sym is) rep_calls;
  };
}

pub lined_if : {E : Type 0} (r : Result (List ℕ) E) (names : Names) (b : Both) (k : ℕ) (c : Asked) (t u : Disks) (start : Stores) (old mid new : Report) (now : Mark) (nodes : Nodes) → mid ≡ record old { now = now }
    → IfOk r (λ lines. CarriedOut names b k c t u start mid new nodes lines) → IfOk r (λ lines. CarriedOut names b k c t u start old new nodes lines)
lined_if (Err e) names b k c t u start old mid new now nodes is out = tt
lined_if (Ok lines) names b k c t u start old mid new now nodes is out = record {
  draw = out.draw;
  drew = since old mid new now c out.draw is out.drew;
  began = out.began;
  marked = record {
    commits = out.marked.commits;
    groups = out.marked.groups;
    pushed = since_pushed old mid new.marks now (mark_at k b) out.marked.commits out.marked.groups is out.marked.pushed;
    number = out.marked.number;
    carried = out.marked.carried;
    applied = out.marked.applied;
  };
  lasts = subst (λ (ms : List Mark). LastsOn t.source u.source start.source b.machine.history (next names b c out.draw).both.machine.history ms new.marks) (ap (λ (r : Report). r.marks) is) out.lasts;
  carries = subst (λ (ms : List Mark). CarriesOn t.replica u.replica names b c out.draw ms new.marks) (ap (λ (r : Report). r.marks) is) out.carries;
  all_named = subst (λ (ms : List Mark). NamesOn t.replica u.replica (committed_of b) (committed_of (next names b c out.draw).both) ms new.marks) (ap (λ (r : Report). r.marks) is) out.all_named;
  raises = out.raises;
  shows = out.shows;
}

pub left_if : {E : Type 0} (r : Result (List ℕ) E) (names : Names) (b : Both) (k : ℕ) (c : Asked) (t u : Disks) (start : Stores) (old mid new : Report) (now : Mark) → mid ≡ record old { now = now }
    → OnErr r (GaveUp names b k c t u start mid new) → OnErr r (GaveUp names b k c t u start old new)
left_if (Ok lines) names b k c t u start old mid new now is left = tt
left_if (Err e) names b k c t u start old mid new now is left = record {
  began = left.began;
  commits = left.commits;
  groups = left.groups;
  pushed = since_pushed old mid new.marks now (mark_at k b) left.commits left.groups is left.pushed;
  on = left.on;
  put = left.put;
  may = left.may;
  begins = left.begins;
  lasts = subst (λ (ms : List Mark). LastsOn t.source u.source start.source b.machine.history left.put ms new.marks) (ap (λ (r : Report). r.marks) is) left.lasts;
  at = left.at;
  carries = subst (λ (ms : List Mark). CarriesSome t.replica u.replica names b c left.at ms new.marks) (ap (λ (r : Report). r.marks) is) left.carries;
}

told_all : (names : Names) (b : Both) (k : ℕ) (c : Asked) (t u : Disks) (start : Stores) (old new : Report) (nodes : Nodes) (before after : Option (List ℕ)) (lines : List ℕ) → CarriedOut names b k c t u start old new nodes lines
    → Wrote before after lines → Told names b k c t u start old new nodes before after
told_all names b k c t u start old new nodes before after lines lined wrote = record {
  draw = lined.draw;
  drew = lined.drew;
  began = lined.began;
  marked = lined.marked;
  wrote = subst (λ (l : List ℕ). Wrote before after l) lined.shows.lines_are wrote;
  through = lined.shows.through;
  logged = lined.shows.logged;
  on = lined.shows.on;
  lasts = lined.lasts;
  carries = lined.carries;
  all_named = lined.all_named;
  raises = lined.raises;
  together = lined.shows.together;
}

told_front : (names : Names) (b : Both) (k : ℕ) (c : Asked) (t u : Disks) (start : Stores) (old new : Report) (nodes : Nodes) (before after : Option (List ℕ)) (lines : List ℕ) → CarriedOut names b k c t u start old new nodes lines
    → WroteFront before after lines → ToldFront names b k c t u start old new before after
told_front names b k c t u start old new nodes before after lines lined wrote = record {
  draw = lined.draw;
  drew = lined.drew;
  began = lined.began;
  marked = lined.marked;
  wrote = subst (λ (l : List ℕ). WroteFront before after l) lined.shows.lines_are wrote;
  through = lined.shows.through;
  logged = lined.shows.logged;
  on = lined.shows.on;
  begins = lined.shows.together.stands.first;
  lasts = lined.lasts;
  carries = lined.carries;
  raises = lined.raises;
}

pub told_by : (r : Result (Unit {0}) Status) (names : Names) (b : Both) (k : ℕ) (c : Asked) (t u : Disks) (start : Stores) (old new : Report) (nodes : Nodes) (before after : Option (List ℕ)) (lines : List ℕ)
    → CarriedOut names b k c t u start old new nodes lines → OnOk r (Wrote before after lines) → OnOk r (Told names b k c t u start old new nodes before after)
told_by (Ok done) names b k c t u start old new nodes before after lines lined wrote = told_all names b k c t u start old new nodes before after lines lined wrote
told_by (Err status) names b k c t u start old new nodes before after lines lined wrote = tt

pub stopped_by : (r : Result (Unit {0}) Status) (names : Names) (b : Both) (k : ℕ) (c : Asked) (t u : Disks) (start : Stores) (old new : Report) (nodes : Nodes) (before after : Option (List ℕ)) (lines : List ℕ)
    → CarriedOut names b k c t u start old new nodes lines → IfErr r (λ status. status ≡ WriteFault) → OnErr r (WroteFront before after lines) → IfErr r (λ status. Stopped status names b k c t u start old new before after)
stopped_by (Ok done) names b k c t u start old new nodes before after lines lined fault wrote = tt
stopped_by (Err status) names b k c t u start old new nodes before after lines lined fault wrote =
    subst (λ (s : Status). Stopped s names b k c t u start old new before after) (sym fault) (told_front names b k c t u start old new nodes before after lines lined wrote)

-- a command that the nodes refused
pub refused_by : (refusal : Refusal) (names : Names) (b : Both) (k : ℕ) (c : Asked) (t u : Disks) (start : Stores) (nodes : Nodes) (old new : Report) (before after : Option (List ℕ)) (disk later : Faults) → Together names t start nodes b
    → RefusesNodes refusal t disk later → GaveUp names b k c t u start old new → after ≡ before → Stopped (status_by refusal) names b k c t u start old new before after
refused_by refusals.SourceDisk names b k c t u start nodes old new before after disk later r refuses left same = (same, left)
refused_by refusals.ReplicaDisk names b k c t u start nodes old new before after disk later r refuses left same = (same, left)
refused_by (refusals.SourceDamaged file at) names b k c t u start nodes old new before after disk later r refuses left same = where_told t.source ⊥ r.told.source refuses
refused_by (refusals.ReplicaDamaged file at) names b k c t u start nodes old new before after disk later r refuses left same = where_told t.replica ⊥ r.told.replica refuses
refused_by refusals.NoMemory names b k c t u start nodes old new before after disk later r refuses left same = (same, left)

-- ---- a list's item

item_mapped : {A B : Type 0} (f : A → B) (xs : List A) (i : ℕ) (x : A) → slice_get xs i ≡ Some x → slice_get (map f xs) i ≡ Some (f x)
item_mapped f [] i x is = cc
item_mapped f (y ∷ xs) zero x is = cc
item_mapped f (y ∷ xs) (suc i) x is = item_mapped f xs i x is

-- what an item of some list is seen as stands at its place
pub item_seen : {A B : Type 0} (f : A → B) (xs ys : List A) (i : ℕ) (d : A) → ys ≡ xs → i < length ys → slice_get (map f xs) i ≡ Some (f (get_or ys i d))
item_seen f xs ys i d same within = item_mapped f xs i (get_or ys i d) (ap (λ zs. slice_get zs i) (sym same) ∙ slice_get-get_or ys i d within)

pub mapped_length : {A B : Type 0} (f : A → B) (xs ys : List A) (i : ℕ) → ys ≡ xs → i < length ys → i < length (map f xs)
mapped_length f xs ys i same within =
    let count : length (map f xs) ≡ length xs = simp length-map in omega (arith, within, ap length same, count)
