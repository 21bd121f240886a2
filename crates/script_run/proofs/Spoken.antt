-- One command over both nodes.
use Rattle.std.proofs.Common.{◌≡◌, inl, inr, ℕ, ◌+◌, ◌-◌, min, ◌<◌, ◌≤◌, zero, suc, List, [], ◌∷◌, ◌++◌, length, map, Option, Some, None, Result, Ok, Err, IfOk, IfErr, IfSome, OnErr, OnOk, refl, sym, ap, ◌∙◌, subst, arith, append-nil, append_assoc}
use Rattle.std.proofs.lemmas.List.{map-append}
use Rattle.std.specs.Prelude.{◌^◌, replicate}
use Rattle.std.specs.Option.{option_map}
use Rattle.hex.specs.Hex.{IsBytes}
use Rattle.port_traits.specs.declared.identity.Identity.{Identity}
use Rattle.port_traits.specs.declared.identity.Draw.{Draw}
use Rattle.fault_counts.specs.Causes.{Rose}
use Rattle.disk_model.specs.Story.{Story, count}
use Rattle.disk_model.specs.declared.refusals.NodeFault.{NodeFault}
use Rattle.disk_model.specs.declared.refusals.NodeFault.TheVariants as fault
use Rattle.disk_model.specs.declared.refusals.OpenRefusal.{OpenRefusal}
use Rattle.disk_model.specs.declared.refusals.OpenRefusal.TheVariants as opening
use Rattle.script_run.specs.declared.stops.Refusal.{Refusal}
use Rattle.script_run.specs.declared.stops.Refusal.TheVariants as refusals
use Rattle.script_run.specs.Disks.{BothGoOn, Disks, Faults, Stores, disks, faults}
use Rattle.script_run.specs.Faults.{RefusesNodes, RefusesOpening, by_open_replica, by_open_source, by_replica, by_source}
use Rattle.disk_model.specs.Moments.{Each, GoesOn}
use Rattle.disk_model.proofs.Moments.{on_refl}
use Rattle.run_laws.specs.log_model.Log.{EntriesHaveLength, HeadsHaveLength, LogPlace, counted, counted_all, written_to}
use Rattle.answer_text.specs.declared.answer.Answer.{Answer}
use Rattle.answer_text.specs.declared.report.Mark.{Mark}
use Rattle.answer_text.specs.declared.report.Report.{Report}
use Rattle.answer_text.specs.Shown.{shown}
use Rattle.run_laws.specs.log_entry_laws.Entries.{CanLogAll}
use Rattle.run_laws.specs.log_entry_laws.Laws.{EntriesCanLogOn}
use Rattle.run_laws.specs.session_model.Answers.{ok}
use Rattle.run_laws.specs.session_model.Holding.{Beginning, FormatsDecide, Holds, RunsGoOn}
use Rattle.run_laws.specs.session_model.Machine.{Whole, whole, kept_entry, step, Step, Machine, machine_after, log_bytes}
use Rattle.run_laws.specs.session_model.Openings.{RestartsHold, opening_entries, restarted}
use Rattle.run_laws.specs.session_replays.Replaying.{ReplaysGoOn}
use Rattle.durable_source.specs.store_source.Pushed.{ArePushed}
use Rattle.durable_source.proofs.of_store_source.Images.{each_stands as source_each}
use Rattle.durable_replica.specs.store_replica.Pushed.{ArePushed as AppliedPushed}
use Rattle.durable_replica.proofs.of_store_replica.Standings.{each_stands as replica_each}
use Rattle.durable_replica.proofs.of_store_replica.of_durable_runs.States.{carries_none, carries_to_widen, carries_widen}
use Rattle.durable_replica.specs.Standing.{IsOnDisk, IsStateOf}
use Rattle.durable_replica.specs.declared.replica.DurableReplica.{DurableReplica}
use Rattle.durable_source.specs.declared.source.DurableSource.{DurableSource}
use Rattle.durable_source.specs.Standing.{Stands, beginning_of}
use Rattle.durable_replica.specs.replica_node.replica_model.Replica.{Replica, fetched, reopened, want}
use Rattle.durable_replica.specs.replica_node.replica_model.Applying.{Going, apply, go_on, going_from}
use Rattle.durable_replica.specs.replica_node.replica_model.Lines.{applied_line, fetched_line}
use Rattle.durable_replica.specs.replica_node.replica_model.Selecting.{select_answer}
use Rattle.durable_replica.specs.replica_node.declared.told.Applied.{Applied}
use Rattle.durable_replica.specs.replica_node.Kept.{held_of, replica_of}
use Rattle.durable_replica.specs.replica_node.Steps.{IsTold, stop_of}
use Rattle.run_laws.proofs.Committing.{committed_behind, step_puts}
use Rattle.run_laws.proofs.Restarting.{ends_there, written_both}
use Rattle.store_model.specs.Held.{Held}
use Rattle.run_stores.specs.durable_runs.Laws.{HasFirstLog, RunsLast}
use Rattle.run_stores.specs.durable_runs.Runs.{CallsFit}
use Rattle.run_stores.specs.durable_runs.Replicas.{Carries, CarriesTo, ReplicaRuns, ReplicaStands}
use Rattle.run_stores.specs.durable_runs.Sources.{SourceRuns, Stored, end_of, source_side}
use Rattle.run_laws.specs.log_entries.declared.entries.Item.{Item}
use Rattle.run_laws.specs.log_entries.declared.entries.Entry.{Entry}
use Rattle.run_laws.specs.log_entries.declared.entries.Entry.TheVariants.{Transaction, Definition, LogStart}
use Rattle.run_laws.specs.run_model.Asked.{Asked, say, select, take_bytes, take_groups, restart_source, restart_replica}
use Rattle.run_laws.specs.run_model.Run.{Names, Both, ReplicaStep, carried_at, carried_in, opened_again, Starts, number_before, place_before, source_from, log_with, mark_at, next}
use Rattle.run_laws.specs.run_model.Following.{AreCommitted, Follows, head_entries}
use Rattle.run_laws.specs.Laws.{IsSound, FollowsGoOn, NoApplyStops, NothingIsDamaged}
use Rattle.run_laws.specs.Openings.{Begins}
use Rattle.run_laws.specs.Restarts.{RestartsKeepMarks, RestartsStaySound}
use Rattle.script_run.specs.declared.nodes.Nodes.{Nodes}
use Rattle.script_run.specs.Marks.{CalledNow, Pushed, command_marks, committed_of, uncounted}
use Rattle.run_stores.specs.durable_runs.Marks.{NameNow, last_named, replica_mark, source_mark}
use Rattle.script_run.specs.Survives.{CarriesOn, CarriesSome, IsHeldOnTheWay, Lasted, LastsOn, NamesOn}
use Rattle.script_run.proofs.Disks.{both_refl, both_told, where_told}
use Rattle.script_run.proofs.Generations.{GenerationsGo, raises_by}
use Rattle.script_run.proofs.Recovering.{names_none, names_said, names_still}
use Rattle.script_run.proofs.Surviving.{carries_rest, carries_still, held_here, lasts_on, lasts_rest, lasts_still}
use Rattle.script_run.specs.Together.{AreOnDisks, Before, Began, CarriedOut, Drew, GaveUp, Grew, IsOneLog, Marked, Shows, SourceIsOn, Together}
use Rattle.script_run.proofs.Marks.{applied_are, applied_last, commits_name, groups_name, none_more, pushed_by, pushed_length, pushed_none}
use Rattle.script_run.proofs.Serving.{Known, holds_here, log_piece, log_short, logs_are, no_others, number_is, served_at, served_whole}

-- of a call that gave nothing
pub any_err : {A E : Type 0} (r : Result A E) (P : Type 0) → P → OnErr r P
any_err (Ok x) P p = tt
any_err (Err e) P p = p

-- what gave nothing for a reason
abbrev pub failed_by : (A E : Type 0) → E → Result A E
failed_by A E why = Err why

-- why a source's disk gave nothing
pub source_refuses : (A : Type 0) (why : NodeFault) (t rep : Option Story) (disk later n : ℕ) → (failed_by A NodeFault why ≡ failed_by A NodeFault fault.Disk → Rose disk later) → RefusesNodes (by_open_source why) (disks t rep) (faults disk n) (faults later n)
source_refuses A fault.Disk t rep disk later n rose = rose refl
source_refuses A fault.NoMemory t rep disk later n rose = tt

-- why a replica's did
pub replica_refuses : (A : Type 0) (why : NodeFault) (src t : Option Story) (disk later n : ℕ) → (failed_by A NodeFault why ≡ failed_by A NodeFault fault.Disk → Rose disk later) → RefusesNodes (by_open_replica why) (disks src t) (faults n disk) (faults n later)
replica_refuses A fault.Disk src t disk later n rose = rose refl
replica_refuses A fault.NoMemory src t disk later n rose = tt

-- a RESTART that gave nothing, and why
abbrev pub fault_of : OpenRefusal → Result (Unit {0}) OpenRefusal
fault_of refusal = Err refusal

pub restart_refuses : (refusal : OpenRefusal) (t rep : Option Story) (disk later n : ℕ) → ((file at : ℕ) → IfSome t (λ _. fault_of refusal ≡ fault_of (opening.Damaged file at) → ⊥)) → (fault_of refusal ≡ fault_of opening.Disk → Rose disk later)
    → RefusesNodes (by_source refusal) (disks t rep) (faults disk n) (faults later n)
restart_refuses opening.Disk t rep disk later n safe rose = rose refl
restart_refuses (opening.Damaged file at) None rep disk later n safe rose = tt
restart_refuses (opening.Damaged file at) (Some s) rep disk later n safe rose = safe file at refl
restart_refuses opening.NoMemory t rep disk later n safe rose = tt

pub replica_restart_refuses : (refusal : OpenRefusal) (src t : Option Story) (disk later n : ℕ) → ((file at : ℕ) → IfSome t (λ _. fault_of refusal ≡ fault_of (opening.Damaged file at) → ⊥)) → (fault_of refusal ≡ fault_of opening.Disk → Rose disk later)
    → RefusesNodes (by_replica refusal) (disks src t) (faults n disk) (faults n later)
replica_restart_refuses opening.Disk src t disk later n safe rose = rose refl
replica_restart_refuses (opening.Damaged file at) src None disk later n safe rose = tt
replica_restart_refuses (opening.Damaged file at) src (Some s) disk later n safe rose = safe file at refl
replica_restart_refuses opening.NoMemory src t disk later n safe rose = tt

-- ---- where a command began

pub began_on : (k : ℕ) (b : Both) (t : Disks) (old new : Report) → new.now ≡ old.now → Began k b t old → Began k b t new
began_on k b t old new stays began = record {
  now = ap uncounted stays ∙ began.now;
  few = began.few;
  calls = subst (λ (m : Mark). CalledNow t.source m.src_calls) (sym stays) began.calls;
  rep_calls = subst (λ (m : Mark). CalledNow t.replica m.rep_calls) (sym stays) began.rep_calls;
}

-- the mark of a command that begins
pub marked_at : Known → (names : Names) (t : Disks) (start : Stores) (nodes : Nodes) (b : Both) → Together names t start nodes b → (k committed calls applied rep_calls : ℕ) → committed ≡ nodes.source.store.number
    → applied ≡ (replica_of nodes.replica.node).number → uncounted (record { command = k; committed = committed; src_calls = calls; applied = applied; rep_calls = rep_calls }) ≡ mark_at k b
marked_at known names t start nodes b r k committed calls applied rep_calls source replica =
    ap (λ (n : ℕ). record { command = k; committed = n; src_calls = 0; applied = applied; rep_calls = 0 }) (source ∙ number_is known names t start nodes b r)
    ∙ ap (λ (n : ℕ). record { command = k; committed = committed_of b; src_calls = 0; applied = n; rep_calls = 0 }) (replica ∙ ap (λ (x : Replica). x.number) r.replica)

applied_none : (n : ℕ) → n < 2 ^ 64 → n ≡ min (n + 0) (2 ^ 64 - 1)
applied_none n fits = omega (arith, fits)

-- nothing was pushed, nothing committed, and nothing carried out
pub marked_none : (k : ℕ) (b b' : Both) (old new : Report) → b.replica.number < 2 ^ 64 → new.marks ≡ old.marks → committed_of b' ≡ committed_of b → carried_in b'.steps ≡ carried_in b.steps
    → b'.replica.number ≡ b.replica.number → Marked k b b' old new
marked_none k b b' old new fits same number steps applied = record {
  commits = 0;
  groups = 0;
  pushed = subst (λ (ms : List Mark). Pushed (mark_at k b) 0 0 old.marks ms) (sym same) (pushed_none (mark_at k b) old.marks);
  number = number ∙ none_more (committed_of b);
  carried = steps ∙ none_more (carried_in b.steps);
  applied = applied ∙ applied_none b.replica.number fits;
}

-- a disk that was not called
pub lasts_none : (t : Option Story) (start : Stored) (es : List (Entry Whole)) (old new : List Mark) → new ≡ old → LastsOn t t start es es old new
lasts_none t start es old new same first lasted = subst (λ (ms : List Mark). Lasted first t start es ms) (sym same) lasted

-- each image of the replica's disk stands for what the replica has
replica_stands : (names : Names) (t : Disks) (start : Stores) (nodes : Nodes) (b : Both) → Together names t start nodes b → Each t.replica (ReplicaStands (held_of b.replica))
replica_stands names t start nodes b r =
    subst (λ (x : Replica). Each t.replica (ReplicaStands (held_of x))) r.replica (replica_each t.replica nodes.replica.store (held_of (replica_of nodes.replica.node)) r.replica_on.on)

-- it was not called, and no mark was pushed
pub rep_still : (names : Names) (t : Disks) (start : Stores) (nodes : Nodes) (b : Both) (c : Asked) (draw : Draw) (old new : List Mark) → Together names t start nodes b → new ≡ old
    → CallsFit t.replica → CarriesTo (IsHeldOnTheWay names b c draw) t.replica t.replica (held_of b.replica) (held_of b.replica) old new
rep_still names t start nodes b c draw old new r same fits =
    carries_still (IsHeldOnTheWay names b c draw) t.replica (held_of b.replica) old new same (held_here names b c draw) (replica_stands names t start nodes b r)

-- nor where the source pushed marks
rep_rest : (names : Names) (t : Disks) (start : Stores) (nodes : Nodes) (k : ℕ) (b : Both) (c : Asked) (draw : Draw) (old new : Report) (before after : ℕ) → Before names t start nodes k b old
    → ArePushed old.now before after old.marks new.marks → CallsFit t.replica → CarriesTo (IsHeldOnTheWay names b c draw) t.replica t.replica (held_of b.replica) (held_of b.replica) old.marks new.marks
rep_rest names t start nodes k b c draw old new before after at pushed fits =
    carries_rest (IsHeldOnTheWay names b c draw) t.replica (held_of b.replica) old.marks new.marks pushed.more pushed.marks (held_here names b c draw)
    (replica_stands names t start nodes b at.together)
    (λ fits. subst (λ (n : ℕ). IfSome t.replica (λ _. NameNow (count t.replica) n (map replica_mark pushed.more))) (ap (λ (m : Mark). m.applied) at.began.now)
    (commits_name t.replica old.now before pushed.more at.began.rep_calls fits pushed.named)) fits

-- a run of the replica that keeps what it has
pub rep_looked : (names : Names) (b : Both) (c : Asked) (draw : Draw) (t u : Option Story) (old new : List Mark) → new ≡ old → ((marks : List Mark) → ReplicaRuns t u (held_of b.replica) [] marks marks)
    → CallsFit u → CarriesTo (IsHeldOnTheWay names b c draw) t u (held_of b.replica) (held_of b.replica) old new
rep_looked names b c draw t u old new same runs fits =
    carries_none (IsHeldOnTheWay names b c draw) t u (held_of b.replica) old new (held_here names b c draw) (subst (λ (ms : List Mark). ReplicaRuns t u (held_of b.replica) [] old ms) (sym same) (runs old))

-- a node that was given a disk has kept it
pub runs_here : (nodes : Nodes) (b : Both) (t u : Option Story) → replica_of nodes.replica.node ≡ b.replica → ((marks : List Mark) → ReplicaRuns t u (held_of (replica_of nodes.replica.node)) [] marks marks)
    → (marks : List Mark) → ReplicaRuns t u (held_of b.replica) [] marks marks
runs_here nodes b t u is runs marks = subst (λ (x : Replica). ReplicaRuns t u (held_of x) [] marks marks) is (runs marks)

pub gave_up : (names : Names) (c : Asked) (start : Stores) (nodes : Nodes) (k : ℕ) (b : Both) (t u : Disks) (old new : Report) (at : Draw) → Before names t start nodes k b old → new.now ≡ old.now → new.marks ≡ old.marks → BothGoOn t u
    → LastsOn t.source u.source start.source b.machine.history b.machine.history old.marks new.marks → CarriesSome t.replica u.replica names b c at old.marks new.marks → GaveUp names b k c t u start old new
gave_up names c start nodes k b t u old new at before stays same on lasts carries = record {
  began = began_on k b t old new stays before.began;
  commits = 0;
  groups = 0;
  pushed = subst (λ (ms : List Mark). Pushed (mark_at k b) 0 0 old.marks ms) (sym same) (pushed_none (mark_at k b) old.marks);
  on = on;
  put = b.machine.history;
  may = inl refl;
  begins = before.together.stands.first;
  lasts = lasts;
  at = at;
  carries = carries;
}

-- FETCH takes no draw, and any stands for it; so it does where none was taken
pub some_draw : Draw
some_draw = record { now = 0; sys = 0; seed1 = 0; seed2 = 0; uuid = [] }

-- no disk was called
pub gave_up_idle : (names : Names) (c : Asked) (start : Stores) (nodes : Nodes) (k : ℕ) (b : Both) (t : Disks) (old new : Report) → Before names t start nodes k b old → new.now ≡ old.now → new.marks ≡ old.marks
    → GaveUp names b k c t t start old new
gave_up_idle names c start nodes k b t old new before stays same =
    gave_up names c start nodes k b t t old new some_draw before stays same (both_refl t) (lasts_none t.source start.source b.machine.history old.marks new.marks same)
    (λ fits. (rep_still names t start nodes b c some_draw old.marks new.marks before.together same fits).carries)

-- the first entry begins a log or finds one begun, also where more come
first_more : (held : Held) (history more : List (Entry Whole)) → HasFirstLog history held → (history ≡ [] → 0 < length held.ends) → AreCommitted more → HasFirstLog (history ++ more) held
first_more held (e ∷ es) more first log committed = first
first_more held [] [] first log committed = tt
first_more held [] (Transaction stamp server items ∷ es) first log committed = log refl
first_more held [] (Definition stamp server item ∷ es) first log committed = log refl
first_more held [] (LogStart stamp server ∷ es) first log committed = absurd committed

-- a source that has put out nothing since it began had a log
had_log : EntriesHaveLength → HeadsHaveLength → (names : Names) (t : Disks) (start : Stores) (nodes : Nodes) (b : Both) → Together names t start nodes b → b.machine.history ≡ [] → 0 < length start.source.held.ends
had_log have heads names t start nodes b r none =
    let from : Beginning = source_from b.from in
    let same : from.place ≡ b.machine.state.shared.place = sym (ap (λ (hs : List (Entry Whole)). written_to (map kept_entry hs) from.committed from.place) none) ∙ r.holds.place in
    let one : length start.source.held.ends ≡ 1 = ap (λ (p : LogPlace). p.log) (r.began.place ∙ same ∙ ends_there have heads b.from b.machine r.line.stamp r.line.server r.line.entries r.holds r.line.are r.line.committed) in
    omega (arith, one)

-- ---- a source that goes on

-- a step leaves as many sessions
counted_both : (front back : List (Entry Whole)) (number : ℕ) → counted_all (map kept_entry (front ++ back)) number ≡ counted_all (map kept_entry back) (counted_all (map kept_entry front) number)
counted_both [] back number = refl
counted_both (e ∷ es) back number = counted_both es back (counted (kept_entry e) number)

-- what it put out can be logged behind what was there
sound_on : EntriesCanLogOn → ReplaysGoOn → (from : Starts) (identity : Identity) (m : Machine) (n : ℕ) (text : List ℕ) (draw : Draw) → IsSound from m → n < length m.state.sessions → length text ≤ 2 ^ 20 → IsBytes text
    → CanLogAll (map kept_entry (step whole identity m.state n text draw).committed) m.state.shared.committed m.state.shared.place
    → IsSound from (machine_after m (step whole identity m.state n text draw))
sound_on can_on law from identity m n text draw sound within short bytes can =
    let s : Step Whole = step whole identity m.state n text draw in
    let holds : Holds (source_from from) m = sound.replays.holds in
    let first : ℕ = number_before from.read in
    let place : LogPlace = place_before from.read in
    let all : List (Entry Whole) = from.owed ++ m.history in
    let count : counted_all (map kept_entry all) first ≡ m.state.shared.committed = counted_both from.owed m.history first ∙ holds.count in
    let to : written_to (map kept_entry all) first place ≡ m.state.shared.place = written_both from.owed m.history first place ∙ holds.place in
    let behind : CanLogAll (map kept_entry s.committed) (counted_all (map kept_entry all) first) (written_to (map kept_entry all) first place) = rw (count, to) can in
    let lists : map kept_entry (from.owed ++ (m.history ++ s.committed)) ≡ map kept_entry all ++ map kept_entry s.committed =
    ap (map kept_entry) (sym (append_assoc from.owed m.history s.committed)) ∙ map-append kept_entry all s.committed in
    record {
      behind = sound.behind;
      replays = law (source_from from) m identity n text draw sound.replays within short bytes;
      logs = subst (λ (es : List (Entry Item)). CanLogAll es first place) (sym lists) (can_on.1 (map kept_entry all) (map kept_entry s.committed) first place sound.logs behind);
    }

-- its log goes on
line_on : (from : Starts) (identity : Identity) (m : Machine) (n : ℕ) (text : List ℕ) (draw : Draw) → IsOneLog from m → IsOneLog from (machine_after m (step whole identity m.state n text draw))
line_on from identity m n text draw line =
    let more : List (Entry Whole) = (step whole identity m.state n text draw).committed in
    record {
      stamp = line.stamp;
      server = line.server;
      entries = line.entries ++ more;
      are = sym (append_assoc from.owed m.history more) ∙ ap (λ (es : List (Entry Whole)). es ++ more) line.are ∙ append_assoc (head_entries from.read line.stamp line.server) line.entries more;
      committed = committed_behind line.entries more line.committed (step_puts identity m.state n text draw);
    }

-- ---- one command

pub carried : (names : Names) (b : Both) (k : ℕ) (c : Asked) (draw : Draw) (t u : Disks) (start : Stores) (old new : Report) (first nodes : Nodes) (lines : List ℕ) → Together names t start first b → GenerationsGo c first nodes → Drew c draw old new → Began k b t new
    → Marked k b (next names b c draw).both old new → LastsOn t.source u.source start.source b.machine.history (next names b c draw).both.machine.history old.marks new.marks
    → CarriesOn t.replica u.replica names b c draw old.marks new.marks → NamesOn t.replica u.replica (committed_of b) (committed_of (next names b c draw).both) old.marks new.marks
    → Shows names b k c draw t u start nodes lines → CarriedOut names b k c t u start old new nodes lines
carried names b k c draw t u start old new first nodes lines before go drew began marked lasts carries all_named shows = record {
  draw = draw;
  drew = drew;
  began = began;
  marked = marked;
  lasts = lasts;
  carries = carries;
  all_named = all_named;
  raises = raises_by names c t u start first nodes b (next names b c draw).both before shows.together go;
  shows = shows;
}

-- what the laws say of a session's text
pub record Says : Type 0 where
  pub known : Known
  pub can_on : EntriesCanLogOn
  pub replays : ReplaysGoOn
  pub runs : RunsGoOn
  pub formats : FormatsDecide
  pub follows : FollowsGoOn
  pub have : EntriesHaveLength
  pub heads : HeadsHaveLength
  pub lasts : RunsLast source_side

-- nodes behind a session's text
said_together : Says → (nodes nodes' : Nodes) (t u rep : Option Story) (start : Stores) (n : ℕ) (text : List ℕ) (draw : Draw) → n < 100 → length text ≤ 1048576 → IsBytes text
    → nodes'.replica ≡ nodes.replica → nodes'.source.node.identity ≡ nodes.source.node.identity → GoesOn t u
    → (names : Names) (b : Both) → Together names (disks t rep) start nodes b → Stands u nodes'.source start.source (machine_after b.machine (step whole names.source b.machine.state n text draw))
    → CanLogAll (map kept_entry (step whole names.source b.machine.state n text draw).committed) b.machine.state.shared.committed b.machine.state.shared.place
    → Together names (disks u rep) start nodes' (next names b (say n text) draw).both
said_together says nodes nodes' t u rep start n text draw within short bytes replica identity on names b r stands can =
    let there : n < length b.machine.state.sessions = omega (arith, within, r.stands.slots) in
    record {
      source_name = identity ∙ r.source_name;
      replica_name = ap (λ (x : DurableReplica). x.node.identity) replica ∙ r.replica_name;
      told = both_told (disks t rep) (disks u rep) r.told (record { source = on; replica = on_refl rep });
      stands = stands;
      replica = ap (λ (x : DurableReplica). replica_of x.node) replica ∙ r.replica;
      replica_on = subst (λ (x : DurableReplica). IsOnDisk rep x) (sym replica) r.replica_on;
      began = r.began;
      one = r.one;
      holds = says.runs (source_from b.from) b.machine names.source n text draw r.holds there short;
      line = line_on b.from names.source b.machine n text draw r.line;
      sound = λ begins. sound_on says.can_on says.replays b.from names.source b.machine n text draw (r.sound begins) there short bytes can;
      follows = λ begins. says.follows names b (say n text) draw (r.follows begins) (r.sound begins);
    }

-- what it put out was kept, with a mark for each transaction
marked_by : Known → (names : Names) (k : ℕ) (b b' : Both) (t u : Disks) (start : Stores) (nodes nodes' : Nodes) (old new : Report) (now : Mark) → Together names t start nodes b → Together names u start nodes' b'
    → b.replica.number < 2 ^ 64 → b'.replica ≡ b.replica → b'.steps ≡ b.steps
    → uncounted now ≡ mark_at k b → ArePushed now nodes.source.store.number nodes'.source.store.number old.marks new.marks → Marked k b b' old new
marked_by known names k b b' t u start nodes nodes' old new now r r' fits replica steps began are =
    let before : nodes.source.store.number ≡ committed_of b = number_is known names t start nodes b r in
    let after : nodes'.source.store.number ≡ committed_of b' = number_is known names u start nodes' b' r' in
    let p = pushed_by now nodes.source.store.number nodes'.source.store.number k b old.marks new.marks are began before in
    record {
      commits = p.0;
      groups = 0;
      pushed = p.1.0;
      number = sym after ∙ p.1.1 ∙ ap (λ (i : ℕ). i + p.0) before;
      carried = ap carried_in steps ∙ none_more (carried_in b.steps);
      applied = ap (λ (x : Replica). x.number) replica ∙ applied_none b.replica.number fits;
    }

-- its marks name all that it has committed
all_said : Known → (names : Names) (k : ℕ) (b b' : Both) (t u : Disks) (start : Stores) (nodes nodes' : Nodes) (old new : Report) → Before names t start nodes k b old → Together names u start nodes' b'
    → ArePushed old.now nodes.source.store.number nodes'.source.store.number old.marks new.marks → NamesOn t.replica t.replica (committed_of b) (committed_of b') old.marks new.marks
all_said known names k b b' t u start nodes nodes' old new before r' pushed =
    let first : ℕ = nodes.source.store.number in
    subst (λ (n : ℕ). NamesOn t.replica t.replica n (committed_of b') old.marks new.marks) (number_is known names t start nodes b before.together)
    (subst (λ (n : ℕ). NamesOn t.replica t.replica first n old.marks new.marks) (number_is known names u start nodes' b' r')
    (names_said t.replica old.now first nodes'.source.store.number old.marks new.marks pushed.more before.together.told.replica before.began.rep_calls pushed.named pushed.number pushed.marks))

-- a session's text
pub said : Says → (nodes nodes' : Nodes) (t u rep : Option Story) (start : Stores) (k n : ℕ) (text : List ℕ) (draw : Draw) (old new : Report) (answer : Answer) (lines : List ℕ) → n < 100 → length text ≤ 1048576 → IsBytes text
    → nodes'.replica ≡ nodes.replica → nodes'.source.node.identity ≡ nodes.source.node.identity → nodes'.source.store.generation ≡ nodes.source.store.generation → GoesOn t u
    → ((from : Stored) (m : Machine) → Stands t nodes.source from m → Holds (beginning_of from) m → (answer ≡ (step whole nodes.source.node.identity m.state n text draw).answer)
    × Stands u nodes'.source from (machine_after m (step whole nodes.source.node.identity m.state n text draw)))
    → ((from : Stored) (m : Machine) → Stands t nodes.source from m → Holds (beginning_of from) m
    → CanLogAll (map kept_entry (step whole nodes.source.node.identity m.state n text draw).committed) m.state.shared.committed m.state.shared.place)
    → ((from : Stored) (m : Machine) (stands : Stands t nodes.source from m) → Holds (beginning_of from) m → CallsFit u
    → SourceRuns t u stands.now (step whole nodes.source.node.identity m.state n text draw).committed old.marks new.marks)
    → ArePushed old.now nodes.source.store.number nodes'.source.store.number old.marks new.marks
    → lines ≡ shown k answer → Drew (say n text) draw old new → new.now ≡ old.now
    → (names : Names) (b : Both) → Before names (disks t rep) start nodes k b old → CarriedOut names b k (say n text) (disks t rep) (disks u rep) start old new nodes' lines
said says nodes nodes' t u rep start k n text draw old new answer lines within short bytes replica identity generation on stands can runs pushed lines_are drew stays names b before =
    let r : Together names (disks t rep) start nodes b = before.together in
    let here : Holds (beginning_of start.source) b.machine = holds_here says.known names (disks t rep) start nodes b r in
    let given = rw r.source_name at (stands start.source b.machine r.stands here) in
    let put = rw r.source_name at (can start.source b.machine r.stands here) in
    let there : n < length b.machine.state.sessions = omega (arith, within, r.stands.slots) in
    let r' : Together names (disks u rep) start nodes' (next names b (say n text) draw).both =
    said_together says nodes nodes' t u rep start n text draw within short bytes replica identity on names b r given.1 put in
    carried names b k (say n text) draw (disks t rep) (disks u rep) start old new nodes nodes' lines r (record { source = generation; replica = ap (λ (x : DurableReplica). x.store.generation) replica }) drew (began_on k b (disks t rep) old new stays before.began)
    (marked_by says.known names k b (next names b (say n text) draw).both (disks t rep) (disks u rep) start nodes nodes' old new old.now r r' before.began.few refl refl before.began.now pushed)
    (lasts_on says.lasts t u start.source r.stands.now b.machine.history (step whole names.source b.machine.state n text draw).committed old.marks new.marks on r.stands.reached (rw r.source_name at (runs start.source b.machine r.stands here)))
    (rep_rest names (disks t rep) start nodes k b (say n text) draw old new nodes.source.store.number nodes'.source.store.number before pushed)
    (all_said says.known names k b (next names b (say n text) draw).both (disks t rep) (disks u rep) start nodes nodes' old new before r' pushed) (record {
      lines_are = lines_are ∙ ap (shown k) given.0;
      through = λ begins. tt;
      logged = says.formats (source_from b.from) b.machine names.source n text draw r.holds there;
      on = record { source = on; replica = on_refl rep };
      together = r';
    })

-- one that was not carried out
pub unsaid : Says → (nodes : Nodes) (t u rep : Option Story) (start : Stores) (k n : ℕ) (text : List ℕ) (draw : Draw) (after : ℕ) (old new : Report) → GoesOn t u
    → ((from : Stored) (m : Machine) (stands : Stands t nodes.source from m) → Holds (beginning_of from) m → CallsFit u
    → SourceRuns t u stands.now (step whole nodes.source.node.identity m.state n text draw).committed old.marks new.marks) → ArePushed old.now nodes.source.store.number after old.marks new.marks → new.now ≡ old.now
    → (names : Names) (b : Both) → Before names (disks t rep) start nodes k b old → GaveUp names b k (say n text) (disks t rep) (disks u rep) start old new
unsaid says nodes t u rep start k n text draw after old new on runs pushed stays names b before =
    let r : Together names (disks t rep) start nodes b = before.together in
    let here : Holds (beginning_of start.source) b.machine = holds_here says.known names (disks t rep) start nodes b r in
    let more : List (Entry Whole) = (step whole names.source b.machine.state n text draw).committed in
    let p = pushed_by old.now nodes.source.store.number after k b old.marks new.marks pushed before.began.now (number_is says.known names (disks t rep) start nodes b r) in
    record {
      began = began_on k b (disks t rep) old new stays before.began;
      commits = p.0;
      groups = 0;
      pushed = p.1.0;
      on = record { source = on; replica = on_refl rep };
      put = b.machine.history ++ more;
      may = inr (draw, refl);
      begins = first_more start.source.held b.machine.history more r.stands.first (had_log says.have says.heads names (disks t rep) start nodes b r) (step_puts names.source b.machine.state n text draw);
      lasts = lasts_on says.lasts t u start.source r.stands.now b.machine.history more old.marks new.marks on r.stands.reached (rw r.source_name at (runs start.source b.machine r.stands here));
      at = draw;
      carries = λ fits. (rep_rest names (disks t rep) start nodes k b (say n text) draw old new nodes.source.store.number after before pushed fits).carries;
    }

-- a source on its disk that was looked at
pub on_disk_looked : (source source' : DurableSource) (t u : Option Story) → source' ≡ source → ((from : Stored) (m : Machine) → Stands t source from m → Stands u source from m) → SourceIsOn t source → SourceIsOn u source'
on_disk_looked source source' t u same stands on = rw same (on.0, (on.1.0, (stands on.0 on.1.0 on.1.1.0, on.1.1.1)))

-- both nodes on their disks, of which one was called
pub on_source : {A : Type 0} (r : Result A Refusal) (t u rep : Option Story) (nodes nodes' : Nodes) → nodes'.replica ≡ nodes.replica → AreOnDisks (disks t rep) nodes → OnOk r (SourceIsOn u nodes'.source)
    → OnOk r (AreOnDisks (disks u rep) nodes')
on_source (Err e) t u rep nodes nodes' same on source = tt
on_source (Ok x) t u rep nodes nodes' same on source = record { source = source; replica = subst (λ (k : DurableReplica). IsOnDisk rep k) (sym same) on.replica }

pub on_replica : {A : Type 0} (r : Result A Refusal) (src t u : Option Story) (nodes nodes' : Nodes) → nodes'.source ≡ nodes.source → AreOnDisks (disks src t) nodes → OnOk r (IsOnDisk u nodes'.replica)
    → OnOk r (AreOnDisks (disks src u) nodes')
on_replica (Err e) src t u nodes nodes' same on replica = tt
on_replica (Ok x) src t u nodes nodes' same on replica = record { source = subst (λ (k : DurableSource). SourceIsOn src k) (sym same) on.source; replica = replica }

-- none was called
pub on_same : {A : Type 0} (r : Result A Refusal) (t : Disks) (nodes nodes' : Nodes) → nodes' ≡ nodes → AreOnDisks t nodes → OnOk r (AreOnDisks t nodes')
on_same (Err e) t nodes nodes' same on = tt
on_same (Ok x) t nodes nodes' same on = subst (λ (k : Nodes). AreOnDisks t k) (sym same) on

-- what the laws say of a RESTART
pub record Reopens : Type 0 where
  pub known : Known
  pub have : EntriesHaveLength
  pub heads : HeadsHaveLength
  pub holds : RestartsHold
  pub sound : RestartsStaySound
  pub marks : RestartsKeepMarks
  pub follows : FollowsGoOn
  pub lasts : RunsLast source_side

-- a log that has begun is not begun again
nothing_put : Reopens → (names : Names) (b : Both) (draw : Draw) → Holds (source_from b.from) b.machine → IsOneLog b.from b.machine → opening_entries names.source draw b.machine.state.shared.place ≡ []
nothing_put says names b draw holds line =
    ap (opening_entries names.source draw) (ends_there says.have says.heads b.from b.machine line.stamp line.server line.entries holds line.are line.committed)

line_kept : Reopens → (names : Names) (b : Both) (draw : Draw) → Holds (source_from b.from) b.machine → IsOneLog b.from b.machine → IsOneLog b.from (restarted names.source draw b.machine)
line_kept says names b draw holds line =
    let m : Machine = b.machine in
    let none : opening_entries names.source draw m.state.shared.place ≡ [] = nothing_put says names b draw holds line in
    let history : (restarted names.source draw m).history ≡ m.history = ap (λ (es : List (Entry Whole)). m.history ++ es) none ∙ append-nil m.history in
    record {
      stamp = line.stamp;
      server = line.server;
      entries = line.entries;
      are = ap (λ (es : List (Entry Whole)). b.from.owed ++ es) history ∙ line.are;
      committed = line.committed;
    }

-- RESTART of the source
pub reopened_on : Reopens → (nodes nodes' : Nodes) (t u rep : Option Story) (start : Stores) (k : ℕ) (draw : Draw) (old new : Report) (answer : Answer) (lines : List ℕ)
    → nodes'.replica ≡ nodes.replica → nodes'.source.node.identity ≡ nodes.source.node.identity
    → ((from : Stored) (m : Machine) → Stands t nodes.source from m → IfSome t (λ _. nodes'.source.store.generation ≡ nodes.source.store.generation))
    → ((from : Stored) (m : Machine) → Stands t nodes.source from m → Holds (beginning_of from) m → IfSome t (λ _. Stands u nodes'.source from (restarted nodes.source.node.identity draw m)))
    → ((from : Stored) (m : Machine) (stands : Stands t nodes.source from m) (marks : List Mark) → Holds (beginning_of from) m
    → SourceRuns t u stands.now (opening_entries nodes.source.node.identity draw m.state.shared.place) marks marks)
    → answer ≡ ok 0 → lines ≡ shown k answer → Drew restart_source draw old new → new.now ≡ old.now → new.marks ≡ old.marks
    → (names : Names) (b : Both) → Before names (disks t rep) start nodes k b old → CarriedOut names b k restart_source (disks t rep) (disks u rep) start old new nodes' lines
reopened_on says nodes nodes' t u rep start k draw old new answer lines replica identity generation stands runs is lines_are drew stays same names b before =
    let r : Together names (disks t rep) start nodes b = before.together in
    let here : Holds (beginning_of start.source) b.machine = holds_here says.known names (disks t rep) start nodes b r in
    let given = rw r.source_name at (stands start.source b.machine r.stands here) in
    let ran : SourceRuns t u r.stands.now (opening_entries names.source draw b.machine.state.shared.place) old.marks old.marks = rw r.source_name at (runs start.source b.machine r.stands old.marks here) in
    let on : BothGoOn (disks t rep) (disks u rep) = record { source = ran.on; replica = on_refl rep } in
    let b' : Both = (next names b restart_source draw).both in
    carried names b k restart_source draw (disks t rep) (disks u rep) start old new nodes nodes' lines r (record {
      source = where_told t (nodes'.source.store.generation ≡ nodes.source.store.generation) r.told.source (generation start.source b.machine r.stands);
      replica = ap (λ (x : DurableReplica). x.store.generation) replica;
    }) drew (began_on k b (disks t rep) old new stays before.began)
    (marked_none k b b' old new before.began.few same (ap (λ (m : Mark). m.committed) (says.marks.source names b k draw)) refl refl)
    (subst (λ (ms : List Mark). LastsOn t u start.source b.machine.history b'.machine.history old.marks ms) (sym same)
    (lasts_on says.lasts t u start.source r.stands.now b.machine.history (opening_entries names.source draw b.machine.state.shared.place) old.marks old.marks ran.on r.stands.reached (λ fits. ran)))
    (rep_still names (disks t rep) start nodes b restart_source draw old.marks new.marks r same)
    (names_none rep rep (committed_of b) (committed_of b') old.marks new.marks (on_refl rep) (ap (λ (m : Mark). m.committed) (says.marks.source names b k draw)) same) (record {
      lines_are = lines_are ∙ ap (shown k) is;
      through = λ begins. tt;
      logged = tt;
      on = on;
      together = record {
        source_name = identity ∙ r.source_name;
        replica_name = ap (λ (x : DurableReplica). x.node.identity) replica ∙ r.replica_name;
        told = both_told (disks t rep) (disks u rep) r.told on;
        stands = where_told t (Stands u nodes'.source start.source (restarted names.source draw b.machine)) r.told.source given;
        replica = ap (λ (x : DurableReplica). replica_of x.node) replica ∙ r.replica;
        replica_on = subst (λ (x : DurableReplica). IsOnDisk rep x) (sym replica) r.replica_on;
        began = r.began;
        one = r.one;
        holds = says.holds names.source draw (source_from b.from) b.machine r.holds;
        line = line_kept says names b draw r.holds r.line;
        sound = λ begins. says.sound names b draw (r.follows begins) (r.sound begins);
        follows = λ begins. says.follows names b restart_source draw (r.follows begins) (r.sound begins);
      };
    })

-- one that was not carried out
pub not_reopened : Reopens → (nodes : Nodes) (t u rep : Option Story) (start : Stores) (k : ℕ) (draw : Draw) (old new : Report)
    → ((from : Stored) (m : Machine) (stands : Stands t nodes.source from m) (marks : List Mark) → Holds (beginning_of from) m
    → SourceRuns t u stands.now (opening_entries nodes.source.node.identity draw m.state.shared.place) marks marks) → new.now ≡ old.now → new.marks ≡ old.marks
    → (names : Names) (b : Both) → Before names (disks t rep) start nodes k b old → GaveUp names b k restart_source (disks t rep) (disks u rep) start old new
not_reopened says nodes t u rep start k draw old new runs stays same names b before =
    let r : Together names (disks t rep) start nodes b = before.together in
    let here : Holds (beginning_of start.source) b.machine = holds_here says.known names (disks t rep) start nodes b r in
    let ran : SourceRuns t u r.stands.now (opening_entries names.source draw b.machine.state.shared.place) old.marks old.marks = rw r.source_name at (runs start.source b.machine r.stands old.marks here) in
    let none : opening_entries names.source draw b.machine.state.shared.place ≡ [] = nothing_put says names b draw r.holds r.line in
    let lasts : LastsOn t u start.source b.machine.history b.machine.history old.marks old.marks =
    lasts_still says.lasts t u start.source r.stands.now b.machine.history old.marks old.marks ran.on r.stands.reached (λ fits. subst (λ (es : List (Entry Whole)). SourceRuns t u r.stands.now es old.marks old.marks) none ran) in
    gave_up names restart_source start nodes k b (disks t rep) (disks u rep) old new draw before stays same (record { source = ran.on; replica = on_refl rep })
    (subst (λ (ms : List Mark). LastsOn t u start.source b.machine.history b.machine.history old.marks ms) (sym same) lasts)
    (λ fits. (rep_still names (disks t rep) start nodes b restart_source draw old.marks new.marks r same fits).carries)

-- a SELECT of the replica
pub selected : (nodes nodes' : Nodes) (t : Disks) (start : Stores) (k : ℕ) (text : List ℕ) (draw : Draw) (old new : Report) (answer : Answer) (lines : List ℕ) → nodes' ≡ nodes
    → answer ≡ select_answer nodes.replica.node.identity draw (replica_of nodes.replica.node).counters (replica_of nodes.replica.node).base text
    → lines ≡ shown k answer → Drew (select text) draw old new → new.now ≡ old.now → new.marks ≡ old.marks
    → (names : Names) (b : Both) → Before names t start nodes k b old → CarriedOut names b k (select text) t t start old new nodes' lines
selected nodes nodes' t start k text draw old new answer lines same given lines_are drew stays marks names b before =
    let r : Together names t start nodes b = before.together in
    carried names b k (select text) draw t t start old new nodes nodes' lines r (record { source = ap (λ (x : Nodes). x.source.store.generation) same; replica = ap (λ (x : Nodes). x.replica.store.generation) same }) drew (began_on k b t old new stays before.began) (marked_none k b b old new before.began.few marks refl refl refl)
    (lasts_none t.source start.source b.machine.history old.marks new.marks marks) (rep_still names t start nodes b (select text) draw old.marks new.marks r marks)
    (names_none t.replica t.replica (committed_of b) (committed_of b) old.marks new.marks (on_refl t.replica) refl marks) (record {
      lines_are = lines_are ∙ ap (shown k) (given ∙ ap (λ (i : Identity). select_answer i draw (replica_of nodes.replica.node).counters (replica_of nodes.replica.node).base text) r.replica_name
          ∙ ap (λ (x : Replica). select_answer names.replica draw x.counters x.base text) r.replica);
      through = λ begins. tt;
      logged = tt;
      on = both_refl t;
      together = rw same r;
    })

-- nodes of which the replica was changed, and the source's disk looked at
pub replica_changed : (names : Names) (t u : Disks) (start : Stores) (nodes nodes' : Nodes) (b : Both) (x : Replica) (steps : List ReplicaStep) → nodes'.replica.node.identity ≡ nodes.replica.node.identity
    → replica_of nodes'.replica.node ≡ x → IsOnDisk u.replica nodes'.replica → BothGoOn t u → Stands u.source nodes'.source start.source b.machine → nodes'.source.node.identity ≡ nodes.source.node.identity
    → (Begins b.from → Follows names (record b { replica = x; steps = steps }))
    → Together names t start nodes b → Together names u start nodes' (record b { replica = x; steps = steps })
replica_changed names t u start nodes nodes' b x steps identity replica on_disk on stands source follows r = record {
  source_name = source ∙ r.source_name;
  replica_name = identity ∙ r.replica_name;
  told = both_told t u r.told on;
  stands = stands;
  replica = replica;
  replica_on = on_disk;
  began = r.began;
  one = r.one;
  holds = r.holds;
  line = r.line;
  sound = r.sound;
  follows = follows;
}

-- FETCH
pub fetched_shown : Known → (nodes nodes' : Nodes) (t u : Disks) (start : Stores) (k n most log pos : ℕ) (piece lines : List ℕ) → FollowsGoOn → nodes'.source ≡ nodes.source → record { log = log; pos = pos } ≡ want (replica_of nodes.replica.node)
    → BothGoOn t u → most ≡ min n (4294967295 - pos) → ((from : Stored) (m : Machine) → (stands : Stands t.source nodes.source from m) → end_of log stands.now.held.ends ≤ 4294967295)
    → ((from : Stored) (m : Machine) → (stands : Stands t.source nodes.source from m) → IfSome t.source (λ _. piece ≡ log_piece stands.now log pos most))
    → ((from : Stored) (m : Machine) → Stands t.source nodes.source from m → Stands u.source nodes.source from m)
    → nodes'.replica.node.identity ≡ nodes.replica.node.identity → replica_of nodes'.replica.node ≡ fetched piece (replica_of nodes.replica.node) → IsOnDisk u.replica nodes'.replica → lines ≡ fetched_line k (length piece)
    → (names : Names) (b : Both) (draw : Draw) → Together names t start nodes b → Shows names b k (take_bytes n) draw t u start nodes' lines
fetched_shown known nodes nodes' t u start k n most log pos piece lines follows source wanted on most_is end is stands identity replica on_disk lines_are names b draw r =
    let short : length (r.stands.now.logs log) ≤ 4294967295 =
    where_told t.source (length (r.stands.now.logs log) ≤ 4294967295) r.told.source (log_short log names t start nodes b r (end start.source b.machine r.stands)) in
    let given : piece ≡ log_piece r.stands.now log pos n =
    where_told t.source (piece ≡ log_piece r.stands.now log pos most) r.told.source (is start.source b.machine r.stands) ∙ ap (log_piece r.stands.now log pos) most_is ∙ served_whole (r.stands.now.logs log) pos n short in
    let bytes : piece ≡ log_bytes (log_with b.from b.machine) (want b.replica) n =
    given ∙ served_at r.stands.now.logs (log_with b.from b.machine) (logs_are known names t start nodes b r) (no_others known names t start nodes b r) n log pos
    ∙ ap (λ (p : LogPlace). log_bytes (log_with b.from b.machine) p n) wanted ∙ ap (λ (x : Replica). log_bytes (log_with b.from b.machine) (want x) n) r.replica in
    let behind : replica_of nodes'.replica.node ≡ fetched (log_bytes (log_with b.from b.machine) (want b.replica) n) b.replica =
    replica ∙ ap (λ (bs : List ℕ). fetched bs (replica_of nodes.replica.node)) bytes ∙ ap (fetched (log_bytes (log_with b.from b.machine) (want b.replica) n)) r.replica in
    record {
      lines_are = lines_are ∙ ap (λ (bs : List ℕ). fetched_line k (length bs)) bytes;
      through = λ begins. tt;
      logged = tt;
      on = on;
      together = replica_changed names t u start nodes nodes' b (fetched (log_bytes (log_with b.from b.machine) (want b.replica) n) b.replica) b.steps identity behind on_disk on
          (rw source (stands start.source b.machine r.stands)) (rw source refl) (λ begins. follows names b (take_bytes n) draw (r.follows begins) (r.sound begins)) r;
    }

-- and its calls of the source's disk, which only look
pub looked_on : RunsLast source_side → (t u rep : Option Story) (start : Stores) (nodes : Nodes) → GoesOn t u → ((from : Stored) (m : Machine) (stands : Stands t nodes.source from m) (marks : List Mark) → SourceRuns t u stands.now [] marks marks)
    → (names : Names) (b : Both) (marks : List Mark) → Together names (disks t rep) start nodes b → LastsOn t u start.source b.machine.history b.machine.history marks marks
looked_on law t u rep start nodes on runs names b marks r =
    lasts_still law t u start.source r.stands.now b.machine.history marks marks on r.stands.reached (λ fits. runs start.source b.machine r.stands marks)

-- its call of the replica's disk, if any
pub fetched_on : (src t u : Option Story) (start : Stores) (nodes : Nodes) (n : ℕ) → ((marks : List Mark) → ReplicaRuns t u (held_of (replica_of nodes.replica.node)) [] marks marks)
    → (names : Names) (b : Both) (draw : Draw) (marks : List Mark) → Together names (disks src t) start nodes b → CarriesOn t u names b (take_bytes n) draw marks marks
fetched_on src t u start nodes n runs names b draw marks r fits = rep_looked names b (take_bytes n) draw t u marks marks refl (runs_here nodes b t u r.replica runs) fits

pub fetched_idle : (src t : Option Story) (start : Stores) (nodes : Nodes) (n : ℕ) (names : Names) (b : Both) (draw : Draw) (marks : List Mark) → Together names (disks src t) start nodes b → CarriesOn t t names b (take_bytes n) draw marks marks
fetched_idle src t start nodes n names b draw marks r fits = rep_still names (disks src t) start nodes b (take_bytes n) draw marks marks r refl fits

-- ---- APPLY

carried_append : (front back : List ReplicaStep) → carried_in (front ++ back) ≡ carried_in front + carried_in back
carried_append [] back = omega arith
carried_append (carried_at d ∷ ss) back = let rest = carried_append ss back in omega (arith, rest)
carried_append (opened_again ∷ ss) back = carried_append ss back

carried_times : (n : ℕ) (draw : Draw) → carried_in (replicate n (carried_at draw)) ≡ n
carried_times zero draw = refl
carried_times (suc n) draw = ap suc (carried_times n draw)

-- what the store came to on its way
way_of : (names : Names) (b : Both) (n : ℕ) (draw : Draw) (held : Held) → IsStateOf n names.replica draw b.replica held → IsHeldOnTheWay names b (take_groups n) draw held
way_of names b n draw held state = ((go_on state.0 n names.replica draw (going_from b.replica)).replica, ((state.0, refl), state.1))

-- the source's disk, which is not called meanwhile
groups_last : RunsLast source_side → Known → (names : Names) (t : Disks) (start : Stores) (nodes : Nodes) (k : ℕ) (b : Both) (old new : Report) (before after : ℕ) → Before names t start nodes k b old
    → AppliedPushed old.now before after old.marks new.marks → LastsOn t.source t.source start.source b.machine.history b.machine.history old.marks new.marks
groups_last law known names t start nodes k b old new before after at pushed =
    let r : Together names t start nodes b = at.together in
    let number : old.now.committed ≡ r.stands.now.held.number = ap (λ (m : Mark). m.committed) at.began.now ∙ sym (number_is known names t start nodes b r) ∙ r.stands.on.keeps.holds.shows.number in
    lasts_rest law t.source start.source r.stands.now b.machine.history old.marks new.marks pushed.more pushed.marks r.stands.reached (source_each t.source nodes.source.store r.stands.now r.stands.on)
    (λ fits. subst (λ (n : ℕ). IfSome t.source (λ _. NameNow (count t.source) n (map source_mark pushed.more))) number (groups_name t.source old.now before pushed.more at.began.calls fits pushed.named))

-- what an APPLY is told of its calls, at the run's names
module _ (nodes : Nodes) (src t u : Option Story) (start : Stores) (k n : ℕ) (draw : Draw) (old new : Report) (names : Names) (b : Both) (before : Before names (disks src t) start nodes k b old) where
  at_first : Together names (disks src t) start nodes b
  at_first = before.together

  abbrev Here : Identity → Replica → Held → Type 0
  Here identity x = IsStateOf n identity draw x

  carries_of : (CallsFit u → Carries (Here nodes.replica.node.identity (replica_of nodes.replica.node)) t u (held_of (replica_of nodes.replica.node)) old.marks new.marks) → CarriesSome t u names b (take_groups n) draw old.marks new.marks
  carries_of carries fits =
      carries_widen (Here names.replica b.replica) (IsHeldOnTheWay names b (take_groups n) draw) t u (held_of b.replica) old.marks new.marks (way_of names b n draw)
      (subst (λ (i : Identity). Carries (Here i b.replica) t u (held_of b.replica) old.marks new.marks) at_first.replica_name
      (subst (λ (x : Replica). Carries (Here nodes.replica.node.identity x) t u (held_of x) old.marks new.marks) at_first.replica (carries fits)))

  reaches_of : (now : Replica) → (CallsFit u → CarriesTo (Here nodes.replica.node.identity (replica_of nodes.replica.node)) t u (held_of (replica_of nodes.replica.node)) (held_of now) old.marks new.marks)
      → now ≡ (apply n names.replica draw b.replica).replica → CarriesOn t u names b (take_groups n) draw old.marks new.marks
  reaches_of now reaches is fits =
      carries_to_widen (Here names.replica b.replica) (IsHeldOnTheWay names b (take_groups n) draw) t u (held_of b.replica) (held_of (apply n names.replica draw b.replica).replica) old.marks new.marks (way_of names b n draw)
      (subst (λ (x : Replica). CarriesTo (Here names.replica b.replica) t u (held_of b.replica) (held_of x) old.marks new.marks) is
      (subst (λ (i : Identity). CarriesTo (Here i b.replica) t u (held_of b.replica) (held_of now) old.marks new.marks) at_first.replica_name
      (subst (λ (x : Replica). CarriesTo (Here nodes.replica.node.identity x) t u (held_of x) (held_of now) old.marks new.marks) at_first.replica (reaches fits))))

  are_of : (after : ℕ) (pushed : AppliedPushed old.now (replica_of nodes.replica.node).number after old.marks new.marks) → map uncounted pushed.more ≡ command_marks (mark_at k b) 0 (length pushed.more)
  are_of after pushed = applied_are old.now (replica_of nodes.replica.node).number k b pushed.more pushed.named before.began.now (ap (λ (x : Replica). x.number) at_first.replica)

  pushed_of : (after : ℕ) (pushed : AppliedPushed old.now (replica_of nodes.replica.node).number after old.marks new.marks) → Pushed (mark_at k b) 0 (length pushed.more) old.marks new.marks
  pushed_of after pushed = record { more = pushed.more; marks = pushed.marks; are = are_of after pushed }

  -- the last mark names what the replica has
  number_of : (after : ℕ) (pushed : AppliedPushed old.now (replica_of nodes.replica.node).number after old.marks new.marks) → after ≡ min (b.replica.number + length pushed.more) (2 ^ 64 - 1)
  number_of after pushed =
      sym pushed.number ∙ ap (λ (x : Replica). last_named x.number (map replica_mark pushed.more)) at_first.replica
      ∙ applied_last (mark_at k b) (length pushed.more) pushed.more before.began.few (are_of after pushed)

-- APPLY
pub applied : RunsLast source_side → Known → (nodes nodes' : Nodes) (src t u : Option Story) (start : Stores) (k n : ℕ) (draw : Draw) (old new : Report) (told : Applied) (lines : List ℕ) → FollowsGoOn → NoApplyStops → NothingIsDamaged
    → nodes'.source ≡ nodes.source → nodes'.replica.node.identity ≡ nodes.replica.node.identity → nodes'.replica.store.generation ≡ nodes.replica.store.generation
    → replica_of nodes'.replica.node ≡ (apply n nodes.replica.node.identity draw (replica_of nodes.replica.node)).replica
    → IsTold told (apply n nodes.replica.node.identity draw (replica_of nodes.replica.node)) → IsOnDisk u nodes'.replica → GoesOn t u
    → (CallsFit u → CarriesTo (IsStateOf n nodes.replica.node.identity draw (replica_of nodes.replica.node)) t u (held_of (replica_of nodes.replica.node)) (held_of (replica_of nodes'.replica.node)) old.marks new.marks)
    → AppliedPushed old.now (replica_of nodes.replica.node).number nodes'.replica.store.number old.marks new.marks → nodes'.replica.store.number ≡ (replica_of nodes'.replica.node).number
    → length new.marks ≡ length old.marks + told.count
    → lines ≡ applied_line k told.count (record { log = told.log; pos = told.pos }) (option_map stop_of told.stop) → Drew (take_groups n) draw old new → new.now ≡ old.now
    → (names : Names) (b : Both) → Before names (disks src t) start nodes k b old → CarriedOut names b k (take_groups n) (disks src t) (disks src u) start old new nodes' lines
applied law known nodes nodes' src t u start k n draw old new told lines follows stops damaged source identity generation replica is on_disk goes reaches pushed number many lines_are drew stays names b before =
    let r : Together names (disks src t) start nodes b = before.together in
    let here : apply n nodes.replica.node.identity draw (replica_of nodes.replica.node) ≡ apply n names.replica draw b.replica =
    ap (λ (i : Identity). apply n i draw (replica_of nodes.replica.node)) r.replica_name ∙ ap (apply n names.replica draw) r.replica in
    let a : Going = apply n names.replica draw b.replica in
    let is' : IsTold told (apply n names.replica draw b.replica) = subst (λ (a : Going). IsTold told a) here is in
    let behind : replica_of nodes'.replica.node ≡ a.replica = replica ∙ ap (λ (a : Going). a.replica) here in
    let groups : length pushed.more ≡ a.count = pushed_length old.marks new.marks pushed.more told.count pushed.marks many ∙ is'.count in
    let on : BothGoOn (disks src t) (disks src u) = record { source = on_refl src; replica = goes } in
    carried names b k (take_groups n) draw (disks src t) (disks src u) start old new nodes nodes' lines r (record { source = ap (λ (x : DurableSource). x.store.generation) source; replica = generation }) drew (began_on k b (disks src t) old new stays before.began) (record {
      commits = 0;
      groups = length pushed.more;
      pushed = pushed_of nodes src t u start k n draw old new names b before nodes'.replica.store.number pushed;
      number = none_more (committed_of b);
      carried = carried_append b.steps (replicate a.count (carried_at draw)) ∙ ap (λ (i : ℕ). carried_in b.steps + i) (carried_times a.count draw ∙ sym groups);
      applied = ap (λ (x : Replica). x.number) (sym behind) ∙ sym number ∙ number_of nodes src t u start k n draw old new names b before nodes'.replica.store.number pushed;
    }) (groups_last law known names (disks src t) start nodes k b old new (replica_of nodes.replica.node).number nodes'.replica.store.number before pushed)
    (reaches_of nodes src t u start k n draw old new names b before (replica_of nodes'.replica.node) reaches behind)
    (names_still t u (committed_of b) (committed_of b) old.marks new.marks pushed.more goes refl pushed.marks) (record {
      lines_are = lines_are ∙ ap (λ (c : ℕ). applied_line k c (record { log = told.log; pos = told.pos }) (option_map stop_of told.stop)) is'.count
          ∙ ap (λ (p : LogPlace). applied_line k a.count p (option_map stop_of told.stop)) is'.place ∙ ap (applied_line k a.count a.replica.place) is'.stop;
      through = λ begins. (stops names draw n b (r.follows begins) (r.sound begins), damaged names draw n b (r.follows begins) (r.sound begins));
      logged = tt;
      on = on;
      together = replica_changed names (disks src t) (disks src u) start nodes nodes' b a.replica (b.steps ++ replicate a.count (carried_at draw)) identity behind on_disk on
          (rw source r.stands) (rw source refl) (λ begins. follows names b (take_groups n) draw (r.follows begins) (r.sound begins)) r;
    })

-- one that was not carried out to its end
pub unapplied : RunsLast source_side → Known → (nodes : Nodes) (src t u : Option Story) (start : Stores) (k n : ℕ) (draw : Draw) (after : ℕ) (old new : Report) → GoesOn t u
    → (CallsFit u → Carries (IsStateOf n nodes.replica.node.identity draw (replica_of nodes.replica.node)) t u (held_of (replica_of nodes.replica.node)) old.marks new.marks)
    → AppliedPushed old.now (replica_of nodes.replica.node).number after old.marks new.marks → new.now ≡ old.now
    → (names : Names) (b : Both) → Before names (disks src t) start nodes k b old → GaveUp names b k (take_groups n) (disks src t) (disks src u) start old new
unapplied law known nodes src t u start k n draw after old new goes carries pushed stays names b before = record {
  began = began_on k b (disks src t) old new stays before.began;
  commits = 0;
  groups = length pushed.more;
  pushed = pushed_of nodes src t u start k n draw old new names b before after pushed;
  on = record { source = on_refl src; replica = goes };
  put = b.machine.history;
  may = inl refl;
  begins = before.together.stands.first;
  lasts = groups_last law known names (disks src t) start nodes k b old new (replica_of nodes.replica.node).number after before pushed;
  at = draw;
  carries = carries_of nodes src t u start k n draw old new names b before carries;
}

-- ---- RESTART of the replica

pub replica_reopened : (nodes nodes' : Nodes) (src t u : Option Story) (start : Stores) (k : ℕ) (draw : Draw) (old new : Report) (answer : Answer) (lines : List ℕ) → FollowsGoOn → RestartsKeepMarks
    → nodes'.source ≡ nodes.source → nodes'.replica.node.identity ≡ nodes.replica.node.identity → IfSome t (λ _. nodes'.replica.store.generation ≡ nodes.replica.store.generation) → IfSome t (λ _. replica_of nodes'.replica.node ≡ reopened (replica_of nodes.replica.node)) → IsOnDisk u nodes'.replica → GoesOn t u
    → ((marks : List Mark) → ReplicaRuns t u (held_of (replica_of nodes.replica.node)) [] marks marks) → answer ≡ ok 0 → lines ≡ shown k answer → Drew restart_replica draw old new → new.now ≡ old.now → new.marks ≡ old.marks
    → (names : Names) (b : Both) → Before names (disks src t) start nodes k b old → CarriedOut names b k restart_replica (disks src t) (disks src u) start old new nodes' lines
replica_reopened nodes nodes' src t u start k draw old new answer lines follows marks source identity generation replica on_disk goes runs is lines_are drew stays same names b before =
    let r : Together names (disks src t) start nodes b = before.together in
    let b' : Both = (next names b restart_replica draw).both in
    let on : BothGoOn (disks src t) (disks src u) = record { source = on_refl src; replica = goes } in
    let behind : replica_of nodes'.replica.node ≡ reopened b.replica =
    where_told t (replica_of nodes'.replica.node ≡ reopened (replica_of nodes.replica.node)) r.told.replica replica ∙ ap reopened r.replica in
    carried names b k restart_replica draw (disks src t) (disks src u) start old new nodes nodes' lines r (record {
      source = ap (λ (x : DurableSource). x.store.generation) source;
      replica = where_told t (nodes'.replica.store.generation ≡ nodes.replica.store.generation) r.told.replica generation;
    }) drew (began_on k b (disks src t) old new stays before.began)
    (marked_none k b b' old new before.began.few same refl (carried_append b.steps (opened_again ∷ []) ∙ sym (none_more (carried_in b.steps))) refl)
    (lasts_none src start.source b.machine.history old.marks new.marks same)
    (rep_looked names b restart_replica draw t u old.marks new.marks same (runs_here nodes b t u r.replica runs))
    (names_none t u (committed_of b) (committed_of b) old.marks new.marks goes refl same) (record {
      lines_are = lines_are ∙ ap (shown k) is;
      through = λ begins. tt;
      logged = tt;
      on = on;
      together = replica_changed names (disks src t) (disks src u) start nodes nodes' b (reopened b.replica) (b.steps ++ opened_again ∷ []) identity behind on_disk on
          (rw source r.stands) (rw source refl) (λ begins. follows names b restart_replica draw (r.follows begins) (r.sound begins)) r;
    })

-- one that was not carried out
pub replica_not_reopened : (nodes : Nodes) (src t u : Option Story) (start : Stores) (k : ℕ) (draw : Draw) (old new : Report) → GoesOn t u
    → ((marks : List Mark) → ReplicaRuns t u (held_of (replica_of nodes.replica.node)) [] marks marks) → new.now ≡ old.now → new.marks ≡ old.marks
    → (names : Names) (b : Both) → Before names (disks src t) start nodes k b old → GaveUp names b k restart_replica (disks src t) (disks src u) start old new
replica_not_reopened nodes src t u start k draw old new goes runs stays same names b before =
    gave_up names restart_replica start nodes k b (disks src t) (disks src u) old new draw before stays same (record { source = on_refl src; replica = goes })
    (lasts_none src start.source b.machine.history old.marks new.marks same)
    (λ fits. (rep_looked names b restart_replica draw t u old.marks new.marks same (runs_here nodes b t u before.together.replica runs) fits).carries)

-- ---- the report

grew_by : (old new : Report) (src rep src_more rep_more : List Draw) (marks : List Mark) → new ≡ record old { src_draws = src; rep_draws = rep; marks = marks } → src ≡ old.src_draws ++ src_more → rep ≡ old.rep_draws ++ rep_more → Grew old new
grew_by old new src rep src_more rep_more marks is src_is rep_is = record {
  source = ap (λ (r : Report). r.src_identity) is;
  replica = ap (λ (r : Report). r.rep_identity) is;
  src_more = src_more;
  rep_more = rep_more;
  src_draws = ap (λ (r : Report). r.src_draws) is ∙ src_is;
  rep_draws = ap (λ (r : Report). r.rep_draws) is ∙ rep_is;
}

-- no draw was told
pub src_none : (old : Report) (draws : List Draw) → draws ≡ old.src_draws → Grew old (record old { src_draws = draws })
src_none old draws same = grew_by old (record old { src_draws = draws }) draws old.rep_draws [] [] old.marks refl (same ∙ sym (append-nil old.src_draws)) (sym (append-nil old.rep_draws))

pub rep_none : (old : Report) (draws : List Draw) → draws ≡ old.rep_draws → Grew old (record old { rep_draws = draws })
rep_none old draws same = grew_by old (record old { rep_draws = draws }) old.src_draws draws [] [] old.marks refl (sym (append-nil old.src_draws)) (same ∙ sym (append-nil old.rep_draws))

-- one was, and marks were pushed
pub src_marked : (old new : Report) (draws : List Draw) (marks : List Mark) (draw : Draw) → new ≡ record old { src_draws = draws; marks = marks } → draws ≡ old.src_draws ++ draw ∷ [] → Grew old new
src_marked old new draws marks draw is told = grew_by old new draws old.rep_draws (draw ∷ []) [] marks is told (sym (append-nil old.rep_draws))

-- one was
pub src_one : (old : Report) (draws : List Draw) (draw : Draw) → draws ≡ old.src_draws ++ draw ∷ [] → Grew old (record old { src_draws = draws })
src_one old draws draw is = src_marked old (record old { src_draws = draws }) draws old.marks draw refl is

pub rep_one : (old : Report) (draws : List Draw) (draw : Draw) → draws ≡ old.rep_draws ++ draw ∷ [] → Grew old (record old { rep_draws = draws })
rep_one old draws draw is = grew_by old (record old { rep_draws = draws }) old.src_draws draws [] (draw ∷ []) old.marks refl (sym (append-nil old.src_draws)) is

pub said_drew : (old new : Report) (n : ℕ) (text : List ℕ) (draws : List Draw) (marks : List Mark) (draw : Draw) → new ≡ record old { src_draws = draws; marks = marks } → draws ≡ old.src_draws ++ draw ∷ [] → Drew (say n text) draw old new
said_drew old new n text draws marks draw is told = record {
  source = ap (λ (r : Report). r.src_identity) is;
  replica = ap (λ (r : Report). r.rep_identity) is;
  src_draws = ap (λ (r : Report). r.src_draws) is ∙ told;
  rep_draws = ap (λ (r : Report). r.rep_draws) is ∙ sym (append-nil old.rep_draws);
}

pub reopened_drew : (old : Report) (draws : List Draw) (draw : Draw) → draws ≡ old.src_draws ++ draw ∷ [] → Drew restart_source draw old (record old { src_draws = draws })
reopened_drew old draws draw is = record { source = refl; replica = refl; src_draws = is; rep_draws = sym (append-nil old.rep_draws) }

pub rep_marked : (old new : Report) (draws : List Draw) (marks : List Mark) (draw : Draw) → new ≡ record old { rep_draws = draws; marks = marks } → draws ≡ old.rep_draws ++ draw ∷ [] → Grew old new
rep_marked old new draws marks draw is told = grew_by old new old.src_draws draws [] (draw ∷ []) marks is (sym (append-nil old.src_draws)) told

pub replica_drew : (old : Report) (draws : List Draw) (draw : Draw) → draws ≡ old.rep_draws ++ draw ∷ [] → Drew restart_replica draw old (record old { rep_draws = draws })
replica_drew old draws draw is = record { source = refl; replica = refl; src_draws = sym (append-nil old.src_draws); rep_draws = is }

pub selected_drew : (old : Report) (text : List ℕ) (draws : List Draw) (draw : Draw) → draws ≡ old.rep_draws ++ draw ∷ [] → Drew (select text) draw old (record old { rep_draws = draws })
selected_drew old text draws draw is = record { source = refl; replica = refl; src_draws = sym (append-nil old.src_draws); rep_draws = is }

pub applied_drew : (old new : Report) (n : ℕ) (draws : List Draw) (marks : List Mark) (draw : Draw) → new ≡ record old { rep_draws = draws; marks = marks } → draws ≡ old.rep_draws ++ draw ∷ [] → Drew (take_groups n) draw old new
applied_drew old new n draws marks draw is told = record {
  source = ap (λ (r : Report). r.src_identity) is;
  replica = ap (λ (r : Report). r.rep_identity) is;
  src_draws = ap (λ (r : Report). r.src_draws) is ∙ sym (append-nil old.src_draws);
  rep_draws = ap (λ (r : Report). r.rep_draws) is ∙ told;
}

fetched_drew : (old : Report) (n : ℕ) → Drew (take_bytes n) some_draw old old
fetched_drew old n = record { source = refl; replica = refl; src_draws = sym (append-nil old.src_draws); rep_draws = sym (append-nil old.rep_draws) }

-- no store's generation changes
pub fetched_go : {A E : Type 0} (r : Result A E) (n : ℕ) (nodes nodes' : Nodes) → nodes'.source ≡ nodes.source → OnOk r (nodes'.replica.store.generation ≡ nodes.replica.store.generation) → OnOk r (GenerationsGo (take_bytes n) nodes nodes')
fetched_go (Err e) n nodes nodes' source generation = tt
fetched_go (Ok x) n nodes nodes' source generation = record { source = ap (λ (x : DurableSource). x.store.generation) source; replica = generation }

pub fetched_out : {E : Type 0} (r : Result (List ℕ) E) (t u : Disks) (start : Stores) (nodes nodes' : Nodes) (k n : ℕ) (report : Report) (names : Names) (b : Both) → Before names t start nodes k b report
    → OnOk r (GenerationsGo (take_bytes n) nodes nodes')
    → ((marks : List Mark) → Together names t start nodes b → LastsOn t.source u.source start.source b.machine.history b.machine.history marks marks)
    → ((draw : Draw) (marks : List Mark) → Together names t start nodes b → CarriesOn t.replica u.replica names b (take_bytes n) draw marks marks)
    → ((draw : Draw) → Together names t start nodes b → IfOk r (λ lines. Shows names b k (take_bytes n) draw t u start nodes' lines))
    → IfOk r (λ lines. CarriedOut names b k (take_bytes n) t u start report report nodes' lines)
fetched_out (Err e) t u start nodes nodes' k n report names b before go lasts carries shows = tt
fetched_out (Ok lines) t u start nodes nodes' k n report names b before go lasts carries shows =
    carried names b k (take_bytes n) some_draw t u start report report nodes nodes' lines before.together go (fetched_drew report n) before.began
    (marked_none k b (next names b (take_bytes n) some_draw).both report report before.began.few refl refl refl refl) (lasts report.marks before.together) (carries some_draw report.marks before.together)
    (names_none t.replica u.replica (committed_of b) (committed_of b) report.marks report.marks (shows some_draw before.together).on.replica refl refl) (shows some_draw before.together)

-- want of memory alone
pub short_refuses : {A : Type 0} (r : Result A Refusal) (t : Disks) (disk later : Faults) → IfErr r (λ refusal. refusal ≡ refusals.NoMemory) → IfErr r (λ refusal. RefusesNodes refusal t disk later)
short_refuses (Ok x) t disk later short = tt
short_refuses (Err refusal) t disk later short = subst (λ (e : Refusal). RefusesNodes e t disk later) (sym short) tt

-- of one disk, while the other is not called
pub source_alone : {A : Type 0} (r : Result A Refusal) (t rep : Option Story) (disk later n : ℕ) → IfErr r (λ refusal. (rep : Option Story) (n : ℕ) → RefusesNodes refusal (disks t rep) (faults disk n) (faults later n))
    → IfErr r (λ refusal. RefusesNodes refusal (disks t rep) (faults disk n) (faults later n))
source_alone (Ok x) t rep disk later n refuses = tt
source_alone (Err refusal) t rep disk later n refuses = refuses rep n

pub replica_alone : {A : Type 0} (r : Result A Refusal) (src t : Option Story) (disk later n : ℕ) → IfErr r (λ refusal. (src : Option Story) (n : ℕ) → RefusesNodes refusal (disks src t) (faults n disk) (faults n later))
    → IfErr r (λ refusal. RefusesNodes refusal (disks src t) (faults n disk) (faults n later))
replica_alone (Ok x) src t disk later n refuses = tt
replica_alone (Err refusal) src t disk later n refuses = refuses src n

-- the same of nodes that open
pub open_source_alone : (refusal : Refusal) (t rep : Option Story) (disk later n : ℕ) → ((rep : Option Story) (n : ℕ) → RefusesOpening refusal (disks t rep) (faults disk n) (faults later n)) → RefusesOpening refusal (disks t rep) (faults disk n) (faults later n)
open_source_alone refusal t rep disk later n refuses = refuses rep n

pub open_replica_behind : (refusal : Refusal) (src t : Option Story) (disk later n m : ℕ) → ((src : Option Story) (n : ℕ) → RefusesOpening refusal (disks src t) (faults n disk) (faults n later)) → n ≤ m → RefusesOpening refusal (disks src t) (faults n disk) (faults m later)
open_replica_behind refusals.SourceDisk src t disk later n m refuses less = never (refuses src 0)
  where
    never : Rose 0 0 → Rose n m
    never rose = absurd (omega (arith, rose))
open_replica_behind refusals.ReplicaDisk src t disk later n m refuses less = refuses src n
open_replica_behind (refusals.SourceDamaged file at) src t disk later n m refuses less = refuses src n
open_replica_behind (refusals.ReplicaDamaged file at) src t disk later n m refuses less = refuses src n
open_replica_behind refusals.NoMemory src t disk later n m refuses less = tt
