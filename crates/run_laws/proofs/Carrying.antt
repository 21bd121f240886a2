-- What a source committed can be carried out, entry after entry.
use Rattle.std.proofs.Common.{◌≡◌, ℕ, List, [], ◌∷◌, ◌++◌, Option, Some, None, Ok, refl, sym, ◌∙◌, ap, subst, arith}
use Rattle.std.specs.Option.{option_and_then}
use Rattle.auto_inc.specs.declared.counters.Counter.{Counter}
use Rattle.port_traits.specs.declared.identity.Identity.{Identity}
use Rattle.port_traits.specs.declared.identity.Draw.{Draw}
use Rattle.apply_laws.specs.catalog_rules.Bases.{Base}
use Rattle.apply_laws.specs.log_entries.declared.entries.Entry.{Entry}
use Rattle.apply_laws.specs.log_entries.declared.entries.Entry.TheVariants.{Transaction, Definition, LogStart}
use Rattle.apply_laws.specs.log_entries.Entries.{entry_applied, after}
use Rattle.apply_laws.specs.log_model.Log.{LogPlace}
use Rattle.apply_laws.specs.apply_model.Groups.{group_carried}
use Rattle.apply_laws.specs.log_entry_laws.Entries.{group_of_entry, StaysInLog, CanLog}
use Rattle.apply_laws.specs.Following.{BaseHolds, CanFollow, EntriesOfRunsFollow}
use Rattle.apply_laws.specs.Laws.{BasesHold, EntryIsCarried}
use Rattle.apply_laws.specs.session_model.Machine.{Whole, kept_entry, Machine}
use Rattle.apply_laws.specs.session_model.Holding.{changes_of, define, EntriesMade}
use Rattle.apply_laws.specs.session_replays.Again.{EntriesGive}
use Rattle.apply_laws.specs.session_replays.Followed.{EntriesFollow}
use Rattle.apply_laws.specs.session_replays.Texts.{EntriesSay}
use Rattle.apply_laws.specs.session_replays.Replaying.{Replays}
use Rattle.run_model.specs.Run.{Read, nothing, bytes_to, Starts, source_from}
use Rattle.run_model.specs.Following.{AreCommitted, head_entries}
use Rattle.run_laws.specs.Laws.{IsBehind, NothingIsOwed}

-- ---- one entry

-- a transaction or a definition
pub stays : (e : Entry Whole) (es : List (Entry Whole)) → AreCommitted (e ∷ es) → StaysInLog (kept_entry e)
stays (Transaction stamp server items) es committed = tt
stays (Definition stamp server item) es committed = tt
stays (LogStart stamp server) es committed = committed

pub others : (e : Entry Whole) (es : List (Entry Whole)) → AreCommitted (e ∷ es) → AreCommitted es
others (Transaction stamp server items) es committed = committed
others (Definition stamp server item) es committed = committed
others (LogStart stamp server) es committed = absurd committed

pub last_ones : (front back : List (Entry Whole)) → AreCommitted (front ++ back) → AreCommitted back
last_ones [] back committed = committed
last_ones (e ∷ es) back committed = last_ones es back (others e (es ++ back) committed)

pub first_ones : (front back : List (Entry Whole)) → AreCommitted (front ++ back) → AreCommitted front
first_ones [] back committed = tt
first_ones (Transaction stamp server items ∷ es) back committed = first_ones es back committed
first_ones (Definition stamp server item ∷ es) back committed = first_ones es back committed
first_ones (LogStart stamp server ∷ es) back committed = committed

-- ---- entries that say what they are

say_one : (e : Entry Whole) (es : List (Entry Whole)) → EntriesSay (e ∷ es) → EntriesSay (e ∷ [])
say_one (Transaction stamp server items) es say = (say.0, tt)
say_one (Definition stamp server item) es say = tt
say_one (LogStart stamp server) es say = tt

say_others : (e : Entry Whole) (es : List (Entry Whole)) → EntriesSay (e ∷ es) → EntriesSay es
say_others (Transaction stamp server items) es say = say.1
say_others (Definition stamp server item) es say = say
say_others (LogStart stamp server) es say = say

-- ---- entries on their bases

-- What is known of entries from a base on.
pub record Ready (base last : Base) (es : List (Entry Whole)) : Type 0 where
  pub holds : BaseHolds base
  pub made : EntriesMade es
  pub give : EntriesGive base es
  pub say : EntriesSay es
  pub makes : after changes_of define es base ≡ Some last

-- the base behind the first of them
record Stepped (base last : Base) (e : Entry Whole) (es : List (Entry Whole)) : Type 0 where
  pub next : Base
  pub makes : entry_applied changes_of define e base ≡ Some next
  pub ready : Ready next last es

step_on : BasesHold → (base last : Base) (e : Entry Whole) (es : List (Entry Whole)) → Ready base last (e ∷ es) → Stepped base last e es
step_on hold base last e es ready = by (entry_applied changes_of define e base) refl ready.makes
  where
    by : (o : Option Base) → entry_applied changes_of define e base ≡ o → option_and_then (after changes_of define es) o ≡ Some last → Stepped base last e es
    by None is makes = cc
    by (Some next) is makes = record {
      next = next;
      makes = is;
      ready = record {
        holds = hold.1 e base next ready.holds is;
        made = ready.made.1;
        give = ready.give.1 next is;
        say = say_others e es ready.say;
        makes = makes;
      };
    }

-- the entries behind the first ones
ready_behind : BasesHold → (front back : List (Entry Whole)) (base middle last : Base) → after changes_of define front base ≡ Some middle → Ready base last (front ++ back) → Ready middle last back
ready_behind hold [] back base middle last is ready = at base middle is ready
  where
    at : (a b : Base) → Some a ≡ Some b → Ready a last back → Ready b last back
    at a b same r = let e : a ≡ b = cc in rw e at r
ready_behind hold (e ∷ es) back base middle last is ready =
    let s : Stepped base last e (es ++ back) = step_on hold base last e (es ++ back) ready in
    ready_behind hold es back s.next middle last (sym (ap (option_and_then (after changes_of define es)) s.makes) ∙ is) s.ready

-- ---- what was owed, and what was put out since

made_both : (front back : List (Entry Whole)) → EntriesMade front → EntriesMade back → EntriesMade (front ++ back)
made_both [] back first last = last
made_both (e ∷ es) back first last = (first.0, made_both es back first.1 last)

say_both : (front back : List (Entry Whole)) → EntriesSay front → EntriesSay back → EntriesSay (front ++ back)
say_both [] back first last = last
say_both (Transaction stamp server items ∷ es) back first last = (first.0, say_both es back first.1 last)
say_both (Definition stamp server item ∷ es) back first last = say_both es back first last
say_both (LogStart stamp server ∷ es) back first last = say_both es back first last

give_both : (front back : List (Entry Whole)) (base middle : Base) → EntriesGive base front → after changes_of define front base ≡ Some middle → EntriesGive middle back → EntriesGive base (front ++ back)
give_both [] back base middle first makes last = at base middle makes last
  where
    at : (a b : Base) → Some a ≡ Some b → EntriesGive b back → EntriesGive a back
    at a b same give = let e : a ≡ b = cc in rw e give
give_both (e ∷ es) back base middle first makes last =
    (first.0, λ next is. give_both es back next middle (first.1 next is) (sym (ap (option_and_then (after changes_of define es)) is) ∙ makes) last)

makes_both : (front back : List (Entry Whole)) (base middle last : Base) → after changes_of define front base ≡ Some middle → after changes_of define back middle ≡ Some last
    → after changes_of define (front ++ back) base ≡ Some last
makes_both [] back base middle last first rest = at base middle first rest
  where
    at : (a b : Base) → Some a ≡ Some b → after changes_of define back b ≡ Some last → after changes_of define back a ≡ Some last
    at a b same makes = let e : a ≡ b = cc in rw e makes
makes_both (e ∷ es) back base middle last first rest = by (λ next makes. makes_both es back next middle last makes rest) (entry_applied changes_of define e base) first
  where
    by : ((next : Base) → after changes_of define es next ≡ Some middle → after changes_of define (es ++ back) next ≡ Some last)
        → (o : Option Base) → option_and_then (after changes_of define es) o ≡ Some middle → option_and_then (after changes_of define (es ++ back)) o ≡ Some last
    by more None makes = cc
    by more (Some next) makes = more next makes

pub behind_ready : (from : Starts) (m : Machine) → IsBehind from → Replays (source_from from) m → Ready from.replica.base m.state.shared.base (from.owed ++ m.history)
behind_ready from m behind replays = record {
  holds = behind.holds;
  made = made_both from.owed m.history behind.made replays.holds.made;
  give = give_both from.owed m.history from.replica.base from.base behind.give behind.makes replays.history;
  say = say_both from.owed m.history behind.say replays.says;
  makes = makes_both from.owed m.history from.replica.base from.base m.state.shared.base behind.makes replays.holds.entries;
}

-- the head of a log changes nothing
past_head : (read : Read) (stamp server : ℕ) (base last : Base) (es : List (Entry Whole)) → Ready base last (head_entries read stamp server ++ es) → Ready base last es
past_head nothing stamp server base last es ready =
    record { holds = ready.holds; made = ready.made.1; give = ready.give.1 base refl; say = ready.say; makes = ready.makes }
past_head (bytes_to bytes number) stamp server base last es ready = ready

-- all of it
pub all_ready : (from : Starts) (m : Machine) (stamp server : ℕ) (es : List (Entry Whole)) → IsBehind from → Replays (source_from from) m → from.owed ++ m.history ≡ head_entries from.read stamp server ++ es
    → Ready from.replica.base m.state.shared.base es
all_ready from m stamp server es behind replays is =
    past_head from.read stamp server from.replica.base m.state.shared.base es (subst (Ready from.replica.base m.state.shared.base) is (behind_ready from m behind replays))

-- what was owed and what a sound source has committed, behind the first entries of that
pub history_ready : BasesHold → (from : Starts) (m : Machine) (stamp server : ℕ) (front back : List (Entry Whole)) (base : Base) → IsBehind from → Replays (source_from from) m
    → from.owed ++ m.history ≡ head_entries from.read stamp server ++ (front ++ back) → after changes_of define front from.replica.base ≡ Some base → Ready base m.state.shared.base back
history_ready hold from m stamp server front back base behind replays is at =
    ready_behind hold front back from.replica.base base m.state.shared.base at (all_ready from m stamp server (front ++ back) behind replays is)

-- where neither has anything nothing is owed
pub nothing_is_owed : BasesHold → NothingIsOwed
nothing_is_owed hold = record { holds = hold.0; made = tt; give = tt; say = tt; makes = refl; place = refl; number = omega arith }

-- ---- entries that follow

pub in_front : (front back : List (Entry Whole)) → EntriesFollow (front ++ back) → EntriesFollow front
in_front [] back follow = tt
in_front (Transaction stamp server items ∷ es) back follow = (follow.0, in_front es back follow.1)
in_front (Definition stamp server item ∷ es) back follow = in_front es back follow
in_front (LogStart stamp server ∷ es) back follow = in_front es back follow

pub in_back : (front back : List (Entry Whole)) → EntriesFollow (front ++ back) → EntriesFollow back
in_back [] back follow = follow
in_back (Transaction stamp server items ∷ es) back follow = in_back es back follow.1
in_back (Definition stamp server item ∷ es) back follow = in_back es back follow
in_back (LogStart stamp server ∷ es) back follow = in_back es back follow

pub in_both : (front back : List (Entry Whole)) → EntriesFollow front → EntriesFollow back → EntriesFollow (front ++ back)
in_both [] back first last = last
in_both (Transaction stamp server items ∷ es) back first last = (first.0, in_both es back first.1 last)
in_both (Definition stamp server item ∷ es) back first last = in_both es back first last
in_both (LogStart stamp server ∷ es) back first last = in_both es back first last

-- ---- entries carried out

-- What the proofs take from the laws on appliers.
pub record Appliers : Type 0 where
  pub hold : BasesHold
  pub carried : EntryIsCarried
  pub runs : EntriesOfRunsFollow

-- An entry that a replica carries out on a base, and what is known of the others on the base behind it.
pub record Carries (identity : Identity) (draw : Draw) (base last : Base) (counters : List Counter) (e : Entry Whole) (es : List (Entry Whole)) (number : ℕ) (p : LogPlace) : Type 0 where
  pub next : Base
  pub makes : entry_applied changes_of define e base ≡ Some next
  pub ready : Ready next last es
  pub counters' : List Counter
  pub does : group_carried identity draw base counters (group_of_entry (kept_entry e) number p) ≡ Ok (record { base = next; counters = counters' })

-- one whose items do the same at every replica, if it is a transaction
pub entry_carried : Appliers → (identity : Identity) (draw : Draw) (base last : Base) (counters : List Counter) (e : Entry Whole) (es : List (Entry Whole)) (number : ℕ) (p : LogPlace)
    → Ready base last (e ∷ es) → EntriesFollow (e ∷ []) → AreCommitted (e ∷ es) → CanLog (kept_entry e) number p → Carries identity draw base last counters e es number p
entry_carried appliers identity draw base last counters e es number p ready follow committed can =
    let s : Stepped base last e es = step_on appliers.hold base last e es ready in
    let follows : CanFollow base e number p = record {
      holds = ready.holds;
      made = ready.made.0;
      items = appliers.runs base e ready.give.0 (say_one e es ready.say) follow;
      can = can;
      group = stays e es committed;
    } in
    let does = appliers.carried identity draw base s.next counters e number p follows s.makes in
    record { next = s.next; makes = s.makes; ready = s.ready; counters' = does.0; does = does.1 }
