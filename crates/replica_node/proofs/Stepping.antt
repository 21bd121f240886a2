-- A group at a place of the relay: what the definition makes of it, and what a step leaves.
use Rattle.std.proofs.Common.{◌≡◌, ◌<◌, ℕ, ◌+◌, ◌-◌, List, [], length, drop, length-drop, Some, Result, Ok, Err, IfOk, refl, sym, ap, ◌∙◌, arith, subst}
use Rattle.port_traits.specs.declared.identity.Identity.{Identity}
use Rattle.port_traits.specs.declared.identity.Draw.{Draw}
use Rattle.commit_store.specs.declared.prepared.Prepared.{Prepared}
use Rattle.commit_store.specs.store_model.declared.record.Head.{Head}
use Rattle.commit_store.specs.store_model.declared.record.Record.TheVariants.{PlaceMoved}
use Rattle.commit_store.specs.store_model.Held.{next_applied, carried_out as carried_to}
use Rattle.commit_store.specs.store_model.Laws.{StepsRecordsLead}
use Rattle.log_groups.specs.log_group_laws.Laws.{Lies}
use Rattle.log_groups.specs.Views.{form_of, group_seen, next_of}
use Rattle.log_groups.specs.declared.group.Form as code_form_type
use Rattle.log_groups.specs.declared.group.Group as code_group_type
use Rattle.log_groups.specs.declared.group.Next as code_next_type
use Rattle.log_groups.specs.declared.group.Next.TheVariants as code_next
use Rattle.relay_log.specs.apply_model.Stops.{Differs}
use Rattle.relay_log.specs.apply_model.Groups.{Applied, group_carried}
use Rattle.relay_log.specs.log_model.Groups.{Form, start, next_log, ddl, txn, Group, Next, group, group_at}
use Rattle.relay_log.specs.log_model.Log.{LogPlace}
use Rattle.relay_log.specs.declared.place.Walk.{Walk}
use Rattle.relay_log.specs.Reaching.{Fetched, ahead_of, place_seen}
use Rattle.stmt_apply.specs.prog_run.prog_work.Contents.{Contents, base_of}
use Rattle.replica_model.specs.Applying.{Going, by_form, by_next, carry, next_at}
use Rattle.replica_model.specs.Replica.{Replica, behind_form, behind_group, size_of}
use Rattle.replica_node.specs.declared.told.Step.{Step}
use Rattle.replica_node.specs.declared.told.Step.TheVariants.{Over, Moved, Carried, Waits, Stopped as StoppedBy}
use Rattle.replica_node.specs.declared.told.Stopped.TheVariants as stopped
use Rattle.replica_node.specs.Kept.{Kept, held_of, replica_of}
use Rattle.replica_node.specs.Records.{IsDefinition, IsMadeOf, IsRecorded, IsTransaction, Leaves, MovesOn, RecordLeads}
use Rattle.replica_node.specs.Steps.{CarriesOut, GoesOn, IsOver, behind_step, ended_by, going_at, passed_to, stop_of}

-- ---- the end of a log

pub moves_on : StepsRecordsLead → (p : Prepared) (head : Head) (k : Kept) (behind : Walk) → IsMadeOf p (PlaceMoved head)
    → head ≡ record { number = k.number; log = behind.place.log; pos = behind.place.pos }
    → RecordLeads p (held_of (replica_of k)) (held_of (replica_of (record k { relay = passed_to behind k.relay })))
moves_on law p head k behind made is = record {
  of = PlaceMoved head;
  is = made;
  makes =
      law.places head (held_of (replica_of k)) (ap (λ (h : Head). h.number) is)
      ∙ ap (λ (h : Head). Some (record { base = base_of k.work; number = h.number; ends = []; place = record { log = h.log; pos = h.pos } })) is;
}

-- ---- a group that stands at a place

-- it is carried out or stops, as the definition has it
abbrev pub Carries : Identity → Draw → Group → Type 0
Carries identity draw g =
    (more : Going → Going) (a : Going) → by_form more identity draw g a g.form ≡ carry more g a (group_carried identity draw a.replica.base a.replica.counters g)

by_carry : (identity : Identity) (draw : Draw) (g : Group) (form : Form) → ((more : Going → Going) (a : Going) → by_form more identity draw g a form ≡ carry more g a (group_carried identity draw a.replica.base a.replica.counters g))
    → form ≡ g.form → Carries identity draw g
by_carry identity draw g form is same = λ more a. ap (by_form more identity draw g a) (sym same) ∙ is more a

definition_by : (identity : Identity) (draw : Draw) (text : List ℕ) (g : Group) (form : Form) → form ≡ g.form → IsDefinition text form → Carries identity draw g
definition_by identity draw text g start same is = absurd is
definition_by identity draw text g (next_log next) same is = absurd is
definition_by identity draw text g (ddl s) same is = by_carry identity draw g (ddl s) (λ more a. refl) same
definition_by identity draw text g (txn opening items number) same is = absurd is

transaction_by : (identity : Identity) (draw : Draw) (g : Group) (form : Form) → form ≡ g.form → IsTransaction form → Carries identity draw g
transaction_by identity draw g start same is = absurd is
transaction_by identity draw g (next_log next) same is = absurd is
transaction_by identity draw g (ddl s) same is = absurd is
transaction_by identity draw g (txn opening items number) same is = by_carry identity draw g (txn opening items number) (λ more a. refl) same

pub definition_carries : (identity : Identity) (draw : Draw) (text : List ℕ) (g : Group) → IsDefinition text g.form → Carries identity draw g
definition_carries identity draw text g is = definition_by identity draw text g g.form refl is

pub transaction_carries : (identity : Identity) (draw : Draw) (g : Group) → IsTransaction g.form → Carries identity draw g
transaction_carries identity draw g is = transaction_by identity draw g g.form refl is

-- behind a group that is no end of a log the log stays
same_log : (form : Form) (end : ℕ) (p q : LogPlace) → p.log ≡ q.log → behind_form p end form ≡ behind_form q end form
same_log start end p q same = ap (λ (n : ℕ). record { log = n; pos = end }) same
same_log (next_log next) end p q same = refl
same_log (ddl s) end p q same = ap (λ (n : ℕ). record { log = n; pos = end }) same
same_log (txn opening items number) end p q same = ap (λ (n : ℕ). record { log = n; pos = end }) same

-- a group stands at a place ahead, and another place is behind it
pub record StandsAt (k : Kept) (ahead behind : Walk) (g : Group) : Type 0 where
  pub over : IsOver (replica_of k) ahead
  pub at : group_at (ahead_of k.relay ahead) ≡ group g
  pub place : place_seen behind.place ≡ behind_group (place_seen ahead.place) g
  pub passed : behind.passed ≡ ahead.passed + size_of g
  pub lies : Lies ahead.place.pos (length (drop ahead.passed k.relay.bytes)) g

module _ (identity : Identity) (draw : Draw) (k : Kept) (ahead behind : Walk) (g : Group) (stands : StandsAt k ahead behind g) where
  abbrev here : ℕ → Going
  here count = going_at (replica_of k) ahead.passed count

  pub next_is : (count : ℕ) → next_at (here count) ≡ group g
  next_is count =
      ap (λ (n : ℕ). group_at (record { bytes = drop ahead.passed k.relay.bytes; pos = n })) (sym (ap (λ (p : LogPlace). p.pos) stands.over.place)) ∙ stands.at

  pub behind_it : place_seen behind.place ≡ behind_group k.relay.place g
  behind_it = stands.place ∙ same_log g.form g.end (place_seen ahead.place) k.relay.place (ap (λ (p : LogPlace). p.log) stands.over.place)

  pub less : length (drop behind.passed k.relay.bytes) < length k.relay.bytes - ahead.passed
  less =
      omega (arith, stands.passed, stands.lies.begins, stands.lies.header, stands.lies.within, length-drop ahead.passed k.relay.bytes, length-drop behind.passed k.relay.bytes)

  -- ---- carried out

  abbrev behind_with : Contents → (number : ℕ) → LogPlace → (passed : ℕ) → Replica
  behind_with work number place passed = record { base = base_of work; counters = work.counters; number = number; place = place; relay = drop passed k.relay.bytes }

  -- the replica behind it
  to_behind : (work : Contents) (number : ℕ) → behind_with work number (place_seen behind.place) behind.passed ≡ behind_with work number (behind_group k.relay.place g) (ahead.passed + size_of g)
  to_behind work number =
      ap (λ (p : LogPlace). behind_with work number p behind.passed) behind_it ∙ ap (λ (n : ℕ). behind_with work number (behind_group k.relay.place g) n) stands.passed

  -- what is there behind a step
  abbrev after : Step → Contents → Replica
  after step work = replica_of (behind_step step behind (record k { work = work }))

  abbrev made : Result Applied Differs
  made = group_carried identity draw (base_of k.work) k.work.counters g

  pub carried_step : (step : Step) (work : Contents) → Carries identity draw g → CarriesOut step k.work work made → (more : Going → Going) (count : ℕ)
      → by_next more identity draw (here count) (next_at (here count)) ≡ ended_by more step (after step work) ahead.passed count
  carried_step (Carried p) work carries out more count =
      ap (by_next more identity draw (here count)) (next_is count) ∙ carries more (here count) ∙ ap (carry more g (here count)) out
      ∙ ap (λ (r : Replica). more (going_at r 0 (count + 1))) (sym (to_behind work (next_applied k.number)))
  carried_step (StoppedBy (stopped.Differs pos code table key)) work carries out more count =
      ap (by_next more identity draw (here count)) (next_is count) ∙ carries more (here count) ∙ ap (carry more g (here count)) out.0
      ∙ ap (λ (w : Contents). record (going_at (replica_of (record k { work = w })) ahead.passed count) { stop = Some (stop_of (stopped.Differs pos code table key)) }) (sym out.1)
  carried_step (StoppedBy (stopped.Damaged pos)) work carries out more count = absurd out
  carried_step (StoppedBy (stopped.Foreign pos kind)) work carries out more count = absurd out
  carried_step (Over next) work carries out more count = absurd out
  carried_step (Moved p) work carries out more count = absurd out
  carried_step Waits work carries out more count = absurd out

  pub carried_goes : (step : Step) (work : Contents) → CarriesOut step k.work work made → GoesOn step (length k.relay.bytes - ahead.passed) (after step work)
  carried_goes (Carried p) work out = less
  carried_goes (StoppedBy stop) work out = tt
  carried_goes (Over next) work out = absurd out
  carried_goes (Moved p) work out = absurd out
  carried_goes Waits work out = tt

  pub carried_leaves : (step : Step) (work : Contents) (head : Head) → CarriesOut step k.work work made → IsRecorded step head k.work work
      → head ≡ record { number = next_applied k.number; log = behind.place.log; pos = behind.place.pos } → Leaves step (replica_of k) (after step work)
  carried_leaves (Carried p) work head out recorded is =
      (subst (λ (h : Head). RecordLeads p (held_of (replica_of k)) (carried_to h (held_of (replica_of k)) (base_of work))) is (recorded (held_of (replica_of k)) refl (ap (λ (h : Head). h.number) is)), refl)
  carried_leaves (StoppedBy (stopped.Differs pos code table key)) work head out recorded is = ap (λ (w : Contents). replica_of (record k { work = w })) out.1
  carried_leaves (StoppedBy (stopped.Damaged pos)) work head out recorded is = absurd out
  carried_leaves (StoppedBy (stopped.Foreign pos kind)) work head out recorded is = absurd out
  carried_leaves (Over next) work head out recorded is = absurd out
  carried_leaves (Moved p) work head out recorded is = absurd out
  carried_leaves Waits work head out recorded is = absurd out

  -- ---- passed, as the end of a log

  moves_by : (step : Step) (k' : Kept) (next : ℕ) → g.form ≡ next_log next → MovesOn step k k' behind → (more : Going → Going) (count : ℕ)
      → by_next more identity draw (here count) (next_at (here count)) ≡ ended_by more step (replica_of k') ahead.passed count
  moves_by (Moved p) k' next is out more count =
      ap (by_next more identity draw (here count)) (next_is count) ∙ ap (by_form more identity draw g (here count)) is
      ∙ ap (λ (r : Replica). more (going_at r 0 count)) (sym (to_behind k.work k.number))
      ∙ ap (λ (n : Kept). more (going_at (replica_of n) 0 count)) (sym out.0)
  moves_by (Over ahead') k' next is out more count = absurd out
  moves_by (Carried p) k' next is out more count = absurd out
  moves_by Waits k' next is out more count = absurd out
  moves_by (StoppedBy stop) k' next is out more count = absurd out

  goes_by : (step : Step) (k' : Kept) → MovesOn step k k' behind → GoesOn step (length k.relay.bytes - ahead.passed) (replica_of k')
  goes_by (Moved p) k' out = subst (λ (n : Kept). length (replica_of n).relay < length k.relay.bytes - ahead.passed) (sym out.0) less
  goes_by (Over ahead') k' out = absurd out
  goes_by (Carried p) k' out = absurd out
  goes_by Waits k' out = tt
  goes_by (StoppedBy stop) k' out = tt

  leaves_by : (step : Step) (k' : Kept) → MovesOn step k k' behind → Leaves step (replica_of k) (replica_of k')
  leaves_by (Moved p) k' out = (out.1, ap (λ (n : Kept). n.number) out.0)
  leaves_by (Over ahead') k' out = absurd out
  leaves_by (Carried p) k' out = absurd out
  leaves_by Waits k' out = absurd out
  leaves_by (StoppedBy stop) k' out = absurd out

  pub moved_step : {E : Type 0} (result : Result Step E) (k' : Kept) (next : ℕ) → g.form ≡ next_log next → IfOk result (λ step. MovesOn step k k' behind)
      → IfOk result (λ step. (more : Going → Going) → (count : ℕ) → by_next more identity draw (here count) (next_at (here count)) ≡ ended_by more step (replica_of k') ahead.passed count)
  moved_step (Ok step) k' next is out = λ more count. moves_by step k' next is out more count
  moved_step (Err e) k' next is out = tt

  pub moved_goes : {E : Type 0} (result : Result Step E) (k' : Kept) → IfOk result (λ step. MovesOn step k k' behind)
      → IfOk result (λ step. GoesOn step (length k.relay.bytes - ahead.passed) (replica_of k'))
  moved_goes (Ok step) k' out = goes_by step k' out
  moved_goes (Err e) k' out = tt

  pub moved_leaves : {E : Type 0} (result : Result Step E) (k' : Kept) → IfOk result (λ step. MovesOn step k k' behind) → IfOk result (λ step. Leaves step (replica_of k) (replica_of k'))
  moved_leaves (Ok step) k' out = leaves_by step k' out
  moved_leaves (Err e) k' out = tt

-- ---- the same, as the code has it

-- what was found at a place stands there
pub stands_so : (k : Kept) (relay : Fetched) (ahead behind : Walk) (found : code_next_type.Next) (g : code_group_type.Group) → relay ≡ k.relay → IsOver (replica_of k) ahead
    → next_of found ≡ group_at (ahead_of relay ahead) → found ≡ code_next.Group g → place_seen behind.place ≡ behind_group (place_seen ahead.place) (group_seen g)
    → behind.passed ≡ ahead.passed + size_of (group_seen g) → Lies ahead.place.pos (length (drop ahead.passed relay.bytes)) (group_seen g) → StandsAt k ahead behind (group_seen g)
stands_so k relay ahead behind found g same over there is place passed lies = record {
  over = over;
  at = ap (λ (f : Fetched). group_at (ahead_of f ahead)) (sym same) ∙ sym there ∙ ap next_of is;
  place = place;
  passed = passed;
  lies = subst (λ (f : Fetched). Lies ahead.place.pos (length (drop ahead.passed f.bytes)) (group_seen g)) same lies;
}

-- what holds of the form of a group in the code holds of the group
pub form_is : (P : Form → Type 0) (g : code_group_type.Group) (form : code_form_type.Form) → g.form ≡ form → P (form_of form) → P (group_seen g).form
form_is P g form is holds = subst (λ (f : code_form_type.Form). P (form_of f)) (sym is) holds

-- a replica that was carried out on, from one that is the same as another, and the step that it leaves
module _ (draw : Draw) (k now new : Kept) (ahead behind : Walk) (g : Group) (stands : StandsAt k ahead behind g) (result step : Step) (work : Contents) (same : k ≡ now) (is : result ≡ step)
    (passes : new ≡ behind_step step behind (record k { work = work })) (out : CarriesOut step k.work work (group_carried k.identity draw (base_of k.work) k.work.counters g)) where
  pub so_carried : Carries k.identity draw g → (more : Going → Going) (count : ℕ)
      → by_next more now.identity draw (going_at (replica_of now) ahead.passed count) (next_at (going_at (replica_of now) ahead.passed count)) ≡ ended_by more result (replica_of new) ahead.passed count
  so_carried carries more count =
      subst (λ (n : Kept). by_next more n.identity draw (going_at (replica_of n) ahead.passed count) (next_at (going_at (replica_of n) ahead.passed count)) ≡ ended_by more result (replica_of new) ahead.passed count) same
      (carried_step k.identity draw k ahead behind g stands step work carries out more count
      ∙ ap (λ (n : Kept). ended_by more step (replica_of n) ahead.passed count) (sym passes)
      ∙ ap (λ (s : Step). ended_by more s (replica_of new) ahead.passed count) (sym is))

  pub so_goes : GoesOn result (length (replica_of now).relay - ahead.passed) (replica_of new)
  so_goes =
      subst (λ (n : Kept). GoesOn result (length (replica_of n).relay - ahead.passed) (replica_of new)) same
      (subst (λ (n : Kept). GoesOn result (length k.relay.bytes - ahead.passed) (replica_of n)) (sym passes)
      (subst (λ (s : Step). GoesOn s (length k.relay.bytes - ahead.passed) (replica_of (behind_step step behind (record k { work = work })))) (sym is)
      (carried_goes k.identity draw k ahead behind g stands step work out)))

  pub so_leaves : (head : Head) → IsRecorded step head k.work work → head ≡ record { number = next_applied k.number; log = behind.place.log; pos = behind.place.pos }
      → Leaves result (replica_of now) (replica_of new)
  so_leaves head recorded made =
      subst (λ (n : Kept). Leaves result (replica_of n) (replica_of new)) same
      (subst (λ (n : Kept). Leaves result (replica_of k) (replica_of n)) (sym passes)
      (subst (λ (s : Step). Leaves s (replica_of k) (replica_of (behind_step step behind (record k { work = work })))) (sym is)
      (carried_leaves k.identity draw k ahead behind g stands step work head out recorded made)))
