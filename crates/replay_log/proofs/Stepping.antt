-- One group that was fetched, carried out.
use Rattle.std.proofs.Common.{◌≡◌, ◌⊎◌, inl, inr, ◌≤◌, ℕ, zero, suc, ◌+◌, ◌-◌, Bool, true, false, cond, eqb, leb, List, [], ◌∷◌, ◌++◌, length, drop, None, Result, Ok, Err, refl, sym, ap, ◌∙◌, arith, subst, length-append}
use Rattle.std.specs.Prelude.{codes}
use Rattle.std.specs.Str.{bytes_eq}
use Rattle.std.specs.Option.{option_map}
use Rattle.std.proofs.lemmas.Bool.{le-leb, lt-leb}
use Rattle.std.proofs.lemmas.List.{drop_all}
use Rattle.std.proofs.Math.Seq.{drop-append_seam}
use Rattle.port_traits.specs.declared.identity.Identity.{Identity}
use Rattle.port_traits.specs.declared.identity.Draw.{Draw}
use Rattle.event_codec.specs.Event.{Body, query, rotate, int_var, rand, user_var, format_description, xid, table_map, rows, Query}
use Rattle.event_codec.specs.Reading.{Stop, short, damaged, foreign}
use Rattle.log_reader.specs.log_model.Events.{Place, Placed, events_from, stop_from}
use Rattle.log_reader.specs.log_model.Groups.{Form, start, next_log, ddl, txn, Group, Next, group, not_whole, damaged_at, foreign_at, Scan, done, stopped, first, scan, stop_next, statement_of, alone, txn_of, begun_by, group_of, group_at}
use Rattle.log_reader.specs.log_model.Log.{LogPlace, moved}
use Rattle.durable_replica.specs.replica_node.apply_model.Stops.{Differs}
use Rattle.durable_replica.specs.replica_node.apply_model.Groups.{Applied, group_carried}
use Rattle.durable_replica.specs.replica_node.replica_model.Replica.{Replica, behind_form, behind_group, fetched, past_groups, past_next, size_of, want}
use Rattle.durable_replica.specs.replica_node.replica_model.Applying.{Going, apply, by_form, by_next, carry, carried_out, differs, go_on, going_from, moved_behind, next_at, one_more}
use Rattle.durable_replica.specs.replica_node.replica_model.Replaying.{Replay, carried, by_form as replay_form}
use Rattle.log_reader.specs.log_file_model.Passing.{names_next}
use Rattle.log_reader.proofs.of_log_group_laws.Lying.{group_lies, nothing_there}
use Rattle.log_reader.proofs.of_log_group_laws.Staying.{group_stays}
use Rattle.replay_log.specs.Keeping.{IsWhole, IsBegun, Keeps, Follows}

-- ---- the beginning of a log stands at its first place alone

abbrev IsAtFour : Next → Type 0
IsAtFour (group g) = g.form ≡ start → g.begin ≡ 4
IsAtFour not_whole = Unit {0}
IsAtFour (damaged_at p) = Unit {0}
IsAtFour (foreign_at p kind) = Unit {0}

stop_four : (stop : Stop) → IsAtFour (stop_next stop)
stop_four (short need) = tt
stop_four (damaged p) = tt
stop_four (foreign p kind) = tt

module _ (x : Placed) (xs : List Placed) (stop : Stop) where
  txn_four : (q : Query) (s : Scan) → IsAtFour (txn_of x q xs s)
  txn_four q (stopped st) = stop_four st
  txn_four q (done n end) = λ form. cc

  query_four : (q : Query) (b : Bool) → IsAtFour (cond b (txn_of x q xs (scan first xs stop)) (alone x (ddl (statement_of x q))))
  query_four q true = txn_four q (scan first xs stop)
  query_four q false = λ form. cc

  start_four : (b : Bool) → eqb x.pos 4 ≡ b → IsAtFour (cond b (alone x start) (damaged_at x.pos))
  start_four true is = λ form. grind arith
  start_four false is = tt

  begun_four : (b : Body) → IsAtFour (begun_by x xs stop b)
  begun_four (query q) = query_four q (bytes_eq q.text (codes "BEGIN"))
  begun_four (rotate next) = λ form. cc
  begun_four (int_var kind n) = tt
  begun_four (rand a b) = tt
  begun_four (user_var name v) = tt
  begun_four (format_description version) = start_four (eqb x.pos 4) refl
  begun_four (xid n) = tt
  begun_four (table_map m) = tt
  begun_four (rows r) = tt

group_of_four : (es : List Placed) (stop : Stop) → IsAtFour (group_of es stop)
group_of_four [] stop = stop_four stop
group_of_four (x ∷ xs) stop = begun_four x xs stop x.event.body

begins_at_four : (bytes : List ℕ) (pos : ℕ) (g : Group) → group_at (record { bytes = bytes; pos = pos }) ≡ group g → g.form ≡ start → pos ≡ 4
unfolding group_at
begins_at_four bytes pos g is form =
    let p : Place = record { bytes = bytes; pos = pos } in
    sym (group_lies bytes pos g is).begins ∙ subst IsAtFour is (group_of_four (events_from p) (stop_from p)) form

-- ---- where bytes are wanted from

none_past : (most : ℕ) (place : LogPlace) → past_groups most place [] ≡ moved place 0
none_past zero place = refl
none_past (suc most) place = ap (past_next (past_groups most) place []) (nothing_there place.pos)

past_start : (place : LogPlace) (relay : List ℕ) (g : Group) → IsWhole relay place.pos g → g.form ≡ start → (past_groups (length relay) place relay).pos ≡ place.pos + length relay
past_start place [] g is form = let no : not_whole ≡ group g = sym (nothing_there place.pos) ∙ is.reads in cc
past_start place (b ∷ bs) g is form =
    let lies = group_lies (b ∷ bs) place.pos g is.reads in
    let all : drop (size_of g) (b ∷ bs) ≡ [] = drop_all (size_of g) (b ∷ bs) (omega (arith, is.whole, lies.begins)) in
    let there : behind_group place g ≡ record { log = place.log; pos = g.end } = ap (behind_form place g.end) form in
    let past : past_groups (suc (length bs)) place (b ∷ bs) ≡ moved (record { log = place.log; pos = g.end }) 0 =
    ap (past_next (past_groups (length bs)) place (b ∷ bs)) is.reads
    ∙ ap (λ (p : LogPlace). past_groups (length bs) p (drop (size_of g) (b ∷ bs))) there
    ∙ ap (past_groups (length bs) (record { log = place.log; pos = g.end })) all
    ∙ none_past (length bs) (record { log = place.log; pos = g.end }) in
    ap (λ (p : LogPlace). p.pos) past ∙ omega (arith, is.whole)

wanted_by : (r : Replica) (pos : ℕ) → (r.place.pos + length r.relay ≡ pos) → ((r.relay ≡ []) ⊎ ((g : Group) × IsWhole r.relay r.place.pos g × (g.form ≡ start)))
    → (past_groups (length r.relay) r.place r.relay).pos ≡ pos
wanted_by r pos at (inl none) =
    ap (λ (bs : List ℕ). (past_groups (length bs) r.place bs).pos) none ∙ omega (arith, at, ap length none)
wanted_by r pos at (inr begun) = past_start r.place r.relay begun.0 begun.1 begun.2 ∙ at

pub wanted : (r : Replica) (pos : ℕ) → IsBegun r.place.pos r.relay pos → (want r).pos ≡ pos
unfolding want
wanted r pos begun = wanted_by r pos begun.0 begun.1

-- the group there ends within what a log may have
pub room : (r : Replica) (bytes : List ℕ) (pos : ℕ) (g : Group) → IsBegun r.place.pos r.relay pos → IsWhole bytes pos g → (want r).pos + length bytes ≤ 4294967295
room r bytes pos g begun is = omega (arith, wanted r pos begun, is.whole, (group_lies bytes pos g is.reads).ends)

-- ---- one group

module _ (identity : Identity) (draw : Draw) where
  -- nothing more is carried out where no bytes are left, or as many groups as are wanted were
  no_more : (most : ℕ) (a : Going) → drop a.passed a.replica.relay ≡ [] → go_on most 1 identity draw a ≡ a
  no_more zero a none = refl
  no_more (suc most) a none = by (leb 1 a.count)
    where
      nothing : next_at a ≡ not_whole
      nothing = ap (λ (bs : List ℕ). group_at (record { bytes = bs; pos = a.replica.place.pos + a.passed })) none ∙ nothing_there (a.replica.place.pos + a.passed)

      by : (b : Bool) → cond b a (by_next (go_on most 1 identity draw) identity draw a (next_at a)) ≡ a
      by true = refl
      by false = ap (by_next (go_on most 1 identity draw) identity draw a) nothing

  full : (most : ℕ) (a : Going) → a.count ≡ 1 → go_on most 1 identity draw a ≡ a
  full zero a one = refl
  full (suc most) a one = let test : leb 1 a.count ≡ true = le-leb _ _ (omega (arith, one)) in rw test refl

  module _ (g : Group) (a : Going) (none : a.count ≡ 0) (all : drop (a.passed + size_of g) a.replica.relay ≡ []) where
    carried_by : (most : ℕ) (r : Result Applied Differs) → carry (go_on most 1 identity draw) g a r ≡ carry (λ (b : Going). b) g a r
    carried_by most (Ok applied) = full most (carried_out g applied a) (ap (λ n. n + 1) none)
    carried_by most (Err stop) = refl

    formed_by : (most : ℕ) (f : Form) → by_form (go_on most 1 identity draw) identity draw g a f ≡ by_form (λ (b : Going). b) identity draw g a f
    formed_by most start = no_more most (record a { passed = a.passed + size_of g }) all
    formed_by most (next_log next) = no_more most (record a { replica = moved_behind g a; passed = 0 }) all
    formed_by most (ddl s) = carried_by most (group_carried identity draw a.replica.base a.replica.counters g)
    formed_by most (txn opening items number) = carried_by most (group_carried identity draw a.replica.base a.replica.counters g)

    one_group : (most : ℕ) → next_at a ≡ group g → go_on (suc most) 1 identity draw a ≡ by_form (λ (b : Going). b) identity draw g a g.form
    one_group most is =
        let test : leb 1 a.count ≡ false = lt-leb _ _ (omega (arith, none)) in
        rw test (ap (by_next (go_on most 1 identity draw) identity draw a) is ∙ formed_by most g.form)

-- ---- behind what is in front of it

-- an APPLY that has passed over so many bytes of what was fetched
abbrev over : Replica → (passed : ℕ) → Going
over r passed = record { replica = r; passed = passed; count = 0; stop = None }

module _ (identity : Identity) (draw : Draw) (r : Replica) (bytes : List ℕ) (pos : ℕ) (g : Group) (is : IsWhole bytes pos g) where
  abbrev more : Replica
  more = fetched bytes r

  -- all of what was fetched is passed behind the group
  all_passed : r.place.pos + length r.relay ≡ pos → drop (length r.relay + size_of g) (r.relay ++ bytes) ≡ []
  all_passed at =
      let lies = group_lies bytes pos g is.reads in
      drop_all (length r.relay + size_of g) (r.relay ++ bytes) (omega (arith, length-append r.relay bytes, is.whole, lies.begins, lies.header))

  -- the group is what is looked at
  here : r.place.pos + length r.relay ≡ pos → next_at (over more (length r.relay)) ≡ group g
  here at =
      ap (λ (bs : List ℕ). group_at (record { bytes = bs; pos = r.place.pos + length r.relay })) (drop-append_seam r.relay bytes)
      ∙ ap (λ (n : ℕ). group_at (record { bytes = bytes; pos = n })) at ∙ is.reads

  size : 19 ≤ length bytes
  size = let lies = group_lies bytes pos g is.reads in omega (arith, lies.header, lies.within)

  one_behind : (most : ℕ) → r.place.pos + length r.relay ≡ pos
      → go_on (suc most) 1 identity draw (over more (length r.relay)) ≡ by_form (λ (b : Going). b) identity draw g (over more (length r.relay)) g.form
  one_behind most at = one_group identity draw g (over more (length r.relay)) refl (all_passed at) most (here at)

  apply_none : (most : ℕ) → suc most ≡ length more.relay → r.place.pos + length r.relay ≡ pos → r.relay ≡ []
      → go_on (length more.relay) 1 identity draw (over more 0) ≡ by_form (λ (b : Going). b) identity draw g (over more (length r.relay)) g.form
  apply_none most enough at none =
      let nothing : 0 ≡ length r.relay = sym (ap length none) in
      ap (λ (n : ℕ). go_on n 1 identity draw (over more 0)) (sym enough)
      ∙ ap (λ (n : ℕ). go_on (suc most) 1 identity draw (over more n)) nothing ∙ one_behind most at

  apply_over : (most : ℕ) → suc (suc most) ≡ length more.relay → r.place.pos + length r.relay ≡ pos → (s : Group) → IsWhole r.relay r.place.pos s → s.form ≡ start
      → go_on (length more.relay) 1 identity draw (over more 0) ≡ by_form (λ (b : Going). b) identity draw g (over more (length r.relay)) g.form
  apply_over most enough at s before form =
      let lies = group_lies r.relay r.place.pos s before.reads in
      let first : next_at (over more 0) ≡ group s =
      ap (λ (n : ℕ). group_at (record { bytes = r.relay ++ bytes; pos = n })) (omega arith) ∙ group_stays r.relay bytes r.place.pos s before.reads in
      let before_size : 0 + size_of s ≡ length r.relay = omega (arith, before.whole, lies.begins) in
      ap (λ (n : ℕ). go_on n 1 identity draw (over more 0)) (sym enough)
      ∙ ap (by_next (go_on (suc most) 1 identity draw) identity draw (over more 0)) first
      ∙ ap (by_form (go_on (suc most) 1 identity draw) identity draw s (over more 0)) form
      ∙ ap (λ (n : ℕ). go_on (suc most) 1 identity draw (over more n)) before_size ∙ one_behind most at

  applied_by : r.place.pos + length r.relay ≡ pos → ((r.relay ≡ []) ⊎ ((s : Group) × IsWhole r.relay r.place.pos s × (s.form ≡ start)))
      → go_on (length more.relay) 1 identity draw (over more 0) ≡ by_form (λ (b : Going). b) identity draw g (over more (length r.relay)) g.form
  applied_by at (inl none) =
      apply_none (length more.relay - 1) (omega (arith, size, length-append r.relay bytes)) at none
  applied_by at (inr before) =
      let lies = group_lies r.relay r.place.pos before.0 before.1.reads in
      apply_over (length more.relay - 2) (omega (arith, size, lies.header, lies.within, length-append r.relay bytes)) at before.0 before.1 before.2

  applied : IsBegun r.place.pos r.relay pos → apply 1 identity draw more ≡ by_form (λ (b : Going). b) identity draw g (over more (length r.relay)) g.form
  unfolding apply
  applied begun = applied_by begun.0 begun.1

  -- ---- behind so many steps

  -- the replica is as before, or as behind the group
  abbrev AsBeforeOrBehind : Going → Type 0
  AsBeforeOrBehind a = (a.replica ≡ more) ⊎ (a.replica ≡ (by_form (λ (b : Going). b) identity draw g (over more (length r.relay)) g.form).replica)

  behind_steps : (most : ℕ) → r.place.pos + length r.relay ≡ pos → AsBeforeOrBehind (go_on most 1 identity draw (over more (length r.relay)))
  behind_steps zero at = inl refl
  behind_steps (suc most) at = inr (ap (λ (a : Going). a.replica) (one_behind most at))

  steps_over : (most : ℕ) → r.place.pos + length r.relay ≡ pos → (s : Group) → IsWhole r.relay r.place.pos s → s.form ≡ start
      → AsBeforeOrBehind (go_on most 1 identity draw (over more 0))
  steps_over zero at s before form = inl refl
  steps_over (suc most) at s before form =
      let lies = group_lies r.relay r.place.pos s before.reads in
      let first : next_at (over more 0) ≡ group s =
      ap (λ (n : ℕ). group_at (record { bytes = r.relay ++ bytes; pos = n })) (omega arith) ∙ group_stays r.relay bytes r.place.pos s before.reads in
      let before_size : 0 + size_of s ≡ length r.relay = omega (arith, before.whole, lies.begins) in
      subst AsBeforeOrBehind
      (sym (ap (by_next (go_on most 1 identity draw) identity draw (over more 0)) first
      ∙ ap (by_form (go_on most 1 identity draw) identity draw s (over more 0)) form
      ∙ ap (λ (n : ℕ). go_on most 1 identity draw (over more n)) before_size))
      (behind_steps most at)

  steps_by : (most : ℕ) → r.place.pos + length r.relay ≡ pos → ((r.relay ≡ []) ⊎ ((s : Group) × IsWhole r.relay r.place.pos s × (s.form ≡ start)))
      → AsBeforeOrBehind (go_on most 1 identity draw (going_from more))
  steps_by most at (inl none) =
      let nothing : 0 ≡ length r.relay = sym (ap length none) in
      subst AsBeforeOrBehind (sym (ap (λ (n : ℕ). go_on most 1 identity draw (over more n)) nothing)) (behind_steps most at)
  steps_by most at (inr before) = steps_over most at before.0 before.1 before.2

  pub after_steps : (most : ℕ) → IsBegun r.place.pos r.relay pos
      → ((go_on most 1 identity draw (going_from more)).replica ≡ more) ⊎ ((go_on most 1 identity draw (going_from more)).replica ≡ (apply 1 identity draw more).replica)
  after_steps most begun = by (steps_by most begun.0 begun.1)
    where
      by : AsBeforeOrBehind (go_on most 1 identity draw (going_from more))
          → ((go_on most 1 identity draw (going_from more)).replica ≡ more) ⊎ ((go_on most 1 identity draw (going_from more)).replica ≡ (apply 1 identity draw more).replica)
      by (inl is) = inl is
      by (inr is) = inr (is ∙ sym (ap (λ (a : Going). a.replica) (applied begun)))

  few_by : (f : Form) → (by_form (λ (b : Going). b) identity draw g (over more (length r.relay)) f).count ≤ 1
  few_by start = omega arith
  few_by (next_log next) = omega arith
  few_by (ddl s) = few_carried (group_carried identity draw r.base r.counters g)
    where
      few_carried : (c : Result Applied Differs) → (carry (λ (b : Going). b) g (over more (length r.relay)) c).count ≤ 1
      few_carried (Ok made) = omega arith
      few_carried (Err stop) = omega arith
  few_by (txn opening items number) = few_carried (group_carried identity draw r.base r.counters g)
    where
      few_carried : (c : Result Applied Differs) → (carry (λ (b : Going). b) g (over more (length r.relay)) c).count ≤ 1
      few_carried (Ok made) = omega arith
      few_carried (Err stop) = omega arith

  pub few : IsBegun r.place.pos r.relay pos → (apply 1 identity draw more).count ≤ 1
  few begun = subst (λ (b : Going). b.count ≤ 1) (sym (applied begun)) (few_by g.form)

  -- ---- as the replay goes on

  module _ (old : Replay) (keeps : Keeps r old) (running : old.stop ≡ None) (begun : IsBegun r.place.pos r.relay pos) where
    abbrev a : Going
    a = over more (length r.relay)

    carried_so : behind_group r.place g ≡ record { log = r.place.log; pos = g.end } → (closed : Bool) (c : Result Applied Differs)
        → Follows old (carried g old c) closed (pos + length bytes) (carry (λ (b : Going). b) g a c)
    carried_so there closed (Ok made) =
        let rest : drop (length r.relay + size_of g) (r.relay ++ bytes) ≡ [] = all_passed begun.0 in
        record {
          keeps = record { base = refl; counters = refl; number = ap one_more keeps.number; place = there ∙ ap (λ (p : LogPlace). record { log = p.log; pos = g.end }) keeps.place };
          count = refl;
          stop = refl;
          begun = λ on unclosed. (omega (arith, ap (λ (p : LogPlace). p.pos) there, ap length rest, is.whole), inl rest);
        }
    carried_so there closed (Err stop) = record {
      keeps = record { base = keeps.base; counters = keeps.counters; number = keeps.number; place = keeps.place };
      count = omega arith;
      stop = refl;
      begun = λ on unclosed. cc;
    }

    -- what the definition carries out, it does so over the replica's base and counters
    same_group : group_carried identity draw r.base r.counters g ≡ group_carried identity draw old.base old.counters g
    same_group =
        ap (λ b. group_carried identity draw b r.counters g) keeps.base ∙ ap (λ cs. group_carried identity draw old.base cs g) keeps.counters

    start_only : g.form ≡ start → r.place.pos + length r.relay ≡ pos → ((r.relay ≡ []) ⊎ ((s : Group) × IsWhole r.relay r.place.pos s × (s.form ≡ start)))
        → IsWhole (r.relay ++ bytes) r.place.pos g
    start_only form at (inl none) =
        let same : r.relay ++ bytes ≡ bytes = ap (λ (bs : List ℕ). bs ++ bytes) none in
        let there : pos ≡ r.place.pos = omega (arith, at, ap length none) in
        subst (λ (bs : List ℕ). IsWhole bs r.place.pos g) (sym same) (subst (λ (n : ℕ). IsWhole bytes n g) there is)
    start_only form at (inr before) =
        let lies = group_lies r.relay r.place.pos before.0 before.1.reads in
        absurd (omega (arith, at, begins_at_four bytes pos g is.reads form, lies.header, lies.within))

    form_follows : (f : Form) → g.form ≡ f
        → Follows old (replay_form identity draw g old f) (names_next f) (pos + length bytes) (by_form (λ (b : Going). b) identity draw g a f)
    form_follows start form = record {
      keeps = record { base = keeps.base; counters = keeps.counters; number = keeps.number; place = keeps.place };
      count = omega arith;
      stop = ap (option_map differs) (sym running);
      begun = λ on unclosed. (omega (arith, begun.0, length-append r.relay bytes), inr (g, start_only form begun.0 begun.1, form));
    }
    form_follows (next_log next) form = record {
      keeps = record { base = keeps.base; counters = keeps.counters; number = keeps.number; place = ap (behind_form r.place g.end) form };
      count = omega arith;
      stop = ap (option_map differs) (sym running);
      begun = λ on unclosed. cc;
    }
    form_follows (ddl s) form =
        subst (λ (c : Result Applied Differs). Follows old (carried g old c) false (pos + length bytes) (carry (λ (b : Going). b) g a (group_carried identity draw r.base r.counters g)))
        same_group (carried_so (ap (behind_form r.place g.end) form) false (group_carried identity draw r.base r.counters g))
    form_follows (txn opening items number) form =
        subst (λ (c : Result Applied Differs). Follows old (carried g old c) false (pos + length bytes) (carry (λ (b : Going). b) g a (group_carried identity draw r.base r.counters g)))
        same_group (carried_so (ap (behind_form r.place g.end) form) false (group_carried identity draw r.base r.counters g))

    -- one group more is fetched and carried out as the replay does it
    pub group_follows : Follows old (replay_form identity draw g old g.form) (names_next g.form) (pos + length bytes) (apply 1 identity draw more)
    group_follows =
        subst (λ (b : Going). Follows old (replay_form identity draw g old g.form) (names_next g.form) (pos + length bytes) b)
        (sym (applied begun)) (form_follows g.form refl)
