-- The generations of both disks, command by command.
use Rattle.std.proofs.Common.{◌≡◌, ◌⊎◌, inl, inr, ℕ, ◌+◌, ◌-◌, ◌≤◌, ◌<◌, zero, suc, Bool, true, false, List, [], ◌∷◌, ◌++◌, length, take, drop, map, Option, Some, None, is_some, Result, Ok, Err, IfSome, refl, sym, ap, ◌∙◌, subst, arith, length-append}
use Rattle.std.proofs.lemmas.Bool.{cases_lt}
use Rattle.std.specs.Prelude.{slice_get}
use Rattle.port_traits.specs.declared.identity.Draw.{Draw}
use Rattle.answer_text.specs.declared.report.Mark.{Mark}
use Rattle.disk_model.specs.declared.call.Call.{Call}
use Rattle.disk_model.specs.Left.{LeftAfter}
use Rattle.disk_model.specs.Story.{Image, Story, count, seen}
use Rattle.disk_model.specs.Moments.{AfterCall, Each, GoesOn, Only, calls_until}
use Rattle.disk_model.proofs.Moments.{on_count, on_trans}
use Rattle.durable_replica.specs.replica_node.commit_store.declared.store.Store.{Store}
use Rattle.durable_replica.specs.replica_node.commit_store.Keeping.{AreDurable, Keeps}
use Rattle.store_model.specs.declared.record.Kind.{Kind}
use Rattle.store_model.specs.declared.record.Kind.TheVariants.{Source, Replica}
use Rattle.store_model.specs.Held.{Held}
use Rattle.store_model.specs.Stores.{Spot, Stands, begun_from, begun_in, greater_if}
use Rattle.run_stores.specs.durable_runs.Marks.{AreBehind, Named, replica_mark, source_mark}
use Rattle.run_stores.specs.durable_runs.Runs.{CallsFit}
use Rattle.run_laws.specs.run_model.Asked.{Asked}
use Rattle.run_laws.specs.run_model.Run.{Both, Names, checkpoints_replica, checkpoints_source, count_of, one_if}
use Rattle.script_run.specs.declared.nodes.Nodes.{Nodes}
use Rattle.script_run.specs.Disks.{BothGoOn, Disks, Stores}
use Rattle.script_run.specs.Generations.{AreAt, AreInTime, AreRaised, BothRaised, IsActive, IsAt, Raised, Raises, WasAt, generation_behind}
use Rattle.script_run.specs.Marks.{Pushed, applied_up, marks_up, next_applied_mark, next_mark, uncounted}
use Rattle.script_run.specs.Together.{Together}
use Rattle.script_run.proofs.Disks.{where_told}
use Rattle.script_run.proofs.Surviving.{fits_before}

-- ---- what is active

-- the files of snapshots alone say it
active_same : (kind : Kind) (g : ℕ) (image image' : Image) → image' 0 ≡ image 0 → image' 1 ≡ image 1 → IsActive kind g image → IsActive kind g image'
unfolding begun_from
active_same kind g image image' zeroth first active = (active.0, same ∙ active.1)
  where
    here : (f : ℕ) → image' f ≡ image f → begun_in kind image' f ≡ begun_in kind image f
    here f is = ap (λ file. begun_in kind (λ _. file) f) is

    same : begun_from kind image' ≡ begun_from kind image
    same = ap (λ a. greater_if a (begun_in kind image' 1)) (here 0 zeroth) ∙ ap (greater_if (begun_in kind image 0)) (here 1 first)

abbrev generation_in : Result (ℕ × Held) Spot → ℕ
generation_in (Ok begun) = begun.0
generation_in (Err spot) = 0

-- there is one
one_active : (kind : Kind) (g h : ℕ) (image : Image) → IsActive kind g image → IsActive kind h image → g ≡ h
one_active kind g h image a b = ap generation_in (sym a.1 ∙ b.1)

-- a store's files of snapshots are durable
kept_files : (kind : Kind) (t : Option Story) (f : ℕ) → AreDurable kind t → f < 8 → Only t f (seen t f)
kept_files Source t f durable lt = durable f tt
kept_files Replica t f durable lt = durable f lt

-- a disk that keeps a store is at the store's generation
pub kept_at : (kind : Kind) (t : Option Story) (store : Store) (held : Held) → store.node ≡ kind → Keeps t store held → IsAt kind t store.generation
kept_at kind t store held node keeps = record { read = read t keeps.holds.stands; each = each t (read t keeps.holds.stands) durable }
  where
    durable : AreDurable kind t
    durable = subst (λ (k : Kind). AreDurable k t) node keeps.holds.durable

    read : (u : Option Story) → IfSome u (λ _. Stands store.node store.generation (seen u) held) → IfSome u (λ _. IsActive kind store.generation (seen u))
    read None stands = tt
    read (Some s) stands = subst (λ (k : Kind). IsActive k store.generation (seen (Some s))) node (stands.begun, stands.from)

    each : (u : Option Story) → IfSome u (λ _. IsActive kind store.generation (seen u)) → AreDurable kind u → Each u (IsActive kind store.generation)
    each None active only image left = absurd (left 0)
    each (Some s) active only image left =
        active_same kind store.generation (seen (Some s)) image (kept_files kind (Some s) 0 only (omega arith) (image 0) (left 0)) (kept_files kind (Some s) 1 only (omega arith) (image 1) (left 1)) active

-- and at no other
at_store : (kind : Kind) (t : Option Story) (g : ℕ) (store : Store) (held : Held) → is_some t ≡ true → store.node ≡ kind → Keeps t store held → IfSome t (λ _. IsActive kind g (seen t)) → g ≡ store.generation
at_store kind t g store held told node keeps active =
    one_active kind g store.generation (seen t) (where_told t (IsActive kind g (seen t)) told active)
    (where_told t (IsActive kind store.generation (seen t)) told (kept_at kind t store held node keeps).read)

-- ---- one command

-- what a command makes of the stores' generations
pub record GenerationsGo (c : Asked) (nodes nodes' : Nodes) : Type 0 where
  pub source : nodes'.source.store.generation ≡ generation_behind nodes.source.store.generation (one_if (checkpoints_source c))
  pub replica : nodes'.replica.store.generation ≡ generation_behind nodes.replica.store.generation (one_if (checkpoints_replica c))

pub raises_by : (names : Names) (c : Asked) (t u : Disks) (start : Stores) (nodes nodes' : Nodes) (b b' : Both) → Together names t start nodes b → Together names u start nodes' b' → GenerationsGo c nodes nodes' → Raises c t u
raises_by names c t u start nodes nodes' b b' before after go source replica at =
    let here : source ≡ nodes.source.store.generation = at_store Source t.source source nodes.source.store before.stands.now.held before.told.source before.stands.on.node before.stands.on.keeps at.source.read in
    let there : replica ≡ nodes.replica.store.generation =
    at_store Replica t.replica replica nodes.replica.store _ before.told.replica before.replica_on.on.node before.replica_on.on.keeps at.replica.read in
    record {
      source = subst (IsAt Source u.source) (go.source ∙ ap (λ g. generation_behind g (one_if (checkpoints_source c))) (sym here))
          (kept_at Source u.source nodes'.source.store after.stands.now.held after.stands.on.node after.stands.on.keeps);
      replica = subst (IsAt Replica u.replica) (go.replica ∙ ap (λ g. generation_behind g (one_if (checkpoints_replica c))) (sym there))
          (kept_at Replica u.replica nodes'.replica.store _ after.replica_on.on.node after.replica_on.on.keeps);
    }

-- ---- commands, one after the other

-- all calls, and the first of some that more came behind
until_all : (calls : List Call) → calls_until (length calls) calls ≡ calls
until_all calls = let none : length calls - length calls ≡ 0 = omega arith in ap (λ k. drop k calls) none

until_on : (more calls : List Call) (n : ℕ) → n ≤ length calls → calls_until n (more ++ calls) ≡ calls_until n calls
until_on [] calls n within = refl
until_on (call ∷ more) calls n within =
    let one : suc (length (more ++ calls)) - n ≡ suc (length (more ++ calls) - n) = omega (arith, within, length-append more calls) in
    ap (λ k. drop k (call ∷ more ++ calls)) one ∙ until_on more calls n within

-- the moments of a story stay as it goes on
after_before : (u v : Option Story) (n : ℕ) (image : Image) → GoesOn u v → n ≤ count u → AfterCall v n image → AfterCall u n image
after_before None None n image on within left = left
after_before None (Some r) n image on within left = absurd on
after_before (Some s) None n image on within left = absurd left
after_before (Some s) (Some r) n image on within left = λ f.
    subst (λ (cs : List Call). LeftAfter s.first cs f (image f)) (ap (calls_until n) on.1.1 ∙ until_on on.1.0 s.calls n within)
    (subst (λ (first : Image). LeftAfter first (calls_until n r.calls) f (image f)) on.0 (left f))

-- what a crash leaves now is left behind the last call
each_after : (t : Option Story) (P : Image → Type 0) → Each t P → (image : Image) → AfterCall t (count t) image → P image
each_after None P each image left = absurd left
each_after (Some s) P each image left =
    each image (λ f. subst (λ (cs : List Call). LeftAfter s.first cs f (image f)) (until_all s.calls) (left f))

was_still : (kind : Kind) (t u v : Option Story) (moment g : ℕ) → GoesOn u v → WasAt kind t u moment g → WasAt kind t v moment g
was_still kind t u v moment g on was = record {
  begun = was.begun;
  came = omega (arith, was.came, on_count u v on);
  images = λ image left. was.images image (after_before u v moment image on was.came left);
}

was_now : (kind : Kind) (t u : Option Story) (g : ℕ) → GoesOn t u → IsAt kind u g → WasAt kind t u (count u) g
was_now kind t u g on at = record { begun = on_count t u on; came = omega arith; images = each_after u (IsActive kind g) at.each }

-- ---- marks in their time

-- all marks of one command
abbrev OfCommand : ℕ → List Mark → Type 0
OfCommand k [] = Unit {0}
OfCommand k (m ∷ marks) = (m.command ≡ k) × OfCommand k marks

of_both : (k : ℕ) (marks more : List Mark) → OfCommand k marks → OfCommand k more → OfCommand k (marks ++ more)
of_both k [] more first rest = rest
of_both k (m ∷ marks) more first rest = (first.0, of_both k marks more first.1 rest)

of_uncounted : (k : ℕ) (marks : List Mark) → OfCommand k (map uncounted marks) → OfCommand k marks
of_uncounted k [] of = tt
of_uncounted k (m ∷ marks) of = (of.0, of_uncounted k marks of.1)

up_of : (at : Mark) (n : ℕ) → OfCommand at.command (marks_up at n)
up_of at zero = tt
up_of at (suc n) = (refl, up_of (next_mark at) n)

applied_of : (at : Mark) (n : ℕ) → OfCommand at.command (applied_up at n)
applied_of at zero = tt
applied_of at (suc n) = (refl, applied_of (next_applied_mark at) n)

pushed_of : (at : Mark) (commits groups : ℕ) (old new : List Mark) (pushed : Pushed at commits groups old new) → OfCommand at.command pushed.more
pushed_of at commits groups old new pushed =
    of_uncounted at.command pushed.more (subst (OfCommand at.command) (sym pushed.are)
    (of_both at.command (marks_up at commits) (applied_up (record at { committed = at.committed + commits }) groups) (up_of at commits) (applied_of (record at { committed = at.committed + commits }) groups)))

-- the moments behind so many commands, and a last one
abbrev moment_by : (moments : ℕ → ℕ) (last n i : ℕ) → (n < i) ⊎ (i ≤ n) → ℕ
moment_by moments last n i (inl new) = last
moment_by moments last n i (inr old) = moments i

abbrev moments_on : (moments : ℕ → ℕ) (last n : ℕ) → ℕ → ℕ
moments_on moments last n i = moment_by moments last n i (cases_lt n i)

module _ (read : Mark → Named) (moments : ℕ → ℕ) (n : ℕ) where
  -- marks of a later command say nothing of these
  time_still : (old more : List Mark) → AreInTime read n moments old → OfCommand (n + 1) more → AreInTime read n moments (old ++ more)
  time_still [] [] before of = tt
  time_still [] (m ∷ more) before of = (λ within. absurd (omega (arith, within, of.0)), time_still [] more before of.1)
  time_still (m ∷ old) more before of = (before.0, time_still old more before.1 of)

  -- with that command
  time_on : (last : ℕ) (marks : List Mark) → AreInTime read n moments marks → AreBehind last (map read marks) → AreInTime read (n + 1) (moments_on moments last n) marks
  time_on last [] before behind = tt
  time_on last (m ∷ marks) before behind = (λ within. one (cases_lt n m.command), time_on last marks before.1 behind.1)
    where
      one : (d : (n < m.command) ⊎ (m.command ≤ n)) → (read m).calls ≤ moment_by moments last n m.command d
      one (inl new) = behind.0
      one (inr old) = before.0 old

  both_times : (u v : Option Story) (old more : List Mark) → GoesOn u v → IfSome u (λ _. AreInTime read n moments old) → OfCommand (n + 1) more
      → IfSome v (λ _. AreInTime read n moments (old ++ more))
  both_times None None old more on before of = tt
  both_times None (Some r) old more on before of = absurd on
  both_times (Some s) None old more on before of = absurd on
  both_times (Some s) (Some r) old more on before of = time_still old more before of

  time_behind : (v : Option Story) (marks : List Mark) → IfSome v (λ _. AreInTime read n moments marks) → IfSome v (λ _. AreBehind (count v) (map read marks))
      → IfSome v (λ _. AreInTime read (n + 1) (moments_on moments (count v) n) marks)
  time_behind None marks before behind = tt
  time_behind (Some r) marks before behind = time_on (count (Some r)) marks before behind

raised_still : (kind : Kind) (is : Asked → Bool) (read : Mark → Named) (t u v : Option Story) (cs : List Asked) (ds : List Draw) (old new more : List Mark) → GoesOn u v → new ≡ old ++ more → OfCommand (length ds + 1) more
    → Raised kind is read t u cs ds old → Raised kind is read t v cs ds new
raised_still kind is read t u v cs ds old new more on all of raised = record {
  first = raised.first;
  began = raised.began;
  moments = raised.moments;
  order = raised.order;
  behind = λ i within. was_still kind t u v (raised.moments i) (generation_behind raised.first (count_of is cs (take i ds))) on (raised.behind i within);
  in_time = λ fits. subst (λ (ms : List Mark). IfSome v (λ _. AreInTime read (length ds) raised.moments ms)) (sym all)
      (both_times read raised.moments (length ds) u v old more on (raised.in_time (fits_before u v on fits)) of);
}

-- one command more
count_last : (is : Asked → Bool) (cs : List Asked) (ds : List Draw) (d : Draw) (c : Asked) → slice_get cs (length ds) ≡ Some c → count_of is cs (ds ++ d ∷ []) ≡ count_of is cs ds + one_if (is c)
count_last is [] ds d c e = cc
count_last is (x ∷ cs) [] d c e = let same : x ≡ c = cc in ap (λ n. one_if (is x) + n) (none cs) ∙ ap (λ y. one_if (is y) + 0) same ∙ omega arith
  where
    none : (cs : List Asked) → count_of is cs [] ≡ 0
    none [] = refl
    none (c ∷ cs) = refl
count_last is (x ∷ cs) (y ∷ ds) d c e = let rest = count_last is cs ds d c e in ap (λ n. one_if (is x) + n) rest ∙ omega arith

take_front : (i : ℕ) (ds : List Draw) (d : Draw) → i ≤ length ds → take i (ds ++ d ∷ []) ≡ take i ds
take_front zero ds d within = refl
take_front (suc i) [] d within = absurd (omega (arith, within))
take_front (suc i) (x ∷ ds) d within = ap (λ xs. x ∷ xs) (take_front i ds d (omega (arith, within)))

take_whole : (xs : List Draw) → take (length xs) xs ≡ xs
take_whole [] = refl
take_whole (x ∷ xs) = ap (λ ys. x ∷ ys) (take_whole xs)

behind_more : (first n : ℕ) (b : Bool) → generation_behind (generation_behind first n) (one_if b) ≡ generation_behind first (n + one_if b)
behind_more first n true = let same : suc n ≡ n + 1 = omega arith in ap (generation_behind first) same
behind_more first n false = let same : n ≡ n + 0 = omega arith in ap (generation_behind first) same

raised_on : (kind : Kind) (is : Asked → Bool) (read : Mark → Named) (t u v : Option Story) (cs : List Asked) (ds : List Draw) (d : Draw) (c : Asked) (old new more : List Mark) → slice_get cs (length ds) ≡ Some c
    → GoesOn t u → GoesOn u v → new ≡ old ++ more → OfCommand (length ds + 1) more → (CallsFit v → IfSome v (λ _. AreBehind (count v) (map read new)))
    → (raised : Raised kind is read t u cs ds old) → IsAt kind v (generation_behind raised.first (count_of is cs (ds ++ d ∷ []))) → Raised kind is read t v cs (ds ++ d ∷ []) new
raised_on kind is read t u v cs ds d c old new more here first second all of marks raised at = record {
  first = raised.first;
  began = raised.began;
  moments = After;
  order = λ i within. ordered i (omega (arith, within, count_is)) (cases_lt n i) (cases_lt n (i + 1));
  behind = λ i within. by i within (cases_lt n i);
  in_time = λ fits. subst (λ (k : ℕ). IfSome v (λ _. AreInTime read k After new)) (sym count_is)
      (time_behind read raised.moments n v new (subst (λ (ms : List Mark). IfSome v (λ _. AreInTime read n raised.moments ms)) (sym all)
      (both_times read raised.moments n u v old more second (raised.in_time (fits_before u v second fits)) of)) (marks fits));
}
  where
    n : ℕ
    n = length ds

    After : ℕ → ℕ
    After = moments_on raised.moments (count v) n

    count_is : length (ds ++ d ∷ []) ≡ length ds + 1
    count_is = length-append ds (d ∷ [])

    ordered : (i : ℕ) → i < length ds + 1 → (a : (length ds < i) ⊎ (i ≤ length ds)) → (b : (length ds < i + 1) ⊎ (i + 1 ≤ length ds))
        → moment_by raised.moments (count v) (length ds) i a ≤ moment_by raised.moments (count v) (length ds) (i + 1) b
    ordered i within (inl new) b = absurd (omega (arith, within, new))
    ordered i within (inr old) (inl new) = let came = (raised.behind i old).came in let later = on_count u v second in omega (arith, came, later)
    ordered i within (inr old) (inr still) = raised.order i (omega (arith, still))

    At : (moment : ℕ) → List Draw → Type 0
    At moment xs = WasAt kind t v moment (generation_behind raised.first (count_of is cs xs))

    by : (i : ℕ) → i ≤ length (ds ++ d ∷ []) → (a : (length ds < i) ⊎ (i ≤ length ds)) → At (moment_by raised.moments (count v) (length ds) i a) (take i (ds ++ d ∷ []))
    by i within (inr old) =
        subst (At (raised.moments i)) (sym (take_front i ds d old)) (was_still kind t u v (raised.moments i) (generation_behind raised.first (count_of is cs (take i ds))) second (raised.behind i old))
    by i within (inl new) =
        let all : length (ds ++ d ∷ []) ≡ i = omega (arith, within, new, length-append ds (d ∷ [])) in
        subst (At (count v)) (sym (take_whole (ds ++ d ∷ [])) ∙ ap (λ n. take n (ds ++ d ∷ [])) all) (was_now kind t v (generation_behind raised.first (count_of is cs (ds ++ d ∷ []))) (on_trans t u v first second) at)

-- of both disks

-- no mark says more calls than both disks have had
pub record AreTold (v : Disks) (marks : List Mark) : Type 0 where
  pub source : CallsFit v.source → IfSome v.source (λ _. AreBehind (count v.source) (map source_mark marks))
  pub replica : CallsFit v.replica → IfSome v.replica (λ _. AreBehind (count v.replica) (map replica_mark marks))

pub both_still : (t u v : Disks) (cs : List Asked) (ds : List Draw) (at : Mark) (commits groups : ℕ) (old new : List Mark) → at.command ≡ length ds + 1 → BothGoOn u v → Pushed at commits groups old new → BothRaised t u cs ds old
    → BothRaised t v cs ds new
both_still t u v cs ds at commits groups old new number on pushed raised =
    let of : OfCommand (length ds + 1) pushed.more = subst (λ (k : ℕ). OfCommand k pushed.more) number (pushed_of at commits groups old new pushed) in
    record {
      source = raised_still Source checkpoints_source source_mark t.source u.source v.source cs ds old new pushed.more on.source pushed.marks of raised.source;
      replica = raised_still Replica checkpoints_replica replica_mark t.replica u.replica v.replica cs ds old new pushed.more on.replica pushed.marks of raised.replica;
    }

-- where both are behind so many commands that were carried out
abbrev AtBehind : (t u v : Disks) (cs : List Asked) (ds ds' : List Draw) (marks : List Mark) → BothRaised t u cs ds marks → Type 0
AtBehind t u v cs ds ds' marks raised =
    AreAt v (generation_behind raised.source.first (count_of checkpoints_source cs ds')) (generation_behind raised.replica.first (count_of checkpoints_replica cs ds'))

at_more : (t u v : Disks) (cs : List Asked) (ds : List Draw) (d : Draw) (c : Asked) (marks : List Mark) (raised : BothRaised t u cs ds marks) → slice_get cs (length ds) ≡ Some c → AtBehind t u u cs ds ds marks raised
    → Raises c u v → AtBehind t u v cs ds (ds ++ d ∷ []) marks raised
at_more t u v cs ds d c marks raised here at raises =
    let now = raises (generation_behind raised.source.first (count_of checkpoints_source cs ds)) (generation_behind raised.replica.first (count_of checkpoints_replica cs ds)) at in
    record {
      source = subst (IsAt Source v.source) (behind_more raised.source.first (count_of checkpoints_source cs ds) (checkpoints_source c)
          ∙ ap (generation_behind raised.source.first) (sym (count_last checkpoints_source cs ds d c here))) now.source;
      replica = subst (IsAt Replica v.replica) (behind_more raised.replica.first (count_of checkpoints_replica cs ds) (checkpoints_replica c)
          ∙ ap (generation_behind raised.replica.first) (sym (count_last checkpoints_replica cs ds d c here))) now.replica;
    }

both_raised : (t u v : Disks) (cs : List Asked) (ds : List Draw) (d : Draw) (c : Asked) (mark : Mark) (commits groups : ℕ) (old new : List Mark) (raised : BothRaised t u cs ds old) → slice_get cs (length ds) ≡ Some c
    → BothGoOn t u → BothGoOn u v → mark.command ≡ length ds + 1 → Pushed mark commits groups old new → AreTold v new → AtBehind t u v cs ds (ds ++ d ∷ []) old raised → BothRaised t v cs (ds ++ d ∷ []) new
both_raised t u v cs ds d c mark commits groups old new raised here first second number pushed told at = record {
  source = raised_on Source checkpoints_source source_mark t.source u.source v.source cs ds d c old new pushed.more here first.source second.source pushed.marks
      (subst (λ (k : ℕ). OfCommand k pushed.more) number (pushed_of mark commits groups old new pushed)) told.source raised.source at.source;
  replica = raised_on Replica checkpoints_replica replica_mark t.replica u.replica v.replica cs ds d c old new pushed.more here first.replica second.replica pushed.marks
      (subst (λ (k : ℕ). OfCommand k pushed.more) number (pushed_of mark commits groups old new pushed)) told.replica raised.replica at.replica;
}

-- before any command
none_counted : (is : Asked → Bool) (cs : List Asked) (i : ℕ) → count_of is cs (take i []) ≡ 0
none_counted is [] zero = refl
none_counted is [] (suc i) = refl
none_counted is (c ∷ cs) zero = refl
none_counted is (c ∷ cs) (suc i) = refl

no_time : (u : Option Story) (read : Mark → Named) (moments : ℕ → ℕ) → IfSome u (λ _. AreInTime read 0 moments [])
no_time None read moments = tt
no_time (Some s) read moments = tt

raised_none : (kind : Kind) (is : Asked → Bool) (read : Mark → Named) (t u : Option Story) (cs : List Asked) (first : ℕ) (marks : List Mark) → marks ≡ [] → GoesOn t u → IfSome t (λ _. IsActive kind first (seen t))
    → IsAt kind u first → Raised kind is read t u cs [] marks
raised_none kind is read t u cs first marks none on began at = record {
  first = first;
  began = began;
  moments = λ i. count u;
  order = λ i within. omega arith;
  behind = λ i within. subst (λ n. WasAt kind t u (count u) (generation_behind first n)) (sym (none_counted is cs i)) (was_now kind t u first on at);
  in_time = λ fits. subst (λ (ms : List Mark). IfSome u (λ _. AreInTime read 0 (λ i. count u) ms)) (sym none) (no_time u read (λ i. count u));
}

both_none : (t u : Disks) (cs : List Asked) (source replica : ℕ) (marks : List Mark) → marks ≡ [] → BothGoOn t u → IfSome t.source (λ _. IsActive Source source (seen t.source))
    → IfSome t.replica (λ _. IsActive Replica replica (seen t.replica)) → AreAt u source replica → BothRaised t u cs [] marks
both_none t u cs source replica marks none on began rep_began at = record {
  source = raised_none Source checkpoints_source source_mark t.source u.source cs source marks none on.source began at.source;
  replica = raised_none Replica checkpoints_replica replica_mark t.replica u.replica cs replica marks none on.replica rep_began at.replica;
}

at_none : (u : Disks) (cs : List Asked) (source replica : ℕ) → AreAt u source replica
    → AreAt u (generation_behind source (count_of checkpoints_source cs [])) (generation_behind replica (count_of checkpoints_replica cs []))
at_none u cs source replica at = record {
  source = subst (λ n. IsAt Source u.source (generation_behind source n)) (sym (none_counted checkpoints_source cs 0)) at.source;
  replica = subst (λ n. IsAt Replica u.replica (generation_behind replica n)) (sym (none_counted checkpoints_replica cs 0)) at.replica;
}

-- ---- the generations behind some commands, and where both disks are now

pub record RaisedNow (t u : Disks) (cs : List Asked) (ds : List Draw) (marks : List Mark) : Type 0 where
  pub raised : BothRaised t u cs ds marks
  pub at : AreRaised t u cs ds marks raised

pub none_now : (t u : Disks) (cs : List Asked) (source replica : ℕ) (marks : List Mark) → marks ≡ [] → BothGoOn t u → IfSome t.source (λ _. IsActive Source source (seen t.source))
    → IfSome t.replica (λ _. IsActive Replica replica (seen t.replica)) → AreAt u source replica → RaisedNow t u cs [] marks
unfolding both_none raised_none
none_now t u cs source replica marks none on began rep_began at = record {
  raised = both_none t u cs source replica marks none on began rep_began at;
  at = at_none u cs source replica at;
}

pub more_now : (t u v : Disks) (cs : List Asked) (ds : List Draw) (d : Draw) (c : Asked) (mark : Mark) (commits groups : ℕ) (old new : List Mark) (raised : BothRaised t u cs ds old) → AreRaised t u cs ds old raised
    → slice_get cs (length ds) ≡ Some c → BothGoOn t u → BothGoOn u v → mark.command ≡ length ds + 1 → Pushed mark commits groups old new → AreTold v new → Raises c u v → RaisedNow t v cs (ds ++ d ∷ []) new
unfolding both_raised raised_on
more_now t u v cs ds d c mark commits groups old new raised at here first second number pushed told raises =
    let behind : AtBehind t u v cs ds (ds ++ d ∷ []) old raised = at_more t u v cs ds d c old raised here at raises in
    record { raised = both_raised t u v cs ds d c mark commits groups old new raised here first second number pushed told behind; at = behind }
