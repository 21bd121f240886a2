-- The marks of a run, and the calls of its disks.
use Rattle.std.proofs.Common.{◌≡◌, inl, inr, ◌⊎◌, ◌≤◌, ◌<◌, ℕ, ◌+◌, ◌-◌, zero, suc, min, List, [], ◌∷◌, ◌++◌, length, map, Option, Some, None, IfSome, refl, sym, ap, ◌∙◌, subst, append-nil, append_assoc, arith}
use Rattle.std.specs.Prelude.{◌^◌, slice_get}
use Rattle.std.proofs.lemmas.Bool.{cases_lt}
use Rattle.std.proofs.lemmas.List.{length-append, map-append}
use Rattle.port_traits.specs.declared.identity.Draw.{Draw}
use Rattle.answer_text.specs.declared.report.Mark.{Mark}
use Rattle.disk_model.specs.Story.{Story, count}
use Rattle.disk_model.specs.Moments.{GoesOn}
use Rattle.disk_model.proofs.Moments.{on_count}
use Rattle.run_stores.specs.durable_runs.Marks.{NameNow, Named, RiseByOne, last_named, replica_mark, source_mark}
use Rattle.run_stores.specs.durable_runs.Runs.{CallsFit}
use Rattle.store_model.specs.Held.{next_applied}
use Rattle.durable_source.specs.store_source.Pushed.{ArePushed, NameInTurn}
use Rattle.durable_replica.specs.store_replica.Pushed.{NameInTurn as AppliedInTurn}
use Rattle.run_laws.specs.run_model.Asked.{Asked}
use Rattle.run_laws.specs.run_model.Run.{Names, Both, carried_in, next, end_of, mark_at}
use Rattle.script_run.specs.Marks.{AreMarks, Called, CalledNow, CalledWithin, Numbers, Pushed, Rise, applied_up, command_marks, committed_of, marks_of, marks_up, next_applied_mark, next_mark, numbers_behind, numbers_of, uncounted}

-- ---- marks that were pushed

pub none_more : (n : ℕ) → n ≡ n + 0
none_more n = omega arith

-- where a command has groups alone, or commits alone
groups_alone : (at : Mark) (groups : ℕ) → applied_up at groups ≡ command_marks at 0 groups
groups_alone at groups = ap (λ (n : ℕ). applied_up (record at { committed = n }) groups) (none_more at.committed)

commits_alone : (at : Mark) (commits : ℕ) → marks_up at commits ≡ command_marks at commits 0
commits_alone at commits = sym (append-nil (marks_up at commits))

-- each is the one before it with the next number
named_up : (now : Mark) (number : ℕ) (ms : List Mark) → NameInTurn now number ms → map uncounted ms ≡ marks_up (record (uncounted now) { committed = number }) (length ms)
named_up now number [] named = refl
named_up now number (m ∷ ms) named =
    ap (λ (x : Mark). x ∷ map uncounted ms) (ap uncounted named.0)
    ∙ ap (λ (xs : List Mark). record (uncounted now) { committed = number + 1 } ∷ xs) (named_up now (number + 1) ms named.1)

applied_named : (now : Mark) (number : ℕ) (ms : List Mark) → AppliedInTurn now number ms → map uncounted ms ≡ applied_up (record (uncounted now) { applied = number }) (length ms)
applied_named now number [] named = refl
applied_named now number (m ∷ ms) named =
    ap (λ (x : Mark). x ∷ map uncounted ms) (ap uncounted named.0)
    ∙ ap (λ (xs : List Mark). record (uncounted now) { applied = next_applied number } ∷ xs) (applied_named now (next_applied number) ms named.1)

-- a queue's marks are those of the command
pub pushed_by : (now : Mark) (before after k : ℕ) (b : Both) (old new : List Mark) → ArePushed now before after old new → uncounted now ≡ mark_at k b → before ≡ committed_of b
    → (commits : ℕ) × (Pushed (mark_at k b) commits 0 old new × (after ≡ before + commits))
pushed_by now before after k b old new pushed began number =
    let at : record (uncounted now) { committed = before } ≡ mark_at k b =
    ap (λ (m : Mark). record m { committed = before }) began ∙ ap (λ (n : ℕ). record (mark_at k b) { committed = n }) number in (
      length pushed.more,
      (
        record {
          more = pushed.more;
          marks = pushed.marks;
          are = named_up now before pushed.more pushed.named ∙ ap (λ (m : Mark). marks_up m (length pushed.more)) at ∙ commits_alone (mark_at k b) (length pushed.more);
        },
        pushed.number,
      ),
    )

-- and so are those of an APPLY
pub applied_are : (now : Mark) (before k : ℕ) (b : Both) (more : List Mark) → AppliedInTurn now before more → uncounted now ≡ mark_at k b → before ≡ b.replica.number
    → map uncounted more ≡ command_marks (mark_at k b) 0 (length more)
applied_are now before k b more named began number =
    let at : record (uncounted now) { applied = before } ≡ mark_at k b =
    ap (λ (m : Mark). record m { applied = before }) began ∙ ap (λ (n : ℕ). record (mark_at k b) { applied = n }) number in
    applied_named now before more named ∙ ap (λ (m : Mark). applied_up m (length more)) at ∙ groups_alone (mark_at k b) (length more)

-- none was pushed
pub pushed_none : (at : Mark) (old : List Mark) → Pushed at 0 0 old old
pushed_none at old = record { more = []; marks = sym (append-nil old); are = refl }

-- as many as were pushed
pub pushed_length : (old new more : List Mark) (count : ℕ) → new ≡ old ++ more → length new ≡ length old + count → length more ≡ count
pushed_length old new more count is long = omega (arith, long, ap length is, length-append old more)

-- ---- numbers that rise

rise_join : (start : ℕ) (xs more : List Named) → RiseByOne start xs → RiseByOne (last_named start xs) more → RiseByOne start (xs ++ more)
rise_join start [] more rise rest = rest
rise_join start (x ∷ xs) more rise rest = (rise.0, rise_join x.number xs more rise.1 rest)

last_join : (start : ℕ) (xs more : List Named) → last_named start (xs ++ more) ≡ last_named (last_named start xs) more
last_join start [] more = refl
last_join start (x ∷ xs) more = last_join x.number xs more

rise_both : (read : Mark → Named) (first mid now : ℕ) (xs ys : List Mark) → Rise read first mid xs → Rise read mid now ys → Rise read first now (xs ++ ys)
rise_both read first mid now xs ys p q =
    let both : map read (xs ++ ys) ≡ map read xs ++ map read ys = map-append read xs ys in
    record {
      by_one = subst (RiseByOne first) (sym both) (rise_join first (map read xs) (map read ys) p.by_one (subst (λ (i : ℕ). RiseByOne i (map read ys)) (sym p.last) q.by_one));
      last = ap (last_named first) both ∙ last_join first (map read xs) (map read ys) ∙ ap (λ (i : ℕ). last_named i (map read ys)) p.last ∙ q.last;
    }

-- those of one command rise by one, to its last numbers
up_source : (at : Mark) (count : ℕ) → Rise source_mark at.committed (at.committed + count) (marks_up at count)
up_source at zero = record { by_one = tt; last = none_more at.committed }
up_source at (suc n) =
    let behind : Rise source_mark (at.committed + 1) (at.committed + 1 + n) (marks_up (next_mark at) n) = up_source (next_mark at) n in
    let there : at.committed + 1 + n ≡ at.committed + suc n = omega arith in
    record { by_one = (inr refl, behind.by_one); last = behind.last ∙ there }

up_replica : (at : Mark) (count : ℕ) → Rise replica_mark at.applied at.applied (marks_up at count)
up_replica at zero = record { by_one = tt; last = refl }
up_replica at (suc n) = let behind : Rise replica_mark at.applied at.applied (marks_up (next_mark at) n) = up_replica (next_mark at) n in record { by_one = (inl refl, behind.by_one); last = behind.last }

applied_source : (at : Mark) (count : ℕ) → Rise source_mark at.committed at.committed (applied_up at count)
applied_source at zero = record { by_one = tt; last = refl }
applied_source at (suc n) = let behind : Rise source_mark at.committed at.committed (applied_up (next_applied_mark at) n) = applied_source (next_applied_mark at) n in record { by_one = (inl refl, behind.by_one); last = behind.last }

next_fits : (n : ℕ) → min (n + 1) (2 ^ 64 - 1) < 2 ^ 64
next_fits n = omega arith

next_is : (n : ℕ) → n < 2 ^ 64 → (min (n + 1) (2 ^ 64 - 1) ≡ n) ⊎ (min (n + 1) (2 ^ 64 - 1) ≡ n + 1)
next_is n fits = by (cases_lt (n + 1) (2 ^ 64))
  where
    by : (n + 1 < 2 ^ 64) ⊎ (2 ^ 64 ≤ n + 1) → (min (n + 1) (2 ^ 64 - 1) ≡ n) ⊎ (min (n + 1) (2 ^ 64 - 1) ≡ n + 1)
    by (inl less) = inr (omega (arith, less))
    by (inr more) = inl (omega (arith, fits, more))

applied_replica : (at : Mark) (count : ℕ) → at.applied < 2 ^ 64 → Rise replica_mark at.applied (min (at.applied + count) (2 ^ 64 - 1)) (applied_up at count)
applied_replica at zero fits = record { by_one = tt; last = here at.applied fits }
  where
    here : (n : ℕ) → n < 2 ^ 64 → n ≡ min (n + 0) (2 ^ 64 - 1)
    here n fits = omega (arith, fits)
applied_replica at (suc n) fits =
    let behind : Rise replica_mark (next_applied at.applied) (min (next_applied at.applied + n) (2 ^ 64 - 1)) (applied_up (next_applied_mark at) n) =
    applied_replica (next_applied_mark at) n (next_fits at.applied) in
    record { by_one = (next_is at.applied fits, behind.by_one); last = behind.last ∙ there at.applied n }
  where
    there : (m n : ℕ) → min (min (m + 1) (2 ^ 64 - 1) + n) (2 ^ 64 - 1) ≡ min (m + suc n) (2 ^ 64 - 1)
    there m n = omega arith

command_source : (at : Mark) (commits groups : ℕ) → Rise source_mark at.committed (at.committed + commits) (command_marks at commits groups)
command_source at commits groups =
    rise_both source_mark at.committed (at.committed + commits) (at.committed + commits) (marks_up at commits) (applied_up (record at { committed = at.committed + commits }) groups)
    (up_source at commits) (applied_source (record at { committed = at.committed + commits }) groups)

command_replica : (at : Mark) (commits groups : ℕ) → at.applied < 2 ^ 64 → Rise replica_mark at.applied (min (at.applied + groups) (2 ^ 64 - 1)) (command_marks at commits groups)
command_replica at commits groups fits =
    rise_both replica_mark at.applied at.applied (min (at.applied + groups) (2 ^ 64 - 1)) (marks_up at commits) (applied_up (record at { committed = at.committed + commits }) groups)
    (up_replica at commits) (applied_replica (record at { committed = at.committed + commits }) groups fits)

-- calls are not among the numbers
source_counted : (first now : ℕ) (ms : List Mark) → Rise source_mark first now (map uncounted ms) → Rise source_mark first now ms
source_counted first now [] rise = rise
source_counted first now (m ∷ ms) rise =
    let behind : Rise source_mark m.committed now ms = source_counted m.committed now ms (record { by_one = rise.by_one.1; last = rise.last }) in
    record { by_one = (rise.by_one.0, behind.by_one); last = behind.last }

replica_counted : (first now : ℕ) (ms : List Mark) → Rise replica_mark first now (map uncounted ms) → Rise replica_mark first now ms
replica_counted first now [] rise = rise
replica_counted first now (m ∷ ms) rise =
    let behind : Rise replica_mark m.applied now ms = replica_counted m.applied now ms (record { by_one = rise.by_one.1; last = rise.last }) in
    record { by_one = (rise.by_one.0, behind.by_one); last = behind.last }

-- what marks of a command name in the end
pub applied_last : (at : Mark) (groups : ℕ) (ms : List Mark) → at.applied < 2 ^ 64 → map uncounted ms ≡ command_marks at 0 groups → last_named at.applied (map replica_mark ms) ≡ min (at.applied + groups) (2 ^ 64 - 1)
applied_last at groups ms fits are =
    let rise : Rise replica_mark at.applied (min (at.applied + groups) (2 ^ 64 - 1)) ms =
    replica_counted at.applied (min (at.applied + groups) (2 ^ 64 - 1)) ms (subst (λ (xs : List Mark). Rise replica_mark at.applied (min (at.applied + groups) (2 ^ 64 - 1)) xs) (sym are) (command_replica at 0 groups fits)) in
    rise.last

-- ---- marks go on

pub marks_on : (first now : Numbers) (commits groups : ℕ) (at : Mark) (these old new : List Mark) → at.committed ≡ now.committed → at.applied ≡ now.applied → now.applied < 2 ^ 64
    → AreMarks first now these old → Pushed at commits groups old new → AreMarks first (numbers_behind now commits groups) (these ++ command_marks at commits groups) new
marks_on first now commits groups at these old new number applied fits marks pushed =
    let more : List Mark = pushed.more in
    let ups : List Mark = command_marks at commits groups in
    let fits' : at.applied < 2 ^ 64 = subst (λ (n : ℕ). n < 2 ^ 64) (sym applied) fits in
    let source : Rise source_mark now.committed (now.committed + commits) more =
    source_counted now.committed (now.committed + commits) more
    (subst (λ (xs : List Mark). Rise source_mark now.committed (now.committed + commits) xs) (sym pushed.are) (subst (λ (n : ℕ). Rise source_mark n (n + commits) ups) number (command_source at commits groups))) in
    let replica : Rise replica_mark now.applied (min (now.applied + groups) (2 ^ 64 - 1)) more =
    replica_counted now.applied (min (now.applied + groups) (2 ^ 64 - 1)) more
    (subst (λ (xs : List Mark). Rise replica_mark now.applied (min (now.applied + groups) (2 ^ 64 - 1)) xs) (sym pushed.are)
    (subst (λ (n : ℕ). Rise replica_mark n (min (n + groups) (2 ^ 64 - 1)) ups) applied (command_replica at commits groups fits'))) in
    record {
      are = ap (map uncounted) pushed.marks ∙ map-append uncounted old more ∙ ap (λ (xs : List Mark). xs ++ map uncounted more) marks.are ∙ ap (λ (xs : List Mark). these ++ xs) pushed.are;
      committed = subst (λ (ms : List Mark). Rise source_mark first.committed (now.committed + commits) ms) (sym pushed.marks)
          (rise_both source_mark first.committed now.committed (now.committed + commits) old more marks.committed source);
      applied = subst (λ (ms : List Mark). Rise replica_mark first.applied (min (now.applied + groups) (2 ^ 64 - 1)) ms) (sym pushed.marks)
          (rise_both replica_mark first.applied now.applied (min (now.applied + groups) (2 ^ 64 - 1)) old more marks.applied replica);
    }

-- before the first
pub marks_begin : (first : Numbers) → AreMarks first first [] []
marks_begin first = record { are = refl; committed = record { by_one = tt; last = refl }; applied = record { by_one = tt; last = refl } }

-- the numbers behind a command
pub numbers_are : (b b' : Both) (commits groups : ℕ) → committed_of b' ≡ committed_of b + commits → b'.replica.number ≡ min (b.replica.number + groups) (2 ^ 64 - 1) → numbers_behind (numbers_of b) commits groups ≡ numbers_of b'
numbers_are b b' commits groups committed applied =
    ap (λ (n : ℕ). record { committed = n; applied = min (b.replica.number + groups) (2 ^ 64 - 1) }) (sym committed)
    ∙ ap (λ (n : ℕ). record { committed = committed_of b'; applied = n }) (sym applied)

-- ---- those of commands

pub no_marks : (names : Names) (b : Both) (k : ℕ) (cs : List Asked) → marks_of names b k cs [] ≡ []
no_marks names b k [] = refl
no_marks names b k (c ∷ cs) = refl

rise_by : (n more m : ℕ) → m ≡ n + more → m - n ≡ more
rise_by n more m is = omega (arith, is)

-- of one command more, which committed so many and carried out so many
pub marks_last : (names : Names) (b : Both) (k commits groups : ℕ) (cs : List Asked) (ds : List Draw) (d : Draw) (c : Asked) → slice_get cs (length ds) ≡ Some c
    → committed_of (next names (end_of names b cs ds) c d).both ≡ committed_of (end_of names b cs ds) + commits
    → carried_in (next names (end_of names b cs ds) c d).both.steps ≡ carried_in (end_of names b cs ds).steps + groups
    → marks_of names b k cs (ds ++ d ∷ []) ≡ marks_of names b k cs ds ++ command_marks (mark_at (k + length ds) (end_of names b cs ds)) commits groups
marks_last names b k commits groups [] ds d c is number steps = cc
marks_last names b k commits groups (x ∷ cs) [] d c is number steps =
    let same : x ≡ c = cc in
    let here : k + 0 ≡ k = omega arith in
    let of_it : committed_of (next names b x d).both - committed_of b ≡ commits =
    ap (λ (y : Asked). committed_of (next names b y d).both - committed_of b) same ∙ rise_by (committed_of b) commits (committed_of (next names b c d).both) number in
    let of_groups : carried_in (next names b x d).both.steps - carried_in b.steps ≡ groups =
    ap (λ (y : Asked). carried_in (next names b y d).both.steps - carried_in b.steps) same ∙ rise_by (carried_in b.steps) groups (carried_in (next names b c d).both.steps) steps in
    let ups : List Mark = command_marks (mark_at k b) (committed_of (next names b x d).both - committed_of b) (carried_in (next names b x d).both.steps - carried_in b.steps) in
    ap (λ (rest : List Mark). ups ++ rest) (no_marks names (next names b x d).both (k + 1) cs) ∙ append-nil ups
    ∙ ap (λ (n : ℕ). command_marks (mark_at k b) n (carried_in (next names b x d).both.steps - carried_in b.steps)) of_it
    ∙ ap (command_marks (mark_at k b) commits) of_groups ∙ ap (λ (n : ℕ). command_marks (mark_at n b) commits groups) (sym here)
marks_last names b k commits groups (x ∷ cs) (y ∷ ds) d c is number steps =
    let there : k + 1 + length ds ≡ k + suc (length ds) = omega arith in
    let b' : Both = (next names b x y).both in
    let ups : List Mark = command_marks (mark_at k b) (committed_of b' - committed_of b) (carried_in b'.steps - carried_in b.steps) in
    ap (λ (rest : List Mark). ups ++ rest) (marks_last names b' (k + 1) commits groups cs ds d c is number steps)
    ∙ sym (append_assoc ups (marks_of names b' (k + 1) cs ds) (command_marks (mark_at (k + 1 + length ds) (end_of names b' cs ds)) commits groups))
    ∙ ap (λ (n : ℕ). marks_of names b k (x ∷ cs) (y ∷ ds) ++ command_marks (mark_at n (end_of names b' cs ds)) commits groups) there

-- ---- calls

at_most : (n calls : ℕ) → n < 2 ^ 64 → calls ≡ min n (2 ^ 64 - 1) → calls ≡ n
at_most n calls fits is = omega (arith, fits, is)

fits_too : (n m : ℕ) → n ≤ m → m < 2 ^ 64 → n < 2 ^ 64
fits_too n m less fits = omega (arith, less, fits)

-- where a command began the disk had had no fewer calls than as the run did, and no more than behind the command
pub called_within : (t u v : Option Story) (calls : ℕ) → GoesOn t u → GoesOn u v → CalledNow u calls → CalledWithin t v calls
called_within None u v calls first second now fits = tt
called_within (Some s) None v calls first second now fits = absurd first
called_within (Some s) (Some r) None calls first second now fits = absurd second
called_within (Some s) (Some r) (Some q) calls first second now fits =
    let a : count (Some s) ≤ count (Some r) = on_count (Some s) (Some r) first in
    let b : count (Some r) ≤ count (Some q) = on_count (Some r) (Some q) second in
    let is : calls ≡ count (Some r) = at_most (count (Some r)) calls (fits_too (count (Some r)) (count (Some q)) b fits) now in
    (omega (arith, a, is), omega (arith, b, is))

pub called_last : (t u : Option Story) (ds : List Draw) (d : Draw) (calls : ℕ) → CalledWithin t u calls → Called t u (ds ++ d ∷ []) calls
called_last t u [] d calls within = within
called_last t u (x ∷ ds) d calls within = within

-- calls since then
pub called_through : (t u v : Option Story) (ds : List Draw) (calls : ℕ) → GoesOn t u → GoesOn u v → Called t u ds calls → Called t v ds calls
called_through t u v [] calls first second called = called
called_through t u v (d ∷ ds) calls first second called = within_through t u v calls first second called
  where
    within_through : (t u v : Option Story) (calls : ℕ) → GoesOn t u → GoesOn u v → CalledWithin t u calls → CalledWithin t v calls
    within_through None u v calls first second within fits = tt
    within_through (Some s) None v calls first second within fits = absurd first
    within_through (Some s) (Some r) None calls first second within fits = absurd second
    within_through (Some s) (Some r) (Some q) calls first second within fits =
        let more : count (Some r) ≤ count (Some q) = on_count (Some r) (Some q) second in
        let is = within (fits_too (count (Some r)) (count (Some q)) more fits) in
        (is.0, omega (arith, is.1, more))

-- ---- marks of the other side, while a disk is not called

-- those of commits name what the replica has, as the command began
pub commits_name : (t : Option Story) (now : Mark) (number : ℕ) (ms : List Mark) → CalledNow t now.rep_calls → CallsFit t → NameInTurn now number ms → IfSome t (λ _. NameNow (count t) now.applied (map replica_mark ms))
commits_name None now number ms called fits named = tt
commits_name (Some s) now number ms called fits named = go number ms named
  where
    is : now.rep_calls ≡ count (Some s)
    is = at_most (count (Some s)) now.rep_calls fits called

    go : (number : ℕ) (ms : List Mark) → NameInTurn now number ms → NameNow (count (Some s)) now.applied (map replica_mark ms)
    go number [] named = tt
    go number (m ∷ ms) named = (ap (λ (x : Mark). x.rep_calls) named.0 ∙ is, (ap (λ (x : Mark). x.applied) named.0, go (number + 1) ms named.1))

-- those of groups name what the source has
pub groups_name : (t : Option Story) (now : Mark) (number : ℕ) (ms : List Mark) → CalledNow t now.src_calls → CallsFit t → AppliedInTurn now number ms → IfSome t (λ _. NameNow (count t) now.committed (map source_mark ms))
groups_name None now number ms called fits named = tt
groups_name (Some s) now number ms called fits named = go number ms named
  where
    is : now.src_calls ≡ count (Some s)
    is = at_most (count (Some s)) now.src_calls fits called

    go : (number : ℕ) (ms : List Mark) → AppliedInTurn now number ms → NameNow (count (Some s)) now.committed (map source_mark ms)
    go number [] named = tt
    go number (m ∷ ms) named = (ap (λ (x : Mark). x.src_calls) named.0 ∙ is, (ap (λ (x : Mark). x.committed) named.0, go (next_applied number) ms named.1))
