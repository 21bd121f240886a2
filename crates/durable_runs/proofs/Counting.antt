-- One byte, written and synced.
use Rattle.std.proofs.Common.{◌≡◌, ◌⊎◌, inl, inr, ℕ, ◌≤◌, zero, suc, Bool, true, false, cond, eqb, List, [], ◌∷◌, length, Option, Result, Ok, refl, sym, ap, subst, arith}
use Rattle.disk_model.specs.declared.call.Call.TheVariants.{Write, Sync}
use Rattle.disk_model.specs.declared.refusals.DiskRefusal.{DiskRefusal}
use Rattle.disk_model.specs.Story.{Image, Story, seen_after, then_call}
use Rattle.disk_model.specs.Left.{MayHold, LeftAfter, just_synced, then_done, unsynced_after}
use Rattle.disk_model.specs.Moments.{Each, Always}
use Rattle.disk_model.proofs.ByHand.{bytes_by_test, all_below}
use Rattle.disk_model.proofs.Laws.{left_synced}
use Rattle.disk_model.proofs.Moments.{since_start, always_call}
use Rattle.durable_runs.specs.Marks.{AreBehind, Named}
use Rattle.durable_runs.specs.Runs.{Claim, Runs}
use Rattle.durable_runs.specs.Worked.{counting, no_call, byte_kept, one_behind}
use Rattle.durable_runs.proofs.Joining.{runs_committed}

abbrev no_file : Image
no_file f = []

-- ---- a mark behind the write

still_nothing : (b : Bool) → MayHold (cond b (then_done (Write 2 0 (7 ∷ []) true) [] (just_synced [])) (just_synced [])) []
unfolding all_below
still_nothing true =
    record { no_shorter = omega arith; no_longer = omega arith; stays = λ i lt lt' out. absurd (omega (arith, lt)); bytes = bytes_by_test [] refl }
still_nothing false =
    record { no_shorter = omega arith; no_longer = omega arith; stays = λ i lt lt' out. absurd (omega (arith, lt)); bytes = bytes_by_test [] refl }

-- behind the write a crash may leave no byte
nothing_left : (f : ℕ) → LeftAfter no_file (Write 2 0 (7 ∷ []) true ∷ []) f []
unfolding unsynced_after seen_after all_below
nothing_left f = record { story = (bytes_by_test (7 ∷ []) refl, λ g. bytes_by_test [] refl); held = still_nothing (eqb 2 f) }

none_named : (c : Claim counting 0 (7 ∷ []) (one_behind 1) 1 no_file) → ⊥
none_named c = omega (arith, c.holds, c.stands)

pub early_is_none : Runs counting no_call byte_kept 0 (7 ∷ []) [] (one_behind 1) → ⊥
early_is_none run =
    none_named (subst (λ (l : List Named). Claim counting 0 (7 ∷ []) l 1 no_file) (sym run.marks) (run.claim.after 1 (omega arith) (omega arith) no_file nothing_left))

-- ---- a mark that says a call that was not made

pub late_is_none : Runs counting no_call byte_kept 0 (7 ∷ []) [] (one_behind 3) → ⊥
late_is_none run =
    let behind : AreBehind 2 (one_behind 3) = subst (λ (l : List Named). AreBehind 2 l) (sym run.marks) run.behind in
    omega (arith, behind.0)

-- ---- a mark behind the sync

zero_or_one : (n : ℕ) → n ≤ 1 → (n ≡ 0) ⊎ (n ≡ 1)
zero_or_one zero le = inl refl
zero_or_one (suc zero) le = inr refl
zero_or_one (suc (suc n)) le = absurd (omega (arith, le))

abbrev Either : Image → Type 0
Either image = (length (image 2) ≡ 0) ⊎ (length (image 2) ≡ 1)

written : Option Story
written = then_call (Write 2 0 (7 ∷ []) true) no_call

at_first : Each no_call Either
unfolding unsynced_after
at_first image left = let h = left 2 in zero_or_one (length (image 2)) (omega (arith, h.held.no_longer))

behind_write : Each written Either
unfolding written unsynced_after seen_after
behind_write image left = let h = left 2 in zero_or_one (length (image 2)) (omega (arith, h.held.no_longer))

synced : Each byte_kept (λ image. length (image 2) ≡ 1)
unfolding seen_after
synced image left = ap length (left_synced no_file (Write 2 0 (7 ∷ []) true ∷ []) 2 (image 2) (left 2))

always : Always 0 byte_kept Either
unfolding written
always =
    let done : Result (Unit {0}) DiskRefusal = Ok tt in
    always_call 0 Either written byte_kept done (λ (b : Bool). Sync 2 b) refl (omega arith)
    (always_call 0 Either no_call written done (λ (b : Bool). Write 2 0 (7 ∷ []) b) refl (omega arith) (since_start no_call (λ n image. Either image) at_first) behind_write)
    (λ image left. inr (synced image left))

pub kept_is_run : Runs counting no_call byte_kept 0 (7 ∷ []) [] (one_behind 2)
kept_is_run =
    runs_committed counting no_call byte_kept 0 1 7 [] (record { number = 1; calls = 2 }) refl (omega arith)
    (refl, (Sync 2 true ∷ Write 2 0 (7 ∷ []) true ∷ [], refl)) always synced refl refl
