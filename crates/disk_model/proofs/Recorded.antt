-- What is read after a call more, oldest first.
use Rattle.std.proofs.Common.{◌≡◌, ℕ, ◌+◌, ◌<◌, ◌^◌, Bool, true, false, cond, List, [], ◌∷◌, ◌++◌, length, take, reverse, nat_lt, Some, Result, Ok, Err, ◌==◌, refl, sym, ◌∙◌, ap, subst}
use Rattle.std.specs.Prelude.{OnOk, OnErr}
use Rattle.std.proofs.lemmas.List.{reverse-append}
use Rattle.std.proofs.Math.Seq.{take-append_seam}
use Rattle.std.proofs.lemmas.Bool.{cond-true, lt-ltb}
use Rattle.disk_model.specs.declared.call.Call.{Call}
use Rattle.disk_model.specs.declared.call.Call.TheVariants.{Look, Write, Cut}
use Rattle.disk_model.specs.Story.{Image, concerns, changed, overwritten, seen_after}
use Rattle.disk_model.specs.Left.{unsynced_after}
use Rattle.disk_model.specs.Moments.{IsSettled}
use Rattle.disk_model.specs.Files.{MemState, files}
use Rattle.disk_model.specs.Answers.{write_call}
use Rattle.disk_model.proofs.Laws.{seen_cons, seen_other}
use Rattle.disk_model.proofs.Holding.{synced_only}

pub newest : (calls : List Call) (call : Call) → reverse (calls ++ call ∷ []) ≡ call ∷ reverse calls
newest calls call = reverse-append calls (call ∷ [])

-- each file is changed by the call that concerns it
pub recorded : (first old new : Image) (calls : List Call) (call : Call) → ((f : ℕ) → new f ≡ cond (concerns call f) (changed call (old f)) (old f))
    → ((f : ℕ) → old f ≡ seen_after first (reverse calls) f) → (f : ℕ) → new f ≡ seen_after first (reverse (calls ++ call ∷ [])) f
recorded first old new calls call made so_far f =
    made f ∙ ap (λ file. cond (concerns call f) (changed call file) file) (so_far f) ∙ sym (seen_cons first call (reverse calls) f)
    ∙ ap (λ cs. seen_after first cs f) (sym (newest calls call))

-- a call that changes nothing
pub unchanged : (first old : Image) (calls : List Call) (call : Call) → ((file : List ℕ) → changed call file ≡ file)
    → ((f : ℕ) → old f ≡ seen_after first (reverse calls) f) → (f : ℕ) → old f ≡ seen_after first (reverse (calls ++ call ∷ [])) f
unchanged first old calls call same so_far = recorded first old old calls call (λ f. sym (either (concerns call f) f)) so_far
  where
    either : (b : Bool) (f : ℕ) → cond b (changed call (old f)) (old f) ≡ old f
    either true f = same (old f)
    either false f = refl

pub write_fits : (f at : ℕ) (p : List ℕ) (done : Bool) → at + length p < 2 ^ 64 → write_call f at p done ≡ Write f at p done
write_fits f at p done room = cond-true (nat_lt (at + length p) (2 ^ 64)) (Write f at p done) Look (lt-ltb (at + length p) (2 ^ 64) room)

-- a call that is kept, or for which there was no memory
pub kept : {A E : Type 0} (first old : Image) (calls now : List Call) (call : Call) (r : Result A E) → ((file : List ℕ) → changed call file ≡ file)
    → OnOk r (now ≡ calls ++ call ∷ []) → OnErr r (now ≡ calls) → ((f : ℕ) → old f ≡ seen_after first (reverse calls) f) → (f : ℕ) → old f ≡ seen_after first (reverse now) f
kept first old calls now call (Ok x) same ok err so_far f = unchanged first old calls call same so_far f ∙ ap (λ cs. seen_after first (reverse cs) f) (sym ok)
kept first old calls now call (Err e) same ok err so_far f = so_far f ∙ ap (λ cs. seen_after first (reverse cs) f) (sym err)

-- a write, from its piece's copy
pub written : (first old new : Image) (calls now : List Call) (g at : ℕ) (p copy : List ℕ) → copy ≡ p → now ≡ calls ++ Write g at copy true ∷ []
    → ((f : ℕ) → new f ≡ cond (g == f) (overwritten at p (old f)) (old f)) → ((f : ℕ) → old f ≡ seen_after first (reverse calls) f) → (f : ℕ) → new f ≡ seen_after first (reverse now) f
written first old new calls now g at p copy same is made so_far f =
    recorded first old new calls (Write g at copy true) (λ k. made k ∙ ap (λ (q : List ℕ). cond (g == k) (overwritten at q (old k)) (old k)) (sym same)) so_far f
    ∙ ap (λ cs. seen_after first (reverse cs) f) (sym is)

-- a cut
pub shortened : (first old new : Image) (calls now : List Call) (g n : ℕ) → now ≡ calls ++ Cut g n true ∷ []
    → ((f : ℕ) → new f ≡ cond (g == f) (take n (old f)) (old f)) → ((f : ℕ) → old f ≡ seen_after first (reverse calls) f) → (f : ℕ) → new f ≡ seen_after first (reverse now) f
shortened first old new calls now g n is made so_far f = recorded first old new calls (Cut g n true) made so_far f ∙ ap (λ cs. seen_after first (reverse cs) f) (sym is)

-- a write that was kept and is taken off again
pub taken_off : (first old new : Image) (calls now last : List Call) (call : Call) (n : ℕ) → n ≡ length calls → now ≡ calls ++ call ∷ [] → last ≡ take n now
    → last ≡ calls
taken_off first old new calls now last call n size is cut = cut ∙ ap (λ k. take k now) size ∙ ap (λ cs. take (length calls) cs) is ∙ take-append_seam calls (call ∷ [])

-- ---- a disk that has had no call

pub begins : (list held : List (List ℕ)) (calls : List Call) → held ≡ list → calls ≡ [] → (f : ℕ) → files held f ≡ seen_after (files list) (reverse calls) f
unfolding seen_after
begins list held calls same none f = ap (λ l. files l f) same ∙ ap (λ cs. seen_after (files list) (reverse cs) f) (sym none)

pub begins_settled : (list : List (List ℕ)) (calls : List Call) → calls ≡ [] → IsSettled (Some (record { first = files list; calls = reverse calls }))
unfolding seen_after unsynced_after
begins_settled list calls none = subst (λ cs. IsSettled (Some (record { first = files list; calls = reverse cs }))) (sym none) settled
  where
    settled : IsSettled (Some (record { first = files list; calls = [] }))
    settled f c left = synced_only (files list f) c left.held

-- ---- what is read after a call that only looks

pub looked : (old new : MemState) (f : ℕ) (contents : List ℕ) → new ≡ record { first = old.first; calls = Look ∷ old.calls; faults = old.faults } → contents ≡ seen_after (files new.first) new.calls f
    → contents ≡ seen_after (files old.first) old.calls f
looked old new f contents is read = read ∙ ap (λ d. seen_after (files d.first) d.calls f) is ∙ seen_other (files old.first) Look old.calls f refl
