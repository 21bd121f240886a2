-- A write over a file whose only image is known, and a sync of it: what each moment leaves.
use Rattle.std.proofs.Common.{◌≡◌, ◌≢◌, ℕ, ◌+◌, ◌≤◌, Bool, true, false, List, length, Option, Some, None, Result, Ok, Err, ◌<◌, ◌^◌, ◌==◌, take, refl, sym, ◌∙◌, ap, subst, arith}
use Rattle.std.specs.Prelude.{IfSome, OnOk}
use Rattle.std.proofs.lemmas.Bool.{ne_eqb, eq-eqb, cond-true}
use Rattle.disk_model.specs.declared.call.Call.{Call}
use Rattle.disk_model.specs.declared.call.Call.TheVariants.{Cut, Sync}
use Rattle.disk_model.specs.declared.refusals.DiskRefusal.{DiskRefusal}
use Rattle.disk_model.specs.Story.{Image, Story, count, seen, seen_after, concerns, overwritten, then_call}
use Rattle.disk_model.specs.Torn.{Torn}
use Rattle.disk_model.specs.Moments.{Each, Since, Always, GoesOn, Only, OthersOf}
use Rattle.disk_model.specs.Claims.{Steps, Puts, WorksOn}
use Rattle.disk_model.specs.Answers.{Tells, write_call}
use Rattle.disk_model.proofs.Torn.{torn_none}
use Rattle.disk_model.proofs.Laws.{by_left, left_bytes, left_write, left_apart, left_sync, seen_apart, seen_cons, seen_sync, seen_written, write_apart}
use Rattle.disk_model.proofs.Moments.{since_none, since_map, since_start, always_call, always_less, on_refl, on_call, on_trans, on_count}

-- ---- one call on a file, of which nothing is asked

pub steps_call : {A : Type 0} (t t' : Option Story) (r : Result A DiskRefusal) (f : ℕ) (call : Bool → Call) → ((g : ℕ) → g ≢ f → (done : Bool) → concerns (call done) g ≡ false) → Tells r call t t' → Steps t t' f (λ _. Unit {0})
steps_call t t' r f call apart tells = record {
  on = on_call t t' r call tells;
  images = always_call (count t) (λ image. Unit {0} × OthersOf t f image) t t' r call tells (omega arith)
      (since_start t (λ n image. Unit {0} × OthersOf t f image) (λ image left. (tt, λ g ne. left g)))
      (λ image left. (tt, λ g ne. left_apart t t' r call g (apart g ne) tells (image g) (left g)));
  others = λ g c ne left. left_apart t t' r call g (apart g ne) tells c left;
  reads = λ g ne. seen_apart t t' r call g (apart g ne) tells;
}

-- ---- the write and the sync of `put`

module _ (t : Option Story) (f at : ℕ) (p : List ℕ) (only : Only t f (seen t f)) (within : IfSome t (λ _. at ≤ length (seen t f))) where
  unfoldable Claim : Image → Type 0
  Claim image = Torn at (length p) (seen t f) (image f) × OthersOf t f image

  before : Each t Claim
  unfolding Claim
  before image left = (subst (λ c. Torn at (length p) c (image f)) (only (image f) (left f)) (torn_none at (length p) (image f) (left_bytes t f (image f) (left f))), λ g ne. left g)

  after : {A : Type 0} (t' : Option Story) (r : Result A DiskRefusal) → Tells r (write_call f at p) t t' → Each t' Claim
  unfolding Claim
  after t' r tells image left = (
    left_write t t' r f at p only within tells (image f) (left f),
    λ g ne. left_apart t t' r (write_call f at p) g (write_apart f at p g ne) tells (image g) (left g),
  )

  written : {A : Type 0} (t' : Option Story) (r : Result A DiskRefusal) → Tells r (write_call f at p) t t' → Always (count t) t' Claim
  written t' r tells = always_call (count t) Claim t t' r (write_call f at p) tells (omega arith) (since_start t (λ n image. Claim image) before) (after t' r tells)

  pub puts_write : {A : Type 0} (t' : Option Story) (r : Result A DiskRefusal) → Tells r (write_call f at p) t t' → Puts t t' f at p
  unfolding Claim
  puts_write t' r tells = record {
    on = on_call t t' r (write_call f at p) tells;
    images = written t' r tells;
    others = λ g c ne left. left_apart t t' r (write_call f at p) g (write_apart f at p g ne) tells c left;
    reads = λ g ne. seen_apart t t' r (write_call f at p) g (write_apart f at p g ne) tells;
  }

  pub puts_sync : {A B : Type 0} (t' t'' : Option Story) (r : Result A DiskRefusal) (r' : Result B DiskRefusal) → Tells r (write_call f at p) t t' → Tells r' (λ done. Sync f done) t' t'' → Puts t t'' f at p
  unfolding Claim
  puts_sync t' t'' r r' wrote synced =
      let on = on_call t t' r (write_call f at p) wrote in
      record {
        on = on_trans t t' t'' on (on_call t' t'' r' (λ done. Sync f done) synced);
        images = always_less (count t) Claim t' t'' r' (λ done. Sync f done) synced (left_sync t' t'' r' f synced) (on_count t t' on) (written t' r wrote);
        others = λ g c ne left. left_apart t t' r (write_call f at p) g (write_apart f at p g ne) wrote c (left_sync t' t'' r' f synced g c left);
        reads = λ g ne. seen_sync t' t'' r' f synced g ∙ seen_apart t t' r (write_call f at p) g (write_apart f at p g ne) wrote;
      }

-- ---- what follows of a file's steps

-- a claim that needs what is told
pub since_told : (t u : Option Story) (X : Type 0) (start : ℕ) (P Q : ℕ → Image → Type 0) → GoesOn t u → IfSome t (λ s. X) → (X → (n : ℕ) (image : Image) → start ≤ n → n ≤ count u → P n image → Q n image) → Since start u P → Since start u Q
since_told None None X start P Q on told f since = since_none start Q
since_told None (Some u) X start P Q on told f since = absurd on
since_told (Some s) u X start P Q on told f since = since_map start u P Q (f told) since

pub steps_map : (t u : Option Story) (f : ℕ) (X : Type 0) (P Q : List ℕ → Type 0) → IfSome t (λ s. X) → (X → (c : List ℕ) → P c → Q c) → Steps t u f P → Steps t u f Q
steps_map t u f X P Q told map steps = record {
  on = steps.on;
  images = since_told t u X (count t) (λ n image. P (image f) × OthersOf t f image) (λ n image. Q (image f) × OthersOf t f image)
      steps.on told (λ x n image le ge h. (map x (image f) h.0, h.1)) steps.images;
  others = steps.others;
  reads = steps.reads;
}

-- no call at all
pub steps_none : (t : Option Story) (f : ℕ) (Q : List ℕ → Type 0) → Only t f (seen t f) → IfSome t (λ s. Q (seen t f)) → Steps t t f Q
steps_none t f Q only told = record {
  on = on_refl t;
  images = since_start t (λ n image. Q (image f) × OthersOf t f image)
      (λ image left. (subst (λ c. Q c) (sym (only (image f) (left f))) (by_left t f (image f) (Q (seen t f)) told (left f)), λ g ne. left g));
  others = λ g c ne left. left;
  reads = λ g ne. refl;
}

-- what a read gives after both
pub put_reads : (t t' t'' : Option Story) (f at : ℕ) (p : List ℕ) → at + length p < 2 ^ 64 → t' ≡ then_call (write_call f at p true) t → t'' ≡ then_call (Sync f true) t' → IfSome t (λ _. seen t'' f ≡ overwritten at p (seen t f))
put_reads None t' t'' f at p room wrote synced = tt
put_reads (Some s) t' t'' f at p room wrote synced = let done : Result ℕ DiskRefusal = Ok 0 in seen_sync t' t'' done f synced f ∙ seen_written (Some s) t' f at p room wrote

-- ---- one call on a file of which nothing is claimed

pub works_write : {A : Type 0} (t t' : Option Story) (r : Result A DiskRefusal) (f at : ℕ) (p : List ℕ) → Tells r (write_call f at p) t t' → WorksOn t t' f
works_write t t' r f at p tells = steps_call t t' r f (write_call f at p) (write_apart f at p) tells

pub works_cut : {A : Type 0} (t t' : Option Story) (r : Result A DiskRefusal) (f n : ℕ) → Tells r (λ done. Cut f n done) t t' → WorksOn t t' f
works_cut t t' r f n tells = steps_call t t' r f (λ done. Cut f n done) (λ g ne done. ne_eqb f g (λ e. ne (sym e))) tells

pub written_ok : {A : Type 0} (t t' : Option Story) (r : Result A DiskRefusal) (f at : ℕ) (p : List ℕ) → OnOk r (at + length p < 2 ^ 64) → Tells r (write_call f at p) t t'
    → OnOk r (IfSome t (λ _. seen t' f ≡ overwritten at p (seen t f)))
written_ok t t' (Ok x) f at p room tells = seen_written t t' f at p room tells
written_ok t t' (Err e) f at p room tells = tt

pub cut_ok : {A : Type 0} (t t' : Option Story) (r : Result A DiskRefusal) (f n : ℕ) → Tells r (λ done. Cut f n done) t t' → OnOk r (IfSome t (λ _. seen t' f ≡ take n (seen t f)))
cut_ok None t' (Ok x) f n tells = tt
cut_ok (Some s) t' (Ok x) f n tells = ap (λ u. seen u f) tells ∙ seen_cons s.first (Cut f n true) s.calls f
    ∙ cond-true (f == f) (take n (seen_after s.first s.calls f)) (seen_after s.first s.calls f) (eq-eqb f f refl)
cut_ok t t' (Err e) f n tells = tt
