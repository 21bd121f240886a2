-- Calls on two files, one after the other.
use Rattle.std.proofs.Common.{◌≢◌, ℕ, List, Option, Some, None, Result, Ok, Err, refl, sym, ◌∙◌, subst, arith}
use Rattle.std.specs.Prelude.{IfSome, OnOk}
use Rattle.disk_model.specs.Story.{Image, Story, count, seen}
use Rattle.disk_model.specs.Left.{Left}
use Rattle.disk_model.specs.Moments.{Always, GoesOn, Only, OthersOf}
use Rattle.disk_model.specs.Claims.{Quietly, Steps}
use Rattle.disk_model.proofs.Moments.{on_count, on_refl, on_trans, since_join, since_map, since_start}
use Rattle.disk_model.proofs.Laws.{by_left}
use Rattle.disk_model.proofs.Putting.{since_told}
use Rattle.checkpoint_pieces.specs.Working.{WorksOnBoth}

-- ---- two files

pub both_trans : (t u v : Option Story) (f j : ℕ) (P : Image → Type 0) → WorksOnBoth t u f j P → WorksOnBoth u v f j P → WorksOnBoth t v f j P
both_trans t u v f j P first second = record {
  on = on_trans t u v first.on second.on;
  images = since_join (count t) u v (λ n image. P image × ((g : ℕ) → g ≢ f → g ≢ j → Left t g (image g))) (on_count t u first.on) second.on first.images
      (since_map (count u) v (λ n image. P image × ((g : ℕ) → g ≢ f → g ≢ j → Left u g (image g))) (λ n image. P image × ((g : ℕ) → g ≢ f → g ≢ j → Left t g (image g)))
      (λ n image le ge h. (h.0, λ g nf nj. first.others g (image g) nf nj (h.1 g nf nj))) second.images);
  others = λ g c nf nj left. first.others g c nf nj (second.others g c nf nj left);
  reads = λ g nf nj. second.reads g nf nj ∙ first.reads g nf nj;
}

module _ (t u : Option Story) (f j : ℕ) (P : Image → Type 0) (X : Type 0) (Q : List ℕ → Type 0) (told : IfSome t (λ _. X)) where
  pub works_first : (X → (image : Image) → Q (image f) → OthersOf t f image → P image) → Steps t u f Q → WorksOnBoth t u f j P
  works_first leads steps = record {
    on = steps.on;
    images = since_told t u X (count t) (λ n image. Q (image f) × OthersOf t f image) (λ n image. P image × ((g : ℕ) → g ≢ f → g ≢ j → Left t g (image g)))
        steps.on told (λ x n image le ge h. (leads x image h.0 h.1, λ g nf nj. h.1 g nf)) steps.images;
    others = λ g c nf nj left. steps.others g c nf left;
    reads = λ g nf nj. steps.reads g nf;
  }

  pub works_second : (X → (image : Image) → Q (image j) → OthersOf t j image → P image) → Steps t u j Q → WorksOnBoth t u f j P
  works_second leads steps = record {
    on = steps.on;
    images = since_told t u X (count t) (λ n image. Q (image j) × OthersOf t j image) (λ n image. P image × ((g : ℕ) → g ≢ f → g ≢ j → Left t g (image g)))
        steps.on told (λ x n image le ge h. (leads x image h.0 h.1, λ g nf nj. h.1 g nj)) steps.images;
    others = λ g c nf nj left. steps.others g c nj left;
    reads = λ g nf nj. steps.reads g nj;
  }

-- no call
pub works_none : (t : Option Story) (f j : ℕ) (P : Image → Type 0) (X : Type 0) → IfSome t (λ _. X) → (X → (image : Image) → ((g : ℕ) → Left t g (image g)) → P image) → WorksOnBoth t t f j P
works_none t f j P X told leads = record {
  on = on_refl t;
  images = since_start t (λ n image. P image × ((g : ℕ) → g ≢ f → g ≢ j → Left t g (image g)))
      (λ image left. (leads (by_left t f (image f) X told (left f)) image left, λ g nf nj. left g));
  others = λ g c nf nj left. left;
  reads = λ g nf nj. refl;
}

-- ---- one file, behind calls that only look and sync

-- what is known where the later story tells
pub if_back : (t u : Option Story) (X Y : Type 0) → GoesOn t u → IfSome u (λ _. X) → (X → Y) → IfSome t (λ _. Y)
if_back None u X Y on x f = tt
if_back (Some s) None X Y on x f = absurd on
if_back (Some s) (Some v) X Y on x f = f x

pub if_map : (t : Option Story) (X Y : Type 0) → IfSome t (λ _. X) → (X → Y) → IfSome t (λ _. Y)
if_map None X Y x f = tt
if_map (Some s) X Y x f = f x

pub only_quiet : (t u : Option Story) (f : ℕ) → Quietly t u → Only t f (seen t f) → Only u f (seen u f)
only_quiet t u f quiet only c left = only c (quiet.left f c left) ∙ sym (quiet.reads f)

pub only_other : (t u : Option Story) (f g : ℕ) (Q : List ℕ → Type 0) → Steps t u f Q → g ≢ f → Only t g (seen t g) → Only u g (seen u g)
only_other t u f g Q steps ne only c left = only c (steps.others g c ne left) ∙ sym (steps.reads g ne)

module _ (t u : Option Story) (f : ℕ) (quiet : Quietly t u) (only : Only t f (seen t f)) (X : Type 0) (R : List ℕ → Type 0) (told : IfSome t (λ _. X)) (now : X → R (seen t f)) where
  front : Always (count t) u (λ image. R (image f) × OthersOf t f image)
  front = since_told t u X (count t) (λ n image. (g : ℕ) → Left t g (image g)) (λ n image. R (image f) × OthersOf t f image) quiet.on told
      (λ x n image le ge left. (subst R (sym (only (image f) (left f))) (now x), λ g ne. left g)) quiet.images

  -- they are steps on any file
  pub quiet_is_steps : Steps t u f R
  quiet_is_steps = record {
    on = quiet.on;
    images = front;
    others = λ g c ne left. quiet.left g c left;
    reads = λ g ne. quiet.reads g;
  }

  pub quiet_steps : (v : Option Story) (Q : List ℕ → Type 0) → (X → (c : List ℕ) → Q c → R c) → Steps u v f Q → Steps t v f R
  quiet_steps v Q leads steps = record {
    on = on_trans t u v quiet.on steps.on;
    images = since_join (count t) u v (λ n image. R (image f) × OthersOf t f image) (on_count t u quiet.on) steps.on front
        (since_told t v X (count u) (λ n image. Q (image f) × OthersOf u f image) (λ n image. R (image f) × OthersOf t f image) (on_trans t u v quiet.on steps.on) told
        (λ x n image le ge h. (leads x (image f) h.0, λ g ne. quiet.left g (image g) (h.1 g ne))) steps.images);
    others = λ g c ne left. quiet.left g c (steps.others g c ne left);
    reads = λ g ne. steps.reads g ne ∙ quiet.reads g;
  }

-- ---- where a call ended well

pub ok_one : {A E X Y : Type 0} (r : Result A E) → OnOk r X → (X → Y) → OnOk r Y
ok_one (Ok a) x f = f x
ok_one (Err e) x f = tt

pub ok_two : {A E X Y Z : Type 0} (r : Result A E) → OnOk r X → OnOk r Y → (X → Y → Z) → OnOk r Z
ok_two (Ok a) x y f = f x y
ok_two (Err e) x y f = tt
