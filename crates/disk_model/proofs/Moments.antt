-- How a claim on all moments goes on.
use Rattle.std.proofs.Common.{◌≡◌, ℕ, ◌+◌, ◌-◌, ◌<◌, ◌≤◌, suc, Bool, true, false, List, [], ◌∷◌, ◌++◌, length, drop, Option, Some, None, Result, Ok, Err, refl, sym, ◌∙◌, ap, subst, arith, append_assoc, ◌⊎◌, inl, inr}
use Rattle.std.proofs.lemmas.List.{length-append}
use Rattle.std.proofs.lemmas.Bool.{cases_lt}
use Rattle.disk_model.specs.declared.call.Call.{Call}
use Rattle.disk_model.specs.declared.refusals.DiskRefusal.{DiskRefusal}
use Rattle.disk_model.specs.declared.refusals.DiskRefusal.TheVariants.{Failed, NoMemory}
use Rattle.disk_model.specs.Story.{Image, Story, then_call, count}
use Rattle.disk_model.specs.Left.{LeftAfter, Left}
use Rattle.disk_model.specs.Moments.{begun, calls_until, inside, AfterCall, During, Each, Since, Always, GoesOn}
use Rattle.disk_model.specs.Answers.{Tells}
use Rattle.disk_model.proofs.Laws.{within_call}

until_more : (call : Call) (calls : List Call) (n : ℕ) → n ≤ length calls → calls_until n (call ∷ calls) ≡ calls_until n calls
until_more call calls n le = let e : suc (length calls) - n ≡ suc (length calls - n) = omega arith in ap (λ k. drop k (call ∷ calls)) e

until_all : (calls : List Call) (n : ℕ) → length calls ≤ n → calls_until n calls ≡ calls
until_all calls n le = let e : length calls - n ≡ 0 = omega arith in ap (λ k. drop k calls) e

until_on : (more calls : List Call) (n : ℕ) → n ≤ length calls → calls_until n (more ++ calls) ≡ calls_until n calls
until_on [] calls n le = refl
until_on (call ∷ more) calls n le = until_more call (more ++ calls) n (omega (arith, length-append more calls)) ∙ until_on more calls n le

split : (n m : ℕ) → (n ≤ m) ⊎ (m < n)
split n m = turned (cases_lt m n)
  where
    turned : (m < n) ⊎ (n ≤ m) → (n ≤ m) ⊎ (m < n)
    turned (inl h) = inr h
    turned (inr h) = inl h

-- ---- first steps

pub since_none : (start : ℕ) (P : ℕ → Image → Type 0) → Since start None P
since_none start P = record { after = λ n le lt image h. absurd h; during = λ n le lt image h. absurd h }

-- a crash now is one after the last call
pub each_now : (start : ℕ) (t : Option Story) (P : ℕ → Image → Type 0) → start ≤ count t → Since start t P → Each t (P (count t))
each_now start None P le since image left = absurd (left 0)
each_now start (Some s) P le since image left =
    since.after (length s.calls) le (omega arith) image (λ f. subst (λ cs. LeftAfter s.first cs f (image f)) (sym (until_all s.calls (length s.calls) (omega arith))) (left f))

pub since_start : (t : Option Story) (P : ℕ → Image → Type 0) → Each t (P (count t)) → Since (count t) t P
since_start None P each = since_none 0 P
since_start (Some s) P each = record {
  after = λ n le ge image left.
      let e : n ≡ length s.calls = omega arith in
      subst (λ m. P m image) (sym e) (each image (λ f. subst (λ cs. LeftAfter s.first cs f (image f)) (until_all s.calls n (omega arith)) (left f)));
  during = λ n le lt image left. absurd (omega arith);
}

pub since_map : (start : ℕ) (t : Option Story) (P Q : ℕ → Image → Type 0) → ((n : ℕ) (image : Image) → start ≤ n → n ≤ count t → P n image → Q n image) → Since start t P → Since start t Q
since_map start t P Q f since = record {
  after = λ n le ge image left. f n image le ge (since.after n le ge image left);
  during = λ n le lt image left. f n image le (omega arith) (since.during n le lt image left);
}

-- ---- one call more

module _ (s : Story) (call : Call) (start : ℕ) (P : ℕ → Image → Type 0) (begins : start ≤ length s.calls) (since : Since start (Some s) P)
    (within : (image : Image) → ((f : ℕ) → LeftAfter s.first (begun call ∷ s.calls) f (image f)) → P (length s.calls) image)
    (behind : (image : Image) → ((f : ℕ) → LeftAfter s.first (call ∷ s.calls) f (image f)) → P (length s.calls + 1) image) where
  after_more : (n : ℕ) → start ≤ n → n ≤ suc (length s.calls) → (image : Image) → AfterCall (then_call call (Some s)) n image → (n ≤ length s.calls) ⊎ (length s.calls < n) → P n image
  after_more n le ge image left (inl old) = since.after n le old image (λ f. subst (λ cs. LeftAfter s.first cs f (image f)) (until_more call s.calls n old) (left f))
  after_more n le ge image left (inr new) =
      let e : n ≡ length s.calls + 1 = omega arith in
      subst (λ m. P m image) (sym e) (behind image (λ f. subst (λ cs. LeftAfter s.first cs f (image f)) (until_all (call ∷ s.calls) n (omega arith)) (left f)))

  during_more : (n : ℕ) → start ≤ n → n < suc (length s.calls) → (image : Image) → During (then_call call (Some s)) (n + 1) image → (n + 1 ≤ length s.calls) ⊎ (length s.calls < n + 1) → P n image
  during_more n le ge image left (inl old) = since.during n le (omega arith) image (λ f. subst (λ cs. LeftAfter s.first (inside cs) f (image f)) (until_more call s.calls (n + 1) old) (left f))
  during_more n le ge image left (inr new) =
      let e : n ≡ length s.calls = omega arith in
      subst (λ m. P m image) (sym e) (within image (λ f. subst (λ cs. LeftAfter s.first (inside cs) f (image f)) (until_all (call ∷ s.calls) (n + 1) (omega arith)) (left f)))

  since_more : Since start (then_call call (Some s)) P
  since_more = record {
    after = λ n le ge image left. after_more n le ge image left (split n (length s.calls));
    during = λ n le lt image left. during_more n le lt image left (split (n + 1) (length s.calls));
  }

-- ---- the same claim at each moment

module _ (start : ℕ) (P : Image → Type 0) where
  called : (s : Story) (call : Call) → start ≤ length s.calls → Always start (Some s) P → Each (then_call call (Some s)) P → Always start (then_call call (Some s)) P
  called s call le since each = since_more s call start (λ n image. P image) le since within each
    where
      by_part : (image : Image) → ((f : ℕ) → LeftAfter s.first (call ∷ s.calls) f (image f)) ⊎ ((f : ℕ) → LeftAfter s.first s.calls f (image f)) → P image
      by_part image (inl after) = each image after
      by_part image (inr before) = each_now start (Some s) (λ n image. P image) le since image before

      within : (image : Image) → ((f : ℕ) → LeftAfter s.first (begun call ∷ s.calls) f (image f)) → P image
      within image left = by_part image (within_call s.first s.calls image call left)

  -- a call more: what is left after it is all that is to be shown
  pub always_call : {A : Type 0} (t t' : Option Story) (r : Result A DiskRefusal) (call : Bool → Call) → Tells r call t t' → start ≤ count t → Always start t P → Each t' P → Always start t' P
  always_call None t' (Ok x) call tells le since each = subst (λ u. Always start u P) (sym tells) since
  always_call None t' (Err Failed) call tells le since each = subst (λ u. Always start u P) (sym tells) since
  always_call t t' (Err NoMemory) call tells le since each = subst (λ u. Always start u P) (sym tells) since
  always_call (Some s) t' (Ok x) call tells le since each = subst (λ u. Always start u P) (sym tells) (called s (call true) le since (subst (λ u. Each u P) tells each))
  always_call (Some s) t' (Err Failed) call tells le since each = subst (λ u. Always start u P) (sym tells) (called s (call false) le since (subst (λ u. Each u P) tells each))

  -- a call that leaves no more than was left before
  pub always_less : {A : Type 0} (t t' : Option Story) (r : Result A DiskRefusal) (call : Bool → Call) → Tells r call t t' → ((f : ℕ) (c : List ℕ) → Left t' f c → Left t f c) → start ≤ count t → Always start t P → Always start t' P
  always_less t t' r call tells less le since = always_call t t' r call tells le since (λ image left. each_now start t (λ n image. P image) le since image (λ f. less f (image f) (left f)))

-- ---- one run after another

pub on_refl : (t : Option Story) → GoesOn t t
on_refl None = tt
on_refl (Some s) = (refl, ([], refl))

pub on_call : {A : Type 0} (t t' : Option Story) (r : Result A DiskRefusal) (call : Bool → Call) → Tells r call t t' → GoesOn t t'
on_call None t' (Ok x) call tells = subst (λ u. GoesOn None u) (sym tells) tt
on_call None t' (Err Failed) call tells = subst (λ u. GoesOn None u) (sym tells) tt
on_call t t' (Err NoMemory) call tells = subst (λ u. GoesOn t u) (sym tells) (on_refl t)
on_call (Some s) t' (Ok x) call tells = subst (λ u. GoesOn (Some s) u) (sym tells) (refl, (call true ∷ [], refl))
on_call (Some s) t' (Err Failed) call tells = subst (λ u. GoesOn (Some s) u) (sym tells) (refl, (call false ∷ [], refl))

pub on_trans : (t u v : Option Story) → GoesOn t u → GoesOn u v → GoesOn t v
on_trans None None None p q = tt
on_trans None None (Some v) p q = absurd q
on_trans None (Some u) v p q = absurd p
on_trans (Some t) None v p q = absurd p
on_trans (Some t) (Some u) None p q = absurd q
on_trans (Some t) (Some u) (Some v) p q = (q.0 ∙ p.0, (q.1.0 ++ p.1.0, q.1.1 ∙ ap (λ cs. q.1.0 ++ cs) p.1.1 ∙ sym (append_assoc q.1.0 p.1.0 t.calls)))

pub on_count : (t u : Option Story) → GoesOn t u → count t ≤ count u
on_count None u p = omega arith
on_count (Some t) None p = absurd p
on_count (Some t) (Some u) p = omega (arith, ap length p.1.1, length-append p.1.0 t.calls)

-- THE JOIN: a claim before t's last moment, and one from there on up to u; the moment between both runs is the later one's
pub since_joined : (start : ℕ) (t u : Option Story) (P Q R : ℕ → Image → Type 0) → start ≤ count t → GoesOn t u → ((n : ℕ) (image : Image) → n < count t → P n image → R n image)
    → ((n : ℕ) (image : Image) → count t ≤ n → Q n image → R n image) → Since start t P → Since (count t) u Q → Since start u R
since_joined start None None P Q R le on f g front back = since_none start R
since_joined start None (Some u) P Q R le on f g front back = absurd on
since_joined start (Some t) None P Q R le on f g front back = since_none start R
since_joined start (Some t) (Some u) P Q R le on f g front back = record {
  after = λ n ge lt image left. after n ge lt image left (cases_lt n (length t.calls));
  during = λ n ge lt image left. during n ge lt image left (cases_lt n (length t.calls));
}
  where
    until : (n : ℕ) → n ≤ length t.calls → calls_until n u.calls ≡ calls_until n t.calls
    until n within = ap (λ cs. calls_until n cs) on.1.1 ∙ until_on on.1.0 t.calls n within

    after : (n : ℕ) → start ≤ n → n ≤ length u.calls → (image : Image) → AfterCall (Some u) n image → (n < length t.calls) ⊎ (length t.calls ≤ n) → R n image
    after n ge lt image left (inl old) = f n image old (front.after n ge (omega arith) image
        (λ f. subst (λ cs. LeftAfter t.first cs f (image f)) (until n (omega arith)) (subst (λ first. LeftAfter first (calls_until n u.calls) f (image f)) on.0 (left f))))
    after n ge lt image left (inr new) = g n image new (back.after n new lt image left)

    during : (n : ℕ) → start ≤ n → n < length u.calls → (image : Image) → During (Some u) (n + 1) image → (n < length t.calls) ⊎ (length t.calls ≤ n) → R n image
    during n ge lt image left (inl old) = f n image old (front.during n ge old image
        (λ f. subst (λ cs. LeftAfter t.first (inside cs) f (image f)) (until (n + 1) (omega arith)) (subst (λ first. LeftAfter first (inside (calls_until (n + 1) u.calls)) f (image f)) on.0 (left f))))
    during n ge lt image left (inr new) = g n image new (back.during n new lt image left)

pub since_join : (start : ℕ) (t u : Option Story) (P : ℕ → Image → Type 0) → start ≤ count t → GoesOn t u → Since start t P → Since (count t) u P → Since start u P
since_join start t u P le on front back = since_joined start t u P P P le on (λ n image lt p. p) (λ n image ge p. p) front back

-- all moments have P, and the last one, with nothing begun, has Q
pub since_last : (start : ℕ) (t : Option Story) (P Q : Image → Type 0) → Always start t P → Each t Q → Since start t (λ n image. P image × (count t ≤ n → Q image))
since_last start None P Q always each = since_none start (λ n image. P image × (count None ≤ n → Q image))
since_last start (Some s) P Q always each = record {
  after = λ n le ge image left. (always.after n le ge image left, λ last. each image (λ f. subst (λ cs. LeftAfter s.first cs f (image f)) (until_all s.calls n last) (left f)));
  during = λ n le lt image left. (always.during n le lt image left, λ last. absurd (omega arith));
}
