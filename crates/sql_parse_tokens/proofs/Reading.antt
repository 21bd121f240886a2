-- The equations of reading, as the code's steps need them.
use Rattle.std.proofs.Common.{◌≡◌, ℕ, zero, suc, pred, ◌+◌, ◌-◌, ◌<◌, ◌≤◌, ◌==◌, Bool, true, false, ◌||◌, if◌then◌else◌, List, [], ◌∷◌, length, Option, Some, None, Result, Ok, Err, refl, sym, ap, subst, ◌∙◌, arith}
use Rattle.sql_grammar.specs.Reader.{Reader, Read, Fault, Syntax, Deep, bind, steps, take_by, refuse_by, read_mapped}
use Rattle.sql_grammar.specs.Rule.{Rule, only_then, only_if, token, opened, pure, behind, then_one}
use Rattle.sql_grammar.specs.Sets.{member, next_in}
use Rattle.sql_lex.specs.declared.token.Symbol.TheVariants as signs
use Rattle.sql_parse_tokens.specs.declared.fault.Stop.{Stop}
use Rattle.sql_parse_tokens.specs.declared.fault.Stop.TheVariants as stops
use Rattle.sql_parse_tokens.specs.Gives.{Fails, Gives}
use Rattle.sql_syntax.specs.Tokens.{Tok, kind, sign, sign_code, but}
use Rattle.sql_syntax.specs.Parts.{list_of}

same_number : (k n : ℕ) → (k == n) ≡ true → k ≡ n
same_number k n e = grind arith

pub one_more : (n at : ℕ) → at < n → n - at ≡ suc (n - (at + 1))
one_more n at h = omega arith

no_more : (n at : ℕ) → n ≤ at → n - at ≡ 0
no_more n at h = omega arith

module _ {T A B : Type 0} (f : A → B → A) (test : List T → Bool) (s : A → Reader T B) where
  -- no turn is left
  pub steps_end : (n at : ℕ) (a : A) (ts : List T) → n ≤ at → steps f test s (n - at) a ts ≡ Ok (a, ts)
  unfolding steps
  steps_end n at a ts h = rw (no_more n at h) refl

  -- nothing more comes
  pub steps_stop : (n : ℕ) (a : A) (ts : List T) → test ts ≡ false → steps f test s n a ts ≡ Ok (a, ts)
  unfolding steps
  steps_stop zero a ts e = refl
  steps_stop (suc n) a ts e = rw e refl

  -- one turn
  pub steps_turn : (n at : ℕ) (a : A) (ts : List T) → at < n → test ts ≡ true
      → steps f test s (n - at) a ts ≡ bind (s a ts) (λ y. steps f test s (n - (at + 1)) (f a y.0) y.1)
  unfolding steps
  steps_turn n at a ts h e = rw (one_more n at h, e) refl

-- what fails before it goes on fails however it goes on
pub fails_on : {A B C : Type 0} (stop : Stop) (read : Read Tok A) (g : A × List Tok → B × List Tok) (k : A × List Tok → Read Tok C)
    → Fails stop (bind read (λ y. Ok (g y))) → Fails stop (bind read k)
fails_on (stops.Syntax rest) (Ok x) g k e = cc
fails_on (stops.Syntax rest) (Err f) g k e = let h : f ≡ Syntax rest = cc in ap Err h
fails_on (stops.Deep rest) (Ok x) g k e = cc
fails_on (stops.Deep rest) (Err f) g k e = let h : f ≡ Deep rest = cc in ap Err h
fails_on stops.NoMemory read g k e = tt

-- the same fault behind what was read before it
pub fails_behind : {A B : Type 0} (stop : Stop) (read : Read Tok A) (f : A × List Tok → Read Tok B) → Fails stop read → Fails stop (bind read f)
fails_behind (stops.Syntax rest) read f h = rw h refl
fails_behind (stops.Deep rest) read f h = rw h refl
fails_behind stops.NoMemory read f h = tt

-- what fails is made into nothing else
pub fails_made : {A B : Type 0} (stop : Stop) (read : Read Tok A) (g : A × List Tok → B × List Tok) → Fails stop read → Fails stop (bind read (λ y. Ok (g y)))
fails_made stop read g e = fails_behind stop read (λ y. Ok (g y)) e

on_by : {A B C : Type 0} (read : Read Tok A) (g : A × List Tok → B × List Tok) (k : B × List Tok → Read Tok C) (x : B × List Tok)
    → bind read (λ y. Ok (g y)) ≡ Ok x → bind read (λ y. k (g y)) ≡ k x
on_by {B = B} (Ok y) g k x e = let h : g y ≡ x = cc in ap k h
on_by (Err f) g k x e = cc

fails_as : {A : Type 0} (stop : Stop) (r s : Read Tok A) → r ≡ s → Fails stop r → Fails stop s
fails_as {A} stop r s e h = subst (λ (x : Read Tok A). Fails stop x) e h

module _ {A B : Type 0} (f : A → B → A) (test : List Tok → Bool) (s : A → Reader Tok B) where
  -- a step with the value that it makes
  pub step_goes : (n at : ℕ) (a x : A) (ts us : List Tok) (whole : Read Tok A) → at < n → true ≡ test ts → bind (s a ts) (λ y. Ok (f a y.0, y.1)) ≡ Ok (x, us)
      → steps f test s (n - at) a ts ≡ whole → steps f test s (n - (at + 1)) x us ≡ whole
  step_goes n at a x ts us whole h e read all =
      sym (on_by (s a ts) (λ y. (f a y.0, y.1)) (λ z. steps f test s (n - (at + 1)) z.0 z.1) (x, us) read) ∙ (sym (steps_turn f test s n at a ts h (sym e)) ∙ all)

  -- a step that fails
  pub step_fails : (n at : ℕ) (a : A) (ts : List Tok) (whole : Read Tok A) (stop : Stop) → at < n → true ≡ test ts → Fails stop (bind (s a ts) (λ y. Ok (f a y.0, y.1)))
      → steps f test s (n - at) a ts ≡ whole → Fails stop whole
  step_fails n at a ts whole stop h e fail all =
      fails_as stop _ whole (sym (steps_turn f test s n at a ts h (sym e)) ∙ all) (fails_on stop (s a ts) (λ y. (f a y.0, y.1)) (λ y. steps f test s (n - (at + 1)) (f a y.0) y.1) fail)

-- what is read behind a value
pub behind_gives : {X A B : Type 0} (view : X → B) (result : Result (X × List Tok) Stop) (first : Read Tok A) (next : A × List Tok → Read Tok B) (x : A × List Tok)
    → first ≡ Ok x → Gives view result (next x) → Gives view result (bind first next)
behind_gives {X} {A} {B} view result first next x e h = subst (λ (r : Read Tok A). Gives view result (bind r next)) (sym e) h

module _ {T : Type 0} (kind : T → ℕ) where
  -- a token with another value
  of_kinds_said : {A : Type 0} (b : Bool) (g : T → A) (t : T) (ts : List T)
      → take_by (t ∷ ts) ts (only_then b (Some (g t))) ≡ bind (take_by (t ∷ ts) ts (only_then b (Some t))) (λ x. Ok (g x.0, x.1))
  of_kinds_said true g t ts = refl
  of_kinds_said false g t ts = refl

  pub token_said : {A : Type 0} (set : List ℕ) (g : T → A) (ts : List T)
      → (token kind set (λ t. Some (g t))).read ts ≡ read_mapped g (token kind set (λ t. Some t)).read ts
  token_said set g [] = refl
  token_said set g (t ∷ ts) = of_kinds_said (member (kind t) set) g t ts

  -- a token of a kind that the set has not
  taken_not : {A : Type 0} (b : Bool) (o : Option A) (t : T) (ts : List T) → b ≡ false → take_by (t ∷ ts) ts (only_then b o) ≡ Err (Syntax (t ∷ ts))
  taken_not b o t ts e = rw e refl

  pub token_not : {A : Type 0} (set : List ℕ) (value : T → Option A) (ts : List T) → next_in kind set ts ≡ false → (token kind set value).read ts ≡ Err (Syntax ts)
  token_not set value [] e = refl
  token_not set value (t ∷ ts) e = taken_not (member (kind t) set) (value t) t ts e

  -- the first of the kinds that are left
  but_by : (k n : ℕ) (b : Bool) (ns set : List ℕ) → member n set ≡ b → member k set ≡ false → member k (but ns set) ≡ member k ns
      → member k (if b then but ns set else n ∷ but ns set) ≡ member k (n ∷ ns)
  but_by k n true ns set e out same = rw same (but_first (k == n) k n set (member k ns) refl e out)
    where
      but_first : (c : Bool) (k n : ℕ) (set : List ℕ) (more : Bool) → (k == n) ≡ c → member n set ≡ true → member k set ≡ false → more ≡ (c || more)
      but_first false k n set more e m out = refl
      but_first true k n set more e m out = let f : member k set ≡ true = rw (same_number k n e) m in cc
  but_by k n false ns set e out same = ap (λ b. k == n || b) same

  -- without a set of kinds, the others are as before
  but_same : (k : ℕ) (ns set : List ℕ) → member k set ≡ false → member k (but ns set) ≡ member k ns
  but_same k [] set out = refl
  but_same k (n ∷ ns) set out = but_by k n (member n set) ns set refl out (but_same k ns set out)

  but_none_by : (k n : ℕ) (b : Bool) (ns set : List ℕ) → member n set ≡ b → member k set ≡ true → member k (but ns set) ≡ false
      → member k (if b then but ns set else n ∷ but ns set) ≡ false
  but_none_by k n true ns set e has none = none
  but_none_by k n false ns set e has none = other (k == n) refl
    where
      other : (c : Bool) → (k == n) ≡ c → (c || member k (but ns set)) ≡ false
      other false f = none
      other true f = let g : member k set ≡ false = rw (same_number k n f) e in cc

  -- and those of the set are none of them
  but_none : (k : ℕ) (ns set : List ℕ) → member k set ≡ true → member k (but ns set) ≡ false
  but_none k [] set has = refl
  but_none k (n ∷ ns) set has = but_none_by k n (member n set) ns set refl has (but_none k ns set has)

  -- a token of a kind in a set is not one without the set
  pub but_skips : {A : Type 0} (ns set : List ℕ) (value : T → Option A) (ts : List T) → true ≡ next_in kind set ts → (token kind (but ns set) value).read ts ≡ Err (Syntax ts)
  but_skips ns set value [] e = refl
  but_skips ns set value (t ∷ ts) e = taken_not (member (kind t) (but ns set)) (value t) t ts (but_none (kind t) ns set (sym e))

  -- and any other is read as before
  pub but_keeps : {A : Type 0} (ns set : List ℕ) (value : T → Option A) (ts : List T) → false ≡ next_in kind set ts
      → (token kind (but ns set) value).read ts ≡ (token kind ns value).read ts
  but_keeps ns set value [] e = refl
  but_keeps ns set value (t ∷ ts) e = ap (λ b. take_by (t ∷ ts) ts (only_then b (value t))) (but_same (kind t) ns set (sym e))

-- a rule that is allowed where something holds
pub only_if_is : {T A : Type 0} (b : Bool) (r : Rule T A) (ts : List T) → (only_if b r).read ts ≡ (if b then r.read ts else Err (Syntax ts))
only_if_is true r ts = refl
only_if_is false r ts = refl

-- a value again
pub again : {B : Type 0} (r : Read Tok B) → bind r (λ y. Ok (y.0, y.1)) ≡ r
again (Ok y) = refl
again (Err f) = refl

-- a construct is the token that opens it, and the rest
pub opened_is : {A B : Type 0} (n : ℕ) (f : Tok → Option A) (r : Rule Tok B) (ts : List Tok)
    → (opened n f (λ u b. b) r).read ts ≡ bind ((opened n f (λ u m. m) (pure (pred n))).read ts) (λ x. r.read x.1)
opened_is zero f r [] = refl
opened_is {A} {B} zero f r (t ∷ ts) = refused (f t)
  where
    refused : (o : Option A) → refuse_by {B = B} (t ∷ ts) o ≡ bind (refuse_by {B = ℕ} (t ∷ ts) o) (λ x. r.read x.1)
    refused None = refl
    refused (Some a) = refl
opened_is (suc n) f r [] = refl
opened_is {A} {B} (suc n) f r (t ∷ ts) = taken (f t)
  where
    taken : (o : Option A)
        → bind (take_by (t ∷ ts) ts o) (λ x. bind (r.read x.1) (λ y. Ok (y.0, y.1)))
        ≡ bind (bind (take_by (t ∷ ts) ts o) (λ x. Ok (pred (suc n), x.1))) (λ x. r.read x.1)
    taken None = refl
    taken (Some a) = again (r.read ts)

-- how many may be opened inside
pub one_less : (m n : ℕ) → m + 1 ≡ n → m ≡ pred n
one_less m zero h = absurd (omega arith)
one_less m (suc n) h = omega arith

-- what is read in a construct, behind the token that opens it
pub opened_gives : {X A B : Type 0} (view : X → B) (result : Result (X × List Tok) Stop) (n m : ℕ) (f : Tok → Option A) (r : ℕ → Rule Tok B) (ts us : List Tok)
    → (opened n f (λ u m. m) (pure (pred n))).read ts ≡ Ok (m, us) → m + 1 ≡ n → Gives view result ((r m).read us)
    → Gives view result ((opened n f (λ u b. b) (r (pred n))).read ts)
opened_gives {X} {A} {B} view result n m f r ts us e less h =
    rw (opened_is n f (r (pred n)) ts) (behind_gives view result _ (λ x. (r (pred n)).read x.1) (m, us) e (subst (λ k. Gives view result ((r k).read us)) (one_less m n less) h))

-- items with commas between, behind those so far, in so many turns
abbrev pub more_of : {A : Type 0} → Rule Tok A → ℕ → List A → Reader Tok (List A)
more_of r n as' ts = steps then_one (next_in kind (sign_code signs.Comma ∷ [])) (λ xs. (behind (sign signs.Comma) r).read) n as' ts

module _ {A : Type 0} (r : Rule Tok A) where
  -- the list behind its first item
  pub list_goes : (ts us : List Tok) (a : A) → r.read ts ≡ Ok (a, us) → more_of r (length us) (a ∷ []) us ≡ (list_of r).read ts
  list_goes ts us a e = rw e refl

  pub list_first_fails : (ts : List Tok) (e : Fault Tok) → r.read ts ≡ Err e → (list_of r).read ts ≡ Err e
  list_first_fails ts e h = rw h refl

  -- no comma comes
  pub list_stops : (n at : ℕ) (as' : List A) (ts : List Tok) → false ≡ next_in kind (sign_code signs.Comma ∷ []) ts → more_of r (n - at) as' ts ≡ Ok (as', ts)
  list_stops n at as' ts e = steps_stop then_one (next_in kind (sign_code signs.Comma ∷ [])) (λ xs. (behind (sign signs.Comma) r).read) (n - at) as' ts (sym e)

  -- a comma comes, and an item
  pub list_turn : (n at : ℕ) (as' : List A) (ts : List Tok) → at < n → true ≡ next_in kind (sign_code signs.Comma ∷ []) ts
      → more_of r (n - at) as' ts ≡ bind ((behind (sign signs.Comma) r).read ts) (λ y. more_of r (n - (at + 1)) (then_one as' y.0) y.1)
  list_turn n at as' ts h e = steps_turn then_one (next_in kind (sign_code signs.Comma ∷ [])) (λ xs. (behind (sign signs.Comma) r).read) n at as' ts h (sym e)

  -- no turn is left
  pub list_ends : (n at : ℕ) (as' : List A) (ts : List Tok) → n ≤ at → more_of r (n - at) as' ts ≡ Ok (as', ts)
  list_ends n at as' ts h = steps_end then_one (next_in kind (sign_code signs.Comma ∷ [])) (λ xs. (behind (sign signs.Comma) r).read) n at as' ts h

  -- the item that was read behind a comma
  pub list_goes_on : (n at : ℕ) (as' : List A) (ts : List Tok) {a : A} {us : List Tok} {whole : Read Tok (List A)} → at < n → true ≡ next_in kind (sign_code signs.Comma ∷ []) ts
      → (behind (sign signs.Comma) r).read ts ≡ Ok (a, us) → more_of r (n - at) as' ts ≡ whole → more_of r (n - (at + 1)) (then_one as' a) us ≡ whole
  list_goes_on n at as' ts {a} {us} {whole} h e read all = sym (ap (λ x. bind x (λ y. more_of r (n - (at + 1)) (then_one as' y.0) y.1)) read) ∙ (sym (list_turn n at as' ts h e) ∙ all)
