-- Lists of kept parts, item by item, and parts behind a value or in a construct.
use Rattle.std.proofs.Common.{◌≡◌, ◌+◌, ◌-◌, ◌<◌, ◌≤◌, ℕ, pred, Bool, true, false, List, [], ◌∷◌, ◌++◌, length, map, Option, Some, Result, Ok, refl, sym, subst, arith}
use Rattle.sql_lex.specs.declared.token.Symbol.TheVariants as signs
use Rattle.sql_grammar.specs.Reader.{Read, Reader, bind, steps}
use Rattle.sql_grammar.specs.Rule.{Rule, mapped, alone, then_one, behind, opened, pure}
use Rattle.sql_grammar.specs.Sets.{next_in}
use Rattle.sql_parse_tokens.specs.declared.fault.Stop.{Stop}
use Rattle.sql_tree.specs.Depth.{deepest}
use Rattle.sql_parse_nodes.specs.declared.kept.Levelled.{Levelled}
use Rattle.sql_parse_tokens.specs.Gives.{Fails}
use Rattle.sql_parse_nodes.specs.Kept.{IsKept, Keeps, beside, in_place}
use Rattle.sql_syntax.specs.Parts.{list_of}
use Rattle.sql_syntax.specs.Tokens.{Tok, kind, sign, sign_code}
use Rattle.sql_parse_nodes.proofs.KeptLaws.{kept_alone, kept_push}
use Rattle.sql_parse_tokens.proofs.Reading.{opened_is, one_less}
use Rattle.sql_parse_nodes.proofs.Turns.{Turns, turns_begin, turns_on, turns_stop, turns_end, turns_fail}

abbrev pub comma_next : List Tok → Bool
comma_next = next_in kind (sign_code signs.Comma ∷ [])

module _ {X A : Type 0} (v : X → A) (d : A → ℕ) (r : Rule Tok A) where
  -- what is still to come behind a list that is kept
  abbrev pub Listed : Read Tok (List A) → ℕ → List Tok → Option (Levelled (List X)) → Type 0
  Listed all n rest k = Turns (map v) (deepest d) then_one comma_next (behind (sign signs.Comma) r).read all n rest k

  -- the first item
  pub listed_begin : (ts rest : List Tok) (item : Option (Levelled X)) (k : Option (Levelled (List X))) (n : ℕ) → Keeps v d (Ok (item, rest)) (r.read ts) → k ≡ in_place (λ x. x ∷ []) item
      → n ≡ length rest → Listed ((list_of r).read ts) (n - 0) rest k
  listed_begin ts rest item k n h e l =
      turns_begin (map v) (deepest d) then_one comma_next (behind (sign signs.Comma) r).read (mapped alone r).read ts rest k n
      (alone h.0, rw h.1 refl, kept_alone v d h.0 item k h.2 e) l

  -- an item more
  pub listed_on : (all : Read Tok (List A)) (rest us : List Tok) (n at : ℕ) (item : Option (Levelled X)) (k k' : Option (Levelled (List X))) → Listed all (n - at) rest k → at < n
      → true ≡ comma_next rest → Keeps v d (Ok (item, us)) ((behind (sign signs.Comma) r).read rest) → k' ≡ in_place (λ p. p.0 ++ p.1 ∷ []) (beside k item) → Listed all (n - (at + 1)) us k'
  listed_on all rest us n at item k k' inv less next h e =
      turns_on (map v) (deepest d) then_one comma_next (behind (sign signs.Comma) r).read all rest k n at h.0 us k' inv less (sym next) h.1
      (λ as' g. kept_push v d as' h.0 k item k' g h.2 e)

  -- no comma comes
  pub listed_stop : (all : Read Tok (List A)) (rest : List Tok) (n : ℕ) (k : Option (Levelled (List X))) → Listed all n rest k → false ≡ comma_next rest → Keeps (map v) (deepest d) (Ok (k, rest)) all
  listed_stop all rest n k inv next = turns_stop (map v) (deepest d) then_one comma_next (behind (sign signs.Comma) r).read all rest k n inv (sym next)

  -- no turn is left
  pub listed_end : (all : Read Tok (List A)) (rest : List Tok) (n at : ℕ) (k : Option (Levelled (List X))) → Listed all (n - at) rest k → n ≤ at → Keeps (map v) (deepest d) (Ok (k, rest)) all
  listed_end all rest n at k inv h = turns_end (map v) (deepest d) then_one comma_next (behind (sign signs.Comma) r).read all rest k n at inv h

  -- an item that fails
  pub listed_fail : (all : Read Tok (List A)) (rest : List Tok) (n at : ℕ) (k : Option (Levelled (List X))) (stop : Stop) → Listed all (n - at) rest k → at < n → true ≡ comma_next rest
      → Fails stop ((behind (sign signs.Comma) r).read rest) → Fails stop all
  listed_fail all rest n at k stop inv less next f = turns_fail (map v) (deepest d) then_one comma_next (behind (sign signs.Comma) r).read all rest k n at stop inv less (sym next) f

-- what is read behind a value
pub keeps_behind : {X A B : Type 0} (v : X → B) (d : B → ℕ) (result : Result (Option (Levelled X) × List Tok) Stop) (first : Read Tok A) (next : A × List Tok → Read Tok B) (x : A × List Tok)
    → first ≡ Ok x → Keeps v d result (next x) → Keeps v d result (bind first next)
keeps_behind {A = A} v d result first next x e h = subst (λ (r : Read Tok A). Keeps v d result (bind r next)) (sym e) h

-- what is read in a construct, behind the token that opens it
pub opened_keeps : {X A B : Type 0} (v : X → B) (d : B → ℕ) (result : Result (Option (Levelled X) × List Tok) Stop) (n m : ℕ) (f : Tok → Option A) (r : ℕ → Rule Tok B) (ts us : List Tok)
    → (opened n f (λ u m. m) (pure (pred n))).read ts ≡ Ok (m, us) → m + 1 ≡ n → Keeps v d result ((r m).read us) → Keeps v d result ((opened n f (λ u b. b) (r (pred n))).read ts)
opened_keeps v d result n m f r ts us e less h =
    rw (opened_is n f (r (pred n)) ts) (keeps_behind v d result _ (λ x. (r (pred n)).read x.1) (m, us) e (subst (λ k. Keeps v d result ((r k).read us)) (one_less m n less) h))

module _ {X A : Type 0} (v : X → A) (d : A → ℕ) (test : List Tok → Bool) (s : Reader Tok A) where
  -- what is still to come behind a list that is kept, step by step
  abbrev pub Chained : Read Tok (List A) → ℕ → List Tok → Option (Levelled (List X)) → Type 0
  Chained all n rest k = Turns (map v) (deepest d) then_one test s all n rest k

  -- no step yet
  pub chained_none : (ts : List Tok) (k : Option (Levelled (List X))) (n : ℕ) → k ≡ Some (record { part = []; levels = 0 }) → n ≡ length ts
      → Chained (steps then_one test (λ as'. s) (length ts) [] ts) (n - 0) ts k
  chained_none ts k n e l = let m : n - 0 ≡ length ts = omega arith in ([], rw m refl, rw e refl)

  -- no step yet, behind a list
  pub chained_from : (as' : List A) (ts : List Tok) (k : Option (Levelled (List X))) (n : ℕ) → n ≡ length ts → IsKept (map v) (deepest d) as' k
      → Chained (steps then_one test (λ as'. s) (length ts) as' ts) (n - 0) ts k
  chained_from as' ts k n l h = let m : n - 0 ≡ length ts = omega arith in (as', rw m refl, h)

  -- the first item
  pub chained_first : (p : Rule Tok A) (ts rest : List Tok) (item : Option (Levelled X)) (k : Option (Levelled (List X))) (n : ℕ) → Keeps v d (Ok (item, rest)) (p.read ts)
      → k ≡ in_place (λ x. x ∷ []) item → n ≡ length rest → Chained (bind ((mapped alone p).read ts) (λ x. steps then_one test (λ as'. s) (length x.1) x.0 x.1)) (n - 0) rest k
  chained_first p ts rest item k n h e l =
      turns_begin (map v) (deepest d) then_one test s (mapped alone p).read ts rest k n (alone h.0, rw h.1 refl, kept_alone v d h.0 item k h.2 e) l

  -- a step more
  pub chained_on : (all : Read Tok (List A)) (rest us : List Tok) (n at : ℕ) (item : Option (Levelled X)) (k k' : Option (Levelled (List X))) → Chained all (n - at) rest k → at < n
      → true ≡ test rest → Keeps v d (Ok (item, us)) (s rest) → k' ≡ in_place (λ p. p.0 ++ p.1 ∷ []) (beside k item) → Chained all (n - (at + 1)) us k'
  chained_on all rest us n at item k k' inv less next h e =
      turns_on (map v) (deepest d) then_one test s all rest k n at h.0 us k' inv less (sym next) h.1 (λ as' g. kept_push v d as' h.0 k item k' g h.2 e)

  -- no step comes
  pub chained_stop : (all : Read Tok (List A)) (rest : List Tok) (n : ℕ) (k : Option (Levelled (List X))) → Chained all n rest k → false ≡ test rest → Keeps (map v) (deepest d) (Ok (k, rest)) all
  chained_stop all rest n k inv next = turns_stop (map v) (deepest d) then_one test s all rest k n inv (sym next)

  -- no turn is left
  pub chained_end : (all : Read Tok (List A)) (rest : List Tok) (n at : ℕ) (k : Option (Levelled (List X))) → Chained all (n - at) rest k → n ≤ at → Keeps (map v) (deepest d) (Ok (k, rest)) all
  chained_end all rest n at k inv h = turns_end (map v) (deepest d) then_one test s all rest k n at inv h

  -- a step that fails
  pub chained_fail : (all : Read Tok (List A)) (rest : List Tok) (n at : ℕ) (k : Option (Levelled (List X))) (stop : Stop) → Chained all (n - at) rest k → at < n → true ≡ test rest
      → Fails stop (s rest) → Fails stop all
  chained_fail all rest n at k stop inv less next f = turns_fail (map v) (deepest d) then_one test s all rest k n at stop inv less (sym next) f
