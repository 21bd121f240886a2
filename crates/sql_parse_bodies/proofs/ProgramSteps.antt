-- The steps of reading programs in programs.
use Rattle.std.proofs.Common.{◌≡◌, ◌∙◌, ℕ, zero, suc, pred, ◌+◌, ◌-◌, ◌<◌, ◌≤◌, true, false, List, [], ◌∷◌, ◌++◌, length, Option, Result, Ok, Err, refl, sym, ap, subst, arith}
use Rattle.sql_lex.specs.declared.keyword.Keyword.TheVariants as words
use Rattle.sql_grammar.specs.Reader.{Read, Reader, bind}
use Rattle.sql_grammar.specs.Rule.{Rule, before, both, behind, either, mapped, opened, pure}
use Rattle.sql_grammar.specs.Sets.{next_in}
use Rattle.sql_tree.specs.Depth.{depth_of}
use Rattle.sql_tree.specs.Statement.{Statement, create_table}
use Rattle.sql_tree.specs.StatementView.{view}
use Rattle.sql_tree.specs.declared.statements.CreateTable.{CreateTable}
use Rattle.sql_tree.specs.declared.statements.Stmt.{Stmt}
use Rattle.sql_parse_tokens.specs.declared.fault.Stop.{Stop}
use Rattle.sql_parse_tokens.specs.declared.fault.Stop.TheVariants as stops
use Rattle.sql_syntax.specs.declared.heads.Head.{Head}
use Rattle.sql_parse_nodes.specs.declared.kept.Levelled.{Levelled}
use Rattle.sql_parse_tokens.specs.Gives.{Fails, Gives}
use Rattle.sql_parse_nodes.specs.Kept.{IsKept, Keeps}
use Rattle.sql_syntax.specs.Programs.{with_body, with_heads, head, created, create, created_within, core, inner, inside}
use Rattle.sql_syntax.specs.Tables.{table}
use Rattle.sql_syntax.specs.Tokens.{Tok, code, keyword, kind}
use Rattle.sql_parse_nodes.proofs.KeptLists.{keeps_behind}
use Rattle.sql_parse_bodies.proofs.ProgramNodes.{heads_last}
use Rattle.sql_parse_tokens.proofs.Reading.{again, fails_on, opened_is}

-- ---- one rule at a time
pub behind_is : {A B : Type 0} (r : Rule Tok A) (s : Rule Tok B) (ts us : List Tok) (a : A) → r.read ts ≡ Ok (a, us) → (behind r s).read ts ≡ s.read us
behind_is r s ts us a e = rw e (again (s.read us))

both_is : {A B C : Type 0} (f : A → B → C) (r : Rule Tok A) (s : Rule Tok B) (ts us : List Tok) (a : A) → r.read ts ≡ Ok (a, us) → (both f r s).read ts ≡ bind (s.read us) (λ y. Ok (f a y.0, y.1))
both_is f r s ts us a e = rw e refl

both_fails : {A B C : Type 0} (f : A → B → C) (r : Rule Tok A) (s : Rule Tok B) (ts : List Tok) (stop : Stop) → Fails stop (r.read ts) → Fails stop ((both f r s).read ts)
both_fails f r s ts (stops.Syntax rest) h = rw h refl
both_fails f r s ts (stops.Deep rest) h = rw h refl
both_fails f r s ts stops.NoMemory h = tt

first_is : {A : Type 0} (set : List ℕ) (r s : Rule Tok A) (ts : List Tok) → true ≡ next_in kind set ts → (either kind set r s).read ts ≡ r.read ts
first_is set r s ts e = rw (← e) refl

second_is : {A : Type 0} (set : List ℕ) (r s : Rule Tok A) (ts : List Tok) → false ≡ next_in kind set ts → (either kind set r s).read ts ≡ s.read ts
second_is set r s ts e = rw (← e) refl

-- what stands behind a part that is kept
kept_before : {X A : Type 0} (v : X → A) (d : A → ℕ) (a : A) (k : Option (Levelled X)) (read : Read Tok (Unit {0})) (result : Result (Option (Levelled X) × List Tok) Stop) → IsKept v d a k
    → Gives (λ p. p) result (bind read (λ u. Ok (k, u.1))) → Keeps v d result (bind read (λ u. Ok (a, u.1)))
kept_before {X} v d a k (Ok u) (Ok y) i g =
    let e : (k, u.1) ≡ y = cc in
    (a, ap (λ (p : Option (Levelled X) × List Tok). Ok (a, p.1)) e, subst (λ (m : Option (Levelled X)). IsKept v d a m) (ap (λ (p : Option (Levelled X) × List Tok). p.0) e) i)
kept_before v d a k (Err f) (Ok y) i g = absurd cc
kept_before v d a k read (Err stop) i g = fails_on stop read (λ u. (k, u.1)) (λ u. Ok (a, u.1)) g

-- a part, and what stands behind it
pub keeps_before : {X A : Type 0} (v : X → A) (d : A → ℕ) (r : Rule Tok A) (s : Rule Tok (Unit {0})) (ts us : List Tok) (k : Option (Levelled X)) (result : Result (Option (Levelled X) × List Tok) Stop)
    → Keeps v d (Ok (k, us)) (r.read ts) → Gives (λ p. p) result (bind (s.read us) (λ u. Ok (k, u.1))) → Keeps v d result ((before r s).read ts)
keeps_before v d r s ts us k result h g = rw h.1 (kept_before v d h.0 k (s.read us) result h.2 g)

-- ---- what is read, with heads round it
abbrev under : List Head → Read Tok Statement → Read Tok Statement
under hs r = bind r (λ y. Ok (with_heads hs y.0, y.1))

under_none : (r : Read Tok Statement) → under [] r ≡ r
under_none (Ok y) = refl
under_none (Err f) = refl

under_more : (hs : List Head) (h : Head) (r : Read Tok Statement) → under hs (bind r (λ y. Ok (with_body h y.0, y.1))) ≡ under (hs ++ h ∷ []) r
under_more hs h (Ok y) = ap (λ (s : Statement). Ok (s, y.1)) (sym (heads_last hs h y.0))
under_more hs h (Err f) = refl

under_table : (hs : List Head) (r : Read Tok CreateTable) → under hs (bind r (λ y. Ok (create_table y.0, y.1))) ≡ bind r (λ y. Ok (with_heads hs (create_table y.0), y.1))
under_table hs (Ok y) = refl
under_table hs (Err f) = refl

under_fails : (hs : List Head) (stop : Stop) (r : Read Tok Statement) → Fails stop r → Fails stop (under hs r)
under_fails hs (stops.Syntax rest) r h = rw h refl
under_fails hs (stops.Deep rest) r h = rw h refl
under_fails hs stops.NoMemory r h = tt

-- heads so far, and programs within, in so many turns
abbrev pub Heading : ℕ → List Head → ℕ → Reader Tok Statement
Heading d hs n ts = bind ((created_within n d (core d)).read ts) (λ y. Ok (with_heads hs y.0, y.1))

inner_is : (d : ℕ) (ts : List Tok) → (created_within (length ts) d (core d)).read ts ≡ (inner d).read ts
unfolding inner
inner_is zero ts = refl
inner_is (suc d) ts = refl

-- no head yet
pub heading_begin : (d n : ℕ) (ts : List Tok) → n ≡ length ts → Heading d [] (n - 0) ts ≡ (inner d).read ts
heading_begin d n ts e =
    let m : n - 0 ≡ length ts = omega arith in
    ap (λ k. under [] ((created_within k d (core d)).read ts)) m ∙ (under_none ((created_within (length ts) d (core d)).read ts) ∙ inner_is d ts)

within_stop : (d n : ℕ) (ts : List Tok) → false ≡ next_in kind (code words.Create ∷ []) ts → (created_within n d (core d)).read ts ≡ (core d).read ts
unfolding created_within
within_stop d zero ts e = refl
within_stop d (suc n) ts e = second_is (code words.Create ∷ []) (create d (created_within n d (core d))) (core d) ts e

-- no CREATE comes
pub heading_stop : (d : ℕ) (hs : List Head) (n : ℕ) (ts : List Tok) → false ≡ next_in kind (code words.Create ∷ []) ts → Heading d hs n ts ≡ bind ((core d).read ts) (λ y. Ok (with_heads hs y.0, y.1))
heading_stop d hs n ts e = ap (under hs) (within_stop d n ts e)

within_none : (d : ℕ) (ts : List Tok) → (created_within 0 d (core d)).read ts ≡ (core d).read ts
unfolding created_within
within_none d ts = refl

-- no turn is left
pub heading_end : (d : ℕ) (hs : List Head) (n at : ℕ) (ts : List Tok) → n ≤ at → Heading d hs (n - at) ts ≡ bind ((core d).read ts) (λ y. Ok (with_heads hs y.0, y.1))
heading_end d hs n at ts h =
    let m : n - at ≡ 0 = omega arith in
    ap (λ k. under hs ((created_within k d (core d)).read ts)) m ∙ ap (under hs) (within_none d ts)

within_turn : (d n : ℕ) (ts : List Tok) → true ≡ next_in kind (code words.Create ∷ []) ts → (created_within (suc n) d (core d)).read ts ≡ (create d (created_within n d (core d))).read ts
unfolding created_within
within_turn d n ts e = first_is (code words.Create ∷ []) (create d (created_within n d (core d))) (core d) ts e

heading_turn : (d : ℕ) (hs : List Head) (n at : ℕ) (ts : List Tok) → at < n → true ≡ next_in kind (code words.Create ∷ []) ts
    → Heading d hs (n - at) ts ≡ under hs ((create d (created_within (n - (at + 1)) d (core d))).read ts)
heading_turn d hs n at ts h e =
    let m : n - at ≡ suc (n - (at + 1)) = omega arith in
    ap (λ k. under hs ((created_within k d (core d)).read ts)) m ∙ ap (under hs) (within_turn d (n - (at + 1)) ts e)

-- behind CREATE
abbrev rest_of_create : ℕ → Rule Tok Statement → Rule Tok Statement
rest_of_create d r = either kind (code words.Table ∷ []) (mapped create_table (table d)) (created d r)

create_is : (d : ℕ) (r : Rule Tok Statement) (ts us : List Tok) → (keyword words.Create).read ts ≡ Ok (tt {0}, us) → (create d r).read ts ≡ (rest_of_create d r).read us
create_is d r ts us e = behind_is (keyword words.Create) (rest_of_create d r) ts us tt e

-- CREATE is no head
pub heading_table : (d : ℕ) (hs : List Head) (n at : ℕ) (ts us : List Tok) → at < n → true ≡ next_in kind (code words.Create ∷ []) ts → (keyword words.Create).read ts ≡ Ok (tt {0}, us)
    → true ≡ next_in kind (code words.Table ∷ []) us → Heading d hs (n - at) ts ≡ bind ((table d).read us) (λ y. Ok (with_heads hs (create_table y.0), y.1))
heading_table d hs n at ts us h e skip next =
    let r = created_within (n - (at + 1)) d (core d) in
    heading_turn d hs n at ts h e
    ∙ (ap (under hs) (create_is d r ts us skip ∙ first_is (code words.Table ∷ []) (mapped create_table (table d)) (created d r) us next) ∙ under_table hs ((table d).read us))

head_turn : (d : ℕ) (hs : List Head) (n at : ℕ) (ts us : List Tok) → at < n → true ≡ next_in kind (code words.Create ∷ []) ts → (keyword words.Create).read ts ≡ Ok (tt {0}, us)
    → false ≡ next_in kind (code words.Table ∷ []) us → Heading d hs (n - at) ts ≡ under hs ((created d (created_within (n - (at + 1)) d (core d))).read us)
head_turn d hs n at ts us h e skip next =
    let r = created_within (n - (at + 1)) d (core d) in
    heading_turn d hs n at ts h e ∙ ap (under hs) (create_is d r ts us skip ∙ second_is (code words.Table ∷ []) (mapped create_table (table d)) (created d r) us next)

-- CREATE is a head, which fails
pub heading_fail : (d : ℕ) (hs : List Head) (n at : ℕ) (ts us : List Tok) (stop : Stop) (whole : Read Tok Statement) → at < n → true ≡ next_in kind (code words.Create ∷ []) ts
    → (keyword words.Create).read ts ≡ Ok (tt {0}, us) → false ≡ next_in kind (code words.Table ∷ []) us → Heading d hs (n - at) ts ≡ whole → Fails stop ((head d).read us) → Fails stop whole
heading_fail d hs n at ts us stop whole h e skip next inv fail =
    let r = created_within (n - (at + 1)) d (core d) in
    subst (λ (r : Read Tok Statement). Fails stop r) (sym (head_turn d hs n at ts us h e skip next) ∙ inv) (under_fails hs stop ((created d r).read us) (both_fails with_body (head d) r us stop fail))

-- a head more
pub heading_on : (d : ℕ) (hs gs : List Head) (h : Head) (n at : ℕ) (ts us vs : List Tok) (whole : Read Tok Statement) → at < n → true ≡ next_in kind (code words.Create ∷ []) ts
    → (keyword words.Create).read ts ≡ Ok (tt {0}, us) → false ≡ next_in kind (code words.Table ∷ []) us → (head d).read us ≡ Ok (h, vs) → gs ≡ hs ++ h ∷ [] → Heading d hs (n - at) ts ≡ whole
    → Heading d gs (n - (at + 1)) vs ≡ whole
heading_on d hs gs h n at ts us vs whole less e skip next read more inv =
    let r = created_within (n - (at + 1)) d (core d) in
    ap (λ (zs : List Head). under zs (r.read vs)) more
    ∙ (sym (head_turn d hs n at ts us less e skip next ∙ (ap (under hs) (both_is with_body (head d) r us vs h read) ∙ under_more hs h (r.read vs))) ∙ inv)

-- what should be CREATE is not, which does not come about
pub heading_skips : (d : ℕ) (hs : List Head) (n at : ℕ) (ts : List Tok) (stop : Stop) (whole : Read Tok Statement) → at < n → true ≡ next_in kind (code words.Create ∷ []) ts → Heading d hs (n - at) ts ≡ whole
    → Fails stop ((keyword words.Create).read ts) → Fails stop whole
heading_skips d hs n at ts stop whole h e inv fail =
    let r = created_within (n - (at + 1)) d (core d) in
    subst (λ (r : Read Tok Statement). Fails stop r) (sym (heading_turn d hs n at ts h e) ∙ inv)
    (under_fails hs stop ((create d r).read ts) (both_fails (λ a b. b) (keyword words.Create) (rest_of_create d r) ts stop fail))

-- what is read in a construct, behind the token that opens it
pub opened_inner : (B : ℕ → Rule Tok Statement → Rule Tok Statement) (result : Result (Option (Levelled Stmt) × List Tok) Stop) (n m : ℕ) (f : Tok → Option (Unit {0})) (ts us : List Tok)
    → (opened n f (λ u m. m) (pure (pred n))).read ts ≡ Ok (m, us) → m + 1 ≡ n → Keeps view depth_of result ((B m (inner m)).read us)
    → Keeps view depth_of result ((opened n f (λ u b. b) (B (pred n) (inside n))).read ts)
opened_inner B result zero m f ts us e less h = absurd (omega arith)
opened_inner B result (suc d) m f ts us e less h =
    let same : m ≡ d = omega arith in
    rw (opened_is (suc d) f (B d (inner d)) ts)
    (keeps_behind view depth_of result _ (λ x. (B d (inner d)).read x.1) (m, us) e (subst (λ (k : ℕ). Keeps view depth_of result ((B k (inner k)).read us)) same h))
