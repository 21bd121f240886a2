-- Stored programs and the statements in them keep the laws.
use Rattle.std.proofs.Common.{◌≡◌, ℕ, zero, suc, pred, ◌≤◌, inl, inr, Bool, true, false, if◌then◌else◌, List, [], ◌∷◌, ◌++◌, length, Option, Some, None, Ok, Err, refl, ◌∙◌, arith}
use Rattle.sql_lex.specs.declared.keyword.Keyword.TheVariants as words
use Rattle.sql_lex.specs.declared.token.Symbol.TheVariants as signs
use Rattle.sql_tree.specs.Tree.{no_part, part}
use Rattle.sql_tree.specs.Statement.{Statement, create_table, commit, select as select_rows, block, if_steps, while_steps, return_value, no_else, else_steps}
use Rattle.sql_tree.specs.declared.statements.Parameter.{Parameter}
use Rattle.sql_tree.specs.declared.statements.Time.{Time}
use Rattle.sql_tree.specs.declared.statements.Cause.{Cause}
use Rattle.sql_grammar.specs.Sets.{next_in}
use Rattle.sql_grammar.specs.Reader.{Read, left_of, bind, take_by}
use Rattle.sql_grammar.specs.Rule.{Rule, any_of, both, either, pure, mapped, chain, repeated, paired, behind, before, alone, then_one}
use Rattle.sql_grammar.proofs.Lawful.{Shape, shape, left, Lawful, GoesOn, over_by, stop_by}
use Rattle.sql_grammar.proofs.Single.{pure_lawful, mapped_lawful, widened}
use Rattle.sql_grammar.proofs.Levels.{recursive_lawful}
use Rattle.sql_grammar.proofs.Sequence.{both_lawful, opened_lawful}
use Rattle.sql_grammar.proofs.Choice.{either_lawful}
use Rattle.sql_grammar.proofs.Chains.{chain_lawful}
use Rattle.sql_grammar.proofs.Alive.{pure_alive, both_alive, other_alive, mapped_alive, chain_alive}
use Rattle.sql_syntax.specs.Tokens.{Tok, kind, code, sign_code, names, keyword, sign}
use Rattle.sql_syntax.specs.Expressions.{expression}
use Rattle.sql_syntax.specs.Tables.{table}
use Rattle.sql_syntax.specs.declared.heads.Head.TheVariants.{Function, Procedure}
use Rattle.sql_syntax.specs.Programs.{with_body, parameter, in_parameter, parameters, trait_words, traits, function, procedure, trigger_of, triggered, head, create, created_within, or_created, common, common_words, inner_words, statements_of, a_step, steps', steps_if, declared_as, declaration, block_body, branches_of, a_branch, otherwise, if_body, while_body, inner_core, inner_by, inner}
use Rattle.sql_syntax.proofs.Words.{takes_keyword, keyword_lawful, sign_lawful, keyword_alive, sign_alive}
use Rattle.sql_syntax.proofs.Shapes.{starts, behind_expressions, statements_from}
use Rattle.sql_syntax.proofs.PartLaws.{name_lawful, keyword_then, closed_lawful, list_lawful, in_parentheses_lawful, keyword_then_alive}
use Rattle.sql_syntax.proofs.ExpressionLaws.{expression_lawful, expression_alive, query_lawful}
use Rattle.sql_syntax.proofs.ChangeLaws.{change_lawful}
use Rattle.sql_syntax.proofs.TableLaws.{type_lawful, table_lawful}
use Rattle.sql_syntax.proofs.SessionLaws.{set_lawful, do_lawful, call_lawful, drop_lawful, truncate_lawful, transaction_lawful}

-- ---- heads
parameter_lawful : (d : ℕ) → Lawful kind (shape names false (sign_code signs.Open ∷ []) true) (λ e. parameter e) d
parameter_lawful d = both_lawful (λ c k. record { name = c; kind = k }) (name_lawful d) (type_lawful d) refl refl

in_parameter_lawful : (d : ℕ) → Lawful kind (shape (code words.In ∷ names) false (sign_code signs.Open ∷ []) true) (λ e. in_parameter e) d
in_parameter_lawful d =
    widened (both_lawful (λ u a. a) (either_lawful (code words.In ∷ []) (keyword_lawful words.In d) (pure_lawful tt d) refl refl refl) (parameter_lawful d) refl refl)
    (shape (code words.In ∷ names) false (sign_code signs.Open ∷ []) true) refl

abbrev parameter_words : List ℕ
parameter_words = code words.In ∷ names

parameters_lawful : {R : ℕ → Rule Tok Parameter} {d : ℕ} → Lawful kind (shape parameter_words false (sign_code signs.Open ∷ []) true) R d
    → Lawful kind (shape (sign_code signs.Close ∷ parameter_words) false [] true) (λ e. parameters (R e)) d
parameters_lawful {d = d} l =
    widened (either_lawful (sign_code signs.Close ∷ []) (mapped_lawful (λ u. []) (sign_lawful signs.Close d)) (closed_lawful (list_lawful l refl refl refl) refl) refl refl refl)
    (shape (sign_code signs.Close ∷ parameter_words) false [] true) refl

traits_lawful : (d : ℕ) → Lawful kind (shape trait_words true trait_words true) (λ e. traits) d
traits_lawful d =
    let sql = keyword_lawful words.Sql d in
    let rows = keyword_then (keyword_lawful words.Data d) refl words.Sql in
    let a1 = either_lawful (code words.Reads ∷ []) (keyword_then rows refl words.Reads) (keyword_then rows refl words.Modifies) refl refl refl in
    let a2 = either_lawful (code words.Contains ∷ []) (keyword_then sql refl words.Contains) a1 refl refl refl in
    let a3 = either_lawful (code words.No ∷ []) (keyword_then sql refl words.No) a2 refl refl refl in
    let a4 = either_lawful (code words.Deterministic ∷ []) (keyword_lawful words.Deterministic d) a3 refl refl refl in
    let a5 = either_lawful (code words.Not ∷ []) (keyword_then (keyword_lawful words.Deterministic d) refl words.Not) a4 refl refl refl in
    widened (chain_lawful (λ u v. tt) trait_words (pure_lawful tt d) a5 refl refl refl refl) (shape trait_words true trait_words true) refl

function_lawful : (d : ℕ) → Lawful kind (shape names false (sign_code signs.Open ∷ trait_words) true) (λ e. function e) d
function_lawful d =
    let l = λ (k : ℕ). parameters_lawful (widened (parameter_lawful k) (shape parameter_words false (sign_code signs.Open ∷ []) true) refl) in
    let some = in_parentheses_lawful (λ e. parameters (parameter e)) ((l 0).lives refl) d (λ k e. l k) refl in
    let result = keyword_then (both_lawful (λ a u. a) (type_lawful d) (traits_lawful d) refl refl) refl words.Returns in
    widened (both_lawful (λ f rest. Function f rest.0 rest.1) (name_lawful d) (both_lawful paired some result refl refl) refl refl)
    (shape names false (sign_code signs.Open ∷ trait_words) true) refl

procedure_lawful : (d : ℕ) → Lawful kind (shape names false (sign_code signs.Open ∷ trait_words) true) (λ e. procedure e) d
procedure_lawful d =
    let l = λ (k : ℕ). parameters_lawful (in_parameter_lawful k) in
    let some = in_parentheses_lawful (λ e. parameters (in_parameter e)) ((l 0).lives refl) d (λ k e. l k) refl in
    widened (both_lawful Procedure (name_lawful d) (both_lawful (λ a u. a) some (traits_lawful d) refl refl) refl refl) (shape names false (sign_code signs.Open ∷ trait_words) true) refl

triggered_lawful : (d : ℕ) → Lawful kind (shape names false [] true) (λ e. triggered) d
triggered_lawful d =
    let when = either_lawful (code words.Before ∷ []) (mapped_lawful (λ u. Time.Before) (keyword_lawful words.Before d)) (mapped_lawful (λ u. Time.After) (keyword_lawful words.After d)) refl refl refl in
    let c1 = either_lawful (code words.Update ∷ []) (mapped_lawful (λ u. Cause.Update) (keyword_lawful words.Update d)) (mapped_lawful (λ u. Cause.Delete) (keyword_lawful words.Delete d)) refl refl refl in
    let cause = either_lawful (code words.Insert ∷ []) (mapped_lawful (λ u. Cause.Insert) (keyword_lawful words.Insert d)) c1 refl refl refl in
    let each = keyword_then (keyword_then (keyword_lawful words.Row d) refl words.Each) refl words.For in
    let on = keyword_then (both_lawful (λ a u. a) (name_lawful d) each refl refl) refl words.On in
    both_lawful trigger_of (name_lawful d) (both_lawful paired when (both_lawful paired cause on refl refl) refl refl) refl refl

abbrev heads : List ℕ
heads = code words.Function ∷ code words.Procedure ∷ code words.Trigger ∷ []

head_lawful : (d : ℕ) → Lawful kind (shape heads false (sign_code signs.Open ∷ trait_words) true) (λ e. head e) d
head_lawful d =
    let a1 = either_lawful (code words.Procedure ∷ []) (keyword_then (procedure_lawful d) refl words.Procedure) (keyword_then (triggered_lawful d) refl words.Trigger) refl refl refl in
    widened (either_lawful (code words.Function ∷ []) (keyword_then (function_lawful d) refl words.Function) a1 refl refl refl) (shape heads false (sign_code signs.Open ∷ trait_words) true) refl

abbrev core_words : List ℕ
core_words = code words.Begin ∷ code words.If ∷ code words.While ∷ code words.Return ∷ common_words

abbrev cores : Shape
cores = statements_from core_words

abbrev pub inners : Shape
inners = statements_from inner_words

pub create_lawful : {B : ℕ → Rule Tok Statement} {d : ℕ} → Lawful kind inners B d → Lawful kind (statements_from (code words.Create ∷ [])) (λ e. create e (B e)) d
create_lawful {d = d} l =
    let body = both_lawful with_body (head_lawful d) l refl refl in
    widened (keyword_then (either_lawful (code words.Table ∷ []) (mapped_lawful create_table (table_lawful d)) body refl refl refl) refl words.Create) (statements_from (code words.Create ∷ [])) refl

-- ---- CREATEs in one another
bind_same : {A B : Type 0} (r : Read Tok A) (g g' : A × List Tok → Read Tok B) → ((x : A × List Tok) → r ≡ Ok x → g x ≡ g' x) → bind r g ≡ bind r g'
bind_same (Ok x) g g' h = h x refl
bind_same (Err e) g g' h = refl

if_same : {A : Type 0} (b : Bool) (x y y' : A) → y ≡ y' → (if b then x else y) ≡ (if b then x else y')
if_same true x y y' e = refl
if_same false x y y' e = e

then_same : {A : Type 0} (b : Bool) (x x' y : A) → x ≡ x' → (if b then x else y) ≡ (if b then x' else y)
then_same true x x' y e = e
then_same false x x' y e = refl

left_ok : {A : Type 0} (r : Read Tok A) (x : A × List Tok) (n : ℕ) → left r ≤ n → r ≡ Ok x → length x.1 ≤ n
left_ok r x n l e = rw e at l

-- the kind of CREATE, behind which both go on alike
word_same : {A : Type 0} (ts us : List Tok) (o : Option (Unit {0})) (E E' : List Tok → Read Tok A) → E us ≡ E' us
    → bind (take_by ts us o) (λ x. bind (E x.1) (λ y. Ok (y.0, y.1))) ≡ bind (take_by ts us o) (λ x. bind (E' x.1) (λ y. Ok (y.0, y.1)))
word_same ts us (Some u) E E' e = rw e refl
word_same ts us None E E' e = refl

-- the sum, by recursion
abbrev more : ℕ → ℕ → ℕ
more zero m = m
more (suc j) m = suc (more j m)

more_most : (j m : ℕ) → j ≤ more j m
more_most zero m = omega arith
more_most (suc j) m = let k = more_most j m in omega (arith, k)

module _ (R : ℕ → Rule Tok Statement) where
  abbrev C : ℕ → ℕ → Rule Tok Statement
  C m e = created_within m e (R e)

  grow_one : (m e : ℕ) (s : Statement) (ts rest : List Tok) → (C m e).texts s ts rest → (C (suc m) e).texts s ts rest
  unfolding created_within
  grow_one zero e s ts rest g = inr g
  grow_one (suc m) e s ts rest (inl g) = inl (g.0, g.1, g.2, g.3, g.4, elim g.5 [ inl k ↦ inl k | inr k ↦ inr (k.0, k.1, k.2, k.3, k.4, grow_one m e k.1 k.2 rest k.5) ])
  grow_one (suc m) e s ts rest (inr g) = inr g

  grow : (j m e : ℕ) (s : Statement) (ts rest : List Tok) → (C m e).texts s ts rest → (C (more j m) e).texts s ts rest
  grow zero m e s ts rest g = g
  grow (suc j) m e s ts rest g = grow_one (more j m) e s ts rest (grow j m e s ts rest g)

  fronts_one : (m e : ℕ) (us : List Tok) → (C m e).fronts us → (C (suc m) e).fronts us
  unfolding created_within
  fronts_one zero e us g = inr g
  fronts_one (suc m) e us (inl (inl g)) = inl (inl g)
  fronts_one (suc m) e us (inl (inr g)) =
      inl (inr (g.0, g.1, g.2, elim g.3 [ inl k ↦ inl k | inr k ↦ inr (elim k [ inl h ↦ inl h | inr h ↦ inr (h.0, h.1, h.2, fronts_one m e h.1 h.3) ]) ]))
  fronts_one (suc m) e us (inr g) = inr g

  grow_fronts : (j m e : ℕ) (us : List Tok) → (C m e).fronts us → (C (more j m) e).fronts us
  grow_fronts zero m e us g = g
  grow_fronts (suc j) m e us g = fronts_one (more j m) e us (grow_fronts j m e us g)

  module _ {d : ℕ} (l : Lawful kind cores R d) where
    within_lawful : (m : ℕ) → Lawful kind inners (C m) d
    unfolding created_within
    within_lawful zero = widened l inners refl
    within_lawful (suc m) = widened (either_lawful (code words.Create ∷ []) (create_lawful (within_lawful m)) l refl refl refl) inners refl

    -- where there are fewer tokens than CREATEs allowed, more of them change nothing
    settled : (m n : ℕ) (ts : List Tok) → length ts ≤ m → length ts ≤ n → (C m d).read ts ≡ (C n d).read ts
    unfolding created_within
    settled zero zero ts p q = refl
    settled zero (suc n) [] p q = refl
    settled zero (suc n) (t ∷ ts) p q = absurd (omega (arith, p))
    settled (suc m) zero [] p q = refl
    settled (suc m) zero (t ∷ ts) p q = absurd (omega (arith, q))
    settled (suc m) (suc n) [] p q = refl
    settled (suc m) (suc n) (t ∷ ts) p q =
        then_same (next_in kind (code words.Create ∷ []) (t ∷ ts)) ((create d (C m d)).read (t ∷ ts)) ((create d (C n d)).read (t ∷ ts)) ((R d).read (t ∷ ts))
        (word_same (t ∷ ts) ts (any_of kind (code words.Create) t) (either kind (code words.Table ∷ []) (mapped create_table (table d)) (both with_body (head d) (C m d))).read
        (either kind (code words.Table ∷ []) (mapped create_table (table d)) (both with_body (head d) (C n d))).read
        (if_same (next_in kind (code words.Table ∷ []) ts) ((mapped create_table (table d)).read ts) ((both with_body (head d) (C m d)).read ts) ((both with_body (head d) (C n d)).read ts)
        (bind_same ((head d).read ts) (λ x. bind ((C m d).read x.1) (λ y. Ok (with_body x.0 y.0, y.1))) (λ x. bind ((C n d).read x.1) (λ y. Ok (with_body x.0 y.0, y.1)))
        (λ x e. let k = left_ok ((head d).read ts) x (length ts) ((head_lawful d).shrinks ts) e in
        let same = settled m n x.1 (omega (arith, k, p)) (omega (arith, k, q)) in
        rw same refl))))

    at_length : (j m : ℕ) (ts : List Tok) → length ts ≤ j → (C (length ts) d).read ts ≡ (C (more j m) d).read ts
    at_length j m ts p = settled (length ts) (more j m) ts (omega arith) (omega (arith, p, more_most j m))

    within_goes_on : (m : ℕ) (us : List Tok) → GoesOn (C m) us → GoesOn (λ e. or_created e (R e)) us
    within_goes_on m us g = (g.0, λ e n tail. let z = g.1 e n tail in (z.0, z.1, (m, z.2)))

    or_created_lawful : Lawful kind inners (λ e. or_created e (R e)) d
    or_created_lawful = record {
      sound = λ ts x e. (length ts, (within_lawful (length ts)).sound ts x e);
      complete = λ s ts rest g h. at_length (length ts) g.0 ts (omega arith) ∙ (within_lawful (more (length ts) g.0)).complete s ts rest (grow (length ts) g.0 d s ts rest g.1) h;
      framed = λ s ts rest g. let k = (within_lawful g.0).framed s ts rest g.1 in (k.0, k.1, λ more. (g.0, k.2 more));
      begins = λ s ts rest g. (within_lawful g.0).begins s ts rest g.1;
      closed = λ s us tail rest g n. (g.0, (within_lawful g.0).closed s us tail rest g.1 n);
      shorter = λ us tail h. (h.0, (within_lawful h.0).shorter us tail h.1);
      front_begins = λ t us h. (within_lawful h.0).front_begins t us h.1;
      begun = (0, (within_lawful 0).begun);
      lives = λ e. within_goes_on 0 [] ((within_lawful 0).lives refl);
      goes_on = λ t us h. within_goes_on h.0 (t ∷ us) ((within_lawful h.0).goes_on t us h.1);
      keeps = λ us tail h. rw (at_length (length (us ++ tail)) h.0 (us ++ tail) (omega arith)) ((within_lawful (more (length (us ++ tail)) h.0)).keeps us tail (grow_fronts (length (us ++ tail)) h.0 d us h.1));
      shrinks = λ ts. (within_lawful (length ts)).shrinks ts;
      stops = λ ts e h. stop_by (C (length ts) d).fronts (or_created d (R d)).fronts ts (left_of e) (λ us z. (length ts, z)) ((within_lawful (length ts)).stops ts e h);
      exceeds = λ ts rest h. over_by (C (length ts) (suc d)).fronts (or_created (suc d) (R (suc d))).fronts ts rest (λ us z. (length ts, z)) ((within_lawful (length ts)).exceeds ts rest h);
      deeper = λ e n s ts rest g. (g.0, (within_lawful g.0).deeper e n s ts rest g.1);
      fronts_deeper = λ e n us h. (h.0, (within_lawful h.0).fronts_deeper e n us h.1);
      steady = λ e n ts. (within_lawful (length ts)).steady e n ts;
    }

-- ---- statements in programs
pub common_lawful : (d : ℕ) → Lawful kind (statements_from common_words) (λ e. common e) d
common_lawful d =
    let a1 = either_lawful (code words.Call ∷ []) (call_lawful d) (transaction_lawful d) refl refl refl in
    let a2 = either_lawful (code words.Set ∷ []) (set_lawful d) a1 refl refl refl in
    let a3 = either_lawful (code words.Do ∷ []) (do_lawful d) a2 refl refl refl in
    let a4 = either_lawful (code words.Select ∷ []) (mapped_lawful select_rows (query_lawful d)) a3 refl refl refl in
    let a5 = either_lawful (code words.Insert ∷ code words.Replace ∷ code words.Update ∷ code words.Delete ∷ []) (change_lawful d) a4 refl refl refl in
    let a6 = either_lawful (code words.Truncate ∷ []) (truncate_lawful d) a5 refl refl refl in
    widened (either_lawful (code words.Drop ∷ []) (drop_lawful d) a6 refl refl refl) (statements_from common_words) refl

module _ {R : ℕ → Rule Tok Statement} {d : ℕ} (l : Lawful kind inners R d) where
  a_step_lawful : Lawful kind (shape inner_words false [] true) (λ e. a_step (R e)) d
  a_step_lawful = both_lawful (λ a u. a) l (sign_lawful signs.Semicolon d) refl refl

  steps_lawful : Lawful kind (shape inner_words false inner_words true) (λ e. steps' (R e)) d
  steps_lawful =
      widened (mapped_lawful statements_of (chain_lawful then_one inner_words (mapped_lawful alone a_step_lawful) a_step_lawful refl refl refl refl)) (shape inner_words false inner_words true) refl

  steps_if_lawful : Lawful kind (shape inner_words true inner_words true) (λ e. steps_if (R e)) d
  steps_if_lawful =
      widened (mapped_lawful statements_of (chain_lawful then_one inner_words (pure_lawful [] d) a_step_lawful refl refl refl refl)) (shape inner_words true inner_words true) refl

  declaration_lawful : Lawful kind (shape (code words.Declare ∷ []) false [] true) (λ e. declaration e) d
  declaration_lawful =
      let default = widened (either_lawful (code words.Default ∷ []) (mapped_lawful part (keyword_then (expression_lawful d) refl words.Default)) (pure_lawful no_part d) refl refl refl)
      (shape (code words.Default ∷ []) true (code words.Default ∷ behind_expressions) true) refl in
      let typed = both_lawful declared_as (list_lawful (name_lawful d) refl refl refl) (both_lawful paired (type_lawful d) default refl refl) refl refl in
      widened (keyword_then (both_lawful (λ a u. a) typed (sign_lawful signs.Semicolon d) refl refl) refl words.Declare) (shape (code words.Declare ∷ []) false [] true) refl

  block_lawful : Lawful kind (shape (code words.Declare ∷ code words.End ∷ inner_words) false [] true) (λ e. block_body e (R e)) d
  block_lawful =
      let ds = chain_lawful then_one (code words.Declare ∷ []) (pure_lawful [] d) declaration_lawful refl refl refl refl in
      let ss = both_lawful (λ a u. a) steps_if_lawful (keyword_lawful words.End d) refl refl in
      widened (both_lawful block ds ss refl refl) (shape (code words.Declare ∷ code words.End ∷ inner_words) false [] true) refl

  branch_lawful : Lawful kind (shape starts false inner_words true) (λ e. a_branch e (R e)) d
  branch_lawful = widened (both_lawful paired (expression_lawful d) (keyword_then steps_lawful refl words.Then) refl refl) (shape starts false inner_words true) refl

  if_lawful : Lawful kind (shape starts false [] true) (λ e. if_body e (R e)) d
  if_lawful =
      let bs = chain_lawful then_one (code words.Elseif ∷ []) (mapped_lawful alone branch_lawful) (keyword_then branch_lawful refl words.Elseif) refl refl refl refl in
      let other = either_lawful (code words.Else ∷ []) (mapped_lawful else_steps (keyword_then steps_lawful refl words.Else)) (pure_lawful no_else d) refl refl refl in
      let end = keyword_then (keyword_lawful words.If d) refl words.End in
      widened (both_lawful (λ a u. a) (both_lawful (λ bs o. if_steps (branches_of bs) o) bs other refl refl) end refl refl) (shape starts false [] true) refl

  while_lawful : Lawful kind (shape starts false [] true) (λ e. while_body e (R e)) d
  while_lawful =
      let end = keyword_then (keyword_lawful words.While d) refl words.End in
      widened (both_lawful while_steps (expression_lawful d) (keyword_then (both_lawful (λ a u. a) steps_lawful end refl refl) refl words.Do) refl refl) (shape starts false [] true) refl

-- ---- they have texts
module _ (R : ℕ → Rule Tok Statement) (alive : GoesOn R []) where
  a_step_alive : GoesOn (λ e. a_step (R e)) []
  a_step_alive = both_alive (λ a u. a) R (λ e. sign signs.Semicolon) alive (sign_alive signs.Semicolon)

  steps_alive : GoesOn (λ e. steps' (R e)) []
  steps_alive =
      mapped_alive statements_of (λ e. chain kind then_one inner_words (mapped alone (a_step (R e))) (a_step (R e)))
      (chain_alive kind then_one inner_words (λ e. mapped alone (a_step (R e))) (λ e a. a_step (R e)) (mapped_alive alone (λ e. a_step (R e)) a_step_alive))

  block_alive : GoesOn (λ e. block_body e (R e)) []
  block_alive =
      both_alive block (λ e. repeated kind then_one (code words.Declare ∷ []) [] (declaration e)) (λ e. before (steps_if (R e)) (keyword words.End))
      (chain_alive kind then_one (code words.Declare ∷ []) (λ e. pure []) (λ e a. declaration e) (pure_alive []))
      (both_alive (λ a u. a) (λ e. steps_if (R e)) (λ e. keyword words.End)
      (mapped_alive statements_of (λ e. repeated kind then_one inner_words [] (a_step (R e))) (chain_alive kind then_one inner_words (λ e. pure []) (λ e a. a_step (R e)) (pure_alive [])))
      (keyword_alive words.End))

  branch_alive : GoesOn (λ e. a_branch e (R e)) []
  branch_alive = both_alive paired expression (λ e. behind (keyword words.Then) (steps' (R e))) expression_alive (keyword_then_alive (λ e. steps' (R e)) steps_alive words.Then)

  if_alive : GoesOn (λ e. if_body e (R e)) []
  if_alive =
      both_alive (λ a u. a) (λ e. both (λ bs o. if_steps (branches_of bs) o) (chain kind then_one (code words.Elseif ∷ []) (mapped alone (a_branch e (R e))) (behind (keyword words.Elseif) (a_branch e (R e)))) (otherwise (R e)))
      (λ e. behind (keyword words.End) (keyword words.If))
      (both_alive (λ bs o. if_steps (branches_of bs) o) (λ e. chain kind then_one (code words.Elseif ∷ []) (mapped alone (a_branch e (R e))) (behind (keyword words.Elseif) (a_branch e (R e)))) (λ e. otherwise (R e))
      (chain_alive kind then_one (code words.Elseif ∷ []) (λ e. mapped alone (a_branch e (R e))) (λ e a. behind (keyword words.Elseif) (a_branch e (R e))) (mapped_alive alone (λ e. a_branch e (R e)) branch_alive))
      (other_alive (next_in kind (code words.Else ∷ [])) (λ e. mapped else_steps (behind (keyword words.Else) (steps' (R e)))) (λ e. pure no_else) (pure_alive no_else)))
      (keyword_then_alive (λ e. keyword words.If) (keyword_alive words.If) words.End)

  while_alive : GoesOn (λ e. while_body e (R e)) []
  while_alive =
      both_alive while_steps expression (λ e. behind (keyword words.Do) (before (steps' (R e)) (behind (keyword words.End) (keyword words.While)))) expression_alive
      (keyword_then_alive (λ e. before (steps' (R e)) (behind (keyword words.End) (keyword words.While)))
      (both_alive (λ a u. a) (λ e. steps' (R e)) (λ e. behind (keyword words.End) (keyword words.While)) steps_alive (keyword_then_alive (λ e. keyword words.While) (keyword_alive words.While) words.End)) words.Do)

inner_core_lawful : (R : ℕ → Rule Tok Statement) → GoesOn R [] → (d : ℕ) → ((k : ℕ) → d ≡ suc k → Lawful kind inners R k) → Lawful kind cores (λ e. inner_core e (R (pred e))) d
inner_core_lawful R alive d l =
    let block' = opened_lawful (takes_keyword words.Begin) (λ u a. a) (λ e. block_body e (R e)) (block_alive R alive) d (λ k e. block_lawful (l k e)) refl in
    let if' = opened_lawful (takes_keyword words.If) (λ u a. a) (λ e. if_body e (R e)) (if_alive R alive) d (λ k e. if_lawful (l k e)) refl in
    let while' = opened_lawful (takes_keyword words.While) (λ u a. a) (λ e. while_body e (R e)) (while_alive R alive) d (λ k e. while_lawful (l k e)) refl in
    let return' = keyword_then (mapped_lawful return_value (expression_lawful d)) refl words.Return in
    let a1 = either_lawful (code words.Return ∷ []) return' (common_lawful d) refl refl refl in
    let a2 = either_lawful (code words.While ∷ []) while' a1 refl refl refl in
    let a3 = either_lawful (code words.If ∷ []) if' a2 refl refl refl in
    widened (either_lawful (code words.Begin ∷ []) block' a3 refl refl refl) cores refl

inner_is : (e : ℕ) → inner e ≡ inner_by e (inner (pred e))
unfolding inner
inner_is zero = refl
inner_is (suc e) = refl

-- COMMIT is such a statement
commit_text : (e : ℕ) (r : Rule Tok Statement) (tail : List Tok) → (inner_by e r).texts commit ((takes_keyword words.Commit).token ∷ tail) tail
unfolding created_within
commit_text e r tail =
    let t = takes_keyword words.Commit in
    (0, inr (inr (inr (inr (inr (inr (inr (inr (inr (inr (inr (inl (t.value, refl, (t.token, refl, t.taken))))))))))))))

inner_alive : GoesOn inner []
inner_alive = (0, λ e m tail. ((takes_keyword words.Commit).token ∷ [], commit, rw (inner_is e) (commit_text e (inner (pred e)) tail)))

pub inner_lawful : (d : ℕ) → Lawful kind inners inner d
inner_lawful = recursive_lawful inner inner_by inner_is (λ d l. or_created_lawful (λ e. inner_core e (inner (pred e))) (inner_core_lawful inner inner_alive d l))
