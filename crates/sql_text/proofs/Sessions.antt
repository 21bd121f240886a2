-- SET, CALL, DO, DROP, TRUNCATE and the statements of transactions are read as they are written.
use Rattle.std.proofs.Common.{◌≡◌, ◌<◌, ◌≤◌, ℕ, zero, suc, pred, ◌*◌, Bool, true, false, List, [], ◌∷◌, ◌++◌, map, Some, None, refl, ◌∙◌, ap, arith, append_assoc, inl, inr, codes}
use Rattle.std.proofs.lemmas.Bool.{and_parts}
use Rattle.std.specs.Prelude.{if◌then◌else◌}
use Rattle.std.specs.List.{list_all}
use Rattle.sql_lex.specs.declared.keyword.Keyword.{Keyword}
use Rattle.sql_lex.specs.declared.keyword.Keyword.TheVariants as words
use Rattle.sql_grammar.specs.Grammar.{Grammar, Both, first}
use Rattle.sql_grammar.specs.Rule.{of_kinds, paired}
use Rattle.sql_tree.specs.Tree.{Tree, name, Trees}
use Rattle.sql_tree.specs.Statement.{drop_table, drop_function, drop_procedure, drop_trigger, truncate, evaluate, set_all, call_procedure, begin, commit, rollback, savepoint, rollback_to, release_savepoint}
use Rattle.sql_tree.specs.Depth.{depth_of_tree, depth_of_trees, depth_of_assignments}
use Rattle.sql_tree.specs.Well.{is_name, is_target, has_tree, is_well_tree, are_well_trees, has_item, is_well_assignment}
use Rattle.sql_tree.specs.declared.statements.Target.{Target}
use Rattle.sql_print.specs.Names.{quoted_name as name_text, more_of}
use Rattle.sql_print.specs.Spelling.{tree_text, trees_text}
use Rattle.sql_print.specs.StatementSpelling.{target_text, assignment_text, assignments_text}
use Rattle.sql_syntax.specs.Tokens.{Tok, own_names, key, quoted_name, kind, name_said, keyword_said}
use Rattle.sql_syntax.specs.Parts.{arguments}
use Rattle.sql_syntax.specs.Expressions.{Nested, prefix_by, whole_by, alone as no_tail, nested, expression}
use Rattle.sql_syntax.specs.Sessions.{new_by, target, format_said, format_word, format_or, is_format, assigned, assigning, assignment, set, do_exprs, call, drop, truncated, transaction, begun}
use Rattle.sql_syntax.proofs.ExpressionLaws.{expression_lawful, expression_exact}
use Rattle.sql_text.proofs.Lines.{group5}
use Rattle.sql_text.proofs.Reading.{Reading, via, written, spaced, one, nothing, then', then_nothing, More, no_more, more}
use Rattle.sql_text.proofs.Sure.{sure_via, sure_nothing, sure_then}
use Rattle.sql_text.proofs.Written.{name_written, kw, say_at_at, say_dot, say_equal}
use Rattle.sql_text.proofs.Words.{say_new, say_set, say_do, say_call, say_drop, say_table, say_function, say_procedure, say_trigger, say_truncate, say_commit, say_rollback, say_to, say_savepoint, say_release, say_begin}
use Rattle.sql_text.proofs.Parts.{key_then, sign_then, in_parens, name_read, at_name, list_read}
use Rattle.sql_text.proofs.Operands.{system_name_read}
use Rattle.sql_text.proofs.Levels.{inner_of, whole_of}
use Rattle.sql_text.proofs.Trees.{tree_read, trees_read, arguments_of}

-- ---- a value of SET that is no single word
-- a text of an expression that is not just the word of a format
abbrev Unnamed : ℕ → Grammar Tok Tree
Unnamed n t ts rest = (front : List Tok) × (ts ≡ front ++ rest) × (format_said front ≡ None) × (expression n).texts t ts rest

-- a token that is a name by itself
prefix_name : (k : ℕ) (inner : Nested) (u : Tok) (rest : List Tok) → of_kinds kind own_names (λ v. Some v) u ≡ Some u → (prefix_by k inner).texts (name (name_said u)) (u ∷ rest) rest
prefix_name k inner u rest e = inr (inr (inr (inr (inr (inr (inr (inr (inr (inr (inr (inr (u, no_tail, rest, refl, (u, refl, e), inr (inr (refl, refl))))))))))))))

whole_name : (k : ℕ) (inner : Nested) (u : Tok) (rest : List Tok) → of_kinds kind own_names (λ v. Some v) u ≡ Some u → (whole_by k inner).texts (name (name_said u)) (u ∷ rest) rest
whole_name k inner u rest e = first (first (inr (first (first (first (prefix_name k inner u rest e))))))

named_by : (n : ℕ) (u : Tok) (rest : List Tok) → of_kinds kind own_names (λ v. Some v) u ≡ Some u → (expression n).texts (name (name_said u)) (u ∷ rest) rest
unfolding nested
named_by zero u rest e = whole_name zero (inner_of zero) u rest e
named_by (suc n) u rest e = whole_name (suc n) (nested n) u rest e

abbrev is_plain_name : Tree → Bool
is_plain_name (name x) = true
is_plain_name _ = false

-- a single word stands for a name
no_word : (n : ℕ) (t : Tree) (k : Keyword) → is_plain_name t ≡ false → of_kinds kind own_names (λ v. Some v) (key k) ≡ Some (key k) → (expression n).texts t (key k ∷ []) [] → ⊥
no_word n t k e own g =
    let same : t ≡ name (name_said (key k)) = expression_exact.1 n (key k ∷ []) t (name (name_said (key k))) g (named_by n (key k) [] own) in
    let q : is_plain_name t ≡ true = ap is_plain_name same in cc

no_format : (n : ℕ) (t : Tree) (u : Tok) → is_plain_name t ≡ false → (expression n).texts t (u ∷ []) [] → format_word (keyword_said u) ≡ None
unfolding kind
no_format n t (key words.Statement) e g = absurd (no_word n t words.Statement e refl g)
no_format n t (key words.Mixed) e g = absurd (no_word n t words.Mixed e refl g)
no_format n t (key words.Row) e g = absurd (no_word n t words.Row e refl g)
no_format n t (key k) e g = refl
no_format n t u e g = refl

no_format_front : (n : ℕ) (t : Tree) (front : List Tok) → is_plain_name t ≡ false → (expression n).texts t (front ++ []) [] → format_said front ≡ None
no_format_front n t [] e g = refl
no_format_front n t (u ∷ []) e g = no_format n t u e g
no_format_front n t (u ∷ v ∷ front) e g = refl

unnamed_other : (n : ℕ) (t : Tree) → is_plain_name t ≡ false → (ts rest : List Tok) → (expression n).texts t ts rest → Unnamed n t ts rest
unnamed_other n t e ts rest g =
    let f = (expression_lawful n).framed t ts rest g in
    (f.0, f.1, no_format_front n t f.0 e (f.2 []), g)

unnamed_name : (n : ℕ) (x : List ℕ) → is_name x ≡ true → Reading (Unnamed n) (name x) (name_text x)
unfolding kind
unnamed_name n x good = record {
  read = λ bs us o s. (quoted_name x ∷ us, (name_written x good).says bs us o s, (quoted_name x ∷ [], refl, refl, named_by n (quoted_name x) us refl));
}

unnamed_read : (t : Tree) (n : ℕ) → 2 * depth_of_tree t ≤ n → is_well_tree t ≡ true → Reading (Unnamed n) t (tree_text t)
unnamed_read (name x) n l w = unnamed_name n x w
unnamed_read t n l w = via (unnamed_other n t refl) (whole_of n (tree_read t n l w))

-- ---- SET
target_read : (to : Target) → is_target to ≡ true → Reading target.texts to (target_text to)
unfolding kind
target_read (Target.User n) good = via (λ ts rest g. inl (n, refl, g)) (at_name n good)
target_read (Target.System n) good = via (λ ts rest g. inr (inl (n, refl, g))) (sign_then say_at_at (system_name_read n good))
target_read (Target.New c) good =
    via (λ ts rest g. inr (inr (inr (inl g)))) (then' new_by (one say_new refl) (via (λ ts rest g. inl (c, refl, g)) (sign_then say_dot (name_read c good))) refl)
target_read (Target.Plain n) good = via (λ ts rest g. inr (inr (inr (inr (n, refl, g))))) (one (name_written n good) refl)

-- the same value, whatever tokens it was read from
assigned_same : (to : Target) (t : Tree) (front : List Tok) → format_said front ≡ None → ◌≡◌ {A = Target × Tree} (to, t) (assigned to (t, front))
assigned_same to t front e = by (is_format to)
  where
    by : (b : Bool) → ◌≡◌ {A = Target × Tree} (to, t) (to, if b then format_or (format_said front) t else t)
    by true = rw e refl
    by false = refl

-- what is read as a target, a sign and a value
abbrev Assigns : ℕ → Grammar Tok (Target × Tree)
Assigns n = Both paired target.texts (Both (λ u b. b) assigning.texts (Unnamed n))

assigns : (n : ℕ) (x : Target × Tree) (ts rest : List Tok) → Assigns n x ts rest → (assignment n).texts x ts rest
assigns n x ts rest h =
    let v = h.5 in
    let g = v.5 in
    let same : x ≡ assigned h.0 (v.1, g.0) = h.3 ∙ (ap (λ z. (h.0, z)) v.3 ∙ assigned_same h.0 v.1 g.0 g.2) in
    (h.0, (v.1, g.0), h.2, same, h.4, (v.0, (v.1, g.0), v.2, refl, v.4, (v.1, g.0, g.1, refl, g.3)))

assignment_read : (a : Target × Tree) (n : ℕ) → 2 * depth_of_tree a.1 ≤ n → is_well_assignment a ≡ true → Reading (assignment n).texts a (assignment_text a)
assignment_read a n l w =
    let p = and_parts (is_target a.0) (is_well_tree a.1) w in
    let value : Reading (Both (λ u b. b) assigning.texts (Unnamed n)) a.1 (61 ∷ 32 ∷ tree_text a.1) = via (λ ts rest g. (g.0, g.1, g.2, g.3, inl g.4, g.5)) (sign_then say_equal (unnamed_read a.1 n l p.1)) in
    via (assigns n a) (written (then' paired (target_read a.0 p.0) (spaced value) refl) (append_assoc (target_text a.0) (codes " = ") (tree_text a.1)))

more_assignments : (as' : List (Target × Tree)) (n : ℕ) → 2 * depth_of_assignments as' ≤ n → list_all is_well_assignment as' ≡ true → More (assignment n).texts as' (more_of (map assignment_text as'))
more_assignments [] n l w = no_more
more_assignments (a ∷ as') n l w =
    let p = and_parts (is_well_assignment a) (list_all is_well_assignment as') w in
    more (assignment_read a n (omega (arith, l)) p.0) (more_assignments as' n (omega (arith, l)) p.1)

pub set_read : (as' : List (Target × Tree)) (n : ℕ) → has_item as' ≡ true → 2 * depth_of_assignments as' ≤ n → list_all is_well_assignment as' ≡ true → Reading (set n).texts (set_all as') (codes "SET " ++ assignments_text as')
set_read [] n h l w = cc
set_read (a ∷ as') n h l w =
    let p = and_parts (is_well_assignment a) (list_all is_well_assignment as') w in
    key_then say_set (via (λ ts us g. (a ∷ as', refl, g)) (list_read (assignment n) (assignment_read a n (omega (arith, l)) p.0) (more_assignments as' n (omega (arith, l)) p.1)))

-- ---- others
pub do_read : (ts : Trees) (n : ℕ) → has_tree ts ≡ true → 2 * depth_of_trees ts ≤ n → are_well_trees ts ≡ true → Reading (do_exprs n).texts (evaluate ts) (codes "DO " ++ trees_text ts)
do_read ts n h l w = key_then say_do (via (λ us rest g. (ts, refl, g)) (trees_read ts n h l w))

pub call_statement_read : (x : List ℕ) (ts : Trees) (n : ℕ) → is_name x ≡ true → 0 < n → 2 * depth_of_trees ts ≤ pred n → are_well_trees ts ≡ true
    → Reading (call n).texts (call_procedure x ts) (codes "CALL " ++ name_text x ++ codes "(" ++ trees_text ts ++ codes ")")
call_statement_read x ts n good some l w =
    written (key_then say_call (then' call_procedure (name_read x good)
    (via (λ us rest g. inl g) (in_parens (arguments (nested (pred n)).whole) n some (arguments_of (nested (pred n)).whole ts (λ h. trees_read ts (pred n) h l w)))) refl))
    (group5 (codes "CALL ") (name_text x) (codes "(") (trees_text ts) (codes ")"))

module _ (x : List ℕ) (good : is_name x ≡ true) where
  pub drop_table_read : Reading drop.texts (drop_table x) (codes "DROP TABLE " ++ name_text x)
  drop_table_read = key_then say_drop (via (λ ts rest g. inl g) (key_then say_table (via (λ ts rest g. (x, refl, g)) (name_read x good))))

  pub drop_function_read : Reading drop.texts (drop_function x) (codes "DROP FUNCTION " ++ name_text x)
  drop_function_read = key_then say_drop (via (λ ts rest g. inr (inl g)) (key_then say_function (via (λ ts rest g. (x, refl, g)) (name_read x good))))

  pub drop_procedure_read : Reading drop.texts (drop_procedure x) (codes "DROP PROCEDURE " ++ name_text x)
  drop_procedure_read = key_then say_drop (via (λ ts rest g. inr (inr (inl g))) (key_then say_procedure (via (λ ts rest g. (x, refl, g)) (name_read x good))))

  pub drop_trigger_read : Reading drop.texts (drop_trigger x) (codes "DROP TRIGGER " ++ name_text x)
  drop_trigger_read = key_then say_drop (via (λ ts rest g. inr (inr (inr g))) (key_then say_trigger (via (λ ts rest g. (x, refl, g)) (name_read x good))))

  pub truncate_read : Reading truncated.texts (truncate x) (codes "TRUNCATE " ++ name_text x)
  truncate_read = key_then say_truncate (via (λ ts rest g. (x, refl, g)) (sure_then (λ u n. n) (sure_via (λ ts rest g. inr g) (sure_nothing tt)) (name_read x good)))

  pub savepoint_read : Reading transaction.texts (savepoint x) (codes "SAVEPOINT " ++ name_text x)
  savepoint_read = via (λ ts rest g. inr (inr (inl g))) (key_then say_savepoint (via (λ ts rest g. (x, refl, g)) (name_read x good)))

  pub release_read : Reading transaction.texts (release_savepoint x) (codes "RELEASE SAVEPOINT " ++ name_text x)
  release_read = via (λ ts rest g. inr (inr (inr g))) (key_then say_release (key_then say_savepoint (via (λ ts rest g. (x, refl, g)) (name_read x good))))

  pub rollback_to_read : Reading transaction.texts (rollback_to x) (codes "ROLLBACK TO " ++ name_text x)
  unfolding kind
  rollback_to_read =
      via (λ ts rest g. inr (inl g)) (key_then say_rollback (via (λ ts rest g. inl g) (key_then say_to (via (λ ts rest g. (x, refl, inr g)) (one (name_written x good) refl)))))

pub commit_read : Reading transaction.texts commit (codes "COMMIT")
commit_read = via (λ ts rest g. inl (tt, refl, g)) (kw say_commit)

pub rollback_read : Reading transaction.texts rollback (codes "ROLLBACK")
rollback_read = via (λ ts rest g. inr (inl g)) (then_nothing (λ u s. s) (kw say_rollback) (via (λ ts rest g. inr g) (nothing rollback)))

pub begin_read : Reading begun.texts begin (codes "BEGIN")
begin_read = then_nothing (λ u s. s) (kw say_begin) (via (λ ts rest g. inr g) (nothing begin))
