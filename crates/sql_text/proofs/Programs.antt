-- Stored programs and the statements in them are read as they are written.
use Rattle.std.proofs.Common.{◌≡◌, ◌<◌, ◌≤◌, ℕ, zero, suc, pred, ◌*◌, Bool, true, false, ◌&&◌, List, [], ◌∷◌, ◌++◌, map, Some, None, refl, sym, ◌∙◌, ap, arith, append_assoc, inl, inr, codes}
use Rattle.std.proofs.lemmas.Bool.{and_parts}
use Rattle.std.specs.List.{list_all}
use Rattle.sql_lex.specs.declared.keyword.Keyword.TheVariants as words
use Rattle.sql_grammar.specs.Grammar.{Pure, Chain, first}
use Rattle.sql_grammar.specs.Rule.{Rule, any_of, refused, paired, then_one}
use Rattle.sql_tree.specs.Tree.{Tree, Part, no_part, part}
use Rattle.sql_tree.specs.Statement.{Declared}
use Rattle.sql_tree.specs.Statement.{Statement, create_table, create_function, create_procedure, create_trigger, drop_table, drop_function, drop_procedure, drop_trigger, truncate, insert_into, replace_into, update_rows, delete_rows, select, evaluate, set_all, call_procedure, begin, commit, rollback, savepoint, rollback_to, release_savepoint, block, if_steps, while_steps, return_value}
use Rattle.sql_tree.specs.Statement.{Statements, no_statement, statement, no_else, else_steps, program, trigger}
use Rattle.sql_tree.specs.Depth.{depth_of, depth_of_declarations, depth_of_part}
use Rattle.sql_tree.specs.declared.statements.CreateTable.{CreateTable}
use Rattle.sql_tree.specs.declared.statements.SqlType.{SqlType}
use Rattle.sql_tree.specs.declared.statements.Parameter.{Parameter}
use Rattle.sql_tree.specs.declared.statements.Time.{Time}
use Rattle.sql_tree.specs.declared.statements.Cause.{Cause}
use Rattle.sql_tree.specs.Well.{is_name, are_names, are_names_if, is_count_if, is_type, has_tree, are_well_trees, has_item, is_well_set, is_well_supply, is_well_assignment, is_well_part, are_well_orders, is_well_declaration, is_parameter, is_well_step}
use Rattle.sql_print.specs.Names.{quoted_name as name_text, names_of, more_of, commas, type_of}
use Rattle.sql_print.specs.Spelling.{tree_text}
use Rattle.sql_print.specs.StatementSpelling.{parameter_text, time_text, cause_text, default_text, declaration_text, declarations_text, spelling}
use Rattle.sql_syntax.specs.Tokens.{Tok, kind, code}
use Rattle.sql_syntax.specs.Expressions.{expression}
use Rattle.sql_syntax.specs.declared.heads.Head.TheVariants as heads
use Rattle.sql_syntax.specs.Programs.{with_body, parameter, in_parameter, parameters, traits, function, procedure, time, event, trigger_of, each_row, triggered, create, created_within, common, statements_of, a_step, steps', steps_if, declared_as, declaration, block_body, a_branch, otherwise, if_body, while_body, inner_core, inner}
use Rattle.sql_text.proofs.Lines.{declaration_line, function_line, procedure_line, trigger_line}
use Rattle.sql_text.proofs.Reading.{Reading, via, written, spaced, nothing, then', then_nothing, More, no_more, more}
use Rattle.sql_text.proofs.Sure.{Sure, sure_via, sure_written, sure_nothing, sure_then, then_sure, sure_spaced, key_sure, ended_sure, SureRows, no_sure, sure_row, sure_repeated, sure_chain}
use Rattle.sql_text.proofs.Written.{kw, say_close}
use Rattle.sql_text.proofs.Words.{say_create, say_function, say_procedure, say_trigger, say_returns, say_before, say_after, say_insert, say_update, say_delete, say_on, say_for, say_each, say_row, say_declare, say_default, say_begin, say_end, say_if, say_then, say_else, say_while, say_do, say_return}
use Rattle.sql_text.proofs.Parts.{key_token, signed, key_then, closing, opened_said, in_parens, name_read, list_read}
use Rattle.sql_text.proofs.Levels.{whole_of}
use Rattle.sql_text.proofs.Trees.{tree_read, select_read}
use Rattle.sql_text.proofs.Sessions.{set_read, do_read, call_statement_read, drop_table_read, drop_function_read, drop_procedure_read, drop_trigger_read, truncate_read, savepoint_read, release_read, rollback_to_read, commit_read, rollback_read}
use Rattle.sql_text.proofs.Changes.{names_read, insert_read, replace_read, update_read, delete_read}
use Rattle.sql_text.proofs.Tables.{type_read, table_read}

-- ---- heads of programs
parameter_read : (p : Parameter) (n : ℕ) → 0 < n → is_parameter p ≡ true → Reading (parameter n).texts p (parameter_text p)
parameter_read p n l w =
    let k = and_parts (is_name p.name) (is_type p.kind) w in
    written (then' (λ c t. record { name = c; kind = t }) (name_read p.name k.0) (spaced (type_read p.kind n l k.1)) refl) (append_assoc (name_text p.name) (32 ∷ []) (type_of p.kind))

in_parameter_read : (p : Parameter) (n : ℕ) → 0 < n → is_parameter p ≡ true → Reading (in_parameter n).texts p (parameter_text p)
in_parameter_read p n l w = sure_then (λ u q. q) (sure_via (λ ts rest g. inr g) (sure_nothing tt)) (parameter_read p n l w)

module _ (R : Rule Tok Parameter) (item : (p : Parameter) → is_parameter p ≡ true → Reading R.texts p (parameter_text p)) where
  more_parameters : (ps : List Parameter) → list_all is_parameter ps ≡ true → More R.texts ps (more_of (map parameter_text ps))
  more_parameters [] w = no_more
  more_parameters (p ∷ ps) w = let k = and_parts (is_parameter p) (list_all is_parameter ps) w in more (item p k.0) (more_parameters ps k.1)

  parameters_read : (ps : List Parameter) → list_all is_parameter ps ≡ true → Reading (parameters R).texts ps (commas (map parameter_text ps) ++ 41 ∷ [])
  parameters_read [] w = via (λ ts rest g. inl (tt, refl, g)) (signed say_close)
  parameters_read (p ∷ ps) w =
      let k = and_parts (is_parameter p) (list_all is_parameter ps) w in
      via (λ ts rest g. inr g) (closing (list_read R (item p k.0) (more_parameters ps k.1)))

traits_read : Reading traits.texts tt []
traits_read = via (λ ts rest g. first g) (nothing tt)

module _ (n : ℕ) (body : Rule Tok Statement) (x : List ℕ) (good : is_name x ≡ true) {s : Statement} {w : List ℕ} (rb : Reading body.texts s w) where
  pub function_read : (ps : List Parameter) (k : SqlType) → 0 < n → 0 < pred n → list_all is_parameter ps ≡ true → is_type k ≡ true
      → Reading (create n body).texts (create_function (program x ps (Some k) s)) (codes "CREATE FUNCTION " ++ (name_text x ++ codes "(" ++ commas (map parameter_text ps) ++ codes ")" ++ (codes " RETURNS " ++ type_of k) ++ codes " " ++ w))
  function_read ps k l m wp wk =
      let head : Reading (function n).texts (heads.Function x ps k) (name_text x ++ (40 ∷ ((commas (map parameter_text ps) ++ 41 ∷ []) ++ (codes " RETURNS " ++ type_of k)))) =
      then' (λ f rest. heads.Function f rest.0 rest.1) (name_read x good) (then' paired (in_parens (parameters (parameter (pred n))) n l (parameters_read (parameter (pred n)) (λ p h. parameter_read p (pred n) m h) ps wp))
      (spaced (key_then say_returns (then_nothing (λ t u. t) (type_read k n l wk) traits_read))) refl) refl in
      written (key_then say_create (via (λ ts rest g. inr g) (then' with_body (via (λ ts rest g. inl g) (key_then say_function head)) (spaced rb) refl)))
      (ap (λ z. codes "CREATE FUNCTION " ++ z) (function_line (name_text x) (commas (map parameter_text ps)) (type_of k) w))

  pub procedure_read : (ps : List Parameter) → 0 < n → 0 < pred n → list_all is_parameter ps ≡ true
      → Reading (create n body).texts (create_procedure (program x ps None s)) (codes "CREATE PROCEDURE " ++ (name_text x ++ codes "(" ++ commas (map parameter_text ps) ++ codes ")" ++ [] ++ codes " " ++ w))
  procedure_read ps l m wp =
      let head : Reading (procedure n).texts (heads.Procedure x ps) (name_text x ++ (40 ∷ (commas (map parameter_text ps) ++ 41 ∷ []))) =
      then' heads.Procedure (name_read x good) (then_nothing (λ t u. t) (in_parens (parameters (in_parameter (pred n))) n l (parameters_read (in_parameter (pred n)) (λ p h. in_parameter_read p (pred n) m h) ps wp)) traits_read) refl in
      written (key_then say_create (via (λ ts rest g. inr g) (then' with_body (via (λ ts rest g. inr (inl g)) (key_then say_procedure head)) (spaced rb) refl)))
      (ap (λ z. codes "CREATE PROCEDURE " ++ z) (procedure_line (name_text x) (commas (map parameter_text ps)) w))

-- the words of a trigger's time and event
abbrev time_word : Time → List ℕ
time_word Time.Before = codes "BEFORE"
time_word Time.After = codes "AFTER"

abbrev cause_word : Cause → List ℕ
cause_word Cause.Insert = codes "INSERT"
cause_word Cause.Update = codes "UPDATE"
cause_word Cause.Delete = codes "DELETE"

time_same : (t : Time) → time_text t ≡ 32 ∷ (time_word t ++ 32 ∷ [])
time_same Time.Before = refl
time_same Time.After = refl

cause_same : (c : Cause) → cause_text c ≡ cause_word c ++ codes " ON "
cause_same Cause.Insert = refl
cause_same Cause.Update = refl
cause_same Cause.Delete = refl

time_read : (t : Time) → Reading time.texts t (time_word t)
time_read Time.Before = via (λ ts rest g. inl (tt, refl, g)) (kw say_before)
time_read Time.After = via (λ ts rest g. inr (tt, refl, g)) (kw say_after)

cause_read : (c : Cause) → Reading event.texts c (cause_word c)
cause_read Cause.Insert = via (λ ts rest g. inl (tt, refl, g)) (kw say_insert)
cause_read Cause.Update = via (λ ts rest g. inr (inl (tt, refl, g))) (kw say_update)
cause_read Cause.Delete = via (λ ts rest g. inr (inr (tt, refl, g))) (kw say_delete)

each_row_read : Reading each_row.texts tt (codes "FOR EACH ROW")
each_row_read = key_then say_for (key_then say_each (kw say_row))

pub trigger_read : (n : ℕ) (body : Rule Tok Statement) (x : List ℕ) (time' : Time) (cause : Cause) (t : List ℕ) {s : Statement} {w : List ℕ} → is_name x ≡ true → is_name t ≡ true → Reading body.texts s w
    → Reading (create n body).texts (create_trigger (trigger x time' cause t s)) (codes "CREATE TRIGGER " ++ (name_text x ++ time_text time' ++ cause_text cause ++ name_text t ++ codes " FOR EACH ROW " ++ w))
trigger_read n body x time' cause t {w = w} good well rb =
    let head : Reading triggered.texts (heads.Trigger x time' cause t) (name_text x ++ (32 ∷ (time_word time' ++ (32 ∷ (cause_word cause ++ (32 ∷ (codes "ON " ++ (name_text t ++ (32 ∷ codes "FOR EACH ROW"))))))))) =
    then' trigger_of (name_read x good) (spaced (then' paired (time_read time') (spaced (then' paired (cause_read cause) (spaced (key_then say_on (then' (λ a u. a) (name_read t well) (spaced each_row_read) refl))) refl)) refl)) refl in
    written (key_then say_create (via (λ ts rest g. inr g) (then' with_body (via (λ ts rest g. inr (inr g)) (key_then say_trigger head)) (spaced rb) refl)))
    (ap (λ z. codes "CREATE TRIGGER " ++ (name_text x ++ z ++ cause_text cause ++ name_text t ++ codes " FOR EACH ROW " ++ w)) (time_same time')
    ∙ (ap (λ z. codes "CREATE TRIGGER " ++ (name_text x ++ (32 ∷ (time_word time' ++ 32 ∷ [])) ++ z ++ name_text t ++ codes " FOR EACH ROW " ++ w)) (cause_same cause)
    ∙ ap (λ z. codes "CREATE TRIGGER " ++ z) (trigger_line (name_text x) (time_word time') (cause_word cause) (name_text t) w)))

pub create_table_read : (t : CreateTable) (n : ℕ) (body : Rule Tok Statement) → 0 < n → 0 < pred n → is_well_step (create_table t) ≡ true → Reading (create n body).texts (create_table t) (spelling (create_table t))
create_table_read t n body l m w = key_then say_create (via (λ ts rest g. inl (t, refl, g)) (table_read t n l m w))

-- ---- statements outside and inside programs
abbrev pub is_common : Statement → Bool
is_common (create_table t) = false
is_common (create_function p) = false
is_common (create_procedure p) = false
is_common (create_trigger t) = false
is_common begin = false
is_common (block ds ss) = false
is_common (if_steps bs o) = false
is_common (while_steps c ss) = false
is_common (return_value t) = false
is_common _ = true

pub common_read : (s : Statement) (n : ℕ) → is_common s ≡ true → 2 * depth_of s ≤ n → is_well_step s ≡ true → Reading (common n).texts s (spelling s)
common_read (create_table t) n c l w = cc
common_read (create_function p) n c l w = cc
common_read (create_procedure p) n c l w = cc
common_read (create_trigger t) n c l w = cc
common_read begin n c l w = cc
common_read (block ds ss) n c l w = cc
common_read (if_steps bs o) n c l w = cc
common_read (while_steps e ss) n c l w = cc
common_read (return_value t) n c l w = cc
common_read (drop_table x) n c l w = via (λ ts rest g. inl g) (drop_table_read x w)
common_read (drop_function x) n c l w = via (λ ts rest g. inl g) (drop_function_read x w)
common_read (drop_procedure x) n c l w = via (λ ts rest g. inl g) (drop_procedure_read x w)
common_read (drop_trigger x) n c l w = via (λ ts rest g. inl g) (drop_trigger_read x w)
common_read (truncate x) n c l w = via (λ ts rest g. inr (inl g)) (truncate_read x w)
common_read (insert_into ignored t cs from us) n c l w =
    let p = and_parts (is_name t && are_names_if cs && is_well_supply from) (list_all is_well_set us) w in
    let q = and_parts (is_name t && are_names_if cs) (is_well_supply from) p.0 in
    let r = and_parts (is_name t) (are_names_if cs) q.0 in
    via (λ ts rest g. inr (inr (inl (inl g)))) (insert_read n t cs from (omega (arith, l)) r.0 r.1 (omega (arith, l)) q.1 us (omega (arith, l)) p.1 ignored)
common_read (replace_into t cs from) n c l w =
    let q = and_parts (is_name t && are_names_if cs) (is_well_supply from) w in
    let r = and_parts (is_name t) (are_names_if cs) q.0 in
    via (λ ts rest g. inr (inr (inl (inr (inl g))))) (replace_read n t cs from (omega (arith, l)) r.0 r.1 (omega (arith, l)) q.1)
common_read (update_rows t ss e os o) n c l w =
    let p = and_parts (is_name t && has_item ss && list_all is_well_set ss && is_well_part e && are_well_orders os) (is_count_if o) w in
    let q = and_parts (is_name t && has_item ss && list_all is_well_set ss && is_well_part e) (are_well_orders os) p.0 in
    let r = and_parts (is_name t && has_item ss && list_all is_well_set ss) (is_well_part e) q.0 in
    let k = and_parts (is_name t && has_item ss) (list_all is_well_set ss) r.0 in
    let j = and_parts (is_name t) (has_item ss) k.0 in
    via (λ ts rest g. inr (inr (inl (inr (inr (inl g)))))) (update_read n t e os o j.0 (omega (arith, l)) r.1 (omega (arith, l)) q.1 p.1 ss j.1 (omega (arith, l)) k.1)
common_read (delete_rows t e os o) n c l w =
    let p = and_parts (is_name t && is_well_part e && are_well_orders os) (is_count_if o) w in
    let q = and_parts (is_name t && is_well_part e) (are_well_orders os) p.0 in
    let r = and_parts (is_name t) (is_well_part e) q.0 in
    via (λ ts rest g. inr (inr (inl (inr (inr (inr g)))))) (delete_read n t e os o r.0 (omega (arith, l)) r.1 (omega (arith, l)) q.1 p.1)
common_read (select q) n c l w = via (λ ts rest g. inr (inr (inr (inl (q, refl, g))))) (select_read q n (omega (arith, l)) w)
common_read (evaluate ts) n c l w =
    let p = and_parts (has_tree ts) (are_well_trees ts) w in
    via (λ us rest g. inr (inr (inr (inr (inl g))))) (do_read ts n p.0 (omega (arith, l)) p.1)
common_read (set_all as') n c l w =
    let p = and_parts (has_item as') (list_all is_well_assignment as') w in
    via (λ us rest g. inr (inr (inr (inr (inr (inl g)))))) (set_read as' n p.0 (omega (arith, l)) p.1)
common_read (call_procedure x ts) n c l w =
    let p = and_parts (is_name x) (are_well_trees ts) w in
    via (λ us rest g. inr (inr (inr (inr (inr (inr (inl g))))))) (call_statement_read x ts n p.0 (omega (arith, l)) (omega (arith, l)) p.1)
common_read commit n c l w = via (λ us rest g. inr (inr (inr (inr (inr (inr (inr g))))))) commit_read
common_read rollback n c l w = via (λ us rest g. inr (inr (inr (inr (inr (inr (inr g))))))) rollback_read
common_read (savepoint x) n c l w = via (λ us rest g. inr (inr (inr (inr (inr (inr (inr g))))))) (savepoint_read x w)
common_read (rollback_to x) n c l w = via (λ us rest g. inr (inr (inr (inr (inr (inr (inr g))))))) (rollback_to_read x w)
common_read (release_savepoint x) n c l w = via (λ us rest g. inr (inr (inr (inr (inr (inr (inr g))))))) (release_read x w)

-- ---- statements in programs, by the number of constructs that may still be opened
abbrev rest_of : ℕ → Rule Tok Statement
rest_of zero = refused
rest_of (suc n) = inner n

module _ {s : Statement} {w : List ℕ} where
  inner_at : (n : ℕ) → Reading (inner_core n (rest_of n)).texts s w → Reading (inner n).texts s w
  unfolding inner created_within
  inner_at zero r = via (λ ts rest g. (zero, g)) r
  inner_at (suc n) r = via (λ ts rest g. (zero, g)) r

  pub inner_opened : (n : ℕ) → 0 < n → ((m : ℕ) → m ≡ pred n → Reading (inner_core (suc m) (inner m)).texts s w) → Reading (inner n).texts s w
  inner_opened zero l f = absurd (omega (arith, l))
  inner_opened (suc n) l f = inner_at (suc n) (f n refl)

-- a CREATE with its body, as one more CREATE around those in it
module _ (n : ℕ) (r : Rule Tok Statement) where
  created_more : (m : ℕ) (s : Statement) (ts rest : List Tok) → (create n (created_within m n r)).texts s ts rest → (created_within (suc m) n r).texts s ts rest
  unfolding created_within
  created_more m s ts rest g = inl g

as_created : (n : ℕ) (r all : Rule Tok Statement) → ((s : Statement) (ts rest : List Tok) → all.texts s ts rest → (m : ℕ) × (created_within m n r).texts s ts rest)
    → (s : Statement) (ts rest : List Tok) → (create n all).texts s ts rest → (m : ℕ) × (created_within m n r).texts s ts rest
as_created n r all f s ts rest g = elim g.5 [
  | inl h ↦ (1, created_more n r 0 s ts rest (g.0, g.1, g.2, g.3, g.4, inl h))
  | inr h ↦ (let k = f h.1 h.2 rest h.5 in (suc k.0, created_more n r k.0 s ts rest (g.0, g.1, g.2, g.3, g.4, inr (h.0, h.1, h.2, h.3, h.4, k.1))))
]

pub created_inner : (n : ℕ) (s : Statement) (ts rest : List Tok) → (create n (inner n)).texts s ts rest → (inner n).texts s ts rest
unfolding inner
created_inner zero s ts rest g = as_created zero (inner_core zero refused) (inner zero) (λ u vs end h. h) s ts rest g
created_inner (suc n) s ts rest g = as_created (suc n) (inner_core (suc n) (inner n)) (inner (suc n)) (λ u vs end h. h) s ts rest g

-- ---- blocks, IF, WHILE and RETURN, for any rule inside
declared_read : (ns : List (List ℕ)) (k : SqlType) (d : Part) (n : ℕ) → 0 < n → are_names ns ≡ true → is_type k ≡ true → 2 * depth_of_part d ≤ n → is_well_part d ≡ true
    → Sure (declaration n).texts (declared_as ns (k, d)) (codes "DECLARE " ++ names_of ns ++ codes " " ++ type_of k ++ default_text d ++ codes "; ")
declared_read ns k no_part n l wn wk ld wd =
    sure_written (key_sure say_declare (ended_sure (then' declared_as (names_read ns wn) (spaced (then' paired (type_read k n l wk) (via (λ ts rest g. inr g) (nothing no_part)) refl)) refl))) (declaration_line (names_of ns) (type_of k) [])
declared_read ns k (part t) n l wn wk ld wd =
    sure_written (key_sure say_declare (ended_sure (then' declared_as (names_read ns wn) (spaced (then' paired (type_read k n l wk)
    (spaced (via (λ ts rest g. inl (t, refl, g)) (key_then say_default (whole_of n (tree_read t n ld wd))))) refl)) refl))) (declaration_line (names_of ns) (type_of k) (codes " DEFAULT " ++ tree_text t))

declaration_read : (d : Declared) (n : ℕ) → 0 < n → 2 * depth_of_part d.preset ≤ n → is_well_declaration d ≡ true → Sure (declaration n).texts d (declaration_text d)
declaration_read d n l ld w =
    let p = and_parts (are_names d.names && is_type d.kind) (is_well_part d.preset) w in
    let q = and_parts (are_names d.names) (is_type d.kind) p.0 in
    declared_read d.names d.kind d.preset n l q.0 q.1 ld p.1

declaration_rows : (ds : List Declared) (n : ℕ) → 0 < n → 2 * depth_of_declarations ds ≤ n → list_all is_well_declaration ds ≡ true → SureRows (declaration n).texts ds (declarations_text ds)
declaration_rows [] n l ld w = no_sure
declaration_rows (d ∷ ds) n l ld w =
    let p = and_parts (is_well_declaration d) (list_all is_well_declaration ds) w in
    sure_row (declaration_read d n l (omega (arith, ld)) p.0) (declaration_rows ds n l (omega (arith, ld)) p.1)

abbrev pub statement_list : Statements → List Statement
statement_list no_statement = []
statement_list (statement s ss) = s ∷ statement_list ss

pub statements_same : (ss : Statements) → statements_of (statement_list ss) ≡ ss
statements_same no_statement = refl
statements_same (statement s ss) = ap (statement s) (statements_same ss)

module _ (r : Rule Tok Statement) where
  pub one_step_read : {s : Statement} {w : List ℕ} → Reading r.texts s w → Sure (a_step r).texts s (w ++ codes "; ")
  one_step_read rs = ended_sure rs

  pub steps_read : {s : Statement} {ss : Statements} {w v : List ℕ} → Sure (a_step r).texts s w → SureRows (a_step r).texts (statement_list ss) v → Sure (steps' r).texts (statement s ss) (w ++ v)
  steps_read {s = s} {ss = ss} rs m = sure_via (λ ts rest g. (s ∷ statement_list ss, sym (ap (statement s) (statements_same ss)), g)) (sure_chain (sure_via (λ ts rest g. (s, refl, g)) rs) m)

  pub block_read : (n : ℕ) (ds : List Declared) (ss : Statements) {v : List ℕ} → 0 < n → 2 * depth_of_declarations ds ≤ n → list_all is_well_declaration ds ≡ true → SureRows (a_step r).texts (statement_list ss) v
      → Reading (block_body n r).texts (block ds ss) (declarations_text ds ++ v ++ codes "END")
  block_read n ds ss {v = v} l ld wd m =
      let declared : Sure (Chain then_one (Pure []) (λ a. (declaration n).texts)) ds (declarations_text ds) = sure_repeated (declaration_rows ds n l ld wd) in
      let steps : Sure (steps_if r).texts ss v = sure_via (λ ts rest g. (statement_list ss, sym (statements_same ss), g)) (sure_repeated m) in
      written (sure_then block declared (sure_then (λ a u. a) steps (kw say_end))) (simp append_assoc)

  pub branch_read : (n : ℕ) {c : Tree} {ss : Statements} {w v : List ℕ} → Reading (expression n).texts c w → Sure (steps' r).texts ss v → Sure (a_branch n r).texts (c, ss) (w ++ codes " THEN " ++ v)
  branch_read n {w = w} {v = v} rc rs = sure_written (then_sure paired rc (sure_spaced (key_sure say_then rs)) refl) (append_assoc w (codes " THEN ") v)

  pub no_otherwise_read : Sure (otherwise r).texts no_else []
  no_otherwise_read = sure_via (λ ts rest g. inr g) (sure_nothing no_else)

  pub otherwise_read : {ss : Statements} {v : List ℕ} → Sure (steps' r).texts ss v → Sure (otherwise r).texts (else_steps ss) (codes "ELSE " ++ v)
  otherwise_read {ss = ss} rs = sure_via (λ ts rest g. inl (ss, refl, g)) (key_sure say_else rs)

  pub while_read : (n : ℕ) {c : Tree} {ss : Statements} {w v : List ℕ} → Reading (expression n).texts c w → Sure (steps' r).texts ss v → Reading (while_body n r).texts (while_steps c ss) (w ++ codes " DO " ++ v ++ codes "END WHILE")
  while_read n rc rs = written (then' while_steps rc (spaced (key_then say_do (sure_then (λ a u. a) rs (key_then say_end (kw say_while))))) refl) (simp append_assoc)

-- ---- openings
module _ (m : ℕ) (r : Rule Tok Statement) {s : Statement} {w : List ℕ} where
  pub begin_opened : Reading (block_body m r).texts s w → Reading (inner_core (suc m) r).texts s (codes "BEGIN " ++ w)
  begin_opened rb = via (λ ts rest g. inl g) (opened_said (any_of kind (code words.Begin)) (λ u a. a) (block_body m r) (suc m) (omega arith) say_begin (key_token words.Begin) (spaced rb) refl)

  pub if_opened : Reading (if_body m r).texts s w → Reading (inner_core (suc m) r).texts s (codes "IF " ++ w)
  if_opened rb = via (λ ts rest g. inr (inl g)) (opened_said (any_of kind (code words.If)) (λ u a. a) (if_body m r) (suc m) (omega arith) say_if (key_token words.If) (spaced rb) refl)

  pub while_opened : Reading (while_body m r).texts s w → Reading (inner_core (suc m) r).texts s (codes "WHILE " ++ w)
  while_opened rb = via (λ ts rest g. inr (inr (inl g))) (opened_said (any_of kind (code words.While)) (λ u a. a) (while_body m r) (suc m) (omega arith) say_while (key_token words.While) (spaced rb) refl)

pub return_read : (n : ℕ) {t : Tree} {w : List ℕ} → Reading (expression n).texts t w → Reading (inner n).texts (return_value t) (codes "RETURN " ++ w)
return_read n {t = t} rt = inner_at n (via (λ ts rest g. inr (inr (inr (inl g)))) (key_then say_return (via (λ ts rest g. (t, refl, g)) rt)))

pub common_inner : (n : ℕ) {s : Statement} {w : List ℕ} → Reading (common n).texts s w → Reading (inner n).texts s w
common_inner n r = inner_at n (via (λ ts rest g. inr (inr (inr (inr g)))) r)
