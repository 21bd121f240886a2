-- Every well statement is read as it is written.
use Rattle.std.proofs.Common.{◌≡◌, ◌≤◌, ℕ, suc, ◌*◌, true, false, not, ◌&&◌, List, [], ◌∷◌, ◌++◌, Some, None, refl, sym, ap, arith, append_assoc, append-nil, inl, inr, codes, subst}
use Rattle.std.proofs.lemmas.Bool.{and_parts, leb-true}
use Rattle.std.specs.Prelude.{nat_le}
use Rattle.std.specs.List.{list_all}
use Rattle.sql_grammar.specs.Rule.{Rule, behind}
use Rattle.sql_lex.specs.declared.keyword.Keyword.TheVariants as words
use Rattle.sql_tree.specs.Tree.{Tree}
use Rattle.sql_tree.specs.Statement.{Statement, create_table, create_function, create_procedure, create_trigger, begin, block, if_steps, while_steps, return_value}
use Rattle.sql_tree.specs.Statement.{Statements, no_statement, statement, Branches, no_branch, branch, Otherwise, no_else, else_steps, Program, program, Trigger, trigger}
use Rattle.sql_tree.specs.Depth.{depth_of, depth_of_statements, depth_of_branches, depth_of_otherwise, depth_of_program, depth_of_trigger}
use Rattle.sql_tree.specs.Well.{is_name, is_type_if, is_parameter, is_well_tree, is_well_declaration, has_statement, has_result, is_well_step, are_well_steps, are_well_branches, is_well_otherwise, is_well_program, is_well_trigger, is_whole, IsWell}
use Rattle.sql_print.specs.StatementSpelling.{spelling, steps_text, more_branches_text, otherwise_text}
use Rattle.sql_syntax.specs.Tokens.{Tok, keyword}
use Rattle.sql_syntax.specs.Programs.{create, a_step, steps', branches_of, a_branch, otherwise, if_body, inner}
use Rattle.sql_syntax.specs.Statements.{statement as whole_statement}
use Rattle.sql_syntax.specs.Texts.{reads}
use Rattle.sql_syntax.proofs.TextLaws.{statement_once}
use Rattle.sql_text.proofs.Saying.{Says, end', says_statement}
use Rattle.sql_text.proofs.Reading.{Reading, via, written, valued}
use Rattle.sql_text.proofs.Sure.{Sure, sure_via, sure_then, sure_both, key_sure, SureRows, no_sure, sure_row, sure_chain}
use Rattle.sql_text.proofs.Written.{kw}
use Rattle.sql_text.proofs.Words.{say_elseif, say_end, say_if}
use Rattle.sql_text.proofs.Parts.{key_then}
use Rattle.sql_text.proofs.Levels.{whole_of}
use Rattle.sql_text.proofs.Trees.{tree_read}
use Rattle.sql_text.proofs.Sessions.{begin_read}
use Rattle.sql_text.proofs.Programs.{function_read, procedure_read, trigger_read, create_table_read, common_read, inner_opened, created_inner, statement_list, one_step_read, steps_read, block_read, branch_read, no_otherwise_read, otherwise_read, while_read, begin_opened, if_opened, while_opened, return_read, common_inner}

abbrev branch_list : Branches → List (Tree × Statements)
branch_list no_branch = []
branch_list (branch c ss bs) = (c, ss) ∷ branch_list bs

branches_same : (bs : Branches) → branches_of (branch_list bs) ≡ bs
branches_same no_branch = refl
branches_same (branch c ss bs) = ap (branch c ss) (branches_same bs)

-- what stands behind IF, from the texts of its branches
if_read : (n : ℕ) (r : Rule Tok Statement) (c : Tree) (ss : Statements) (bs : Branches) (o : Otherwise) (w v z : List ℕ) → Sure (a_branch n r).texts (c, ss) w
    → SureRows (behind (keyword words.Elseif) (a_branch n r)).texts (branch_list bs) v → Sure (otherwise r).texts o z → Reading (if_body n r).texts (if_steps (branch c ss bs) o) (w ++ v ++ z ++ codes "END IF")
if_read n r c ss bs o w v z rb m ro =
    let all : Reading (if_body n r).texts (if_steps (branches_of ((c, ss) ∷ branch_list bs)) o) (((w ++ v) ++ z) ++ codes "END IF") =
    sure_then (λ a u. a) (sure_both (λ b p. if_steps (branches_of b) p) (sure_chain (sure_via (λ ts rest g. ((c, ss), refl, g)) rb) m) ro) (key_then say_end (kw say_if)) in
    valued all (ap (λ b. if_steps (branch c ss b) o) (branches_same bs))

mutual
  -- a statement in a program
  step_read : (s : Statement) (n : ℕ) → 2 * depth_of s ≤ n → is_well_step s ≡ true → Reading (inner n).texts s (spelling s)
  step_read (create_table t) n l w = via (created_inner n (create_table t)) (create_table_read t n (inner n) (omega (arith, l)) (omega (arith, l)) w)
  step_read (create_function p) n l w =
      let k = and_parts (has_result p) (is_well_program p) w in
      via (created_inner n (create_function p)) (created_function p n k.0 (omega (arith, l)) k.1)
  step_read (create_procedure p) n l w =
      let k = and_parts (not (has_result p)) (is_well_program p) w in
      via (created_inner n (create_procedure p)) (created_procedure p n k.0 (omega (arith, l)) k.1)
  step_read (create_trigger t) n l w = via (created_inner n (create_trigger t)) (created_trigger t n (omega (arith, l)) w)
  step_read begin n l w = cc
  step_read (block ds ss) n l w =
      let p = and_parts (list_all is_well_declaration ds) (are_well_steps ss) w in
      inner_opened n (omega (arith, l)) (λ m e. written (begin_opened m (inner m) (block_read (inner m) m ds ss (omega (arith, l, e)) (omega (arith, l, e)) p.0 (rows_of_steps ss m (omega (arith, l, e)) p.1))) (simp append_assoc))
  step_read (if_steps no_branch o) n l w = cc
  step_read (if_steps (branch c ss bs) o) n l w =
      let p = and_parts (are_well_branches (branch c ss bs)) (is_well_otherwise o) w in
      let q = and_parts (is_well_tree c && has_statement ss && are_well_steps ss) (are_well_branches bs) p.0 in
      let r = and_parts (is_well_tree c && has_statement ss) (are_well_steps ss) q.0 in
      let k = and_parts (is_well_tree c) (has_statement ss) r.0 in
      inner_opened n (omega (arith, l)) (λ m e. written (if_opened m (inner m) (if_read m (inner m) c ss bs o _ _ _
      (branch_read (inner m) m (whole_of m (tree_read c m (omega (arith, l, e)) k.0)) (some_steps ss m k.1 (omega (arith, l, e)) r.1))
      (rows_of_branches bs m (omega (arith, l, e)) q.1)
      (else_read o m (omega (arith, l, e)) p.1))) (simp append_assoc))
  step_read (while_steps c ss) n l w =
      let r = and_parts (is_well_tree c && has_statement ss) (are_well_steps ss) w in
      let k = and_parts (is_well_tree c) (has_statement ss) r.0 in
      inner_opened n (omega (arith, l)) (λ m e. written (while_opened m (inner m) (while_read (inner m) m (whole_of m (tree_read c m (omega (arith, l, e)) k.0)) (some_steps ss m k.1 (omega (arith, l, e)) r.1))) (simp append_assoc))
  step_read (return_value t) n l w = return_read n (whole_of n (tree_read t n (omega (arith, l)) w))
  step_read s n l w = common_inner n (common_read s n refl l w)

  rows_of_steps : (ss : Statements) (n : ℕ) → 2 * depth_of_statements ss ≤ n → are_well_steps ss ≡ true → SureRows (a_step (inner n)).texts (statement_list ss) (steps_text ss)
  rows_of_steps no_statement n l w = no_sure
  rows_of_steps (statement s ss) n l w =
      let p = and_parts (is_well_step s) (are_well_steps ss) w in
      sure_row (one_step_read (inner n) (step_read s n (omega (arith, l)) p.0)) (rows_of_steps ss n (omega (arith, l)) p.1)

  some_steps : (ss : Statements) (n : ℕ) → has_statement ss ≡ true → 2 * depth_of_statements ss ≤ n → are_well_steps ss ≡ true → Sure (steps' (inner n)).texts ss (steps_text ss)
  some_steps no_statement n h l w = cc
  some_steps (statement s ss) n h l w =
      let p = and_parts (is_well_step s) (are_well_steps ss) w in
      steps_read (inner n) {ss = ss} (one_step_read (inner n) (step_read s n (omega (arith, l)) p.0)) (rows_of_steps ss n (omega (arith, l)) p.1)

  rows_of_branches : (bs : Branches) (n : ℕ) → 2 * depth_of_branches bs ≤ n → are_well_branches bs ≡ true → SureRows (behind (keyword words.Elseif) (a_branch n (inner n))).texts (branch_list bs) (more_branches_text bs)
  rows_of_branches no_branch n l w = no_sure
  rows_of_branches (branch c ss bs) n l w =
      let q = and_parts (is_well_tree c && has_statement ss && are_well_steps ss) (are_well_branches bs) w in
      let r = and_parts (is_well_tree c && has_statement ss) (are_well_steps ss) q.0 in
      let k = and_parts (is_well_tree c) (has_statement ss) r.0 in
      sure_row (key_sure say_elseif (branch_read (inner n) n (whole_of n (tree_read c n (omega (arith, l)) k.0)) (some_steps ss n k.1 (omega (arith, l)) r.1))) (rows_of_branches bs n (omega (arith, l)) q.1)

  else_read : (o : Otherwise) (n : ℕ) → 2 * depth_of_otherwise o ≤ n → is_well_otherwise o ≡ true → Sure (otherwise (inner n)).texts o (otherwise_text o)
  else_read no_else n l w = no_otherwise_read (inner n)
  else_read (else_steps ss) n l w = let p = and_parts (has_statement ss) (are_well_steps ss) w in otherwise_read (inner n) (some_steps ss n p.0 l p.1)

  created_function : (p : Program) (n : ℕ) → has_result p ≡ true → 2 * suc (depth_of_program p) ≤ n → is_well_program p ≡ true → Reading (create n (inner n)).texts (create_function p) (spelling (create_function p))
  created_function (program x ps None body) n h l w = cc
  created_function (program x ps (Some k) body) n h l w =
      let p = and_parts (is_name x && list_all is_parameter ps && is_type_if (Some k)) (is_well_step body) w in
      let q = and_parts (is_name x && list_all is_parameter ps) (is_type_if (Some k)) p.0 in
      let r = and_parts (is_name x) (list_all is_parameter ps) q.0 in
      function_read n (inner n) x r.0 (step_read body n (omega (arith, l)) p.1) ps k (omega (arith, l)) (omega (arith, l)) r.1 q.1

  created_procedure : (p : Program) (n : ℕ) → not (has_result p) ≡ true → 2 * suc (depth_of_program p) ≤ n → is_well_program p ≡ true → Reading (create n (inner n)).texts (create_procedure p) (spelling (create_procedure p))
  created_procedure (program x ps (Some k) body) n h l w = cc
  created_procedure (program x ps None body) n h l w =
      let p = and_parts (is_name x && list_all is_parameter ps && true) (is_well_step body) w in
      let q = and_parts (is_name x && list_all is_parameter ps) true p.0 in
      let r = and_parts (is_name x) (list_all is_parameter ps) q.0 in
      procedure_read n (inner n) x r.0 (step_read body n (omega (arith, l)) p.1) ps (omega (arith, l)) (omega (arith, l)) r.1

  created_trigger : (t : Trigger) (n : ℕ) → 2 * suc (depth_of_trigger t) ≤ n → is_well_trigger t ≡ true → Reading (create n (inner n)).texts (create_trigger t) (spelling (create_trigger t))
  created_trigger (trigger x time cause t body) n l w =
      let p = and_parts (is_name x && is_name t) (is_well_step body) w in
      let q = and_parts (is_name x) (is_name t) p.0 in
      trigger_read n (inner n) x time cause t q.0 q.1 (step_read body n (omega (arith, l)) p.1)

-- a whole statement
whole_read : (s : Statement) (n : ℕ) → 2 * depth_of s ≤ n → is_whole s ≡ true → Reading (whole_statement n).texts s (spelling s)
whole_read (create_table t) n l w = via (λ ts rest g. inl g) (create_table_read t n (inner n) (omega (arith, l)) (omega (arith, l)) w)
whole_read (create_function p) n l w =
    let k = and_parts (has_result p) (is_well_program p) w in
    via (λ ts rest g. inl g) (created_function p n k.0 l k.1)
whole_read (create_procedure p) n l w =
    let k = and_parts (not (has_result p)) (is_well_program p) w in
    via (λ ts rest g. inl g) (created_procedure p n k.0 l k.1)
whole_read (create_trigger t) n l w = via (λ ts rest g. inl g) (created_trigger t n l w)
whole_read begin n l w = via (λ ts rest g. inr (inl g)) begin_read
whole_read (block ds ss) n l w = cc
whole_read (if_steps bs o) n l w = cc
whole_read (while_steps c ss) n l w = cc
whole_read (return_value t) n l w = cc
whole_read s n l w = via (λ ts rest g. inr (inr (inr g))) (common_read s n refl l w)

-- ---- texts
pub print_is_read : (s : Statement) → IsWell s → reads (spelling s) s
print_is_read s well =
    let p = and_parts (is_whole s) (nat_le (depth_of s) 200) well in
    let l : depth_of s ≤ 200 = leb-true (depth_of s) 200 p.1 in
    let k = (whole_read s 400 (omega (arith, l)) p.0).read [] [] refl end' in
    let said : Says false (spelling s) k.0 = subst (λ (z : List ℕ). Says false z k.0) (append-nil (spelling s)) k.1 in
    (says_statement (spelling s) k.0 s said k.2, l)

pub print_is_its_own : (s t : Statement) → IsWell s → reads (spelling s) t → t ≡ s
print_is_its_own s t well r = statement_once (spelling s) t s r.0 (print_is_read s well).0

pub prints_differ : (s t : Statement) → IsWell s → IsWell t → spelling s ≡ spelling t → s ≡ t
prints_differ s t ws wt e = sym (print_is_its_own s t ws (subst (λ (z : List ℕ). reads z t) (sym e) (print_is_read t wt)))
