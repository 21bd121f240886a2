-- Stored programs and whole statements are well, of good tokens.
use Rattle.std.proofs.Common.{◌≡◌, ℕ, zero, suc, pred, true, List, [], ◌∷◌, refl}
use Rattle.std.proofs.lemmas.Bool.{and_from, or_right}
use Rattle.std.specs.Prelude.{◌&&◌}
use Rattle.std.specs.List.{list_all}
use Rattle.sql_lex.specs.declared.keyword.Keyword.TheVariants as words
use Rattle.sql_lex.specs.declared.token.Symbol.TheVariants as signs
use Rattle.sql_grammar.specs.Rule.{Rule, refused}
use Rattle.sql_tree.specs.Tree.{Tree, Part, no_part, part}
use Rattle.sql_tree.specs.Statement.{Statement, Statements, create_table, select as select_rows, begin, block, if_steps, while_steps, return_value, Otherwise, no_else, else_steps, Declared}
use Rattle.sql_tree.specs.declared.statements.SqlType.{SqlType}
use Rattle.sql_tree.specs.declared.statements.Parameter.{Parameter}
use Rattle.sql_tree.specs.declared.statements.Time.{Time}
use Rattle.sql_tree.specs.declared.statements.Cause.{Cause}
use Rattle.sql_tree.specs.Well.{is_name, are_names, is_type, is_parameter, is_well_tree, is_well_part, is_well_declaration, has_statement, is_begin, stands_alone, is_well_step, are_well_steps, are_well_branches, is_well_otherwise, is_whole}
use Rattle.sql_syntax.specs.Tokens.{Tok, code}
use Rattle.sql_syntax.specs.Parts.{list_of}
use Rattle.sql_syntax.specs.declared.heads.Head.{Head}
use Rattle.sql_syntax.specs.declared.heads.Head.TheVariants as heads
use Rattle.sql_syntax.specs.Programs.{with_body, parameter, in_parameter, parameters, trait', traits, function, procedure, time, event, trigger_of, each_row, triggered, head, create, created_within, common, statements_of, a_step, steps', steps_if, declared_as, declaration, block_body, branches_of, a_branch, otherwise, if_body, while_body, inner_core, inner_by, inner}
use Rattle.sql_syntax.specs.Statements.{statement as whole_statement}
use Rattle.sql_text.proofs.Good.{Gives, Any, Pair, Each, Some', each_all, weaker, either_gives, pure_gives, optional_gives, mapped_gives, paired_gives, both_gives, behind_gives, before_gives, chain_gives, rows_give, repeated_gives, keyword_gives, sign_gives, key_gives, opened_gives}
use Rattle.sql_text.proofs.GoodParts.{Name, Well, name_well, list_well, closed_well, parens_well, names_well}
use Rattle.sql_text.proofs.GoodSelects.{WellPart}
use Rattle.sql_text.proofs.GoodExpressions.{expression_well, select_well}
use Rattle.sql_text.proofs.GoodTables.{WellType, type_well, table_well}
use Rattle.sql_text.proofs.GoodChanges.{Common, change_well, set_well, do_well, call_well, drop_well, truncated_well, transaction_well}

-- a statement inside a program
abbrev Step : Statement → Type 0
Step s = is_well_step s ≡ true

-- ---- heads
abbrev WellParameter : Parameter → Type 0
WellParameter p = is_parameter p ≡ true

abbrev WellParameters : List Parameter → Type 0
WellParameters ps = list_all is_parameter ps ≡ true

abbrev HeadWell : Head → Type 0
HeadWell (heads.Function n ps k) = Name n × WellParameters ps × WellType k
HeadWell (heads.Procedure n ps) = Name n × WellParameters ps
HeadWell (heads.Trigger n t e on) = Name n × Name on

with_good : (h : Head) (s : Statement) → HeadWell h → Step s → Common (with_body h s)
with_good (heads.Function n ps k) s p q =
    (refl, and_from (is_name n && list_all is_parameter ps && is_type k) (is_well_step s) (and_from (is_name n && list_all is_parameter ps) (is_type k) (and_from (is_name n) (list_all is_parameter ps) p.0 p.1) p.2) q)
with_good (heads.Procedure n ps) s p q =
    (refl, and_from (is_name n && list_all is_parameter ps && true) (is_well_step s) (and_from (is_name n && list_all is_parameter ps) true (and_from (is_name n) (list_all is_parameter ps) p.0 p.1) refl) q)
with_good (heads.Trigger n t e on) s p q = (refl, and_from (is_name n && is_name on) (is_well_step s) (and_from (is_name n) (is_name on) p.0 p.1) q)

parameter_well : (n : ℕ) → Gives WellParameter (parameter n).texts
parameter_well n = both_gives (λ c k. record { name = c; kind = k }) (λ c k p q. and_from (is_name c) (is_type k) p q) name_well (type_well n)

in_parameter_well : (n : ℕ) → Gives WellParameter (in_parameter n).texts
in_parameter_well n = behind_gives (optional_gives tt tt (keyword_gives words.In)) (parameter_well n)

some_parameters : (ps : List Parameter) → Some' WellParameter ps → WellParameters ps
some_parameters [] g = absurd g
some_parameters (p ∷ ps) g = each_all is_parameter (p ∷ ps) g

parameters_well : (r : Rule Tok Parameter) → Gives WellParameter r.texts → Gives WellParameters (parameters r).texts
parameters_well r q = either_gives (mapped_gives (λ u. []) (λ u p. refl) (sign_gives signs.Close)) (closed_well (list_of r) (weaker some_parameters (list_well r q)))

trait_well : Gives Any trait'.texts
trait_well =
    either_gives (key_gives (keyword_gives words.Deterministic) words.Not) (
    either_gives (keyword_gives words.Deterministic) (
    either_gives (key_gives (keyword_gives words.Sql) words.No) (
    either_gives (key_gives (keyword_gives words.Sql) words.Contains) (
    either_gives (key_gives (key_gives (keyword_gives words.Data) words.Sql) words.Reads) (
    key_gives (key_gives (keyword_gives words.Data) words.Sql) words.Modifies)))))

traits_well : Gives Any traits.texts
traits_well = chain_gives {P = Any} {Q = Any} (λ u v. tt) (λ u v p q. tt) (pure_gives tt tt) (λ a. trait_well)

function_good : (f : List ℕ) (x : List Parameter × SqlType) → Name f → Pair WellParameters WellType x → HeadWell (heads.Function f x.0 x.1)
function_good f x p q = (p, q.0, q.1)

function_well : (n : ℕ) → Gives HeadWell (function n).texts
function_well n =
    both_gives (λ f rest. heads.Function f rest.0 rest.1) function_good name_well (
    paired_gives (parens_well n (parameters (parameter (pred n))) (parameters_well (parameter (pred n)) (parameter_well (pred n)))) (key_gives (before_gives (type_well n) traits_well) words.Returns))

procedure_good : (f : List ℕ) (ps : List Parameter) → Name f → WellParameters ps → HeadWell (heads.Procedure f ps)
procedure_good f ps p q = (p, q)

procedure_well : (n : ℕ) → Gives HeadWell (procedure n).texts
procedure_well n =
    both_gives heads.Procedure procedure_good name_well (before_gives (parens_well n (parameters (in_parameter (pred n))) (parameters_well (in_parameter (pred n)) (in_parameter_well (pred n)))) traits_well)

time_well : Gives Any time.texts
time_well = either_gives (mapped_gives (λ u. Time.Before) (λ u p. tt) (keyword_gives words.Before)) (mapped_gives (λ u. Time.After) (λ u p. tt) (keyword_gives words.After))

event_well : Gives Any event.texts
event_well =
    either_gives (mapped_gives (λ u. Cause.Insert) (λ u p. tt) (keyword_gives words.Insert)) (
    either_gives (mapped_gives (λ u. Cause.Update) (λ u p. tt) (keyword_gives words.Update)) (mapped_gives (λ u. Cause.Delete) (λ u p. tt) (keyword_gives words.Delete)))

trigger_good : (t : List ℕ) (x : Time × (Cause × List ℕ)) → Name t → Pair Any (Pair Any Name) x → HeadWell (trigger_of t x)
trigger_good t x p q = (p, q.1.1)

each_row_well : Gives Any each_row.texts
each_row_well = key_gives (key_gives (keyword_gives words.Row) words.Each) words.For

triggered_well : Gives HeadWell triggered.texts
triggered_well = both_gives trigger_of trigger_good name_well (paired_gives time_well (paired_gives event_well (key_gives (before_gives name_well each_row_well) words.On)))

head_well : (n : ℕ) → Gives HeadWell (head n).texts
head_well n = either_gives (key_gives (function_well n) words.Function) (either_gives (key_gives (procedure_well n) words.Procedure) (key_gives triggered_well words.Trigger))

-- ---- statements of any place
create_well : (n : ℕ) (r : Rule Tok Statement) → Gives Step r.texts → Gives Common (create n r).texts
create_well n r q = key_gives (either_gives (mapped_gives create_table (λ t p. (refl, p)) (table_well n)) (both_gives with_body with_good (head_well n) q)) words.Create

common_well : (n : ℕ) → Gives Common (common n).texts
common_well n =
    either_gives drop_well (
    either_gives truncated_well (
    either_gives (change_well n) (
    either_gives (mapped_gives select_rows (λ q p. (refl, p)) (select_well n)) (
    either_gives (do_well n) (
    either_gives (set_well n) (
    either_gives (call_well n) transaction_well))))))

common_step : (n : ℕ) → Gives Step (common n).texts
common_step n = weaker (λ s p. p.1) (common_well n)

-- ---- statements in programs
abbrev SomeSteps : Statements → Type 0
SomeSteps ss = (has_statement ss ≡ true) × (are_well_steps ss ≡ true)

abbrev WellDeclarations : List Declared → Type 0
WellDeclarations ds = list_all is_well_declaration ds ≡ true

each_step : (ss : List Statement) → Each Step ss → are_well_steps (statements_of ss) ≡ true
each_step [] g = refl
each_step (s ∷ ss) g = and_from (is_well_step s) (are_well_steps (statements_of ss)) g.0 (each_step ss g.1)

some_steps : (ss : List Statement) → Some' Step ss → SomeSteps (statements_of ss)
some_steps [] g = absurd g
some_steps (s ∷ ss) g = (refl, each_step (s ∷ ss) g)

-- a DECLARE that is well
abbrev WellDeclared : Declared → Type 0
WellDeclared d = is_well_declaration d ≡ true

declared_good : (ns : List (List ℕ)) (x : SqlType × Part) → are_names ns ≡ true → Pair WellType WellPart x → WellDeclared (declared_as ns x)
declared_good ns x p q = and_from (are_names ns && is_type x.0) (is_well_part x.1) (and_from (are_names ns) (is_type x.0) p q.0) q.1

declaration_well : (n : ℕ) → Gives WellDeclared (declaration n).texts
declaration_well n =
    key_gives (before_gives (both_gives declared_as declared_good names_well (paired_gives (type_well n) (
    optional_gives no_part refl (mapped_gives part (λ t p. p) (key_gives (expression_well n) words.Default))))) (sign_gives signs.Semicolon)) words.Declare

each_branch : (bs : List (Tree × Statements)) → Each (Pair Well SomeSteps) bs → are_well_branches (branches_of bs) ≡ true
each_branch [] g = refl
each_branch (b ∷ bs) g =
    and_from (is_well_tree b.0 && has_statement b.1 && are_well_steps b.1) (are_well_branches (branches_of bs))
    (and_from (is_well_tree b.0 && has_statement b.1) (are_well_steps b.1) (and_from (is_well_tree b.0) (has_statement b.1) g.0.0 g.0.1.0) g.0.1.1) (each_branch bs g.1)

if_good : (bs : List (Tree × Statements)) (o : Otherwise) → Some' (Pair Well SomeSteps) bs → is_well_otherwise o ≡ true → Step (if_steps (branches_of bs) o)
if_good [] o p q = absurd p
if_good (b ∷ bs) o p q = and_from (are_well_branches (branches_of (b ∷ bs))) (is_well_otherwise o) (each_branch (b ∷ bs) p) q

while_good : (c : Tree) (ss : Statements) → Well c → SomeSteps ss → Step (while_steps c ss)
while_good c ss p q = and_from (is_well_tree c && has_statement ss) (are_well_steps ss) (and_from (is_well_tree c) (has_statement ss) p q.0) q.1

block_good : (ds : List Declared) (ss : Statements) → WellDeclarations ds → are_well_steps ss ≡ true → Step (block ds ss)
block_good ds ss p q = and_from (list_all is_well_declaration ds) (are_well_steps ss) p q

module _ (r : Rule Tok Statement) (q : Gives Step r.texts) where
  step_well : Gives Step (a_step r).texts
  step_well = before_gives q (sign_gives signs.Semicolon)

  steps_well : Gives SomeSteps (steps' r).texts
  steps_well = mapped_gives statements_of some_steps (rows_give step_well (λ ss. step_well))

  steps_if_well : Gives (λ ss. are_well_steps ss ≡ true) (steps_if r).texts
  steps_if_well = mapped_gives statements_of each_step (repeated_gives (λ ss. step_well))

  block_well : (n : ℕ) → Gives Step (block_body n r).texts
  block_well n = both_gives block block_good (weaker (each_all is_well_declaration) (repeated_gives (λ ds. declaration_well n))) (before_gives steps_if_well (keyword_gives words.End))

  branch_well : (n : ℕ) → Gives (Pair Well SomeSteps) (a_branch n r).texts
  branch_well n = paired_gives (expression_well n) (key_gives steps_well words.Then)

  otherwise_well : Gives (λ o. is_well_otherwise o ≡ true) (otherwise r).texts
  otherwise_well = optional_gives no_else refl (mapped_gives else_steps (λ ss p. and_from (has_statement ss) (are_well_steps ss) p.0 p.1) (key_gives steps_well words.Else))

  if_well : (n : ℕ) → Gives Step (if_body n r).texts
  if_well n =
      before_gives (both_gives (λ bs o. if_steps (branches_of bs) o) if_good (rows_give (branch_well n) (λ bs. key_gives (branch_well n) words.Elseif)) otherwise_well) (key_gives (keyword_gives words.If) words.End)

  while_well : (n : ℕ) → Gives Step (while_body n r).texts
  while_well n = both_gives while_steps while_good (expression_well n) (key_gives (before_gives steps_well (key_gives (keyword_gives words.While) words.End)) words.Do)

  core_well : (n : ℕ) → Gives Step (inner_core n r).texts
  core_well n =
      either_gives (opened_gives n (code words.Begin) (λ u a. a) (block_body (pred n) r) (λ s p. p) (block_well (pred n))) (
      either_gives (opened_gives n (code words.If) (λ u a. a) (if_body (pred n) r) (λ s p. p) (if_well (pred n))) (
      either_gives (opened_gives n (code words.While) (λ u a. a) (while_body (pred n) r) (λ s p. p) (while_well (pred n))) (
      either_gives (key_gives (mapped_gives return_value (λ t p. p) (expression_well n)) words.Return) (common_step n))))

created_well : (m n : ℕ) (r : Rule Tok Statement) → Gives Step r.texts → Gives Step (created_within m n r).texts
unfolding created_within
created_well zero n r q = q
created_well (suc m) n r q = either_gives (weaker (λ s p. p.1) (create_well n (created_within m n r) (created_well m n r q))) q

inner_by_well : (n : ℕ) (r : Rule Tok Statement) → Gives Step r.texts → Gives Step (inner_by n r).texts
inner_by_well n r q = record { gives = λ s ts rest g x. (created_well x.0 n (inner_core n r) (core_well r q n)).gives s ts rest g x.1 }

nothing_gives : Gives Step (refused {T = Tok} {A = Statement}).texts
nothing_gives = record { gives = λ a ts rest g x. absurd x }

inner_well : (n : ℕ) → Gives Step (inner n).texts
unfolding inner
inner_well zero = inner_by_well zero refused nothing_gives
inner_well (suc d) = inner_by_well (suc d) (inner d) (inner_well d)

-- ---- whole statements
abbrev Whole : Statement → Type 0
Whole s = is_whole s ≡ true

common_whole : (s : Statement) → Common s → Whole s
common_whole s p = or_right (is_begin s) (stands_alone s && is_well_step s) (and_from (stands_alone s) (is_well_step s) p.0 p.1)

pub whole_well : (n : ℕ) → Gives Whole (whole_statement n).texts
whole_well n =
    either_gives (weaker common_whole (create_well n (inner n) (inner_well n))) (
    either_gives (key_gives (optional_gives begin refl (mapped_gives (λ u. begin) (λ u p. refl) (keyword_gives words.Work))) words.Begin) (
    either_gives (key_gives (mapped_gives (λ u. begin) (λ u p. refl) (keyword_gives words.Transaction)) words.Start) (weaker common_whole (common_well n))))
