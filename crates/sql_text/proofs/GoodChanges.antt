-- INSERT, REPLACE, UPDATE, DELETE, SET and the statements beside them are well, of good tokens.
use Rattle.std.proofs.Common.{◌≡◌, ℕ, pred, Bool, true, false, List, [], ◌∷◌, Option, Some, None, refl}
use Rattle.std.proofs.lemmas.Bool.{and_from}
use Rattle.std.specs.Prelude.{◌&&◌, if◌then◌else◌, unwrap_or}
use Rattle.std.specs.List.{list_all}
use Rattle.val_types.specs.declared.value.Value.TheVariants.{Text}
use Rattle.sql_lex.specs.declared.keyword.Keyword.{Keyword}
use Rattle.sql_lex.specs.declared.keyword.Keyword.TheVariants as words
use Rattle.sql_lex.specs.declared.token.Symbol.TheVariants as signs
use Rattle.sql_grammar.specs.Rule.{Rule, mapped, paired}
use Rattle.sql_tree.specs.Tree.{Tree, Trees, no_tree, Part, Orders}
use Rattle.sql_tree.specs.Statement.{Statement, Supply, rows, rows_of, drop_table, drop_function, drop_procedure, drop_trigger, truncate, evaluate, set_all, call_procedure, commit, rollback, savepoint, rollback_to, release_savepoint}
use Rattle.sql_tree.specs.declared.expressions.Count.{Count}
use Rattle.sql_tree.specs.declared.statements.Target.{Target}
use Rattle.sql_tree.specs.Well.{is_name, are_names_if, has_tree, is_literal, is_well_tree, are_well_trees, is_well_part, are_well_orders, is_count_if, has_item, is_well_row, is_well_supply, is_well_set, is_target, is_well_assignment, stands_alone, is_well_step}
use Rattle.sql_syntax.specs.Tokens.{Tok, code}
use Rattle.sql_syntax.specs.Parts.{a_name, exprs, closed, arguments}
use Rattle.sql_syntax.specs.Changes.{set_item, sets, ignore, into, columns, a_row, values_word, source, on_duplicate, inserted, replaced, chosen, updated, deleted, change}
use Rattle.sql_syntax.specs.Sessions.{new_by, target, format_word, format_said, is_format, format_or, assigned, assignment, set, do_exprs, call, drop, truncated, savepoint_name, transaction}
use Rattle.sql_syntax.specs.Tokens.{keyword_said}
use Rattle.sql_syntax.specs.Expressions.{expression}
use Rattle.sql_text.proofs.Good.{Gives, Any, Pair, Each, Some', IfSome, weaker, either_gives, optional_gives, mapped_gives, tokens_give, paired_gives, both_gives, behind_gives, keyword_gives, sign_gives, key_gives, mark_gives}
use Rattle.sql_text.proofs.GoodParts.{Name, Well, Wells, name_well, but_well, word_name_well, list_well, closed_well, parens_well, names_in_well, exprs_well, arguments_well}
use Rattle.sql_text.proofs.GoodSelects.{WellPart, WellOrders, WellCount, where_well, order_well, limit_well}
use Rattle.sql_text.proofs.GoodExpressions.{name_or, system_name_well, expression_well, select_well}

-- a statement that may stand anywhere
abbrev pub Common : Statement → Type 0
Common s = (stands_alone s ≡ true) × (is_well_step s ≡ true)

-- ---- changes of rows
abbrev SetsWell : List (List ℕ × Tree) → Type 0
SetsWell ss = list_all is_well_set ss ≡ true

-- one item or more
abbrev SomeSets : List (List ℕ × Tree) → Type 0
SomeSets ss = (has_item ss ≡ true) × (list_all is_well_set ss ≡ true)

abbrev Columns : Option (List (List ℕ)) → Type 0
Columns o = are_names_if o ≡ true

abbrev WellSupply : Supply → Type 0
WellSupply s = is_well_supply s ≡ true

each_set : (ss : List (List ℕ × Tree)) → Each (Pair Name Well) ss → SetsWell ss
each_set [] g = refl
each_set (s ∷ ss) g = and_from (is_well_set s) (list_all is_well_set ss) (and_from (is_name s.0) (is_well_tree s.1) g.0.0 g.0.1) (each_set ss g.1)

some_sets : (ss : List (List ℕ × Tree)) → Some' (Pair Name Well) ss → SomeSets ss
some_sets [] g = absurd g
some_sets (s ∷ ss) g = (refl, each_set (s ∷ ss) g)

each_row : (rs : List Trees) → Each Wells rs → list_all is_well_row rs ≡ true
each_row [] g = refl
each_row (r ∷ rs) g = and_from (is_well_row r) (list_all is_well_row rs) (and_from (has_tree r) (are_well_trees r) g.0.0 g.0.1) (each_row rs g.1)

some_rows : (rs : List Trees) → Some' Wells rs → WellSupply (rows rs)
some_rows [] g = absurd g
some_rows (r ∷ rs) g = each_row (r ∷ rs) g

sets_well : (r : Rule Tok Tree) → Gives Well r.texts → Gives SomeSets (sets r).texts
sets_well r q = weaker some_sets (list_well (set_item r) (paired_gives name_well (mark_gives q signs.Equal)))

ignore_well : Gives Any ignore.texts
ignore_well = optional_gives false tt (mapped_gives (λ u. true) (λ u p. tt) (keyword_gives words.Ignore))

into_well : Gives Name into.texts
into_well = behind_gives (optional_gives tt tt (keyword_gives words.Into)) name_well

columns_well : (n : ℕ) → Gives Columns (columns n).texts
columns_well n = optional_gives None refl (mapped_gives Some (λ ns p. p) (names_in_well n))

row_well : (n : ℕ) → Gives Wells (a_row n).texts
row_well n = parens_well n (closed (exprs (expression (pred n)))) (closed_well (exprs (expression (pred n))) (exprs_well (expression (pred n)) (expression_well (pred n))))

values_well : Gives Any values_word.texts
values_well = either_gives (keyword_gives words.Values) (keyword_gives words.Value)

source_well : (n : ℕ) → Gives WellSupply (source n).texts
source_well n =
    either_gives (mapped_gives rows_of (λ q p. p) (select_well n)) (
    behind_gives values_well (mapped_gives rows some_rows (list_well (a_row n) (row_well n))))

duplicate_well : (n : ℕ) → Gives SetsWell (on_duplicate n).texts
duplicate_well n =
    optional_gives [] refl (
    key_gives (key_gives (key_gives (key_gives (weaker (λ ss p. p.1) (sets_well (expression n) (expression_well n))) words.Update) words.Key) words.Duplicate) words.On)

inserted_good : (i : Bool) (x : List ℕ × (Option (List (List ℕ)) × (Supply × List (List ℕ × Tree)))) → Any i → Pair Name (Pair Columns (Pair WellSupply SetsWell)) x → Common (inserted i x)
inserted_good i x u p = (
  refl,
  and_from (is_name x.0 && are_names_if x.1.0 && is_well_supply x.1.1.0) (list_all is_well_set x.1.1.1) (and_from (is_name x.0 && are_names_if x.1.0) (is_well_supply x.1.1.0)
      (and_from (is_name x.0) (are_names_if x.1.0) p.0 p.1.0) p.1.1.0) p.1.1.1,
)

replaced_good : (t : List ℕ) (x : Option (List (List ℕ)) × Supply) → Name t → Pair Columns WellSupply x → Common (replaced t x)
replaced_good t x p q = (refl, and_from (is_name t && are_names_if x.0) (is_well_supply x.1) (and_from (is_name t) (are_names_if x.0) p q.0) q.1)

abbrev Chosen : Part × (Orders × Option Count) → Type 0
Chosen = Pair WellPart (Pair WellOrders WellCount)

chosen_well : (n : ℕ) → Gives Chosen (chosen n).texts
chosen_well n = paired_gives (where_well (expression n) (expression_well n)) (paired_gives (order_well (expression n) (expression_well n)) limit_well)

updated_good : (t : List ℕ) (x : List (List ℕ × Tree) × (Part × (Orders × Option Count))) → Name t → Pair SomeSets Chosen x → Common (updated t x)
updated_good t x p q = (
  refl,
  and_from (is_name t && has_item x.0 && list_all is_well_set x.0 && is_well_part x.1.0 && are_well_orders x.1.1.0) (is_count_if x.1.1.1)
      (and_from (is_name t && has_item x.0 && list_all is_well_set x.0 && is_well_part x.1.0) (are_well_orders x.1.1.0)
      (and_from (is_name t && has_item x.0 && list_all is_well_set x.0) (is_well_part x.1.0)
      (and_from (is_name t && has_item x.0) (list_all is_well_set x.0) (and_from (is_name t) (has_item x.0) p q.0.0) q.0.1) q.1.0) q.1.1.0) q.1.1.1,
)

deleted_good : (t : List ℕ) (x : Part × (Orders × Option Count)) → Name t → Chosen x → Common (deleted t x)
deleted_good t x p q = (
  refl,
  and_from (is_name t && is_well_part x.0 && are_well_orders x.1.0) (is_count_if x.1.1)
      (and_from (is_name t && is_well_part x.0) (are_well_orders x.1.0) (and_from (is_name t) (is_well_part x.0) p q.0) q.1.0) q.1.1,
)

pub change_well : (n : ℕ) → Gives Common (change n).texts
change_well n =
    either_gives (key_gives (both_gives inserted inserted_good ignore_well (paired_gives into_well (paired_gives (columns_well n) (paired_gives (source_well n) (duplicate_well n))))) words.Insert) (
    either_gives (key_gives (both_gives replaced replaced_good into_well (paired_gives (columns_well n) (source_well n))) words.Replace) (
    either_gives (key_gives (both_gives updated updated_good name_well (key_gives (paired_gives (sets_well (expression n) (expression_well n)) (chosen_well n)) words.Set)) words.Update) (
    key_gives (key_gives (both_gives deleted deleted_good name_well (chosen_well n)) words.From) words.Delete)))

-- ---- SET
abbrev WellTarget : Target → Type 0
WellTarget t = is_target t ≡ true

new_good : (s : List ℕ) (o : Option (List ℕ)) → Name s → IfSome Name o → WellTarget (new_by s o)
new_good s None p q = p
new_good s (Some c) p q = q

name_if : (G : Rule Tok (List ℕ)) → Gives Name G.texts → Gives (IfSome Name) (mapped Some G).texts
name_if G q = mapped_gives Some (λ n p. p) q

target_well : Gives WellTarget target.texts
target_well =
    either_gives (mapped_gives Target.User (λ n p. p) (mark_gives name_well signs.At)) (
    either_gives (mapped_gives Target.System (λ n p. p) (mark_gives system_name_well signs.AtAt)) (
    either_gives (both_gives {Q = λ o. IfSome Name o} (λ s o. Target.Plain (unwrap_or o s)) name_or (word_name_well words.Session refl) (optional_gives None tt (name_if a_name name_well))) (
    either_gives (both_gives {Q = λ o. IfSome Name o} new_by new_good (word_name_well words.New refl) (optional_gives None tt (mapped_gives Some (λ n p. p) (mark_gives name_well signs.Dot)))) (
    mapped_gives Target.Plain (λ n p. p) (but_well (code words.Session ∷ code words.New ∷ []) refl)))))

-- a format is a text
abbrev FormatWell : Option (List ℕ) → Type 0
FormatWell o = IfSome (λ w. is_literal (Text w) ≡ true) o

word_good : (o : Option Keyword) → FormatWell (format_word o)
word_good (Some words.Statement) = refl
word_good (Some words.Mixed) = refl
word_good (Some words.Row) = refl
word_good o = tt

said_good : (ts : List Tok) → FormatWell (format_said ts)
said_good [] = tt
said_good (t ∷ []) = word_good (keyword_said t)
said_good (t ∷ u ∷ ts) = tt

format_good : (o : Option (List ℕ)) (a : Tree) → FormatWell o → Well a → Well (format_or o a)
format_good None a p q = q
format_good (Some w) a p q = p

value_by : (b : Bool) (o : Option (List ℕ)) (a : Tree) → FormatWell o → Well a → Well (if b then format_or o a else a)
value_by true o a p q = format_good o a p q
value_by false o a p q = q

abbrev Value : Tree × List Tok → Type 0
Value v = Well v.0

assigned_good : (t : Target) (v : Tree × List Tok) → WellTarget t → Value v → Pair WellTarget Well (assigned t v)
assigned_good t v p q = (p, value_by (is_format t) (format_said v.1) v.0 (said_good v.1) q)

assignment_well : (n : ℕ) → Gives (Pair WellTarget Well) (assignment n).texts
assignment_well n =
    both_gives assigned assigned_good target_well (
    behind_gives (either_gives (sign_gives signs.Equal) (sign_gives signs.Assign)) (tokens_give {Q = Value} paired (λ a front p. p) (expression_well n)))

each_assignment : (as' : List (Target × Tree)) → Each (Pair WellTarget Well) as' → list_all is_well_assignment as' ≡ true
each_assignment [] g = refl
each_assignment (a ∷ as') g = and_from (is_well_assignment a) (list_all is_well_assignment as') (and_from (is_target a.0) (is_well_tree a.1) g.0.0 g.0.1) (each_assignment as' g.1)

some_assignments : (as' : List (Target × Tree)) → Some' (Pair WellTarget Well) as' → Common (set_all as')
some_assignments [] g = absurd g
some_assignments (a ∷ as') g = (refl, each_assignment (a ∷ as') g)

pub set_well : (n : ℕ) → Gives Common (set n).texts
set_well n = key_gives (mapped_gives set_all some_assignments (list_well (assignment n) (assignment_well n))) words.Set

-- ---- others
pub do_well : (n : ℕ) → Gives Common (do_exprs n).texts
do_well n = key_gives (mapped_gives evaluate (λ ts p. (refl, and_from (has_tree ts) (are_well_trees ts) p.0 p.1)) (exprs_well (expression n) (expression_well n))) words.Do

pub call_well : (n : ℕ) → Gives Common (call n).texts
call_well n =
    key_gives (both_gives {Q = λ ts. are_well_trees ts ≡ true} call_procedure (λ c ts p q. (refl, and_from (is_name c) (are_well_trees ts) p q)) name_well (
    optional_gives no_tree refl (parens_well n (arguments (expression (pred n))) (arguments_well (expression (pred n)) (expression_well (pred n)))))) words.Call

-- a statement of a name
name_of : (f : List ℕ → Statement) (r : Rule Tok (List ℕ)) → ((n : List ℕ) → Name n → Common (f n)) → Gives Name r.texts → Gives Common (mapped f r).texts
name_of f r h q = mapped_gives f h q

pub drop_well : Gives Common drop.texts
drop_well =
    key_gives (either_gives (key_gives (name_of drop_table a_name (λ n p. (refl, p)) name_well) words.Table) (
    either_gives (key_gives (name_of drop_function a_name (λ n p. (refl, p)) name_well) words.Function) (
    either_gives (key_gives (name_of drop_procedure a_name (λ n p. (refl, p)) name_well) words.Procedure) (
    key_gives (name_of drop_trigger a_name (λ n p. (refl, p)) name_well) words.Trigger)))) words.Drop

pub truncated_well : Gives Common truncated.texts
truncated_well = key_gives (mapped_gives truncate (λ n p. (refl, p)) (behind_gives (optional_gives tt tt (keyword_gives words.Table)) name_well)) words.Truncate

savepoint_well : Gives Name savepoint_name.texts
savepoint_well =
    either_gives (both_gives {Q = λ o. IfSome Name o} (λ s o. unwrap_or o s) name_or (word_name_well words.Savepoint refl) (optional_gives None tt (name_if a_name name_well))) (but_well (code words.Savepoint ∷ []) refl)

pub transaction_well : Gives Common transaction.texts
transaction_well =
    either_gives (mapped_gives (λ u. commit) (λ u p. (refl, refl)) (keyword_gives words.Commit)) (
    either_gives (key_gives (optional_gives rollback (refl, refl) (key_gives (name_of rollback_to savepoint_name (λ n p. (refl, p)) savepoint_well) words.To)) words.Rollback) (
    either_gives (key_gives (name_of savepoint a_name (λ n p. (refl, p)) name_well) words.Savepoint) (
    key_gives (key_gives (name_of release_savepoint a_name (λ n p. (refl, p)) name_well) words.Savepoint) words.Release)))
