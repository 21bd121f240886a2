-- INSERT, REPLACE, UPDATE and DELETE, by the number of constructs that may still be opened.
use Rattle.std.specs.Prelude.{ℕ, pred, Bool, true, false, List, [], ◌∷◌, Option, Some, None}
use Rattle.sql_lex.specs.declared.keyword.Keyword.TheVariants as words
use Rattle.sql_lex.specs.declared.token.Symbol.TheVariants as signs
use Rattle.sql_tree.specs.Tree.{Tree, Trees, Part, Orders}
use Rattle.sql_tree.specs.Statement.{Statement, insert_into, replace_into, update_rows, delete_rows, Supply, rows, rows_of}
use Rattle.sql_tree.specs.declared.expressions.Count.{Count}
use Rattle.sql_grammar.specs.Rule.{Rule, both, either, mapped, optional, paired, behind}
use Rattle.sql_syntax.specs.Tokens.{Tok, kind, code, sign_code, keyword, sign}
use Rattle.sql_syntax.specs.Parts.{a_name, list_of, exprs, closed, in_parentheses, names_in}
use Rattle.sql_syntax.specs.Selects.{where_part, order, limit}
use Rattle.sql_syntax.specs.Expressions.{expression, select}

-- column = value
abbrev pub set_item : Rule Tok Tree → Rule Tok (List ℕ × Tree)
set_item r = both paired a_name (behind (sign signs.Equal) r)

-- column = value {, column = value}
abbrev pub sets : Rule Tok Tree → Rule Tok (List (List ℕ × Tree))
sets r = list_of (set_item r)

-- [IGNORE]
abbrev pub ignore : Rule Tok Bool
ignore = optional kind (code words.Ignore ∷ []) false (mapped (λ u. true) (keyword words.Ignore))

-- [INTO] name
abbrev pub into : Rule Tok (List ℕ)
into = behind (optional kind (code words.Into ∷ []) tt (keyword words.Into)) a_name

-- [(names)]
abbrev pub columns : ℕ → Rule Tok (Option (List (List ℕ)))
columns n = optional kind (sign_code signs.Open ∷ []) None (mapped Some (names_in n))

-- (exprs)
abbrev pub a_row : ℕ → Rule Tok Trees
a_row n = in_parentheses n (closed (exprs (expression (pred n))))

-- VALUES | VALUE
abbrev pub values_word : Rule Tok (Unit {0})
values_word = either kind (code words.Values ∷ []) (keyword words.Values) (keyword words.Value)

-- (VALUES | VALUE) (exprs) {, (exprs)} | select
abbrev pub source : ℕ → Rule Tok Supply
source n = either kind (code words.Select ∷ []) (mapped rows_of (select n)) (behind values_word (mapped rows (list_of (a_row n))))

-- [ON DUPLICATE KEY UPDATE sets]
abbrev pub on_duplicate : ℕ → Rule Tok (List (List ℕ × Tree))
on_duplicate n =
    optional kind (code words.On ∷ []) [] (
    behind (keyword words.On) (behind (keyword words.Duplicate) (behind (keyword words.Key) (behind (keyword words.Update) (sets (expression n))))))

-- the INSERT of these parts
abbrev pub inserted : Bool → List ℕ × (Option (List (List ℕ)) × (Supply × List (List ℕ × Tree))) → Statement
inserted ignored rest = insert_into ignored rest.0 rest.1.0 rest.1.1.0 rest.1.1.1

-- INSERT [IGNORE] [INTO] name [(names)] source [ON DUPLICATE KEY UPDATE sets]
abbrev pub insert : ℕ → Rule Tok Statement
insert n = behind (keyword words.Insert) (both inserted ignore (both paired into (both paired (columns n) (both paired (source n) (on_duplicate n)))))

-- the REPLACE of these parts
abbrev pub replaced : List ℕ → Option (List (List ℕ)) × Supply → Statement
replaced t rest = replace_into t rest.0 rest.1

-- REPLACE [INTO] name [(names)] source
abbrev pub replace : ℕ → Rule Tok Statement
replace n = behind (keyword words.Replace) (both replaced into (both paired (columns n) (source n)))

-- [WHERE expr] [order] [LIMIT count]
abbrev pub chosen : ℕ → Rule Tok (Part × (Orders × Option Count))
chosen n = both paired (where_part (expression n)) (both paired (order (expression n)) limit)

-- the UPDATE of these parts
abbrev pub updated : List ℕ → List (List ℕ × Tree) × (Part × (Orders × Option Count)) → Statement
updated t rest = update_rows t rest.0 rest.1.0 rest.1.1.0 rest.1.1.1

-- UPDATE name SET sets [WHERE expr] [order] [LIMIT count]
abbrev pub update : ℕ → Rule Tok Statement
update n = behind (keyword words.Update) (both updated a_name (behind (keyword words.Set) (both paired (sets (expression n)) (chosen n))))

-- the DELETE of these parts
abbrev pub deleted : List ℕ → Part × (Orders × Option Count) → Statement
deleted t rest = delete_rows t rest.0 rest.1.0 rest.1.1

-- DELETE FROM name [WHERE expr] [order] [LIMIT count]
abbrev pub delete : ℕ → Rule Tok Statement
delete n = behind (keyword words.Delete) (behind (keyword words.From) (both deleted a_name (chosen n)))

-- a statement that changes rows
abbrev pub change : ℕ → Rule Tok Statement
change n =
    either kind (code words.Insert ∷ []) (insert n) (
    either kind (code words.Replace ∷ []) (replace n) (
    either kind (code words.Update ∷ []) (update n) (
    delete n)))
