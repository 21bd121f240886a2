-- CREATE TABLE, by the number of constructs that may still be opened.
use Rattle.std.specs.Prelude.{ℕ, pred, Bool, true, false, not, ◌&&◌, ◌||◌, nat_eq, if◌then◌else◌, List, [], ◌∷◌, Option, Some, None, is_none, unwrap_or}
use Rattle.std.specs.List.{list_any}
use Rattle.std.specs.Cmp.Lexicographic.{pointwise}
use Rattle.val_types.specs.declared.value.Value.{Value}
use Rattle.sql_lex.specs.declared.keyword.Keyword.TheVariants as words
use Rattle.sql_lex.specs.declared.token.Symbol.TheVariants as signs
use Rattle.sql_tree.specs.declared.statements.SqlType.{SqlType}
use Rattle.sql_tree.specs.declared.statements.CreateTable.{CreateTable}
use Rattle.sql_tree.specs.declared.statements.Column.{Column as TableColumn}
use Rattle.sql_tree.specs.declared.statements.UniqueKey.{UniqueKey}
use Rattle.sql_syntax.specs.declared.table_parts.Marks.{Marks}
use Rattle.sql_syntax.specs.declared.table_parts.TablePart.{TablePart}
use Rattle.sql_syntax.specs.declared.table_parts.TablePart.TheVariants.{Column, Primary, Unique}
use Rattle.sql_grammar.specs.Rule.{Rule, both, either, pure, only_if, mapped, optional, chain_by, paired, behind, before, alone, then_one}
use Rattle.sql_syntax.specs.Tokens.{Tok, kind, code, sign_code, keyword, sign}
use Rattle.sql_syntax.specs.Parts.{a_name, optional_name, name_but, word_name, a_number, a_value, closed, in_parentheses, names_in}

-- ---- types
-- [(number)], which is read and dropped
abbrev pub width : ℕ → Rule Tok (Unit {0})
width n = optional kind (sign_code signs.Open ∷ []) tt (in_parentheses n (mapped (λ k. tt) (closed a_number)))

-- INT [(number)] | INTEGER | BIGINT [(number)] | VARCHAR (number)
abbrev pub a_type : ℕ → Rule Tok SqlType
a_type n =
    either kind (code words.Int ∷ []) (behind (keyword words.Int) (mapped (λ u. SqlType.Int) (width n))) (
    either kind (code words.Integer ∷ []) (mapped (λ u. SqlType.Int) (keyword words.Integer)) (
    either kind (code words.Bigint ∷ []) (behind (keyword words.Bigint) (mapped (λ u. SqlType.BigInt) (width n))) (
    behind (keyword words.Varchar) (in_parentheses n (mapped (λ k. SqlType.Varchar k) (closed a_number))))))

-- ---- the options of a column
-- one of them
pub data Mark : Type 0 where
  takes_null : Bool → Mark
  preset : Value → Mark
  auto_increment : Mark
  primary_key : Mark
  unique_key : Mark

-- no option yet
abbrev pub no_marks : Marks
no_marks = record { null = None; value = None; counted = false; keyed = false; unique = false }

-- the options so far (NULL or NOT NULL, DEFAULT, AUTO_INCREMENT, PRIMARY KEY, UNIQUE) and one more
abbrev pub marked : Marks → Mark → Marks
marked m (takes_null b) = record { null = Some b; value = m.value; counted = m.counted; keyed = m.keyed; unique = m.unique }
marked m (preset v) = record { null = m.null; value = Some v; counted = m.counted; keyed = m.keyed; unique = m.unique }
marked m auto_increment = record { null = m.null; value = m.value; counted = true; keyed = m.keyed; unique = m.unique }
marked m primary_key = record { null = m.null; value = m.value; counted = m.counted; keyed = true; unique = m.unique }
marked m unique_key = record { null = m.null; value = m.value; counted = m.counted; keyed = m.keyed; unique = true }

-- an option that was not given before, where the table has a primary key so far or not
abbrev pub mark : Bool → Marks → Rule Tok Mark
mark has_key m =
    either kind (code words.Null ∷ []) (only_if (is_none m.null) (mapped (λ u. takes_null true) (keyword words.Null))) (
    either kind (code words.Not ∷ []) (only_if (is_none m.null) (mapped (λ u. takes_null false) (behind (keyword words.Not) (keyword words.Null)))) (
    either kind (code words.Default ∷ []) (only_if (is_none m.value) (mapped preset (behind (keyword words.Default) a_value))) (
    either kind (code words.AutoIncrement ∷ []) (only_if (not m.counted) (mapped (λ u. auto_increment) (keyword words.AutoIncrement))) (
    either kind (code words.Primary ∷ []) (only_if (not (has_key || m.keyed)) (mapped (λ u. primary_key) (behind (keyword words.Primary) (keyword words.Key)))) (
    only_if (not m.unique) (mapped (λ u. unique_key) (behind (keyword words.Unique) (optional kind (code words.Key ∷ []) tt (keyword words.Key)))))))))

-- what options begin with
abbrev pub mark_words : List ℕ
mark_words = code words.Null ∷ code words.Not ∷ code words.Default ∷ code words.AutoIncrement ∷ code words.Primary ∷ code words.Unique ∷ []

-- options in any order, each once
abbrev pub marks : Bool → Rule Tok Marks
marks has_key = chain_by kind marked mark_words (pure no_marks) (mark has_key)

-- ---- the parts of a table
-- the part gives the table its primary key
abbrev pub is_primary : TablePart → Bool
is_primary (Column n k m) = m.keyed
is_primary (Primary ns) = true
is_primary (Unique n ns) = false

-- name (names)
abbrev pub key_of : ℕ → Rule Tok (List ℕ) → Rule Tok TablePart
key_of n r = both Unique r (names_in n)

-- the key of this name, or of the name INDEX
abbrev pub key_named : List ℕ → Option (List ℕ) × List (List ℕ) → TablePart
key_named index rest = Unique (unwrap_or rest.0 index) rest.1

-- INDEX [name] (names), where INDEX alone is a name
abbrev pub index_of : ℕ → Rule Tok TablePart
index_of n = both key_named (word_name words.Index) (both paired optional_name (names_in n))

-- [KEY | INDEX] name (names), where INDEX alone is a name
abbrev pub unique_part : ℕ → Rule Tok TablePart
unique_part n =
    either kind (code words.Key ∷ []) (behind (keyword words.Key) (key_of n a_name)) (
    either kind (code words.Index ∷ []) (index_of n) (
    key_of n (name_but (code words.Index ∷ []))))

-- the column of these parts
abbrev pub column_of : List ℕ → SqlType × Marks → TablePart
column_of c rest = Column c rest.0 rest.1

-- PRIMARY KEY (names)
abbrev pub primary_part : ℕ → Rule Tok TablePart
primary_part n = mapped Primary (behind (keyword words.Primary) (behind (keyword words.Key) (names_in n)))

-- a part of a table that has a primary key so far or not
abbrev pub table_part : ℕ → Bool → Rule Tok TablePart
table_part n has_key =
    either kind (code words.Primary ∷ []) (only_if (not has_key) (primary_part n)) (
    either kind (code words.Unique ∷ []) (behind (keyword words.Unique) (unique_part n)) (
    both column_of a_name (both paired (a_type n) (marks has_key))))

-- parts with commas between, and one primary key at most
abbrev pub table_parts : ℕ → Rule Tok (List TablePart)
table_parts n =
    chain_by kind then_one (sign_code signs.Comma ∷ []) (mapped alone (table_part n false)) (λ ps. behind (sign signs.Comma) (table_part n (list_any is_primary ps)))

-- ---- the table of these parts
-- the columns of the primary key
abbrev pub key_in : List TablePart → Option (List (List ℕ))
key_in [] = None
key_in (Column c k m ∷ ps) = if m.keyed then Some (c ∷ []) else key_in ps
key_in (Primary ns ∷ ps) = Some ns
key_in (Unique n ns ∷ ps) = key_in ps

-- a name is among these
abbrev pub is_one_of : List (List ℕ) → List ℕ → Bool
is_one_of ns n = list_any (λ m. pointwise nat_eq m n) ns

-- a column, which is NOT NULL where it is one of the primary key's
abbrev pub column_by : Bool → List ℕ → SqlType → Marks → TableColumn
column_by is_key c k m = record { name = c; kind = k; nullable = unwrap_or m.null true && not is_key; preset = m.value; auto_increment = m.counted }

-- the columns
abbrev pub columns_in : List (List ℕ) → List TablePart → List TableColumn
columns_in key [] = []
columns_in key (Column c k m ∷ ps) = column_by (is_one_of key c) c k m ∷ columns_in key ps
columns_in key (Primary ns ∷ ps) = columns_in key ps
columns_in key (Unique n ns ∷ ps) = columns_in key ps

-- the unique key of a column, which is named as the column
abbrev pub own_key : List ℕ → UniqueKey
own_key c = record { name = c; columns = c ∷ [] }

-- the unique keys
abbrev pub uniques_in : List TablePart → List UniqueKey
uniques_in [] = []
uniques_in (Column c k m ∷ ps) = if m.unique then own_key c ∷ uniques_in ps else uniques_in ps
uniques_in (Primary ns ∷ ps) = uniques_in ps
uniques_in (Unique n ns ∷ ps) = record { name = n; columns = ns } ∷ uniques_in ps

-- the table of this name and these parts
abbrev pub table_of : List ℕ → List TablePart → CreateTable
table_of t ps = record { name = t; columns = columns_in (unwrap_or (key_in ps) []) ps; primary = key_in ps; uniques = uniques_in ps }

-- [ENGINE [=] INNODB], which is read and dropped
abbrev pub engine : Rule Tok (Unit {0})
engine =
    optional kind (code words.Engine ∷ []) tt (
    behind (keyword words.Engine) (behind (optional kind (sign_code signs.Equal ∷ []) tt (sign signs.Equal)) (keyword words.Innodb)))

-- (part {, part})
abbrev pub parts_in : ℕ → Rule Tok (List TablePart)
parts_in n = in_parentheses n (closed (table_parts (pred n)))

-- behind CREATE: TABLE name (part {, part}) [ENGINE [=] INNODB]
abbrev pub table : ℕ → Rule Tok CreateTable
table n = behind (keyword words.Table) (before (both table_of a_name (parts_in n)) engine)
