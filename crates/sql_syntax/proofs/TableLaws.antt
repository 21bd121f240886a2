-- CREATE TABLE keeps the laws.
use Rattle.std.proofs.Common.{ℕ, Bool, true, false, not, ◌||◌, List, [], ◌∷◌, Some, None, is_none, refl}
use Rattle.std.specs.List.{list_any}
use Rattle.sql_lex.specs.declared.keyword.Keyword.TheVariants as words
use Rattle.sql_lex.specs.declared.token.Symbol.TheVariants as signs
use Rattle.sql_tree.specs.declared.statements.SqlType.{SqlType}
use Rattle.sql_grammar.specs.Rule.{mapped, optional, paired, behind, alone, then_one}
use Rattle.sql_grammar.proofs.Lawful.{Shape, shape, Lawful}
use Rattle.sql_grammar.proofs.Single.{pure_lawful, mapped_lawful, only_if_lawful, widened}
use Rattle.sql_grammar.proofs.Sequence.{both_lawful}
use Rattle.sql_grammar.proofs.Choice.{either_lawful}
use Rattle.sql_grammar.proofs.Chains.{chain_by_lawful}
use Rattle.sql_syntax.specs.Tokens.{kind, code, sign_code, names, keyword, sign}
use Rattle.sql_syntax.specs.Parts.{a_number, closed, in_parentheses}
use Rattle.sql_syntax.specs.Tables.{width, a_type, takes_null, preset, auto_increment, primary_key, unique_key, no_marks, marked, mark, mark_words, marks, is_primary, key_named, unique_part, column_of, table_part, table_parts, table_of, engine, table}
use Rattle.sql_syntax.specs.declared.table_parts.Marks.{Marks}
use Rattle.sql_syntax.specs.declared.table_parts.TablePart.TheVariants.{Primary, Unique}
use Rattle.sql_syntax.proofs.Words.{keyword_lawful, sign_lawful}
use Rattle.sql_syntax.proofs.Shapes.{comma}
use Rattle.sql_syntax.proofs.PartLaws.{name_lawful, but_lawful, word_name_lawful, number_lawful, value_lawful, keyword_then, sign_then, closed_lawful, in_parentheses_lawful, names_in_lawful}

number_closed_lawful : {A : Type 0} (f : ℕ → A) (d : ℕ) → Lawful kind (shape (sign_code signs.Open ∷ []) false [] true) (λ e. in_parentheses e (mapped f (closed a_number))) d
number_closed_lawful f d =
    let l = λ (k : ℕ). mapped_lawful f (closed_lawful (number_lawful k) refl) in
    in_parentheses_lawful (λ e. mapped f (closed a_number)) ((l 0).lives refl) d (λ k e. l k) refl

width_lawful : (d : ℕ) → Lawful kind (shape (sign_code signs.Open ∷ []) true (sign_code signs.Open ∷ []) true) (λ e. width e) d
width_lawful d = either_lawful (sign_code signs.Open ∷ []) (number_closed_lawful (λ k. tt) d) (pure_lawful tt d) refl refl refl

abbrev pub type_words : List ℕ
type_words = code words.Int ∷ code words.Integer ∷ code words.Bigint ∷ code words.Varchar ∷ []

abbrev pub types : Shape
types = shape type_words false (sign_code signs.Open ∷ []) true

pub type_lawful : (d : ℕ) → Lawful kind types (λ e. a_type e) d
type_lawful d =
    let varchar = keyword_then (number_closed_lawful (λ k. SqlType.Varchar k) d) refl words.Varchar in
    let bigint = keyword_then (mapped_lawful (λ u. SqlType.BigInt) (width_lawful d)) refl words.Bigint in
    let int = keyword_then (mapped_lawful (λ u. SqlType.Int) (width_lawful d)) refl words.Int in
    let a1 = either_lawful (code words.Bigint ∷ []) bigint varchar refl refl refl in
    let a2 = either_lawful (code words.Integer ∷ []) (mapped_lawful (λ u. SqlType.Int) (keyword_lawful words.Integer d)) a1 refl refl refl in
    widened (either_lawful (code words.Int ∷ []) int a2 refl refl refl) types refl

key_word_lawful : (d : ℕ) → Lawful kind (shape (code words.Key ∷ []) true (code words.Key ∷ []) true) (λ e. optional kind (code words.Key ∷ []) tt (keyword words.Key)) d
key_word_lawful d = either_lawful (code words.Key ∷ []) (keyword_lawful words.Key d) (pure_lawful tt d) refl refl refl

mark_lawful : (b : Bool) (m : Marks) (d : ℕ) → Lawful kind (shape mark_words false (code words.Key ∷ []) false) (λ e. mark b m) d
mark_lawful b m d =
    let null' = only_if_lawful (is_none m.null) (mapped_lawful (λ u. takes_null true) (keyword_lawful words.Null d)) in
    let some = only_if_lawful (is_none m.null) (mapped_lawful (λ u. takes_null false) (keyword_then (keyword_lawful words.Null d) refl words.Not)) in
    let default = only_if_lawful (is_none m.value) (mapped_lawful preset (keyword_then (value_lawful d) refl words.Default)) in
    let auto' = only_if_lawful (not m.counted) (mapped_lawful (λ u. auto_increment) (keyword_lawful words.AutoIncrement d)) in
    let keyed = only_if_lawful (not (b || m.keyed)) (mapped_lawful (λ u. primary_key) (keyword_then (keyword_lawful words.Key d) refl words.Primary)) in
    let only = only_if_lawful (not m.unique) (mapped_lawful (λ u. unique_key) (keyword_then (key_word_lawful d) refl words.Unique)) in
    let a1 = either_lawful (code words.Primary ∷ []) keyed only refl refl refl in
    let a2 = either_lawful (code words.AutoIncrement ∷ []) auto' a1 refl refl refl in
    let a3 = either_lawful (code words.Default ∷ []) default a2 refl refl refl in
    let a4 = either_lawful (code words.Not ∷ []) some a3 refl refl refl in
    widened (either_lawful (code words.Null ∷ []) null' a4 refl refl refl) (shape mark_words false (code words.Key ∷ []) false) refl

marks_lawful : (b : Bool) (d : ℕ) → Lawful kind (shape mark_words true (code words.Key ∷ mark_words) true) (λ e. marks b) d
marks_lawful b d =
    widened (chain_by_lawful marked mark_words {S = λ e m. mark b m} (pure_lawful no_marks d) (λ m. mark_lawful b m d) refl refl refl refl) (shape mark_words true (code words.Key ∷ mark_words) true) refl

unique_part_lawful : (d : ℕ) → Lawful kind (shape (code words.Key ∷ names) false [] true) (λ e. unique_part e) d
unique_part_lawful d =
    let keyed = keyword_then (both_lawful Unique (name_lawful d) (names_in_lawful d) refl refl) refl words.Key in
    let named = either_lawful names (mapped_lawful Some (name_lawful d)) (pure_lawful None d) refl refl refl in
    let index = both_lawful key_named (word_name_lawful words.Index d) (both_lawful paired named (names_in_lawful d) refl refl) refl refl in
    let other = both_lawful Unique (but_lawful (code words.Index ∷ []) refl d) (names_in_lawful d) refl refl in
    widened (either_lawful (code words.Key ∷ []) keyed (either_lawful (code words.Index ∷ []) index other refl refl refl) refl refl refl) (shape (code words.Key ∷ names) false [] true) refl

abbrev part_words : List ℕ
part_words = code words.Primary ∷ code words.Unique ∷ names

abbrev behind_parts : List ℕ
behind_parts = sign_code signs.Open ∷ code words.Key ∷ mark_words

part_lawful : (b : Bool) (d : ℕ) → Lawful kind (shape part_words false behind_parts true) (λ e. table_part e b) d
part_lawful b d =
    let key = only_if_lawful (not b) (mapped_lawful Primary (keyword_then (keyword_then (names_in_lawful d) refl words.Key) refl words.Primary)) in
    let other = keyword_then (unique_part_lawful d) refl words.Unique in
    let column = both_lawful column_of (name_lawful d) (both_lawful paired (type_lawful d) (marks_lawful b d) refl refl) refl refl in
    widened (either_lawful (code words.Primary ∷ []) key (either_lawful (code words.Unique ∷ []) other column refl refl refl) refl refl refl) (shape part_words false behind_parts true) refl

parts_lawful : (d : ℕ) → Lawful kind (shape part_words false (sign_code signs.Comma ∷ behind_parts) true) (λ e. table_parts e) d
parts_lawful d =
    widened (chain_by_lawful then_one comma {S = λ e ps. behind (sign signs.Comma) (table_part e (list_any is_primary ps))} (mapped_lawful alone (part_lawful false d))
    (λ ps. sign_then (part_lawful (list_any is_primary ps) d) refl signs.Comma) refl refl refl refl) (shape part_words false (sign_code signs.Comma ∷ behind_parts) true) refl

parts_closed_lawful : (d : ℕ) → Lawful kind (shape part_words false [] true) (λ e. closed (table_parts e)) d
parts_closed_lawful d = closed_lawful (parts_lawful d) refl

engine_lawful : (d : ℕ) → Lawful kind (shape (code words.Engine ∷ []) true (code words.Engine ∷ []) true) (λ e. engine) d
engine_lawful d =
    let equals = either_lawful (sign_code signs.Equal ∷ []) (sign_lawful signs.Equal d) (pure_lawful tt d) refl refl refl in
    let some = keyword_then (both_lawful (λ u a. a) equals (keyword_lawful words.Innodb d) refl refl) refl words.Engine in
    either_lawful (code words.Engine ∷ []) some (pure_lawful tt d) refl refl refl

pub table_lawful : (d : ℕ) → Lawful kind (shape (code words.Table ∷ []) false (code words.Engine ∷ []) true) (λ e. table e) d
table_lawful d =
    let parts = in_parentheses_lawful (λ e. closed (table_parts e)) ((parts_closed_lawful 0).lives refl) d (λ k e. parts_closed_lawful k) refl in
    keyword_then (both_lawful (λ a u. a) (both_lawful table_of (name_lawful d) parts refl refl) (engine_lawful d) refl refl) refl words.Table
