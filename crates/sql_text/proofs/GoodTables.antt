-- Tables of good tokens are well: the columns of the primary key are NOT NULL, and each table has a part.
use Rattle.std.proofs.Common.{◌≡◌, ℕ, pred, Bool, true, false, List, [], ◌∷◌, Option, Some, None, refl, arith}
use Rattle.std.proofs.lemmas.Bool.{and_from, or_left, or_right, le-leb}
use Rattle.std.specs.Prelude.{◌&&◌, ◌||◌, not, nat_le, length, is_none, is_some, unwrap_or, if◌then◌else◌}
use Rattle.std.specs.List.{list_all, list_any}
use Rattle.sql_lex.specs.declared.keyword.Keyword.TheVariants as words
use Rattle.sql_lex.specs.declared.token.Symbol.TheVariants as signs
use Rattle.sql_grammar.specs.Rule.{Rule, mapped, behind, optional}
use Rattle.sql_tree.specs.declared.statements.SqlType.{SqlType}
use Rattle.sql_tree.specs.declared.statements.CreateTable.{CreateTable}
use Rattle.sql_tree.specs.declared.statements.UniqueKey.{UniqueKey}
use Rattle.sql_tree.specs.Well.{is_name, are_names, are_names_if, is_literal_if, is_type, is_in_key, is_column, is_unique, has_table_part, is_table}
use Rattle.sql_syntax.specs.Tokens.{Tok, kind, code, keyword}
use Rattle.sql_syntax.specs.Parts.{a_name, name_but, a_number, a_value, closed, names_in}
use Rattle.sql_syntax.specs.declared.table_parts.Marks.{Marks}
use Rattle.sql_syntax.specs.declared.table_parts.TablePart.{TablePart}
use Rattle.sql_syntax.specs.declared.table_parts.TablePart.TheVariants as parts
use Rattle.sql_syntax.specs.Tables.{width, a_type, Mark, takes_null, preset, auto_increment, primary_key, unique_key, no_marks, marked, mark, marks, is_primary, key_of, key_named, unique_part, column_of, table_part, table_parts, key_in, is_one_of, columns_in, uniques_in, table_of, engine, table}
use Rattle.sql_text.proofs.Good.{Gives, Any, Pair, Each, Some', IfSome, either_gives, pure_gives, optional_gives, only_gives, mapped_gives, paired_gives, both_gives, before_gives, behind_gives, chain_gives, rows_give, keyword_gives, sign_gives, key_gives, mark_gives}
use Rattle.sql_text.proofs.GoodParts.{Name, Lit, name_well, but_well, word_name_well, number_well, value_well, closed_well, parens_well, names_in_well}
use Rattle.sql_text.proofs.GoodExpressions.{name_or}

-- ---- types
abbrev pub WellType : SqlType → Type 0
WellType k = is_type k ≡ true

width_well : (n : ℕ) → Gives Any (width n).texts
width_well n = optional_gives tt tt (parens_well n (mapped (λ k. tt) (closed a_number)) (mapped_gives (λ k. tt) (λ k p. tt) (closed_well a_number number_well)))

pub type_well : (n : ℕ) → Gives WellType (a_type n).texts
type_well n =
    either_gives (key_gives (mapped_gives (λ u. SqlType.Int) (λ u p. refl) (width_well n)) words.Int) (
    either_gives (mapped_gives (λ u. SqlType.Int) (λ u p. refl) (keyword_gives words.Integer)) (
    either_gives (key_gives (mapped_gives (λ u. SqlType.BigInt) (λ u p. refl) (width_well n)) words.Bigint) (
    key_gives (parens_well n (mapped (λ k. SqlType.Varchar k) (closed a_number)) (mapped_gives (λ k. SqlType.Varchar k) (λ k p. p) (closed_well a_number number_well))) words.Varchar)))

-- ---- options of a column
abbrev MarkWell : Mark → Type 0
MarkWell (takes_null b) = Unit {0}
MarkWell (preset v) = Lit v
MarkWell auto_increment = Unit {0}
MarkWell primary_key = Unit {0}
MarkWell unique_key = Unit {0}

abbrev MarksWell : Marks → Type 0
MarksWell m = is_literal_if m.value ≡ true

marked_good : (m : Marks) (k : Mark) → MarksWell m → MarkWell k → MarksWell (marked m k)
marked_good m (takes_null b) p q = p
marked_good m (preset v) p q = q
marked_good m auto_increment p q = p
marked_good m primary_key p q = p
marked_good m unique_key p q = p

mark_well : (b : Bool) (m : Marks) → Gives MarkWell (mark b m).texts
mark_well b m =
    either_gives (only_gives (is_none m.null) (mapped (λ u. takes_null true) (keyword words.Null)) (mapped_gives (λ u. takes_null true) (λ u p. tt) (keyword_gives words.Null))) (
    either_gives (only_gives (is_none m.null) (mapped (λ u. takes_null false) (behind (keyword words.Not) (keyword words.Null))) (mapped_gives (λ u. takes_null false) (λ u p. tt) (key_gives (keyword_gives words.Null) words.Not))) (
    either_gives (only_gives (is_none m.value) (mapped preset (behind (keyword words.Default) a_value)) (mapped_gives preset (λ v p. p) (key_gives value_well words.Default))) (
    either_gives (only_gives (not m.counted) (mapped (λ u. auto_increment) (keyword words.AutoIncrement)) (mapped_gives (λ u. auto_increment) (λ u p. tt) (keyword_gives words.AutoIncrement))) (
    either_gives (only_gives (not (b || m.keyed)) (mapped (λ u. primary_key) (behind (keyword words.Primary) (keyword words.Key))) (mapped_gives (λ u. primary_key) (λ u p. tt) (key_gives (keyword_gives words.Key) words.Primary))) (
    only_gives (not m.unique) (mapped (λ u. unique_key) (behind (keyword words.Unique) (optional kind (code words.Key ∷ []) tt (keyword words.Key)))) (
    mapped_gives (λ u. unique_key) (λ u p. tt) (key_gives (optional_gives tt tt (keyword_gives words.Key)) words.Unique)))))))

marks_well : (b : Bool) → Gives MarksWell (marks b).texts
marks_well b = chain_gives marked marked_good (pure_gives no_marks refl) (mark_well b)

-- ---- parts of a table
abbrev Names : List (List ℕ) → Type 0
Names ns = are_names ns ≡ true

abbrev PartWell : TablePart → Type 0
PartWell (parts.Column c k m) = Name c × WellType k × MarksWell m
PartWell (parts.Primary ns) = Names ns
PartWell (parts.Unique n ns) = Name n × Names ns

key_of_well : (n : ℕ) (r : Rule Tok (List ℕ)) → Gives Name r.texts → Gives PartWell (key_of n r).texts
key_of_well n r q = both_gives {P = Name} {Q = Names} parts.Unique (λ c ns p g. (p, g)) q (names_in_well n)

named_good : (index : List ℕ) (x : Option (List ℕ) × List (List ℕ)) → Name index → Pair (IfSome Name) Names x → PartWell (key_named index x)
named_good index x p q = (name_or index x.0 p q.0, q.1)

unique_well : (n : ℕ) → Gives PartWell (unique_part n).texts
unique_well n =
    either_gives (key_gives (key_of_well n a_name name_well) words.Key) (
    either_gives (both_gives key_named named_good (word_name_well words.Index refl) (paired_gives (optional_gives None tt (mapped_gives Some (λ c p. p) name_well)) (names_in_well n))) (
    key_of_well n (name_but (code words.Index ∷ [])) (but_well (code words.Index ∷ []) refl)))

column_good : (c : List ℕ) (x : SqlType × Marks) → Name c → Pair WellType MarksWell x → PartWell (column_of c x)
column_good c x p q = (p, q.0, q.1)

part_well : (n : ℕ) (b : Bool) → Gives PartWell (table_part n b).texts
part_well n b =
    either_gives (only_gives (not b) (mapped parts.Primary (behind (keyword words.Primary) (behind (keyword words.Key) (names_in n)))) (mapped_gives parts.Primary (λ ns p. p) (key_gives (key_gives (names_in_well n) words.Key) words.Primary))) (
    either_gives (key_gives (unique_well n) words.Unique) (both_gives column_of column_good name_well (paired_gives (type_well n) (marks_well b))))

parts_well : (n : ℕ) → Gives (Some' PartWell) (table_parts n).texts
parts_well n = rows_give (part_well n false) (λ ps. mark_gives (part_well n (list_any is_primary ps)) signs.Comma)

-- ---- the table of its parts
key_by : (b : Bool) (c : List ℕ) (o : Option (List (List ℕ))) → Name c → are_names_if o ≡ true → are_names_if (if b then Some (c ∷ []) else o) ≡ true
key_by true c o p q = and_from (nat_le 1 1) (is_name c && true) refl (and_from (is_name c) true p refl)
key_by false c o p q = q

key_good : (ps : List TablePart) → Each PartWell ps → are_names_if (key_in ps) ≡ true
key_good [] g = refl
key_good (parts.Column c k m ∷ ps) g = key_by m.keyed c (key_in ps) g.0.0 (key_good ps g.1)
key_good (parts.Primary ns ∷ ps) g = g.0
key_good (parts.Unique n ns ∷ ps) g = key_good ps g.1

-- a column of the key is NOT NULL
free_by : (b k : Bool) → not ((b && not k) && k) ≡ true
free_by true true = refl
free_by true false = refl
free_by false true = refl
free_by false false = refl

free : (o : Option (List (List ℕ))) (b : Bool) (c : List ℕ) → not ((b && not (is_one_of (unwrap_or o []) c)) && is_in_key o c) ≡ true
free None true c = refl
free None false c = refl
free (Some ns) b c = free_by b (is_one_of ns c)

columns_good : (o : Option (List (List ℕ))) (ps : List TablePart) → Each PartWell ps → list_all (is_column o) (columns_in (unwrap_or o []) ps) ≡ true
columns_good o [] g = refl
columns_good o (parts.Column c k m ∷ ps) g =
    and_from (is_name c && is_type k && is_literal_if m.value && not ((unwrap_or m.null true && not (is_one_of (unwrap_or o []) c)) && is_in_key o c)) (list_all (is_column o) (columns_in (unwrap_or o []) ps))
    (and_from (is_name c && is_type k && is_literal_if m.value) (not ((unwrap_or m.null true && not (is_one_of (unwrap_or o []) c)) && is_in_key o c))
    (and_from (is_name c && is_type k) (is_literal_if m.value) (and_from (is_name c) (is_type k) g.0.0 g.0.1) g.0.2) (free o (unwrap_or m.null true) c)) (columns_good o ps g.1)
columns_good o (parts.Primary ns ∷ ps) g = columns_good o ps g.1
columns_good o (parts.Unique n ns ∷ ps) g = columns_good o ps g.1

abbrev Uniques : List UniqueKey → Type 0
Uniques us = list_all is_unique us ≡ true

uniques_by : (b : Bool) (c : List ℕ) (us : List UniqueKey) → Name c → Uniques us → Uniques (if b then record { name = c; columns = c ∷ [] } ∷ us else us)
uniques_by true c us p q =
    and_from (is_name c && are_names (c ∷ [])) (list_all is_unique us) (and_from (is_name c) (are_names (c ∷ [])) p (and_from (nat_le 1 1) (is_name c && true) refl (and_from (is_name c) true p refl))) q
uniques_by false c us p q = q

uniques_good : (ps : List TablePart) → Each PartWell ps → Uniques (uniques_in ps)
uniques_good [] g = refl
uniques_good (parts.Column c k m ∷ ps) g = uniques_by m.unique c (uniques_in ps) g.0.0 (uniques_good ps g.1)
uniques_good (parts.Primary ns ∷ ps) g = uniques_good ps g.1
uniques_good (parts.Unique n ns ∷ ps) g = and_from (is_name n && are_names ns) (list_all is_unique (uniques_in ps)) (and_from (is_name n) (are_names ns) g.0.0 g.0.1) (uniques_good ps g.1)

has_part : (t : List ℕ) (ps : List TablePart) → Some' PartWell ps → has_table_part (table_of t ps) ≡ true
has_part t [] g = absurd g
has_part t (parts.Column c k m ∷ ps) g =
    let u = table_of t (parts.Column c k m ∷ ps) in
    or_left (nat_le 1 (length u.columns) || is_some u.primary) (nat_le 1 (length u.uniques)) (or_left (nat_le 1 (length u.columns)) (is_some u.primary) (le-leb 1 (length u.columns) (omega arith)))
has_part t (parts.Primary ns ∷ ps) g =
    let u = table_of t (parts.Primary ns ∷ ps) in
    or_left (nat_le 1 (length u.columns) || is_some u.primary) (nat_le 1 (length u.uniques)) (or_right (nat_le 1 (length u.columns)) (is_some u.primary) refl)
has_part t (parts.Unique n ns ∷ ps) g =
    let u = table_of t (parts.Unique n ns ∷ ps) in
    or_right (nat_le 1 (length u.columns) || is_some u.primary) (nat_le 1 (length u.uniques)) (le-leb 1 (length u.uniques) (omega arith))

each_part : (ps : List TablePart) → Some' PartWell ps → Each PartWell ps
each_part [] g = tt
each_part (p ∷ ps) g = g

abbrev pub WellTable : CreateTable → Type 0
WellTable t = is_table t ≡ true

table_good : (t : List ℕ) (ps : List TablePart) → Name t → Some' PartWell ps → WellTable (table_of t ps)
table_good t ps p g =
    let u = table_of t ps in
    let h = each_part ps g in
    and_from (is_name t && has_table_part u && list_all (is_column u.primary) u.columns && are_names_if u.primary) (list_all is_unique u.uniques)
    (and_from (is_name t && has_table_part u && list_all (is_column u.primary) u.columns) (are_names_if u.primary)
    (and_from (is_name t && has_table_part u) (list_all (is_column u.primary) u.columns) (and_from (is_name t) (has_table_part u) p (has_part t ps g)) (columns_good (key_in ps) ps h)) (key_good ps h)) (uniques_good ps h)

engine_well : Gives Any engine.texts
engine_well = optional_gives tt tt (key_gives (behind_gives (optional_gives tt tt (sign_gives signs.Equal)) (keyword_gives words.Innodb)) words.Engine)

pub table_well : (n : ℕ) → Gives WellTable (table n).texts
table_well n = key_gives (before_gives (both_gives table_of table_good name_well (parens_well n (closed (table_parts (pred n))) (closed_well (table_parts (pred n)) (parts_well (pred n))))) engine_well) words.Table
