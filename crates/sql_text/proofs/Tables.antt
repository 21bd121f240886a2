-- CREATE TABLE is read as it is written.
use Rattle.std.proofs.Common.{◌≡◌, ◌<◌, ℕ, pred, Bool, true, false, not, ◌&&◌, ◌||◌, List, [], ◌∷◌, ◌++◌, map, length, Option, Some, None, is_some, unwrap_or, refl, sym, ◌∙◌, ap, subst, append_assoc, append-nil, inl, inr, codes}
use Rattle.std.proofs.lemmas.Bool.{and_parts}
use Rattle.std.specs.Prelude.{nat_le}
use Rattle.std.specs.List.{list_all, list_any}
use Rattle.val_types.specs.declared.value.Value.{Value}
use Rattle.sql_lex.specs.declared.token.Symbol.TheVariants as signs
use Rattle.sql_grammar.specs.Grammar.{Grammar, Both, Mapped}
use Rattle.sql_grammar.specs.Rule.{paired, mapped, alone, then_one, pure}
use Rattle.sql_tree.specs.declared.statements.SqlType.{SqlType}
use Rattle.sql_tree.specs.declared.statements.CreateTable.{CreateTable}
use Rattle.sql_tree.specs.declared.statements.Column.{Column}
use Rattle.sql_tree.specs.declared.statements.UniqueKey.{UniqueKey}
use Rattle.sql_tree.specs.Well.{is_name, are_names, are_names_if, is_type, is_literal_if, is_in_key, is_column, is_unique, has_table_part, is_table}
use Rattle.sql_print.specs.Names.{quoted_name as name_text, names_of, more_of, commas, type_of}
use Rattle.sql_print.specs.StatementSpelling.{nullable_text, preset_text, auto_text, column_text, primary_parts, unique_text, table_text}
use Rattle.sql_print.specs.StatementSpelling as print
use Rattle.sql_syntax.specs.Tokens.{Tok, sign}
use Rattle.sql_syntax.specs.Parts.{a_number, closed}
use Rattle.sql_syntax.specs.declared.table_parts.Marks.{Marks}
use Rattle.sql_syntax.specs.declared.table_parts.TablePart.{TablePart}
use Rattle.sql_syntax.specs.declared.table_parts.TablePart.TheVariants as parts
use Rattle.sql_syntax.specs.Tables.{a_type, no_marks, marked, mark, marks, is_primary, column_of, table_part, table_parts, key_in, is_one_of, columns_in, uniques_in, table_of, table}
use Rattle.sql_text.proofs.Saying.{soft, soft_on}
use Rattle.sql_text.proofs.Lines.{group5, group6}
use Rattle.sql_text.proofs.Reading.{Reading, Steps, via, written, valued, spaced, nothing, then', then_nothing, stay, last_step, step, steps_then, chained}
use Rattle.sql_text.proofs.Written.{kw}
use Rattle.sql_text.proofs.Words.{say_int, say_bigint, say_varchar, say_null, say_not, say_default, say_auto_increment, say_primary, say_key, say_unique, say_table}
use Rattle.sql_text.proofs.Parts.{key_then, key_before, comma_then, closing, in_parens, name_read, number_read, value_read}
use Rattle.sql_text.proofs.Changes.{names_in_read}

-- ---- types
pub type_read : (k : SqlType) (n : ℕ) → 0 < n → is_type k ≡ true → Reading (a_type n).texts k (type_of k)
type_read SqlType.Int n l w = via (λ ts rest g. inl g) (then_nothing (λ u k. k) (kw say_int) (via (λ ts rest g. (tt, refl, inr g)) (nothing tt)))
type_read SqlType.BigInt n l w = via (λ ts rest g. inr (inr (inl g))) (then_nothing (λ u k. k) (kw say_bigint) (via (λ ts rest g. (tt, refl, inr g)) (nothing tt)))
type_read (SqlType.Varchar m) n l w =
    via (λ ts rest g. inr (inr (inr g))) (key_before say_varchar (in_parens (mapped (λ k. SqlType.Varchar k) (closed a_number)) n l (via (λ ts rest g. (m, refl, g)) (closing (number_read m w)))) refl)

-- ---- columns
-- the options as they are written
abbrev marks_by : Bool → Option Value → Bool → Marks
marks_by b o counted = record { null = Some b; value = o; counted = counted; keyed = false; unique = false }

module _ (has_key : Bool) where
  abbrev MarkSteps : Marks → Marks → List ℕ → Type 0
  MarkSteps m z w = Steps marked (pure no_marks).texts (λ k. (mark has_key k).texts) m z w

  null_step : (b : Bool) → MarkSteps no_marks (marks_by b None false) (nullable_text b)
  null_step true = last_step (spaced (via (λ ts rest g. inl (tt, refl, g)) (kw say_null)))
  null_step false = last_step (spaced (via (λ ts rest g. inr (inl (tt, refl, g))) (key_then say_not (kw say_null))))

  preset_step : (b : Bool) (o : Option Value) → is_literal_if o ≡ true → MarkSteps (marks_by b None false) (marks_by b o false) (preset_text o)
  preset_step b None w = stay (marks_by b None false)
  preset_step b (Some v) w = last_step (spaced (via (λ ts rest g. inr (inr (inl (v, refl, g)))) (key_then say_default (value_read v w))))

  auto_step : (b : Bool) (o : Option Value) (counted : Bool) → MarkSteps (marks_by b o false) (marks_by b o counted) (auto_text counted)
  auto_step b o false = stay (marks_by b o false)
  auto_step b o true = last_step (spaced (via (λ ts rest g. inr (inr (inr (inl (tt, refl, g))))) (kw say_auto_increment)))

  preset_soft : (o : Option Value) → soft (preset_text o) ≡ true
  preset_soft None = refl
  preset_soft (Some v) = refl

  auto_soft : (b : Bool) → soft (auto_text b) ≡ true
  auto_soft true = refl
  auto_soft false = refl

  nullable_soft : (b : Bool) → soft (nullable_text b) ≡ true
  nullable_soft true = refl
  nullable_soft false = refl

  rest_soft : (o : Option Value) (counted : Bool) → soft (preset_text o ++ auto_text counted) ≡ true
  rest_soft o counted = soft_on (preset_text o) (auto_text counted) (preset_soft o) (auto_soft counted)

  options_soft : (b : Bool) (o : Option Value) (counted : Bool) → soft (nullable_text b ++ (preset_text o ++ auto_text counted)) ≡ true
  options_soft b o counted = soft_on (nullable_text b) (preset_text o ++ auto_text counted) (nullable_soft b) (rest_soft o counted)

  marks_read : (b : Bool) (o : Option Value) (counted : Bool) → is_literal_if o ≡ true → Reading (marks has_key).texts (marks_by b o counted) (nullable_text b ++ (preset_text o ++ auto_text counted))
  marks_read b o counted w =
      chained (nothing no_marks) (options_soft b o counted)
      (steps_then (null_step b) (rest_soft o counted) (steps_then (preset_step b o w) (auto_soft counted) (auto_step b o counted)))

-- the part of a column
abbrev column_part : Column → TablePart
column_part c = parts.Column c.name c.kind (marks_by c.nullable c.preset c.auto_increment)

column_read : (c : Column) (n : ℕ) (has_key : Bool) → 0 < n → is_name c.name ≡ true → is_type c.kind ≡ true → is_literal_if c.preset ≡ true → Reading (table_part n has_key).texts (column_part c) (column_text c)
column_read c n has_key l good wk wp =
    via (λ ts rest g. inr (inr g)) (written (then' column_of (name_read c.name good) (spaced (then' paired (type_read c.kind n l wk) (marks_read has_key c.nullable c.preset c.auto_increment wp) (options_soft has_key c.nullable c.preset c.auto_increment))) refl)
    (group6 (name_text c.name) (codes " ") (type_of c.kind) (nullable_text c.nullable) (preset_text c.preset) (auto_text c.auto_increment)))

primary_read : (ns : List (List ℕ)) (n : ℕ) → 0 < n → are_names ns ≡ true → Reading (table_part n false).texts (parts.Primary ns) (codes "PRIMARY KEY (" ++ names_of ns ++ codes ")")
primary_read ns n l w = via (λ ts rest g. inl (ns, refl, g)) (key_then say_primary (key_then say_key (names_in_read ns w n l)))

unique_read : (u : UniqueKey) (n : ℕ) (has_key : Bool) → 0 < n → is_unique u ≡ true → Reading (table_part n has_key).texts (parts.Unique u.name u.columns) (unique_text u)
unique_read u n has_key l w =
    let p = and_parts (is_name u.name) (are_names u.columns) w in
    via (λ ts rest g. inr (inl g)) (written (key_then say_unique (via (λ ts rest g. inl g) (key_then say_key (then' parts.Unique (name_read u.name p.0) (spaced (names_in_read u.columns p.1 n l)) refl))))
    (group5 (codes "UNIQUE KEY ") (name_text u.name) (codes " (") (names_of u.columns) (codes ")")))

-- ---- the list of parts
-- parts and their texts, behind parts with a primary key or not
data PartList (n : ℕ) : Bool → List TablePart → List (List ℕ) → Type 0 where
  no_part' : {h : Bool} → PartList n h [] []
  part' : {h : Bool} {p : TablePart} {ps : List TablePart} {w : List ℕ} {ws : List (List ℕ)} → Reading (table_part n h).texts p w → PartList n (h || is_primary p) ps ws → PartList n h (p ∷ ps) (w ∷ ws)

more_of_soft : (ws : List (List ℕ)) → soft (more_of ws) ≡ true
more_of_soft [] = refl
more_of_soft (w ∷ ws) = refl

any_push : (ps : List TablePart) (p : TablePart) → list_any is_primary (ps ++ p ∷ []) ≡ (list_any is_primary ps || is_primary p)
any_push [] p = or_false (is_primary p)
  where
    or_false : (b : Bool) → (b || false) ≡ b
    or_false true = refl
    or_false false = refl
any_push (q ∷ ps) p = by (is_primary q) (any_push ps p)
  where
    by : (b : Bool) → list_any is_primary (ps ++ p ∷ []) ≡ (list_any is_primary ps || is_primary p) → (b || list_any is_primary (ps ++ p ∷ [])) ≡ (b || list_any is_primary ps || is_primary p)
    by true e = refl
    by false e = e

module _ (n : ℕ) where
  abbrev First : Grammar Tok (List TablePart)
  First = Mapped alone (table_part n false).texts

  abbrev Further : List TablePart → Grammar Tok TablePart
  Further ps = Both (λ u p. p) (sign signs.Comma).texts (table_part n (list_any is_primary ps)).texts

  part_steps : {h : Bool} {ps : List TablePart} {ws : List (List ℕ)} → PartList n h ps ws → (acc : List TablePart) → list_any is_primary acc ≡ h → Steps then_one First Further acc (acc ++ ps) (more_of ws)
  part_steps no_part' acc e = subst (λ (z : List TablePart). Steps then_one First Further acc z []) (sym (append-nil acc)) (stay acc)
  part_steps {h = h} (part' {p = p} {ps = ps} {w = w} {ws = ws} r m) acc e =
      let first' : Reading (table_part n (list_any is_primary acc)).texts p w = subst (λ (b : Bool). Reading (table_part n b).texts p w) (sym e) r in
      subst (λ (z : List TablePart). Steps then_one First Further acc z (44 ∷ 32 ∷ (w ++ more_of ws))) (append_assoc acc (p ∷ []) ps)
      (step (comma_then first') (more_of_soft ws) (part_steps m (acc ++ p ∷ []) (any_push acc p ∙ ap (λ b. b || is_primary p) e)))

  parts_read : (p : TablePart) (ps : List TablePart) (w : List ℕ) (ws : List (List ℕ)) → PartList n false (p ∷ ps) (w ∷ ws) → Reading (table_parts n).texts (p ∷ ps) (w ++ more_of ws)
  parts_read p ps w ws (part' r m) = chained (via (λ ts rest g. (p, refl, g)) r) (more_of_soft ws) (part_steps m (p ∷ []) (by (is_primary p)))
    where
      by : (b : Bool) → (b || false) ≡ b
      by true = refl
      by false = refl

-- ---- a table as its parts
abbrev unique_part' : UniqueKey → TablePart
unique_part' u = parts.Unique u.name u.columns

unique_parts : (us : List UniqueKey) (n : ℕ) (h : Bool) → 0 < n → list_all is_unique us ≡ true → PartList n h (map unique_part' us) (map unique_text us)
unique_parts [] n h l w = no_part'
unique_parts (u ∷ us) n true l w = let p = and_parts (is_unique u) (list_all is_unique us) w in part' (unique_read u n true l p.0) (unique_parts us n true l p.1)
unique_parts (u ∷ us) n false l w = let p = and_parts (is_unique u) (list_all is_unique us) w in part' (unique_read u n false l p.0) (unique_parts us n false l p.1)

-- the part of the primary key, where there is one
abbrev key_parts : Option (List (List ℕ)) → List TablePart
key_parts None = []
key_parts (Some ns) = parts.Primary ns ∷ []

key_part_list : (key : Option (List (List ℕ))) (us : List UniqueKey) (n : ℕ) → 0 < n → are_names_if key ≡ true → list_all is_unique us ≡ true
    → PartList n false (key_parts key ++ map unique_part' us) (primary_parts key ++ map unique_text us)
key_part_list None us n l w e = unique_parts us n false l e
key_part_list (Some ns) us n l w e = part' (primary_read ns n l w) (unique_parts us n true l e)

column_parts : (key : Option (List (List ℕ))) (cs : List Column) (n : ℕ) (ps : List TablePart) (ws : List (List ℕ)) → 0 < n → list_all (is_column key) cs ≡ true → PartList n false ps ws
    → PartList n false (map column_part cs ++ ps) (map column_text cs ++ ws)
column_parts key [] n ps ws l w m = m
column_parts key (c ∷ cs) n ps ws l w m =
    let p = and_parts (is_column key c) (list_all (is_column key) cs) w in
    let q = and_parts (is_name c.name && is_type c.kind && is_literal_if c.preset) (not (c.nullable && is_in_key key c.name)) p.0 in
    let r = and_parts (is_name c.name && is_type c.kind) (is_literal_if c.preset) q.0 in
    let s = and_parts (is_name c.name) (is_type c.kind) r.0 in
    part' (column_read c n false l s.0 s.1 r.1) (column_parts key cs n ps ws l p.1 m)

-- the parts as they are written
abbrev all_parts : List Column → Option (List (List ℕ)) → List UniqueKey → List TablePart
all_parts cs key us = map column_part cs ++ (key_parts key ++ map unique_part' us)

abbrev all_texts : List Column → Option (List (List ℕ)) → List UniqueKey → List (List ℕ)
all_texts cs key us = map column_text cs ++ (primary_parts key ++ map unique_text us)

abbrev some : List TablePart → Bool
some [] = false
some (p ∷ ps) = true

commas_read : (n : ℕ) (ps : List TablePart) (ws : List (List ℕ)) → PartList n false ps ws → some ps ≡ true → Reading (table_parts n).texts ps (commas ws)
commas_read n [] ws m e = cc
commas_read n (p ∷ ps) [] m e = elim m [ ]
commas_read n (p ∷ ps) (w ∷ ws) m e = parts_read n p ps w ws m

some_part : (cs : List Column) (key : Option (List (List ℕ))) (us : List UniqueKey) → (nat_le 1 (length cs) || is_some key || nat_le 1 (length us)) ≡ true → some (all_parts cs key us) ≡ true
some_part (c ∷ cs) key us e = refl
some_part [] (Some ns) us e = refl
some_part [] None (u ∷ us) e = refl
some_part [] None [] e = cc

-- ---- the parts give the table
key_columns : (cs : List Column) (ps : List TablePart) → key_in (map column_part cs ++ ps) ≡ key_in ps
key_columns [] ps = refl
key_columns (c ∷ cs) ps = key_columns cs ps

key_uniques : (us : List UniqueKey) → key_in (map unique_part' us) ≡ None
key_uniques [] = refl
key_uniques (u ∷ us) = key_uniques us

key_same : (cs : List Column) (key : Option (List (List ℕ))) (us : List UniqueKey) → key_in (all_parts cs key us) ≡ key
key_same cs None us = key_columns cs (map unique_part' us) ∙ key_uniques us
key_same cs (Some ns) us = key_columns cs (parts.Primary ns ∷ map unique_part' us)

uniques_columns : (cs : List Column) (ps : List TablePart) → uniques_in (map column_part cs ++ ps) ≡ uniques_in ps
uniques_columns [] ps = refl
uniques_columns (c ∷ cs) ps = uniques_columns cs ps

uniques_of : (us : List UniqueKey) → uniques_in (map unique_part' us) ≡ us
uniques_of [] = refl
uniques_of (u ∷ us) = ap (λ z. u ∷ z) (uniques_of us)

uniques_same : (cs : List Column) (key : Option (List (List ℕ))) (us : List UniqueKey) → uniques_in (all_parts cs key us) ≡ us
uniques_same cs None us = uniques_columns cs (map unique_part' us) ∙ uniques_of us
uniques_same cs (Some ns) us = uniques_columns cs (parts.Primary ns ∷ map unique_part' us) ∙ uniques_of us

no_column_in_uniques : (names : List (List ℕ)) (us : List UniqueKey) → columns_in names (map unique_part' us) ≡ []
no_column_in_uniques names [] = refl
no_column_in_uniques names (u ∷ us) = no_column_in_uniques names us

no_column_behind : (names : List (List ℕ)) (key : Option (List (List ℕ))) (us : List UniqueKey) → columns_in names (key_parts key ++ map unique_part' us) ≡ []
no_column_behind names None us = no_column_in_uniques names us
no_column_behind names (Some ns) us = no_column_in_uniques names us

kept : (b k : Bool) → not (b && k) ≡ true → (b && not k) ≡ b
kept false k e = refl
kept true k e = e

in_key_same : (key : Option (List (List ℕ))) (n : List ℕ) → is_one_of (unwrap_or key []) n ≡ is_in_key key n
in_key_same None n = refl
in_key_same (Some ns) n = refl

abbrev with_nullable : Column → Bool → Column
with_nullable c b = record { name = c.name; kind = c.kind; nullable = b; preset = c.preset; auto_increment = c.auto_increment }

columns_same : (key : Option (List (List ℕ))) (cs : List Column) (ps : List TablePart) → list_all (is_column key) cs ≡ true → columns_in (unwrap_or key []) ps ≡ [] → columns_in (unwrap_or key []) (map column_part cs ++ ps) ≡ cs
columns_same key [] ps w e = e
columns_same key (c ∷ cs) ps w e =
    let p = and_parts (is_column key c) (list_all (is_column key) cs) w in
    let q = and_parts (is_name c.name && is_type c.kind && is_literal_if c.preset) (not (c.nullable && is_in_key key c.name)) p.0 in
    let same : (c.nullable && not (is_one_of (unwrap_or key []) c.name)) ≡ c.nullable = ap (λ z. c.nullable && not z) (in_key_same key c.name) ∙ kept c.nullable (is_in_key key c.name) q.1 in
    ap (λ z. with_nullable c z ∷ columns_in (unwrap_or key []) (map column_part cs ++ ps)) same ∙ ap (λ z. c ∷ z) (columns_same key cs ps p.1 e)

abbrev made : List ℕ → List Column → Option (List (List ℕ)) → List UniqueKey → CreateTable
made x cs key us = record { name = x; columns = cs; primary = key; uniques = us }

table_same : (x : List ℕ) (cs : List Column) (key : Option (List (List ℕ))) (us : List UniqueKey) → list_all (is_column key) cs ≡ true → table_of x (all_parts cs key us) ≡ made x cs key us
table_same x cs key us w =
    let ps : List TablePart = all_parts cs key us in
    ap (λ z. made x (columns_in (unwrap_or z []) ps) z (uniques_in ps)) (key_same cs key us)
    ∙ (ap (λ z. made x z key (uniques_in ps)) (columns_same key cs (key_parts key ++ map unique_part' us) w (no_column_behind (unwrap_or key []) key us))
    ∙ ap (λ z. made x cs key z) (uniques_same cs key us))

pub table_read : (t : CreateTable) (n : ℕ) → 0 < n → 0 < pred n → is_table t ≡ true → Reading (table n).texts t (codes "TABLE " ++ name_text t.name ++ codes " (" ++ commas (print.table_parts t) ++ codes ")")
table_read t n l m w =
    let p = and_parts (is_name t.name && has_table_part t && list_all (is_column t.primary) t.columns && are_names_if t.primary) (list_all is_unique t.uniques) w in
    let q = and_parts (is_name t.name && has_table_part t && list_all (is_column t.primary) t.columns) (are_names_if t.primary) p.0 in
    let r = and_parts (is_name t.name && has_table_part t) (list_all (is_column t.primary) t.columns) q.0 in
    let s = and_parts (is_name t.name) (has_table_part t) r.0 in
    let list = column_parts t.primary t.columns (pred n) (key_parts t.primary ++ map unique_part' t.uniques) (primary_parts t.primary ++ map unique_text t.uniques) m r.1
    (key_part_list t.primary t.uniques (pred n) m q.1 p.1) in
    let listed = commas_read (pred n) (all_parts t.columns t.primary t.uniques) (all_texts t.columns t.primary t.uniques) list (some_part t.columns t.primary t.uniques s.1) in
    let texts : commas (print.table_parts t) ≡ commas (all_texts t.columns t.primary t.uniques) = ap commas (append_assoc (map column_text t.columns) (primary_parts t.primary) (map unique_text t.uniques)) in
    let whole : Reading (table n).texts t (codes "TABLE " ++ (name_text t.name ++ (32 ∷ 40 ∷ (commas (all_texts t.columns t.primary t.uniques) ++ 41 ∷ [])))) =
    valued (key_then say_table (then_nothing (λ a u. a) (then' table_of (name_read t.name s.0) (spaced (in_parens (closed (table_parts (pred n))) n l (closing listed))) refl) (via (λ ts rest g. inr g) (nothing tt))))
    (table_same t.name t.columns t.primary t.uniques r.1) in
    written whole (ap (λ z. codes "TABLE " ++ name_text t.name ++ codes " (" ++ z ++ codes ")") texts ∙ group5 (codes "TABLE ") (name_text t.name) (codes " (") (commas (all_texts t.columns t.primary t.uniques)) (codes ")"))
