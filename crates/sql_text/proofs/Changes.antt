-- INSERT, REPLACE, UPDATE and DELETE are read as they are written.
use Rattle.std.proofs.Common.{◌≡◌, ◌<◌, ◌≤◌, ℕ, pred, ◌*◌, Bool, true, false, List, [], ◌∷◌, ◌++◌, Option, Some, None, refl, arith, append_assoc, length, map, inl, inr, codes}
use Rattle.std.proofs.lemmas.Bool.{and_parts}
use Rattle.std.specs.Prelude.{nat_le}
use Rattle.std.specs.List.{list_all}
use Rattle.sql_grammar.specs.Rule.{mapped, paired}
use Rattle.sql_tree.specs.Tree.{Tree, Trees, Part, Orders}
use Rattle.sql_tree.specs.Statement.{insert_into, replace_into, update_rows, delete_rows, Supply, rows, rows_of}
use Rattle.sql_tree.specs.Depth.{depth_of_tree, depth_of_trees, depth_of_part, depth_of_orders, depth_of_rows, depth_of_supply, depth_of_sets}
use Rattle.sql_tree.specs.Well.{is_name, are_names, are_names_if, is_count_if, has_tree, are_well_trees, has_item, is_well_row, is_well_supply, is_well_tree, is_well_set, is_well_part, are_well_orders}
use Rattle.sql_tree.specs.declared.expressions.Count.{Count}
use Rattle.sql_print.specs.Names.{quoted_name as name_text, names_of, commas, more_of, count_if}
use Rattle.sql_print.specs.Spelling.{tree_text, where_text, orders_text}
use Rattle.sql_print.specs.StatementSpelling.{columns_text, row_text, supply_text, set_text, sets_text, update_text, ignore_text}
use Rattle.sql_syntax.specs.Parts.{a_name, list_of, exprs, closed, names_in}
use Rattle.sql_syntax.specs.Expressions.{expression}
use Rattle.sql_syntax.specs.Changes.{set_item, sets, into, columns, a_row, source, on_duplicate, inserted, insert, replaced, replace, chosen, updated, update, deleted, delete}
use Rattle.sql_text.proofs.Saying.{soft, soft_on}
use Rattle.sql_text.proofs.Lines.{group4, group5, group7}
use Rattle.sql_text.proofs.Reading.{Reading, via, written, spaced, nothing, then', More, no_more, more}
use Rattle.sql_text.proofs.Sure.{sure_via, sure_nothing, sure_then}
use Rattle.sql_text.proofs.Written.{kw, say_equal}
use Rattle.sql_text.proofs.Words.{say_insert, say_ignore, say_into, say_replace, say_update, say_delete, say_from, say_set, say_values, say_on, say_duplicate, say_key}
use Rattle.sql_text.proofs.Parts.{key_then, sign_then, closing, in_parens, name_read, list_read}
use Rattle.sql_text.proofs.Levels.{whole_of}
use Rattle.sql_text.proofs.Selects.{limit_read, count_soft}
use Rattle.sql_text.proofs.Trees.{tree_read, trees_read, where_part_read, orders_read, select_read, where_soft, orders_soft}

-- ---- names with commas
pub more_names : (ns : List (List ℕ)) → list_all is_name ns ≡ true → More a_name.texts ns (more_of (map name_text ns))
more_names [] w = no_more
more_names (n ∷ ns) w = let p = and_parts (is_name n) (list_all is_name ns) w in more (name_read n p.0) (more_names ns p.1)

pub names_read : (ns : List (List ℕ)) → are_names ns ≡ true → Reading (list_of a_name).texts ns (names_of ns)
names_read [] w = cc
names_read (n ∷ ns) w =
    let q = and_parts (nat_le 1 (length (n ∷ ns))) (list_all is_name (n ∷ ns)) w in
    let p = and_parts (is_name n) (list_all is_name ns) q.1 in
    list_read a_name (name_read n p.0) (more_names ns p.1)

pub names_in_read : (ns : List (List ℕ)) → are_names ns ≡ true → (n : ℕ) → 0 < n → Reading (names_in n).texts ns (40 ∷ (names_of ns ++ 41 ∷ []))
names_in_read ns w n l = in_parens (closed (list_of a_name)) n l (closing (names_read ns w))

-- ---- INSERT and REPLACE
columns_read : (cs : Option (List (List ℕ))) → are_names_if cs ≡ true → (n : ℕ) → 0 < n → Reading (columns n).texts cs (columns_text cs)
columns_read None w n l = via (λ ts rest g. inr g) (nothing None)
columns_read (Some ns) w n l = spaced (via (λ ts rest g. inl (ns, refl, g)) (names_in_read ns w n l))

columns_soft : (cs : Option (List (List ℕ))) → soft (columns_text cs) ≡ true
columns_soft None = refl
columns_soft (Some ns) = refl

row_read : (ts : Trees) (n : ℕ) → 0 < n → 2 * depth_of_trees ts ≤ pred n → is_well_row ts ≡ true → Reading (a_row n).texts ts (row_text ts)
row_read ts n some l w =
    let p = and_parts (has_tree ts) (are_well_trees ts) w in
    in_parens (closed (exprs (expression (pred n)))) n some (closing (trees_read ts (pred n) p.0 l p.1))

more_rows : (rs : List Trees) (n : ℕ) → 0 < n → 2 * depth_of_rows rs ≤ pred n → list_all is_well_row rs ≡ true → More (a_row n).texts rs (more_of (map row_text rs))
more_rows [] n some l w = no_more
more_rows (r ∷ rs) n some l w =
    let p = and_parts (is_well_row r) (list_all is_well_row rs) w in
    more (row_read r n some (omega (arith, l)) p.0) (more_rows rs n some (omega (arith, l)) p.1)

supply_read : (from : Supply) (n : ℕ) → 0 < n → 2 * depth_of_supply from ≤ pred n → is_well_supply from ≡ true → Reading (source n).texts from (supply_text from)
supply_read (rows []) n some l w = cc
supply_read (rows (r ∷ rs)) n some l w =
    let p = and_parts (is_well_row r) (list_all is_well_row rs) w in
    let listed : Reading (mapped rows (list_of (a_row n))).texts (rows (r ∷ rs)) (commas (map row_text (r ∷ rs))) =
    via (λ us end g. (r ∷ rs, refl, g)) (list_read (a_row n) (row_read r n some (omega (arith, l)) p.0) (more_rows rs n some (omega (arith, l)) p.1)) in
    spaced (via (λ us end g. inr (g.0, g.1, g.2, g.3, inl g.4, g.5)) (key_then say_values listed))
supply_read (rows_of q) n some l w = spaced (via (λ us end g. inl (q, refl, g)) (select_read q n (omega (arith, l)) w))

supply_soft : (from : Supply) → soft (supply_text from) ≡ true
supply_soft (rows rs) = refl
supply_soft (rows_of q) = refl

set_item_read : (s : List ℕ × Tree) (n : ℕ) → 2 * depth_of_tree s.1 ≤ n → is_well_set s ≡ true → Reading (set_item (expression n)).texts s (set_text s)
set_item_read s n l w =
    let p = and_parts (is_name s.0) (is_well_tree s.1) w in
    written (then' paired (name_read s.0 p.0) (spaced (sign_then say_equal (whole_of n (tree_read s.1 n l p.1)))) refl) (append_assoc (name_text s.0) (codes " = ") (tree_text s.1))

more_sets : (ss : List (List ℕ × Tree)) (n : ℕ) → 2 * depth_of_sets ss ≤ n → list_all is_well_set ss ≡ true → More (set_item (expression n)).texts ss (more_of (map set_text ss))
more_sets [] n l w = no_more
more_sets (s ∷ ss) n l w =
    let p = and_parts (is_well_set s) (list_all is_well_set ss) w in
    more (set_item_read s n (omega (arith, l)) p.0) (more_sets ss n (omega (arith, l)) p.1)

sets_read : (ss : List (List ℕ × Tree)) (n : ℕ) → has_item ss ≡ true → 2 * depth_of_sets ss ≤ n → list_all is_well_set ss ≡ true → Reading (sets (expression n)).texts ss (sets_text ss)
sets_read [] n h l w = cc
sets_read (s ∷ ss) n h l w =
    let p = and_parts (is_well_set s) (list_all is_well_set ss) w in
    list_read (set_item (expression n)) (set_item_read s n (omega (arith, l)) p.0) (more_sets ss n (omega (arith, l)) p.1)

on_duplicate_read : (ss : List (List ℕ × Tree)) (n : ℕ) → 2 * depth_of_sets ss ≤ n → list_all is_well_set ss ≡ true → Reading (on_duplicate n).texts ss (update_text ss)
on_duplicate_read [] n l w = via (λ us end g. inr g) (nothing [])
on_duplicate_read (s ∷ ss) n l w = spaced (via (λ us end g. inl g) (key_then say_on (key_then say_duplicate (key_then say_key (key_then say_update (sets_read (s ∷ ss) n refl l w))))))

update_soft : (ss : List (List ℕ × Tree)) → soft (update_text ss) ≡ true
update_soft [] = refl
update_soft (s ∷ ss) = refl

into_read : (t : List ℕ) → is_name t ≡ true → Reading into.texts t (codes "INTO " ++ name_text t)
into_read t good = via (λ us end g. (g.0, g.1, g.2, g.3, inl g.4, g.5)) (key_then say_into (name_read t good))

module _ (n : ℕ) (t : List ℕ) (cs : Option (List (List ℕ))) (from : Supply) (some : 0 < n) (good : is_name t ≡ true) (wc : are_names_if cs ≡ true) (l : 2 * depth_of_supply from ≤ pred n) (wf : is_well_supply from ≡ true) where
  pub replace_read : Reading (replace n).texts (replace_into t cs from) (codes "REPLACE INTO " ++ name_text t ++ columns_text cs ++ supply_text from)
  replace_read =
      written (key_then say_replace (then' replaced (into_read t good) (then' paired (columns_read cs wc n some) (supply_read from n some l wf) (supply_soft from)) (soft_on (columns_text cs) (supply_text from) (columns_soft cs) (supply_soft from))))
      (group4 (codes "REPLACE INTO ") (name_text t) (columns_text cs) (supply_text from))

  module _ (us : List (List ℕ × Tree)) (lu : 2 * depth_of_sets us ≤ n) (wu : list_all is_well_set us ≡ true) where
    behind_soft : soft (columns_text cs ++ (supply_text from ++ update_text us)) ≡ true
    behind_soft = soft_on (columns_text cs) (supply_text from ++ update_text us) (columns_soft cs) (soft_on (supply_text from) (update_text us) (supply_soft from) (update_soft us))

    pub insert_read : (ignored : Bool) → Reading (insert n).texts (insert_into ignored t cs from us) (ignore_text ignored ++ name_text t ++ columns_text cs ++ supply_text from ++ update_text us)
    insert_read true =
        written (key_then say_insert (then' inserted (via (λ ts end g. inl (tt, refl, g)) (kw say_ignore)) (spaced (then' paired (into_read t good) (then' paired (columns_read cs wc n some)
        (then' paired (supply_read from n some l wf) (on_duplicate_read us n lu wu) (update_soft us)) (soft_on (supply_text from) (update_text us) (supply_soft from) (update_soft us))) behind_soft)) refl))
        (group5 (codes "INSERT IGNORE INTO ") (name_text t) (columns_text cs) (supply_text from) (update_text us))
    insert_read false =
        written (key_then say_insert (sure_then inserted (sure_via (λ ts end g. inr g) (sure_nothing false)) (then' paired (into_read t good) (then' paired (columns_read cs wc n some)
        (then' paired (supply_read from n some l wf) (on_duplicate_read us n lu wu) (update_soft us)) (soft_on (supply_text from) (update_text us) (supply_soft from) (update_soft us))) behind_soft)))
        (group5 (codes "INSERT INTO ") (name_text t) (columns_text cs) (supply_text from) (update_text us))

-- ---- UPDATE and DELETE
module _ (n : ℕ) (t : List ℕ) (c : Part) (os : Orders) (o : Option Count) (good : is_name t ≡ true) (lc : 2 * depth_of_part c ≤ n) (wc : is_well_part c ≡ true) (lo : 2 * depth_of_orders os ≤ n) (wo : are_well_orders os ≡ true) (wl : is_count_if o ≡ true) where
  chosen_soft : soft (where_text c ++ (orders_text os ++ count_if o)) ≡ true
  chosen_soft = soft_on (where_text c) (orders_text os ++ count_if o) (where_soft c) (soft_on (orders_text os) (count_if o) (orders_soft os) (count_soft o))

  chosen_read : Reading (chosen n).texts (c, (os, o)) (where_text c ++ (orders_text os ++ count_if o))
  chosen_read =
      then' paired (where_part_read c n lc wc) (then' paired (orders_read os n lo wo) (limit_read o wl) (count_soft o)) (soft_on (orders_text os) (count_if o) (orders_soft os) (count_soft o))

  pub delete_read : Reading (delete n).texts (delete_rows t c os o) (codes "DELETE FROM " ++ name_text t ++ where_text c ++ orders_text os ++ count_if o)
  delete_read = written (key_then say_delete (key_then say_from (then' deleted (name_read t good) chosen_read chosen_soft))) (group5 (codes "DELETE FROM ") (name_text t) (where_text c) (orders_text os) (count_if o))

  pub update_read : (ss : List (List ℕ × Tree)) → has_item ss ≡ true → 2 * depth_of_sets ss ≤ n → list_all is_well_set ss ≡ true
      → Reading (update n).texts (update_rows t ss c os o) (codes "UPDATE " ++ name_text t ++ codes " SET " ++ sets_text ss ++ where_text c ++ orders_text os ++ count_if o)
  update_read ss h l w =
      written (key_then say_update (then' updated (name_read t good) (spaced (key_then say_set (then' paired (sets_read ss n h l w) chosen_read chosen_soft))) refl))
      (group7 (codes "UPDATE ") (name_text t) (codes " SET ") (sets_text ss) (where_text c) (orders_text os) (count_if o))
