-- The tables of changes, found one after the other.
use Rattle.std.proofs.Common.{◌≡◌, ℕ, ◌+◌, ◌<◌, suc, zero, Bool, true, false, cond, List, [], ◌∷◌, ◌++◌, map, filter, length, take, drop, get_or, refl, sym, ap, ◌∙◌, append_assoc, append-nil, arith}
use Rattle.std.specs.Prelude.{not}
use Rattle.std.proofs.lemmas.List.{drop_more, take_more, map-append}
use Rattle.std.proofs.lemmas.Slice.Eq.{bytes_eq-Decides}
use Rattle.val_types.specs.declared.change.Change.{Change}
use Rattle.val_types.specs.Changes.{table_of}
use Rattle.val_types.specs.declared.definitions.TableDef.{TableDef}
use Rattle.log_model.specs.Items.{same_name, distinct, columns_in, id_from}
use Rattle.row_events.specs.Tables.{has, new_among}

same_is : (a b : List ℕ) → same_name a b ≡ true → a ≡ b
same_is a b e = (bytes_eq-Decides a b).0 e

is_same : (a b : List ℕ) → a ≡ b → same_name a b ≡ true
is_same a b e = (bytes_eq-Decides a b).1 e

-- one name more
pub has_behind : (before : List (List ℕ)) (n m : List ℕ) → has (before ++ n ∷ []) m ≡ cond (has before m) true (cond (same_name n m) true false)
has_behind [] n m = refl
has_behind (b ∷ bs) n m = by (same_name b m) (has_behind bs n m)
  where
    by : (x : Bool) → has (bs ++ n ∷ []) m ≡ cond (has bs m) true (cond (same_name n m) true false)
        → cond x true (has (bs ++ n ∷ []) m) ≡ cond (cond x true (has bs m)) true (cond (same_name n m) true false)
    by true again = refl
    by false again = again

abbrev unlike : List (List ℕ) → List ℕ → Bool
unlike before m = not (has before m)

-- names that are not behind others, where one more stands there
twice : (before : List (List ℕ)) (n : List ℕ) (names : List (List ℕ)) → filter (unlike (before ++ n ∷ [])) names ≡ filter (unlike before) (filter (λ m. not (same_name n m)) names)
twice before n [] = refl
twice before n (m ∷ ms) = rw has_behind (by (has before m) (same_name n m) refl (twice before n ms))
  where
    by : (a b : Bool) → has before m ≡ a → filter (unlike (before ++ n ∷ [])) ms ≡ filter (unlike before) (filter (λ x. not (same_name n x)) ms)
        → cond (not (cond a true (cond b true false))) (m ∷ filter (unlike (before ++ n ∷ [])) ms) (filter (unlike (before ++ n ∷ [])) ms)
        ≡ filter (unlike before) (cond (not b) (m ∷ filter (λ x. not (same_name n x)) ms) (filter (λ x. not (same_name n x)) ms))
    by true true e again = again
    by true false e again = rw e again
    by false true e again = again
    by false false e again = rw e (ap (λ (xs : List (List ℕ)). m ∷ xs) again)

-- what is new among names behind others: the first, where none before it is the same, and those behind it
pub new_step : (before : List (List ℕ)) (n : List ℕ) (ns : List (List ℕ))
    → new_among before (n ∷ ns) ≡ cond (not (has before n)) (n ∷ new_among (before ++ n ∷ []) ns) (new_among (before ++ n ∷ []) ns)
new_step before n ns = rw (twice before n (distinct ns)) refl

-- the same of changes, as a loop over them finds it
pub new_more : (cs : List Change) (i : ℕ) (c : Change) → i < length cs → get_or cs i c ≡ c
    → new_among (map table_of (take i cs)) (map table_of (drop i cs))
    ≡ cond (not (has (map table_of (take i cs)) (table_of c))) (table_of c ∷ new_among (map table_of (take (i + 1) cs)) (map table_of (drop (i + 1) cs)))
    (new_among (map table_of (take (i + 1) cs)) (map table_of (drop (i + 1) cs)))
new_more cs i c low is =
    let left : drop i cs ≡ c ∷ drop (i + 1) cs = drop_more cs i c low ∙ ap (λ (x : Change). x ∷ drop (i + 1) cs) is in
    let front : take (i + 1) cs ≡ take i cs ++ c ∷ [] = take_more cs i c low ∙ ap (λ (x : Change). take i cs ++ x ∷ []) is in
    let names : map table_of (take (i + 1) cs) ≡ map table_of (take i cs) ++ table_of c ∷ [] = ap (map table_of) front ∙ map-append table_of (take i cs) (c ∷ []) in
    rw (left, names) (new_step (map table_of (take i cs)) (table_of c) (map table_of (drop (i + 1) cs)))

keep_all : (names : List (List ℕ)) → filter (λ m. true) names ≡ names
keep_all [] = refl
keep_all (n ∷ ns) = ap (λ (xs : List (List ℕ)). n ∷ xs) (keep_all ns)

pub new_at_first : (names : List (List ℕ)) → new_among [] names ≡ distinct names
new_at_first names = keep_all (distinct names)

-- whether the changes in front have a table, with one more of them
pub has_more : (cs : List Change) (i : ℕ) (c : Change) (name : List ℕ) → i < length cs → get_or cs i c ≡ c
    → has (map table_of (take (i + 1) cs)) name ≡ cond (has (map table_of (take i cs)) name) true (cond (same_name (table_of c) name) true false)
has_more cs i c name low is =
    let front : take (i + 1) cs ≡ take i cs ++ c ∷ [] = take_more cs i c low ∙ ap (λ (x : Change). take i cs ++ x ∷ []) is in
    ap (λ (xs : List Change). has (map table_of xs) name) front ∙ ap (λ (ns : List (List ℕ)). has ns name) (map-append table_of (take i cs) (c ∷ []))
    ∙ has_behind (map table_of (take i cs)) (table_of c) name

pub has_not : (cs : List Change) (i j : ℕ) (c : Change) (name : List ℕ) (b : Bool) → j ≡ i + 1 → i < length cs → get_or cs i c ≡ c → same_name (table_of c) name ≡ false
    → has (map table_of (take j cs)) name ≡ b → has (map table_of (take i cs)) name ≡ b
has_not cs i j c name b next low is other before =
    by (has (map table_of (take i cs)) name) refl
  where
    by : (x : Bool) → has (map table_of (take i cs)) name ≡ x → x ≡ b
    by x e =
        let more = has_more cs i c name low is in
        let same : cond x true false ≡ b = ap (λ (y : Bool). cond y true false) (sym e) ∙ ap (λ (y : Bool). cond (has (map table_of (take i cs)) name) true (cond y true false)) (sym other) ∙ sym more ∙ ap (λ (n : ℕ). has (map table_of (take n cs)) name) (sym next) ∙ before in
        as_is x same
      where
        as_is : (y : Bool) → cond y true false ≡ b → y ≡ b
        as_is true s = s
        as_is false s = s

pub has_that : (cs : List Change) (i j : ℕ) (c : Change) (name : List ℕ) (b : Bool) → j ≡ i + 1 → i < length cs → get_or cs i c ≡ c → same_name (table_of c) name ≡ true
    → has (map table_of (take j cs)) name ≡ b → true ≡ b
has_that cs i j c name b next low is same before =
    by (has (map table_of (take i cs)) name) ∙ ap (λ (y : Bool). cond (has (map table_of (take i cs)) name) true (cond y true false)) (sym same) ∙ sym (has_more cs i c name low is)
    ∙ ap (λ (n : ℕ). has (map table_of (take n cs)) name) (sym next) ∙ before
  where
    by : (x : Bool) → true ≡ cond x true true
    by true = refl
    by false = refl

-- ---- look-ups by name

pub columns_step : (defs : List TableDef) (i : ℕ) (d : TableDef) (name : List ℕ) → i < length defs → get_or defs i d ≡ d
    → columns_in (drop i defs) name ≡ cond (same_name d.name name) d.columns (columns_in (drop (i + 1) defs) name)
columns_step defs i d name low is =
    let left : drop i defs ≡ d ∷ drop (i + 1) defs = drop_more defs i d low ∙ ap (λ (x : TableDef). x ∷ drop (i + 1) defs) is in
    ap (λ (xs : List TableDef). columns_in xs name) left

pub id_step : (names : List (List ℕ)) (i id : ℕ) (n name : List ℕ) → i < length names → get_or names i n ≡ n
    → id_from id (drop i names) name ≡ cond (same_name n name) id (id_from (id + 1) (drop (i + 1) names) name)
id_step names i id n name low is =
    let left : drop i names ≡ n ∷ drop (i + 1) names = drop_more names i n low ∙ ap (λ (x : List ℕ). x ∷ drop (i + 1) names) is in
    ap (λ (xs : List (List ℕ)). id_from id xs name) left

-- ---- a list of tables that grows

pub names_kept : (cs : List Change) (i : ℕ) (c : Change) (names whole : List (List ℕ)) → i < length cs → get_or cs i c ≡ c → has (map table_of (take i cs)) (table_of c) ≡ true
    → names ++ new_among (map table_of (take i cs)) (map table_of (drop i cs)) ≡ whole
    → names ++ new_among (map table_of (take (i + 1) cs)) (map table_of (drop (i + 1) cs)) ≡ whole
names_kept cs i c names whole low is old before = rw (new_more cs i c low is, old) at before

pub names_grown : (cs : List Change) (i : ℕ) (c : Change) (n : List ℕ) (names new whole : List (List ℕ)) → i < length cs → get_or cs i c ≡ c → has (map table_of (take i cs)) (table_of c) ≡ false
    → n ≡ table_of c → new ≡ names ++ n ∷ []
    → names ++ new_among (map table_of (take i cs)) (map table_of (drop i cs)) ≡ whole
    → new ++ new_among (map table_of (take (i + 1) cs)) (map table_of (drop (i + 1) cs)) ≡ whole
names_grown cs i c n names new whole low is none same grown before =
    rw (grown, same, append_assoc) (rw (new_more cs i c low is, none) at before)
