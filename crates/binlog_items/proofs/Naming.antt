-- Names put among others, and the definitions of their tables.
use Rattle.std.specs.Prelude.{nat_eq, ◌||◌}
use Rattle.std.proofs.Common.{◌≡◌, ℕ, ◌+◌, ◌<◌, List, [], ◌∷◌, map, length, drop, get_or, Bool, true, false, cond, Ordering, Less, Equal, Greater, refl, sym, ap, ◌∙◌, arith}
use Rattle.std.specs.Cmp.Lexicographic.{pointwise, slice_cmp}
use Rattle.std.specs.Ordering.{nat_cmp, is_eq}
use Rattle.std.proofs.lemmas.List.{drop_more}
use Rattle.std.proofs.lemmas.Cmp.{same_from_slice_cmp}
use Rattle.std.proofs.lemmas.Bool.Decides.{nat_tests}
use Rattle.std.proofs.lemmas.Slice.Eq.{bytes_eq-Decides}
use Rattle.val_types.specs.declared.change.Change.{Change}
use Rattle.val_types.specs.Changes.{table_of}
use Rattle.val_types.specs.declared.definitions.TableDef.{TableDef}
use Rattle.catalog_checks.specs.catalog_rules.Names.{is_among, same_name}
use Rattle.unsafe_rules.specs.sql_reach.Carrying.{put_by_order, put_name}
use Rattle.binlog_items.specs.Items.{among}

tied : (a b : List ℕ) (o : Ordering) → o ≡ slice_cmp nat_cmp a b → is_eq o ≡ same_name a b
tied = same_from_slice_cmp nat_cmp is_eq (pointwise nat_eq) refl (λ _ _. refl) (λ _ _. refl) (λ x y xs ys o h. grind (arith, nat_tests))

same_is : (a b : List ℕ) → same_name a b ≡ true → a ≡ b
same_is a b e = (bytes_eq-Decides a b).0 e

twice : (p q : Bool) → p || q ≡ p || (p || q)
twice true q = refl
twice false q = refl

turned : (p q r : Bool) → q || (p || r) ≡ p || (q || r)
turned true true r = refl
turned true false r = refl
turned false true r = refl
turned false false r = refl

put_step : (o : Ordering) (name first x : List ℕ) (ns : List (List ℕ)) → o ≡ slice_cmp nat_cmp name first → is_among (put_name name ns) x ≡ same_name x name || is_among ns x
    → is_among (put_by_order o name first ns (put_name name ns)) x ≡ same_name x name || is_among (first ∷ ns) x
put_step Less name first x ns at more = refl
put_step Equal name first x ns at more =
    let same : name ≡ first = same_is name first (sym (tied name first Equal at)) in
    twice (same_name x first) (is_among ns x) ∙ ap (λ (n : List ℕ). same_name x n || (same_name x first || is_among ns x)) (sym same)
put_step Greater name first x ns at more = ap (λ (b : Bool). same_name x first || b) more ∙ turned (same_name x name) (same_name x first) (is_among ns x)

pub put_is_among : (name x : List ℕ) (ns : List (List ℕ)) → is_among (put_name name ns) x ≡ same_name x name || is_among ns x
put_is_among name x [] = refl
put_is_among name x (first ∷ ns) = put_step (slice_cmp nat_cmp name first) name first x ns refl (put_is_among name x ns)

shifted : (p q r : Bool) → q || (p || r) ≡ (p || q) || r
shifted true true r = refl
shifted true false r = refl
shifted false true r = refl
shifted false false r = refl

-- one of the names that are left put among those so far
pub put_on : (name x : List ℕ) (ns rest : List (List ℕ)) → is_among ns x || (same_name x name || is_among rest x) ≡ is_among (put_name name ns) x || is_among rest x
put_on name x ns rest = shifted (same_name x name) (is_among ns x) (is_among rest x) ∙ ap (λ (b : Bool). b || is_among rest x) (sym (put_is_among name x ns))

-- the same names give the same tables
pub same_among : (ns ms : List (List ℕ)) (ds : List TableDef) → ((x : List ℕ) → is_among ns x ≡ is_among ms x) → among ns ds ≡ among ms ds
same_among ns ms [] same = refl
same_among ns ms (d ∷ ds) same =
    ap (λ (b : Bool). cond b (d ∷ among ns ds) (among ns ds)) (same d.name) ∙ ap (λ (more : List TableDef). cond (is_among ms d.name) (d ∷ more) more) (same_among ns ms ds same)

-- the name of the first change that is left put among those so far
pub put_next : (names new : List (List ℕ)) (cs : List Change) (i : ℕ) (c : Change) (name x : List ℕ) → i < length cs → c ≡ get_or cs i c → name ≡ table_of c → new ≡ put_name name names
    → is_among names x || is_among (map table_of (drop i cs)) x ≡ is_among (map table_of cs) x
    → is_among new x || is_among (map table_of (drop (i + 1) cs)) x ≡ is_among (map table_of cs) x
put_next names new cs i c name x low is of put so =
    let rest : List (List ℕ) = map table_of (drop (i + 1) cs) in
    let left : drop i cs ≡ c ∷ drop (i + 1) cs = drop_more cs i c low ∙ ap (λ (y : Change). y ∷ drop (i + 1) cs) (sym is) in
    ap (λ ns. is_among ns x || is_among rest x) put
    ∙ sym (put_on name x names rest)
    ∙ ap (λ (n : List ℕ). is_among names x || (same_name x n || is_among rest x)) of
    ∙ sym (ap (λ ds. is_among names x || is_among (map table_of ds) x) left)
    ∙ so
