-- What stands in a log before a text says all that its item carries.
use Rattle.std.proofs.Common.{◌≡◌, ℕ, Bool, true, false, ◌&&◌, ◌==◌, nat_eq, cond, List, [], ◌∷◌, ◌++◌, map, Option, Some, None, Ordering, Less, Greater, ℤ, pos, negsuc, refl, sym, ap, subst, ◌∙◌, append_assoc, append-nil, arith}
use Rattle.std.specs.Prelude.{filter_map, unwrap_or, IfSome}
use Rattle.std.specs.Int.{w64, cast_unsigned}
use Rattle.std.specs.List.{list_any}
use Rattle.std.specs.Option.{option_map}
use Rattle.std.specs.Cmp.Lexicographic.{pointwise}
use Rattle.std.specs.Ordering.{nat_cmp, is_eq, ordering_reverse}
use Rattle.std.proofs.lemmas.Bool.{and_parts, eqb-true}
use Rattle.std.proofs.lemmas.Bool.Decides.{nat_tests}
use Rattle.std.proofs.lemmas.Cmp.{nat_list_cmp_total, same_from_slice_cmp}
use Rattle.val_types.specs.declared.value.Value.{Value}
use Rattle.event_codec.specs.declared.event.IntVarKind.TheVariants.{LastInsertId, InsertId}
use Rattle.sql_tree.specs.Statement.{Statement}
use Rattle.statement_names.specs.catalog_rules.Objects.{Object}
use Rattle.statement_names.specs.catalog_rules.Nodes.{nodes_of}
use Rattle.log_entry_laws.specs.log_entries.Variables.{variable_set, variable_value}
use Rattle.log_entry_laws.specs.log_entries.declared.carried.Carried.{Carried}
use Rattle.log_entry_laws.specs.log_model.Items.{step_of, query_of}
use Rattle.log_entry_laws.specs.Ids.{IsId, HasIds}
use Rattle.statement_names.specs.sql_meaning.Frames.{Context}
use Rattle.statement_names.specs.sql_reach.Reach.{reached_nodes}
use Rattle.statement_names.specs.sql_reach.Carrying.{draws, user_variable_at, in_byte_order, if_asked, carried}
use Rattle.statement_names.specs.Rising.{by_bytes, Above, Rises}
use Rattle.statement_names.proofs.Placed.{rises_put}
use Rattle.apply_model.specs.Texts.{Needs, no_needs, increment_of, offset_of, carried_of}
use Rattle.apply_model.specs.Groups.{with_number}

-- ---- user variables, whose names rise

tied : (a b : List ℕ) (o : Ordering) → o ≡ by_bytes a b → is_eq o ≡ pointwise nat_eq a b
tied = same_from_slice_cmp nat_cmp is_eq (pointwise nat_eq) refl (λ _ _. refl) (λ _ _. refl) (λ x y xs ys o h. grind (arith, nat_tests))

-- a name above another is not that
above_differs : (low name : List ℕ) → by_bytes low name ≡ Less → pointwise nat_eq name low ≡ false
above_differs low name e =
    let back : by_bytes name low ≡ Greater = nat_list_cmp_total.antisymm name low ∙ ap ordering_reverse e in
    sym (tied name low (by_bytes name low) refl) ∙ ap is_eq back

above_in : (low : List ℕ) (before : List (List ℕ)) (name : List ℕ) (more : List (List ℕ)) → Above low (before ++ name ∷ more) → by_bytes low name ≡ Less
above_in low [] name more up = up.0
above_in low (n ∷ ns) name more up = above_in low ns name more up.1

rises_in_order : (names : List (List ℕ)) → Rises (in_byte_order names)
rises_in_order [] = tt
rises_in_order (n ∷ ns) = rises_put n (in_byte_order ns) (rises_in_order ns)

-- variables set one after the other
abbrev pub all_set : List (List ℕ × Value) → List (List ℕ × Value) → List (List ℕ × Value)
all_set vars [] = vars
all_set vars (v ∷ vs) = all_set (variable_set vars v.0 v.1) vs

abbrev valued : (List ℕ → Value) → List (List ℕ) → List (List ℕ × Value)
valued value names = map (λ n. (n, value n)) names

module _ (value : List ℕ → Value) where
  set_last : (before : List (List ℕ)) (name : List ℕ) (more : List (List ℕ)) → Rises (before ++ name ∷ more)
      → variable_set (valued value before) name (value name) ≡ valued value (before ++ name ∷ [])
  set_last [] name more up = refl
  set_last (n ∷ ns) name more up =
      let other : pointwise nat_eq name n ≡ false = above_differs n name (above_in n ns name more up.0) in
      rw other (ap (λ (rest : List (List ℕ × Value)). (n, value n) ∷ rest) (set_last ns name more up.1))

  all_again : (before more : List (List ℕ)) → Rises (before ++ more) → all_set (valued value before) (valued value more) ≡ valued value (before ++ more)
  all_again before [] up = ap (valued value) (sym (append-nil before))
  all_again before (n ∷ ns) up =
      ap (λ (vars : List (List ℕ × Value)). all_set vars (valued value ns)) (set_last before n ns up)
      ∙ all_again (before ++ n ∷ []) ns (subst (λ (names : List (List ℕ)). Rises names) (sym (append_assoc before (n ∷ []) ns)) up)
      ∙ ap (valued value) (append_assoc before (n ∷ []) ns)

-- ---- what is carried of a context

-- the variables that are carried, set where none is, are these
abbrev pub VarsAgain : Carried → Type 0
VarsAgain c = all_set [] c.vars ≡ c.vars

pub vars_again : (catalog : List Object) (s : Statement) (context : Context) (first : Option ℤ) → VarsAgain (carried catalog s context first)
unfolding carried
vars_again catalog s context first =
    let names : List (List ℕ) = in_byte_order (filter_map user_variable_at (reached_nodes catalog (nodes_of s))) in
    all_again (variable_value context.variables) [] names (rises_in_order (filter_map user_variable_at (reached_nodes catalog (nodes_of s))))

-- where RAND() is reached, its seeds are carried
pub seeds_again : (catalog : List Object) (s : Statement) (context : Context) (first : Option ℤ) (drawn : ℕ × ℕ) → list_any draws (reached_nodes catalog (nodes_of s)) ≡ true
    → unwrap_or (carried catalog s context first).seeds drawn ≡ context.seeds
unfolding carried
seeds_again catalog s context first drawn asked = ap (λ (b : Bool). unwrap_or (if_asked b context.seeds) drawn) asked

-- ---- what the events before a text make of its needs

abbrev pub with_some : {X : Type 0} → (X → Needs → Needs) → Option X → Needs → Needs
with_some set None needs = needs
with_some set (Some x) needs = set x needs

abbrev pub with_seeds : ℕ × ℕ → Needs → Needs
with_seeds seeds needs = record needs { seeds = Some seeds }

abbrev pub with_vars : List (List ℕ × Value) → Needs → Needs
with_vars vs needs = record needs { vars = all_set needs.vars vs }

-- the events of LAST_INSERT_ID(), of the first value, of the seeds and of user variables, where they stand
abbrev pub needs_by : (last_id first : Option ℕ) → Option (ℕ × ℕ) → List (List ℕ × Value) → Needs
needs_by last_id first seeds vs =
    with_vars vs (with_some with_seeds seeds (with_some (with_number InsertId) first (with_some (with_number LastInsertId) last_id no_needs)))

needs_said : (last_id first : Option ℕ) (seeds : Option (ℕ × ℕ)) (vs : List (List ℕ × Value))
    → needs_by last_id first seeds vs ≡ record { last_id = option_map pos last_id; first = option_map pos first; seeds = seeds; vars = all_set [] vs }
needs_said None None None vs = refl
needs_said None None (Some s) vs = refl
needs_said None (Some n) None vs = refl
needs_said None (Some n) (Some s) vs = refl
needs_said (Some m) None None vs = refl
needs_said (Some m) None (Some s) vs = refl
needs_said (Some m) (Some n) None vs = refl
needs_said (Some m) (Some n) (Some s) vs = refl

-- an id that a log can say is read as itself
id_again : (o : Option ℤ) → IfSome o IsId → option_map pos (option_map (cast_unsigned w64) o) ≡ o
id_again None is = refl
id_again (Some (pos n)) is = refl
id_again (Some (negsuc n)) is = absurd is.least.le

-- so are increment and offset, where they stand and where they do not
step_by : (b : Bool) (inc off : ℕ) → (b ≡ true → (inc ≡ 1) × (off ≡ 1))
    → (increment_of (cond b None (Some (record { increment = inc; offset = off }))) ≡ inc) × (offset_of (cond b None (Some (record { increment = inc; offset = off }))) ≡ off)
step_by true inc off ones = (sym (ones refl).0, sym (ones refl).1)
step_by false inc off ones = (refl, refl)

ones : (inc off : ℕ) → (inc == 1 && off == 1) ≡ true → (inc ≡ 1) × (off ≡ 1)
ones inc off e =
    let parts = and_parts (inc == 1) (off == 1) e in
    (eqb-true inc 1 parts.0, eqb-true off 1 parts.1)

step_again : (inc off : ℕ) → (increment_of (step_of inc off) ≡ inc) × (offset_of (step_of inc off) ≡ off)
step_again inc off = step_by (inc == 1 && off == 1) inc off (ones inc off)

-- ---- all that is carried

abbrev with_parts : Carried → (inc off : ℕ) → (last_id first : Option ℤ) → List (List ℕ × Value) → Carried
with_parts c inc off last_id first vars = record c { inc = inc; off = off; last_id = last_id; first = first; vars = vars }

parts_same : (c : Carried) (inc off : ℕ) (last_id first : Option ℤ) (vars : List (List ℕ × Value)) → inc ≡ c.inc → off ≡ c.off → last_id ≡ c.last_id → first ≡ c.first → vars ≡ c.vars
    → with_parts c inc off last_id first vars ≡ c
parts_same c inc off last_id first vars a b d e f =
    ap (λ (n : ℕ). with_parts c n off last_id first vars) a ∙ ap (λ (n : ℕ). with_parts c c.inc n last_id first vars) b
    ∙ ap (λ (o : Option ℤ). with_parts c c.inc c.off o first vars) d ∙ ap (λ (o : Option ℤ). with_parts c c.inc c.off c.last_id o vars) e
    ∙ ap (λ (vs : List (List ℕ × Value)). with_parts c c.inc c.off c.last_id c.first vs) f

-- what a text of a log needs of what an item carries
abbrev pub needs_of : Carried → Needs
needs_of c = needs_by (option_map (cast_unsigned w64) c.last_id) (option_map (cast_unsigned w64) c.first) c.seeds c.vars

-- a text of a log carries what its item does
pub carried_again : (text : List ℕ) (c : Carried) → HasIds c → VarsAgain c → carried_of c.stamp (query_of text c) (needs_of c) ≡ c
carried_again text c ids vars =
    let step = step_again c.inc c.off in
    ap (carried_of c.stamp (query_of text c)) (needs_said (option_map (cast_unsigned w64) c.last_id) (option_map (cast_unsigned w64) c.first) c.seeds c.vars)
    ∙ parts_same c (increment_of (step_of c.inc c.off)) (offset_of (step_of c.inc c.off)) (option_map pos (option_map (cast_unsigned w64) c.last_id))
    (option_map pos (option_map (cast_unsigned w64) c.first)) (all_set [] c.vars) step.0 step.1 (id_again c.last_id ids.last_id) (id_again c.first ids.first) vars
