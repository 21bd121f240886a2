-- How many bytes the events of a text have.
use Rattle.std.specs.Prelude.{codes, Option, Some, None, slice_get}
use Rattle.std.proofs.Common.{◌≡◌, ℕ, ◌+◌, ◌-◌, ◌^◌, ◌<◌, ◌≤◌, min, List, [], ◌∷◌, ◌++◌, map, length, drop, refl, sym, ap, ◌∙◌, arith, length-append}
use Rattle.std.proofs.lemmas.List.{drop_all}
use Rattle.byte_fields.specs.Field.{number_bytes}
use Rattle.byte_fields.proofs.FieldLaws.{field_width}
use Rattle.val_types.specs.declared.value.Value.{Value}
use Rattle.event_codec.specs.Event.{Body, Query, query, user_var}
use Rattle.event_codec.specs.Writing.{size, step_bytes, query_bytes, user_var_bytes, value_bytes}
use Rattle.row_events.specs.log_entries.declared.carried.Carried.{Carried}
use Rattle.row_events.specs.log_model.Items.{at_time, query_of, text_of}
use Rattle.row_events.specs.log_model.Spelling.{bodies_of}
use Rattle.row_events.specs.log_model.Written.{total}
use Rattle.row_events.specs.Sizes.{bounded, sizes}
use Rattle.row_events.proofs.GoingOn.{total_append, total_any, at_time_append}
use Rattle.item_events.specs.Parts.{numbers, variables}
use Rattle.item_events.proofs.Texting.{text_parts, var_at}

pub size_of_var : (name : List ℕ) (v : Value) → size (user_var name v) ≡ 23 + (length name + length (value_bytes v))
unfolding size user_var_bytes
size_of_var name v =
    let four = field_width 4 (length name) in
    let a = length-append (number_bytes 4 (length name)) (name ++ value_bytes v) in
    let b = length-append name (value_bytes v) in
    omega (arith, four, a, b)

pub size_of_query : (q : Query) → size (query q) ≡ 35 + (length (step_bytes q.step) + length q.text)
unfolding size query_bytes number_bytes
size_of_query q =
    let a = length-append (step_bytes q.step) (codes "db" ++ (0 ∷ q.text)) in
    omega (arith, a)

sizes_append : (xs ys : List Body) → sizes (xs ++ ys) ≡ sizes xs + sizes ys
sizes_append xs ys = ap total (at_time_append 0 xs ys) ∙ total_append (at_time 0 xs) (at_time 0 ys)

pub numbers_sum : (a b d : List Body) → sizes (a ++ (b ++ d)) ≡ sizes a + (sizes b + sizes d)
numbers_sum a b d = sizes_append a (b ++ d) ∙ ap (λ (n : ℕ). sizes a + n) (sizes_append b d)

adds : (sum part new real later here : ℕ) → part ≡ min real (2 ^ 64 - 1) → new ≡ min (sum + part) (2 ^ 64 - 1) → here ≡ real + later → min (new + later) (2 ^ 64 - 1) ≡ min (sum + here) (2 ^ 64 - 1)
adds sum part new real later here p n h = omega arith

pub vars_more : (vs : List (List ℕ × Value)) (i : ℕ) (v : List ℕ × Value) (sum part new whole : ℕ) → Some v ≡ slice_get vs i → part ≡ bounded (size (user_var v.0 v.1)) → new ≡ min (sum + part) (2 ^ 64 - 1)
    → bounded (sum + sizes (variables (drop i vs))) ≡ whole → bounded (new + sizes (variables (drop (i + 1) vs))) ≡ whole
vars_more vs i v sum part new whole at is-part is-new before =
    let split : sizes (variables (drop i vs)) ≡ size (user_var v.0 v.1) + sizes (variables (drop (i + 1) vs)) = ap sizes (var_at vs i v at) in
    adds sum part new (size (user_var v.0 v.1)) (sizes (variables (drop (i + 1) vs))) (sizes (variables (drop i vs))) is-part is-new split ∙ before

pub vars_done : (vs : List (List ℕ × Value)) (i sum whole : ℕ) → length vs ≤ i → sum ≤ 2 ^ 64 - 1 → bounded (sum + sizes (variables (drop i vs))) ≡ whole → sum ≡ whole
vars_done vs i sum whole past fits before =
    let none : sizes (variables (drop i vs)) ≡ 0 = ap (λ (xs : List (List ℕ × Value)). sizes (variables xs)) (drop_all i vs past) in
    let same : sum ≡ bounded (sum + sizes (variables (drop i vs))) = omega (arith, none) in
    same ∙ before

pub text_sized : (text : List ℕ) (c : Carried) (stamp some vars front query-size all : ℕ) → some ≡ sizes (numbers c) → vars ≡ bounded (sizes (variables c.vars)) → front ≡ min (some + vars) (2 ^ 64 - 1)
    → query-size ≡ bounded (size (query (query_of text c))) → all ≡ min (front + query-size) (2 ^ 64 - 1) → all ≡ bounded (total (at_time stamp (bodies_of (text_of text c))))
text_sized text c stamp some vars front query-size all is-some is-vars is-front is-query is-all =
    let any = total_any stamp 0 (bodies_of (text_of text c)) in
    let parts : sizes (bodies_of (text_of text c)) ≡ sizes (numbers c) + (sizes (variables c.vars) + (size (query (query_of text c)) + 0)) =
    ap sizes (text_parts text c) ∙ sizes_append (numbers c) (variables c.vars ++ query (query_of text c) ∷ [])
    ∙ ap (λ (n : ℕ). sizes (numbers c) + n) (sizes_append (variables c.vars) (query (query_of text c) ∷ [])) in
    sum some vars front query-size all (sizes (numbers c)) (sizes (variables c.vars)) (size (query (query_of text c))) (total (at_time stamp (bodies_of (text_of text c)))) is-some is-vars is-front is-query is-all (any ∙ parts)
  where
    sum : (some vars front q all n v r whole : ℕ) → some ≡ n → vars ≡ min v (2 ^ 64 - 1) → front ≡ min (some + vars) (2 ^ 64 - 1) → q ≡ min r (2 ^ 64 - 1) → all ≡ min (front + q) (2 ^ 64 - 1)
        → whole ≡ n + (v + (r + 0)) → all ≡ min whole (2 ^ 64 - 1)
    sum some vars front q all n v r whole a b d e f g = omega arith
