-- The events of a text, part by part.
use Rattle.std.specs.Prelude.{IfOk, OnErr, Result, Ok, Err, slice_get, Option, Some, None}
use Rattle.std.specs.Option.{option_map}
use Rattle.std.specs.Int.{w64, cast_unsigned}
use Rattle.std.proofs.Common.{◌≡◌, ℕ, ◌+◌, ◌<◌, zero, suc, List, [], ◌∷◌, ◌++◌, length, drop, map, refl, sym, ap, ◌∙◌, subst, arith, append_assoc}
use Rattle.byte_fields.specs.Field.{BeginsWith}
use Rattle.val_types.specs.declared.value.Value.{Value}
use Rattle.event_codec.specs.declared.event.Header.{Header}
use Rattle.event_codec.specs.declared.event.IntVarKind.TheVariants.{LastInsertId, InsertId}
use Rattle.event_codec.specs.Event.{Body, query, user_var, int_var, rand}
use Rattle.row_events.specs.log_entries.declared.carried.Carried.{Carried}
use Rattle.row_events.specs.log_model.Items.{at_time, query_of, text_of}
use Rattle.row_events.specs.log_model.Spelling.{bodies_of, some_of, vars_before}
use Rattle.row_events.specs.log_model.Written.{Stamped, CanWriteAll}
use Rattle.row_events.specs.Writing.{Wrote, GoesOn}
use Rattle.row_events.proofs.GoingOn.{starts, goes, ends, next, fails, at_time_append}
use Rattle.item_events.specs.Parts.{if_some, numbers, variables}

-- ---- bodies that are written at one time

module _ (all : List Body) (h : Header) (start : List ℕ) where
  -- what is left does, from here, what all did from the start
  abbrev pub On : List Body → Header → List ℕ → Type 0
  On left here out = GoesOn (at_time h.stamp all) (at_time h.stamp left) h here start out

  pub begin : CanWriteAll h.pos (at_time h.stamp all) → On all h start
  begin can = starts (at_time h.stamp all) h start can

  split_at : (left part rest : List Body) → left ≡ part ++ rest → at_time h.stamp left ≡ at_time h.stamp part ++ at_time h.stamp rest
  split_at left part rest split = ap (at_time h.stamp) split ∙ at_time_append h.stamp part rest

  pub part_can : (left part rest : List Body) (here : Header) (out : List ℕ) → left ≡ part ++ rest → On left here out → CanWriteAll here.pos (at_time here.stamp part)
  part_can left part rest here out split on =
      subst (λ (s : ℕ). CanWriteAll here.pos (at_time s part)) (sym on.stamp)
      (next (at_time h.stamp all) (at_time h.stamp part) (at_time h.stamp rest) (at_time h.stamp left) h here start out (split_at left part rest split) on)

  pub part_goes : (left part rest : List Body) (here to : Header) (out new : List ℕ) → left ≡ part ++ rest → On left here out → Wrote (at_time here.stamp part) here to out new → On rest to new
  part_goes left part rest here to out new split on wrote =
      goes (at_time h.stamp all) (at_time h.stamp part) (at_time h.stamp rest) (at_time h.stamp left) h here to start out new (split_at left part rest split) on
      (subst (λ (s : ℕ). Wrote (at_time s part) here to out new) on.stamp wrote)

  pub done : (here : Header) (out : List ℕ) → On [] here out → Wrote (at_time h.stamp all) h here start out
  done here out on = ends (at_time h.stamp all) h here start out on

  -- all that is left is written
  pub last_can : (left : List Body) (here : Header) (out : List ℕ) → On left here out → CanWriteAll here.pos (at_time here.stamp left)
  last_can left here out on = subst (λ (s : ℕ). CanWriteAll here.pos (at_time s left)) (sym on.stamp) on.can

  pub last : {E : Type 0} (left : List Body) (here : Header) (out new : List ℕ) (r : Result Header E) → On left here out → IfOk r (λ to. Wrote (at_time here.stamp left) here to out new)
      → IfOk r (λ to. Wrote (at_time h.stamp all) h to start new)
  last left here out new (Ok to) on wrote = done to new (part_goes left left [] here to out new (sym (nothing left)) on wrote)
    where
      nothing : (xs : List Body) → xs ++ [] ≡ xs
      nothing [] = refl
      nothing (x ∷ xs) = ap (λ (ys : List Body). x ∷ ys) (nothing xs)
  last left here out new (Err e) on wrote = wrote

  pub last_fails : {E : Type 0} (left : List Body) (here : Header) (out new : List ℕ) (r : Result Header E) → On left here out → OnErr r (BeginsWith new out) → OnErr r (BeginsWith new start)
  last_fails left here out new (Ok to) on more = more
  last_fails left here out new (Err e) on more = fails (at_time h.stamp all) (at_time h.stamp left) h here start out new on more

-- ---- variables

pub var_at : (vs : List (List ℕ × Value)) (i : ℕ) (v : List ℕ × Value) → Some v ≡ slice_get vs i → variables (drop i vs) ≡ (user_var v.0 v.1 ∷ []) ++ variables (drop (i + 1) vs)
var_at [] i v e = cc
var_at (w ∷ vs) zero v e = let same : v ≡ w = cc in rw same refl
var_at (w ∷ vs) (suc i) v e = let next : suc i + 1 ≡ suc (i + 1) = omega arith in rw next (var_at vs i v e)

pub no_var : (vs : List (List ℕ × Value)) (i : ℕ) → None ≡ slice_get vs i → i < length vs → ⊥
no_var [] i e low = omega arith
no_var (w ∷ vs) zero e low = cc
no_var (w ∷ vs) (suc i) e low = no_var vs i e (omega arith)

-- ---- a text

some_first : {X : Type 0} (f : X → Body) (o : Option X) (bs : List Body) → some_of f o bs ≡ if_some f o ++ bs
some_first f None bs = refl
some_first f (Some x) bs = refl

vars_first : (vs : List (List ℕ × Value)) (bs : List Body) → vars_before vs bs ≡ variables vs ++ bs
vars_first [] bs = refl
vars_first (v ∷ vs) bs = ap (λ (xs : List Body). user_var v.0 v.1 ∷ xs) (vars_first vs bs)

pub text_parts : (text : List ℕ) (c : Carried) → bodies_of (text_of text c) ≡ numbers c ++ (variables c.vars ++ query (query_of text c) ∷ [])
text_parts text c =
    let ends : List Body = variables c.vars ++ query (query_of text c) ∷ [] in
    let a : List Body = if_some (int_var LastInsertId) (option_map (cast_unsigned w64) c.last_id) in
    let b : List Body = if_some (int_var InsertId) (option_map (cast_unsigned w64) c.first) in
    let d : List Body = if_some (λ s. rand s.0 s.1) c.seeds in
    some_first (int_var LastInsertId) (option_map (cast_unsigned w64) c.last_id) _
    ∙ ap (λ (xs : List Body). a ++ xs) (
    some_first (int_var InsertId) (option_map (cast_unsigned w64) c.first) _
    ∙ ap (λ (xs : List Body). b ++ xs) (some_first (λ s. rand s.0 s.1) c.seeds _ ∙ ap (λ (xs : List Body). d ++ xs) (vars_first c.vars (query (query_of text c) ∷ []))))
    ∙ ap (λ (xs : List Body). a ++ xs) (sym (append_assoc b d ends)) ∙ sym (append_assoc a (b ++ d) ends)
