-- Indexes of unique keys as rows come and go, and what two of them find.
use Rattle.std.proofs.Common.{◌≡◌, List, [], ◌∷◌, Bool, true, false, not, ◌&&◌, cond, Option, Some, None, refl, sym, ap, subst, ◌∙◌}
use Rattle.std.specs.Prelude.{is_none}
use Rattle.std.specs.List.{list_any, list_all}
use Rattle.std.specs.Option.{option_map, option_or, option_and_then}
use Rattle.std.proofs.lemmas.Bool.{and_parts, true≢false}
use Rattle.val_types.specs.declared.value.Value.{Value}
use Rattle.val_types.specs.declared.definitions.TableDef.{TableDef}
use Rattle.val_types.specs.declared.definitions.KeyDef.{KeyDef}
use Rattle.val_types.specs.Fitting.{is_null}
use Rattle.val_types.specs.Keys.{primary_key, values_at, same_values}
use Rattle.table_rules.specs.Stored.{row_of_values}
use Rattle.table_rules.proofs.Taking.{same_is, same_self}
use Rattle.row_sheets.specs.Slots.{Slot, held, keys_in, keys_rise, rows_in, drop_slot, is_slot_of, has_own_key}
use Rattle.row_sheets.specs.Over.{over}
use Rattle.row_sheets.specs.Claims.{has_values, has_under, AreApart}
use Rattle.row_sheets.proofs.Claims.{under_of}
use Rattle.row_sheets.proofs.Held.{held-over, rises-over, dropped_self, dropped_other, rises-dropped}
use Rattle.row_sheets.proofs.Finding.{Shown, shown_of, none_shown, shown_is}
use Rattle.row_indexes.specs.Indexes.{IsIndexOf, unless_entered, found_in}
use Rattle.row_indexes.specs.IndexLaws.{DifferAt, by_values}

none_some : {X : Type 0} (x : X) → None ≡ Some x → ⊥
none_some x e = cc

module _ (u : KeyDef) (values : List Value) where
  abbrev row_with : List Slot → Option (List Value)
  row_with ss = row_of_values u values (rows_in ss)

  under_row : (key row : List Value) (ss : List Slot) → held key ss ≡ Some (Some row) → has_values u values row ≡ true → has_under u values key ss ≡ true
  under_row key row ss has passes = ap (λ o. under_of u values o) has ∙ passes

  -- no row has the values where none that is held has
  pub none_with : (ss : List Slot) → keys_rise (keys_in ss) ≡ true → ((key row : List Value) → held key ss ≡ Some (Some row) → has_values u values row ≡ true → ⊥) → row_with ss ≡ None
  none_with ss rises never = at (row_with ss) refl
    where
      at : (o : Option (List Value)) → row_with ss ≡ o → row_with ss ≡ None
      at None is = is
      at (Some row) is =
          let shown : Shown (has_values u values) ss row = shown_of (has_values u values) ss row rises is in
          absurd (never shown.key row shown.there shown.passes)

  -- slots that differ at one key alone, at which neither's row has the values
  pub with_beside : (key : List Value) (old new : List Slot) → DifferAt u key old new
      → ((row : List Value) → held key old ≡ Some (Some row) → has_values u values row ≡ false) → ((row : List Value) → held key new ≡ Some (Some row) → has_values u values row ≡ false)
      → row_with new ≡ row_with old
  with_beside key old new differ not_old not_new = at (row_with old) refl
    where
      at : (o : Option (List Value)) → row_with old ≡ o → row_with new ≡ row_with old
      at None is =
          none_with new differ.new_rises (λ k row has passes. in_new k row has passes (same_values k key) refl) ∙ sym is
        where
          in_new : (k row : List Value) → held k new ≡ Some (Some row) → has_values u values row ≡ true → (here : Bool) → same_values k key ≡ here → ⊥
          in_new k row has passes true e =
              true≢false (sym passes ∙ not_new row (ap (λ (x : List Value). held x new) (sym (same_is k key e)) ∙ has))
          in_new k row has passes false e =
              true≢false (sym passes ∙ none_shown (has_values u values) old k row is (sym (differ.beside k e) ∙ has))
      at (Some row) is =
          let shown : Shown (has_values u values) old row = shown_of (has_values u values) old row differ.old_rises is in
          in_old shown.key shown.there shown.passes (same_values shown.key key) refl ∙ sym is
        where
          in_old : (k : List Value) → held k old ≡ Some (Some row) → has_values u values row ≡ true → (here : Bool) → same_values k key ≡ here → row_with new ≡ Some row
          in_old k has passes true e =
              absurd (true≢false (sym passes ∙ not_old row (ap (λ (x : List Value). held x old) (sym (same_is k key e)) ∙ has)))
          in_old k has passes false e = shown_is u values new k row differ.new_rises differ.new_apart (differ.beside k e ∙ has) passes

  -- where a row with the values is taken out, none has them
  pub none_left : (key row : List Value) (old new : List Slot) → DifferAt u key old new → held key old ≡ Some (Some row) → has_values u values row ≡ true
      → ((other : List Value) → held key new ≡ Some (Some other) → ⊥) → row_with new ≡ None
  none_left key row old new differ has passes gone =
      none_with new differ.new_rises (λ k other there it. in_new k other there it (same_values k key) refl)
    where
      in_new : (k other : List Value) → held k new ≡ Some (Some other) → has_values u values other ≡ true → (here : Bool) → same_values k key ≡ here → ⊥
      in_new k other there it true e = gone other (ap (λ (x : List Value). held x new) (sym (same_is k key e)) ∙ there)
      in_new k other there it false e =
          let same : k ≡ key = differ.old_apart values k key (under_row k other old (sym (differ.beside k e) ∙ there) it) (under_row key row old has passes) in
          true≢false (sym (same_self key) ∙ ap (λ (x : List Value). same_values x key) (sym same) ∙ e)

-- ---- what a row has

-- a row without a NULL has its own values
has_own : (u : KeyDef) (row : List Value) → list_any is_null (values_at u.columns row) ≡ false → has_values u (values_at u.columns row) row ≡ true
has_own u row full =
    ap (λ (b : Bool). not b && same_values (values_at u.columns row) (values_at u.columns row)) full ∙ same_self (values_at u.columns row)

and_false : (a b : Bool) → b ≡ false → (a && b) ≡ false
and_false true b e = e
and_false false b e = refl

-- no others
has_no_other : (u : KeyDef) (values row : List Value) → same_values values (values_at u.columns row) ≡ false → has_values u values row ≡ false
has_no_other u values row e = and_false (not (list_any is_null values)) (same_values values (values_at u.columns row)) e

-- and one with a NULL none at all
null_has_none : (u : KeyDef) (values row : List Value) → list_any is_null (values_at u.columns row) ≡ true → has_values u values row ≡ false
null_has_none u values row null = step (same_values values (values_at u.columns row)) refl
  where
    step : (same : Bool) → same_values values (values_at u.columns row) ≡ same → has_values u values row ≡ false
    step true e =
        ap (λ (x : List Value). not (list_any is_null x) && same_values values (values_at u.columns row)) (same_is values (values_at u.columns row) e)
        ∙ ap (λ (b : Bool). not b && same_values values (values_at u.columns row)) null
    step false e = has_no_other u values row e

-- ---- a row put, and taken out

pub nothing_indexed : (u : KeyDef) → IsIndexOf u [] []
nothing_indexed u = record { rising = refl; told = λ values. refl }

row_is : (a b : List Value) → Some (Some a) ≡ Some (Some b) → a ≡ b
row_is a b e = cc

pub put_keeps : (u : KeyDef) (key row : List Value) (old new index : List Slot) → DifferAt u key old new → ((other : List Value) → held key old ≡ Some (Some other) → ⊥) → held key new ≡ Some (Some row)
    → IsIndexOf u index (rows_in old) → list_any is_null (values_at u.columns row) ≡ false → IsIndexOf u (over (by_values u row) index) (rows_in new)
put_keeps u key row old new index differ free has are full = record {
  rising = rises-over (by_values u row) index refl are.rising;
  told = λ values. held-over values (by_values u row) index refl ∙ at values (same_values values (values_at u.columns row)) refl;
}
  where
    at : (values : List Value) (same : Bool) → same_values values (values_at u.columns row) ≡ same
        → option_or (held values (by_values u row)) (held values index) ≡ option_map (λ r. Some r) (row_of_values u values (rows_in new))
    at values true e =
        let is : values_at u.columns row ≡ values = sym (same_is values (values_at u.columns row) e) in
        ap (λ (t : Bool). option_or (cond t (Some (Some row)) None) (held values index)) e
        ∙ sym (ap (λ (o : Option (List Value)). option_map (λ r. Some r) o)
        (shown_is u values new key row differ.new_rises differ.new_apart has (subst (λ (x : List Value). has_values u x row ≡ true) is (has_own u row full))))
    at values false e =
        ap (λ (t : Bool). option_or (cond t (Some (Some row)) None) (held values index)) e
        ∙ are.told values
        ∙ sym (ap (λ (o : Option (List Value)). option_map (λ r. Some r) o)
        (with_beside u values key old new differ (λ other there. absurd (free other there))
        (λ other there. ap (has_values u values) (row_is other row (sym there ∙ has)) ∙ has_no_other u values row e)))

pub null_put_keeps : (u : KeyDef) (key row : List Value) (old new index : List Slot) → DifferAt u key old new → ((other : List Value) → held key old ≡ Some (Some other) → ⊥) → held key new ≡ Some (Some row)
    → IsIndexOf u index (rows_in old) → list_any is_null (values_at u.columns row) ≡ true → IsIndexOf u index (rows_in new)
null_put_keeps u key row old new index differ free has are null = record {
  rising = are.rising;
  told = λ values.
      are.told values
      ∙ sym (ap (λ (o : Option (List Value)). option_map (λ r. Some r) o)
      (with_beside u values key old new differ (λ other there. absurd (free other there))
      (λ other there. ap (has_values u values) (row_is other row (sym there ∙ has)) ∙ null_has_none u values row null)));
}

pub taken_keeps : (u : KeyDef) (key row : List Value) (old new index : List Slot) → DifferAt u key old new → held key old ≡ Some (Some row) → ((other : List Value) → held key new ≡ Some (Some other) → ⊥)
    → IsIndexOf u index (rows_in old) → list_any is_null (values_at u.columns row) ≡ false → IsIndexOf u (drop_slot (values_at u.columns row) index) (rows_in new)
taken_keeps u key row old new index differ has gone are full = record {
  rising = rises-dropped (values_at u.columns row) index are.rising;
  told = λ values. at values (same_values values (values_at u.columns row)) refl;
}
  where
    at : (values : List Value) (same : Bool) → same_values values (values_at u.columns row) ≡ same
        → held values (drop_slot (values_at u.columns row) index) ≡ option_map (λ r. Some r) (row_of_values u values (rows_in new))
    at values true e =
        let is : values_at u.columns row ≡ values = sym (same_is values (values_at u.columns row) e) in
        ap (λ (x : List Value). held x (drop_slot (values_at u.columns row) index)) (sym is) ∙ dropped_self (values_at u.columns row) index are.rising
        ∙ sym (ap (λ (o : Option (List Value)). option_map (λ r. Some r) o)
        (none_left u values key row old new differ has (subst (λ (x : List Value). has_values u x row ≡ true) is (has_own u row full)) gone))
    at values false e =
        dropped_other (values_at u.columns row) values index e ∙ are.told values
        ∙ sym (ap (λ (o : Option (List Value)). option_map (λ r. Some r) o)
        (with_beside u values key old new differ
        (λ other there. ap (has_values u values) (row_is other row (sym there ∙ has)) ∙ has_no_other u values row e)
        (λ other there. absurd (gone other there))))

pub null_taken_keeps : (u : KeyDef) (key row : List Value) (old new index : List Slot) → DifferAt u key old new → held key old ≡ Some (Some row) → ((other : List Value) → held key new ≡ Some (Some other) → ⊥)
    → IsIndexOf u index (rows_in old) → list_any is_null (values_at u.columns row) ≡ true → IsIndexOf u index (rows_in new)
null_taken_keeps u key row old new index differ has gone are null = record {
  rising = are.rising;
  told = λ values.
      are.told values
      ∙ sym (ap (λ (o : Option (List Value)). option_map (λ r. Some r) o)
      (with_beside u values key old new differ
      (λ other there. ap (has_values u values) (row_is other row (sym there ∙ has)) ∙ null_has_none u values row null)
      (λ other there. absurd (gone other there))));
}

-- ---- what two indexes find

own_key : (d : TableDef) (key row : List Value) (ss : List Slot) → list_all (has_own_key d) ss ≡ true → held key ss ≡ Some (Some row) → primary_key d row ≡ key
own_key d key row [] own has = cc
own_key d key row (s ∷ ss) own has = step (is_slot_of key s) refl has (and_parts (has_own_key d s) (list_all (has_own_key d) ss) own) (λ more there. own_key d key row ss more there)
  where
    step : (here : Bool) → is_slot_of key s ≡ here → cond here (Some s.row) (held key ss) ≡ Some (Some row) → (has_own_key d s ≡ true) × (list_all (has_own_key d) ss ≡ true)
        → (list_all (has_own_key d) ss ≡ true → held key ss ≡ Some (Some row) → primary_key d row ≡ key) → primary_key d row ≡ key
    step true is e both later =
        let row_here : s.row ≡ Some row = cc in
        let slot_is : has_own_key d (record { key = s.key; row = Some row }) ≡ true = sym (ap (λ (o : Option (List Value)). has_own_key d (record { key = s.key; row = o })) row_here) ∙ both.0 in
        sym (same_is key s.key is ∙ same_is s.key (primary_key d row) slot_is)
    step false is e both later = later both.1 e

module _ (d : TableDef) (u : KeyDef) (values : List Value) (es cs : List Slot) (rise_es : keys_rise (keys_in es) ≡ true) (rise_cs : keys_rise (keys_in cs) ≡ true)
    (own : list_all (has_own_key d) cs ≡ true) (apart_cs : AreApart u cs) (apart_all : AreApart u (over es cs)) where
  rise_all : keys_rise (keys_in (over es cs)) ≡ true
  rise_all = rises-over es cs rise_es rise_cs

  over_is : (key : List Value) (o : Option (Option (List Value))) → held key es ≡ o → held key (over es cs) ≡ option_or o (held key cs)
  over_is key o is = held-over key es cs rise_es ∙ ap (λ p. option_or p (held key cs)) is

  -- what is shown with the values and is no entry's row is a committed one without an entry
  below : row_of_values u values (rows_in es) ≡ None → (key row : List Value) → held key (over es cs) ≡ Some (Some row) → has_values u values row ≡ true
      → (held key es ≡ None) × (held key cs ≡ Some (Some row))
  below none key row has passes = at (held key es) refl
    where
      at : (o : Option (Option (List Value))) → held key es ≡ o → (held key es ≡ None) × (held key cs ≡ Some (Some row))
      at None is = (is, sym (over_is key None is) ∙ has)
      at (Some p) is =
          absurd (true≢false (sym passes ∙ none_shown (has_values u values) es key row none (is ∙ sym (over_is key (Some p) is) ∙ has)))

  by_entry : (row : List Value) → row_of_values u values (rows_in es) ≡ Some row → Some row ≡ row_of_values u values (rows_in (over es cs))
  by_entry row is =
      let shown : Shown (has_values u values) es row = shown_of (has_values u values) es row rise_es is in
      sym (shown_is u values (over es cs) shown.key row rise_all apart_all (over_is shown.key (Some (Some row)) shown.there) shown.passes)

  by_none : row_of_values u values (rows_in es) ≡ None → row_of_values u values (rows_in cs) ≡ None → None ≡ row_of_values u values (rows_in (over es cs))
  by_none none no_row =
      sym (none_with u values (over es cs) rise_all (λ key row has passes.
      true≢false (sym passes ∙ none_shown (has_values u values) cs key row no_row (below none key row has passes).1)))

  by_row : (row : List Value) → row_of_values u values (rows_in es) ≡ None → row_of_values u values (rows_in cs) ≡ Some row
      → unless_entered d es row ≡ row_of_values u values (rows_in (over es cs))
  by_row row none is = at (held shown.key es) refl
    where
      shown : Shown (has_values u values) cs row
      shown = shown_of (has_values u values) cs row rise_cs is

      key_is : primary_key d row ≡ shown.key
      key_is = own_key d shown.key row cs own shown.there

      turned : (o : Option (Option (List Value))) → held shown.key es ≡ o → unless_entered d es row ≡ cond (is_none o) (Some row) None
      turned o e = ap (λ (k : List Value). cond (is_none (held k es)) (Some row) None) key_is ∙ ap (λ (p : Option (Option (List Value))). cond (is_none p) (Some row) None) e

      at : (o : Option (Option (List Value))) → held shown.key es ≡ o → unless_entered d es row ≡ row_of_values u values (rows_in (over es cs))
      at None e = turned None e ∙ sym (shown_is u values (over es cs) shown.key row rise_all apart_all (over_is shown.key None e ∙ shown.there) shown.passes)
      at (Some p) e =
          turned (Some p) e
          ∙ sym (none_with u values (over es cs) rise_all (λ key other has passes. never key other (below none key other has passes) passes))
        where
          never : (key other : List Value) → (held key es ≡ None) × (held key cs ≡ Some (Some other)) → has_values u values other ≡ true → ⊥
          never key other under passes =
              let same : key ≡ shown.key = apart_cs values key shown.key (under_row u values key other cs under.1 passes) (under_row u values shown.key row cs shown.there shown.passes) in
              none_some p (sym under.0 ∙ ap (λ (k : List Value). held k es) same ∙ e)

  pub found_by_both : found_in d u values es cs ≡ row_of_values u values (rows_in (over es cs))
  found_by_both = at (row_of_values u values (rows_in es)) refl
    where
      second : row_of_values u values (rows_in es) ≡ None → (o : Option (List Value)) → row_of_values u values (rows_in cs) ≡ o
          → option_and_then (unless_entered d es) o ≡ row_of_values u values (rows_in (over es cs))
      second none None is = by_none none is
      second none (Some row) is = by_row row none is

      at : (o : Option (List Value)) → row_of_values u values (rows_in es) ≡ o
          → option_or (row_of_values u values (rows_in es)) (option_and_then (unless_entered d es) (row_of_values u values (rows_in cs))) ≡ row_of_values u values (rows_in (over es cs))
      at None is = ap (λ (p : Option (List Value)). option_or p (option_and_then (unless_entered d es) (row_of_values u values (rows_in cs)))) is ∙ second is (row_of_values u values (rows_in cs)) refl
      at (Some row) is = ap (λ (p : Option (List Value)). option_or p (option_and_then (unless_entered d es) (row_of_values u values (rows_in cs)))) is ∙ by_entry row is

pub found_in_both : (d : TableDef) (u : KeyDef) (values : List Value) (es cs : List Slot) → keys_rise (keys_in es) ≡ true → keys_rise (keys_in cs) ≡ true → list_all (has_own_key d) cs ≡ true
    → AreApart u cs → AreApart u (over es cs) → found_in d u values es cs ≡ row_of_values u values (rows_in (over es cs))
found_in_both d u values es cs rise_es rise_cs own apart_cs apart_all = found_by_both d u values es cs rise_es rise_cs own apart_cs apart_all
