-- The steps of reading the options of a column and the parts of a table.
use Rattle.std.proofs.Common.{◌≡◌, ℕ, ◌+◌, ◌-◌, ◌<◌, Bool, true, false, ◌||◌, List, [], ◌∷◌, ◌++◌, length, Ok, refl, sym, ap, subst, ◌∙◌, arith}
use Rattle.std.proofs.lemmas.List.Folds.{list_any-append}
use Rattle.std.specs.List.{list_any}
use Rattle.sql_lex.specs.declared.token.Symbol.TheVariants as signs
use Rattle.sql_grammar.specs.Reader.{Reader, Read, bind, steps}
use Rattle.sql_grammar.specs.Rule.{behind, then_one}
use Rattle.sql_grammar.specs.Sets.{next_in}
use Rattle.sql_syntax.specs.declared.table_parts.Marks.{Marks}
use Rattle.sql_syntax.specs.declared.table_parts.TablePart.{TablePart}
use Rattle.sql_syntax.specs.Tokens.{Tok, kind, sign, sign_code}
use Rattle.sql_syntax.specs.Tables.{marked, mark, mark_words, table_part, table_parts, is_primary}
use Rattle.sql_parse_tokens.specs.declared.fault.Stop.{Stop}
use Rattle.sql_parse_tokens.specs.Gives.{Fails}
use Rattle.sql_parse_tokens.proofs.Reading.{step_goes, step_fails, fails_made}

-- options behind those so far, in so many turns
abbrev pub more_marks : Bool → ℕ → Marks → Reader Tok Marks
more_marks has_key n m ts = steps marked (next_in kind mark_words) (λ m. (mark has_key m).read) n m ts

-- parts behind those so far, in so many turns
abbrev pub more_parts : ℕ → ℕ → List TablePart → Reader Tok (List TablePart)
more_parts d n ps ts =
    steps then_one (next_in kind (sign_code signs.Comma ∷ [])) (λ ps. (behind (sign signs.Comma) (table_part d (list_any is_primary ps))).read) n ps ts

abbrev pub part_step : ℕ → List TablePart → Reader Tok TablePart
part_step d ps = (behind (sign signs.Comma) (table_part d (list_any is_primary ps))).read

abbrev pub comma_next : List Tok → Bool
comma_next = next_in kind (sign_code signs.Comma ∷ [])

or_false : (b : Bool) → (b || false) ≡ b
or_false true = refl
or_false false = refl

-- the first part
pub parts_begin : (d n : ℕ) (ts us : List Tok) (p : TablePart) (ps : List TablePart) (has : Bool) → (table_part d false).read ts ≡ Ok (p, us) → has ≡ is_primary p → ps ≡ p ∷ [] → n ≡ length us
    → (has ≡ list_any is_primary ps) × (more_parts d (n - 0) ps us ≡ (table_parts d).read ts)
parts_begin d n ts us p ps has read key e all =
    let m : n - 0 ≡ length us = omega arith in
    (key ∙ (sym (or_false (is_primary p)) ∙ ap (list_any is_primary) (sym e)), rw (read, e, m) refl)

-- a part more
pub parts_go : (d n at : ℕ) (ps qs : List TablePart) (p : TablePart) (ts us : List Tok) (has has' : Bool) (whole : Read Tok (List TablePart)) → at < n → true ≡ comma_next ts
    → (has ≡ list_any is_primary ps) × (more_parts d (n - at) ps ts ≡ whole) → (behind (sign signs.Comma) (table_part d has)).read ts ≡ Ok (p, us) → has' ≡ (has || is_primary p) → qs ≡ ps ++ p ∷ []
    → (has' ≡ list_any is_primary qs) × (more_parts d (n - (at + 1)) qs us ≡ whole)
parts_go d n at ps qs p ts us has has' whole h e inv read key more =
    let r : part_step d ps ts ≡ Ok (p, us) = subst (λ (b : Bool). (behind (sign signs.Comma) (table_part d b)).read ts ≡ Ok (p, us)) inv.0 read in
    let made : bind (part_step d ps ts) (λ y. Ok (then_one ps y.0, y.1)) ≡ Ok (ps ++ p ∷ [], us) = rw r refl in
    let any : list_any is_primary (ps ++ p ∷ []) ≡ (has || is_primary p) = rw (list_any-append is_primary ps (p ∷ []), or_false (is_primary p), ← inv.0) refl in
    rw more (key ∙ sym any, step_goes then_one comma_next (part_step d) n at ps (ps ++ p ∷ []) ts us whole h e made inv.1)

-- a part that fails
pub parts_fail : (d n at : ℕ) (ps : List TablePart) (ts : List Tok) (has : Bool) (whole : Read Tok (List TablePart)) (stop : Stop) → at < n → true ≡ comma_next ts
    → (has ≡ list_any is_primary ps) × (more_parts d (n - at) ps ts ≡ whole) → Fails stop ((behind (sign signs.Comma) (table_part d has)).read ts) → Fails stop whole
parts_fail d n at ps ts has whole stop h e inv fail =
    let r : Fails stop (part_step d ps ts) = subst (λ (b : Bool). Fails stop ((behind (sign signs.Comma) (table_part d b)).read ts)) inv.0 fail in
    step_fails then_one comma_next (part_step d) n at ps ts whole stop h e (fails_made stop (part_step d ps ts) (λ y. (then_one ps y.0, y.1)) r) inv.1
