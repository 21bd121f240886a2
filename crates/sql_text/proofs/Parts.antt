-- What many texts are made of: words, lists, parentheses, literals.
use Rattle.std.proofs.Common.{◌≡◌, ◌<◌, ◌≤◌, ℕ, zero, suc, true, List, [], ◌∷◌, ◌++◌, Option, Some, refl, sym, ap, subst, arith, append_assoc, append-nil, pos, negsuc, neg_ℤ, inl, inr, ◌⊎◌}
use Rattle.std.proofs.lemmas.Bool.{and_parts, leb-true}
use Rattle.std.specs.Prelude.{int_le}
use Rattle.std.specs.Fmt.{decimal}
use Rattle.val_types.specs.Text.{text_of}
use Rattle.val_types.specs.declared.value.Value.{Value}
use Rattle.val_types.specs.declared.value.Value.TheVariants.{Null, Int, Text}
use Rattle.sql_lex.specs.declared.keyword.Keyword.{Keyword}
use Rattle.sql_lex.specs.declared.token.Symbol.{Symbol}
use Rattle.sql_lex.specs.declared.token.Symbol.TheVariants as signs
use Rattle.sql_grammar.specs.Grammar.{Grammar, Both, Mapped, Chain}
use Rattle.sql_grammar.specs.Rule.{Rule, any_of, of_kinds, only_then, opened, alone, then_one}
use Rattle.sql_tree.specs.Well.{is_name, is_number, is_literal}
use Rattle.sql_print.specs.Names.{quoted_name as name_text, doubled as doubled_text}
use Rattle.sql_syntax.specs.Tokens.{Tok, key, quoted_name, digits, least_digits, mark, tight_minus, kind, code, sign_code, number_code, least_code, number_said, keyword, sign}
use Rattle.sql_syntax.specs.Parts.{a_name, list_of, in_parentheses, a_text, a_number, plain_value, negative_value, a_value}
use Rattle.sql_syntax.proofs.Words.{keyword_kind, sign_kind}
use Rattle.sql_text.proofs.Saying.{soft}
use Rattle.sql_text.proofs.Reading.{Said, Firm, Reading, Steps, via, spaced, firm_said, one, then', token_then, stay, step, chained, More, no_more, more, more_soft, Rows', row_steps}
use Rattle.sql_text.proofs.Written.{name_written, number_written, text_written, negative_written, kw, say_open, say_close, say_comma, at_says}
use Rattle.sql_text.proofs.Words.{say_null}

-- ---- signs and words
pub sign_token : (s : Symbol) → any_of kind (sign_code s) (mark s) ≡ Some tt
sign_token s = ap (λ b. only_then b (Some tt)) (sign_kind s)

pub key_token : (k : Keyword) → any_of kind (code k) (key k) ≡ Some tt
key_token k = ap (λ b. only_then b (Some tt)) (keyword_kind k)

pub signed : {s : Symbol} {w : List ℕ} → Firm (mark s) w → Reading (sign s).texts tt w
signed {s = s} r = one (firm_said r) (sign_token s)

module _ {A : Type 0} {G : Grammar Tok A} {a : A} {v : List ℕ} where
  -- a word, a space and what follows
  pub key_then : {k : Keyword} {w : List ℕ} → Said (key k) w → Reading G a v → Reading (Both (λ u b. b) (keyword k).texts G) a (w ++ 32 ∷ v)
  key_then r q = then' (λ u b. b) (kw r) (spaced q) refl

  -- a word and what follows directly
  pub key_before : {k : Keyword} {w : List ℕ} → Said (key k) w → Reading G a v → soft v ≡ true → Reading (Both (λ u b. b) (keyword k).texts G) a (w ++ v)
  key_before r q o = then' (λ u b. b) (kw r) q o

  pub sign_then : {s : Symbol} {w : List ℕ} → Firm (mark s) w → Reading G a v → Reading (Both (λ u b. b) (sign s).texts G) a (w ++ v)
  sign_then {s = s} r q = token_then (λ u b. b) r (sign_token s) q

  pub closing : Reading G a v → Reading (Both (λ b u. b) G (sign signs.Close).texts) a (v ++ 41 ∷ [])
  closing q = then' (λ b u. b) q (signed say_close) refl

pub comma_then : {A : Type 0} {G : Grammar Tok A} {a : A} {v : List ℕ} → Reading G a v → Reading (Both (λ u b. b) (sign signs.Comma).texts G) a (44 ∷ 32 ∷ v)
comma_then q = sign_then say_comma (spaced q)

-- what a token opens
pub opened_said : {A B C : Type 0} (f : Tok → Option A) (g : A → B → C) (R : Rule Tok B) {t : Tok} {a : A} {b : B} {w v : List ℕ} → (n : ℕ) → 0 < n → Said t w → f t ≡ Some a → Reading R.texts b v → soft v ≡ true
    → Reading (opened n f g R).texts (g a b) (w ++ v)
opened_said f g R zero l r e q o = absurd (omega (arith, l))
opened_said f g R (suc n) l r e q o = then' g (one r e) q o

pub in_parens : {A : Type 0} (R : Rule Tok A) {a : A} {v : List ℕ} → (n : ℕ) → 0 < n → Reading R.texts a v → Reading (in_parentheses n R).texts a (40 ∷ v)
in_parens R zero l q = absurd (omega (arith, l))
in_parens R (suc n) l q = token_then (λ u a. a) say_open (sign_token signs.Open) q

-- ---- names
pub name_read : (n : List ℕ) → is_name n ≡ true → Reading a_name.texts n (name_text n)
unfolding kind
name_read n good = one (name_written n good) refl

pub at_name : (n : List ℕ) → is_name n ≡ true → Reading (Both (λ u b. b) (sign signs.At).texts a_name.texts) n (64 ∷ name_text n)
unfolding kind
at_name n good = record {
  read = λ bs us o s.
      let k = (name_written n good).says bs us o s in
      (mark signs.At ∷ quoted_name n ∷ us, at_says ((doubled_text n ++ 96 ∷ []) ++ bs) (quoted_name n ∷ us) k, (tt, n, quoted_name n ∷ us, refl, (mark signs.At, refl, refl), (quoted_name n, refl, refl)));
}

-- ---- lists
-- more values are steps of a list
pub more_steps : {A : Type 0} {G : Grammar Tok (List A)} {P : Grammar Tok A} {as' : List A} {w : List ℕ} → More P as' w → (acc : List A)
    → Steps then_one G (λ a. Both (λ u b. b) (sign signs.Comma).texts P) acc (acc ++ as') w
more_steps {G = G} {P = P} no_more acc = subst (λ (z : List _). Steps then_one G (λ a. Both (λ u b. b) (sign signs.Comma).texts P) acc z []) (sym (append-nil acc)) (stay acc)
more_steps {G = G} {P = P} (more {a = a} {as' = as'} {w = w} {v = v} r m) acc =
    subst (λ (z : List _). Steps then_one G (λ a. Both (λ u b. b) (sign signs.Comma).texts P) acc z (44 ∷ 32 ∷ (w ++ v))) (append_assoc acc (a ∷ []) as')
    (step (comma_then r) (more_soft m) (more_steps m (acc ++ a ∷ [])))

pub list_read : {A : Type 0} (R : Rule Tok A) {a : A} {as' : List A} {w v : List ℕ} → Reading R.texts a w → More R.texts as' v → Reading (list_of R).texts (a ∷ as') (w ++ v)
list_read R {a = a} r m = chained (via (λ ts rest g. (a, refl, g)) r) (more_soft m) (more_steps m (a ∷ []))

-- values behind one another
pub rows_read : {A : Type 0} {P : Grammar Tok A} {a : A} {as' : List A} {w v : List ℕ} → Reading P a w → soft v ≡ true → Rows' P as' v → Reading (Chain then_one (Mapped alone P) (λ b. P)) (a ∷ as') (w ++ v)
rows_read {a = a} r o m = chained (via (λ ts rest g. (a, refl, g)) r) o (row_steps m (a ∷ []))

-- ---- literals
pub number_read : (n : ℕ) → is_number n ≡ true → Reading a_number.texts n (decimal n)
unfolding kind
number_read n good = one (number_written n good) refl

pub text_read : (t : List ℕ) → is_literal (Text t) ≡ true → Reading a_text.texts t (text_of (Text t))
unfolding kind
text_read t good = one (text_written t good) refl

negative_value_is : (k : ℕ) (t : Tok) → (t ≡ digits (suc k)) ⊎ ((t ≡ least_digits) × (suc k ≡ 9223372036854775808))
    → of_kinds kind (number_code ∷ least_code ∷ []) (λ u. Some (Int (neg_ℤ (pos (number_said u))))) t ≡ Some (Int (negsuc k))
unfolding kind
negative_value_is k t (inl q) = subst (λ (u : Tok). of_kinds kind (number_code ∷ least_code ∷ []) (λ u. Some (Int (neg_ℤ (pos (number_said u))))) u ≡ Some (Int (negsuc k))) (sym q) refl
negative_value_is k t (inr q) =
    subst (λ (u : Tok). of_kinds kind (number_code ∷ least_code ∷ []) (λ u. Some (Int (neg_ℤ (pos (number_said u))))) u ≡ Some (Int (negsuc k))) (sym q.0)
    (ap (λ n. Some (Int (neg_ℤ (pos n)))) (sym q.1))

negative_read : (k : ℕ) → k ≤ 9223372036854775807 → Reading negative_value.texts (Int (negsuc k)) (45 ∷ decimal (suc k))
unfolding kind
negative_read k l =
    let h = negative_written k l in
    record { read = λ bs us o s. (tight_minus ∷ h.last ∷ us, h.said bs us o s, (tt, Int (negsuc k), h.last ∷ us, refl, (tight_minus, refl, refl), (h.last, refl, negative_value_is k h.last h.value))) }

-- a literal is one with a sign or one without
abbrev pub Literal : Value → Type 0
Literal v = Reading negative_value.texts v (text_of v) ⊎ Reading plain_value.texts v (text_of v)

pub literal_read : (v : Value) → is_literal v ≡ true → Literal v
literal_read Null good = inr (via (λ ts rest g. inr (inr (tt, refl, g))) (kw say_null))
literal_read (Int (pos n)) good = inr (via (λ ts rest g. inl (n, refl, g)) (number_read n (and_parts (int_le (negsuc 9223372036854775807) (pos n)) (int_le (pos n) (pos 9223372036854775807)) good).1))
literal_read (Int (negsuc k)) good =
    inl (negative_read k (leb-true k 9223372036854775807 (and_parts (int_le (negsuc 9223372036854775807) (negsuc k)) (int_le (negsuc k) (pos 9223372036854775807)) good).0))
literal_read (Text t) good = inr (via (λ ts rest g. inr (inl (t, refl, g))) (text_read t good))

pub value_read : (v : Value) → is_literal v ≡ true → Reading a_value.texts v (text_of v)
value_read v good = elim (literal_read v good) [ inl r ↦ via (λ ts rest g. inl g) r | inr r ↦ via (λ ts rest g. inr g) r ]
