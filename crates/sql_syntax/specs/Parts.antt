-- What many rules are made of: names, literals, lists, parentheses.
use Rattle.std.specs.Prelude.{ℕ, pred, pos, neg_ℤ, List, [], ◌∷◌, Option, Some, None, unwrap_or}
use Rattle.val_types.specs.declared.value.Value.{Value}
use Rattle.val_types.specs.declared.value.Value.TheVariants.{Null, Int, Text}
use Rattle.sql_lex.specs.declared.keyword.Keyword.{Keyword}
use Rattle.sql_lex.specs.declared.keyword.Keyword.TheVariants as words
use Rattle.sql_lex.specs.declared.token.Symbol.TheVariants as signs
use Rattle.sql_tree.specs.Tree.{Tree, Trees, no_tree}
use Rattle.sql_tree.specs.View.{trees_of}
use Rattle.sql_grammar.specs.Rule.{Rule, token, any_of, word, both, either, pure, optional, mapped, opened, behind, before, listed}
use Rattle.sql_syntax.specs.Tokens.{Tok, kind, code, sign_code, number_code, least_code, text_code, tight_code, names, but, name_said, text_said, number_said, keyword, sign}

-- a name, where one is wanted
abbrev pub a_name : Rule Tok (List ℕ)
a_name = token kind names (λ t. Some (name_said t))

-- [name]
abbrev pub optional_name : Rule Tok (Option (List ℕ))
optional_name = optional kind names None (mapped Some a_name)

-- a name of another kind than these
abbrev pub name_but : List ℕ → Rule Tok (List ℕ)
name_but set = token kind (but names set) (λ t. Some (name_said t))

-- a word as a name
abbrev pub word_name : Keyword → Rule Tok (List ℕ)
word_name k = token kind (code k ∷ []) (λ t. Some (name_said t))

-- one or more with commas between
abbrev pub list_of : {A : Type 0} → Rule Tok A → Rule Tok (List A)
list_of r = listed kind (sign_code signs.Comma ∷ []) (sign signs.Comma) r

-- one expression or more, with commas between
abbrev pub exprs : Rule Tok Tree → Rule Tok Trees
exprs r = mapped trees_of (list_of r)

-- up to and with the closing parenthesis
abbrev pub closed : {A : Type 0} → Rule Tok A → Rule Tok A
closed r = before r (sign signs.Close)

-- expressions, none too, and the closing parenthesis
abbrev pub arguments : Rule Tok Tree → Rule Tok Trees
arguments r = either kind (sign_code signs.Close ∷ []) (mapped (λ u. no_tree) (sign signs.Close)) (closed (exprs r))

-- a token of this kind, which opens a construct, and how many may be opened behind it
abbrev pub opening : ℕ → ℕ → Rule Tok ℕ
opening n k = opened n (any_of kind k) (λ u m. m) (pure (pred n))

-- in parentheses, with what stands up to the closing one
abbrev pub in_parentheses : {A : Type 0} → ℕ → Rule Tok A → Rule Tok A
in_parentheses n r = opened n (any_of kind (sign_code signs.Open)) (λ u a. a) r

-- names in parentheses
abbrev pub names_in : ℕ → Rule Tok (List (List ℕ))
names_in n = in_parentheses n (closed (list_of a_name))

-- the bytes of a literal
abbrev pub a_text : Rule Tok (List ℕ)
a_text = token kind (text_code ∷ []) (λ t. Some (text_said t))

-- [.name]
abbrev pub dotted_name : Rule Tok (Option (List ℕ))
dotted_name = optional kind (sign_code signs.Dot ∷ []) None (mapped Some (behind (sign signs.Dot) a_name))

-- [SESSION.]name, where SESSION alone is a name
abbrev pub system_name : Rule Tok (List ℕ)
system_name = either kind (code words.Session ∷ []) (both (λ s o. unwrap_or o s) (word_name words.Session) dotted_name) (name_but (code words.Session ∷ []))

-- a number without a sign
abbrev pub a_number : Rule Tok ℕ
a_number = token kind (number_code ∷ []) (λ t. Some (number_said t))

-- a literal without a sign
abbrev pub plain_value : Rule Tok Value
plain_value =
    either kind (number_code ∷ []) (mapped (λ n. Int (pos n)) a_number) (either kind (text_code ∷ []) (mapped Text a_text) (mapped (λ u. Null) (keyword words.Null)))

-- a minus directly before a number, which belongs to it
abbrev pub negative_value : Rule Tok Value
negative_value = behind (word kind tight_code) (token kind (number_code ∷ least_code ∷ []) (λ t. Some (Int (neg_ℤ (pos (number_said t))))))

-- a literal
abbrev pub a_value : Rule Tok Value
a_value = either kind (tight_code ∷ []) negative_value plain_value
