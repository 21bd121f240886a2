-- Each keyword is reserved or a name, and the name of each built-in function is a name.
use Rattle.std.proofs.Common.{◌≡◌, true, ◌||◌, [], ◌∷◌, refl}
use Rattle.val_types.specs.declared.ops.Func.{Func}
use Rattle.sql_lex.specs.declared.keyword.Keyword.{Keyword}
use Rattle.sql_lex.specs.declared.keyword.Keyword.TheVariants.{Session}
use Rattle.sql_lex.specs.Keywords.{word_of}
use Rattle.sql_lex.proofs.KeywordLaws.{all_keywords}
use Rattle.sql_grammar.specs.Sets.{member}
use Rattle.sql_syntax.specs.Tokens.{code, function_code, names, but}
use Rattle.sql_print.specs.Names.{is_reserved}

-- the word is reserved, or SESSION, or another name
pub reserved_or_name : (k : Keyword) → (is_reserved (word_of k) || (member (code k) (code Session ∷ []) || member (code k) (but names (code Session ∷ [])))) ≡ true
reserved_or_name = all_keywords (λ k. is_reserved (word_of k) || (member (code k) (code Session ∷ []) || member (code k) (but names (code Session ∷ [])))) refl

-- so is the name of each built-in function
pub function_is_name : (f : Func) → (member (function_code f) (code Session ∷ []) || member (function_code f) (but names (code Session ∷ []))) ≡ true
function_is_name (Func.Zero f) = refl
function_is_name (Func.One f) = refl
function_is_name (Func.Two f) = refl
function_is_name (Func.Three f) = refl
function_is_name (Func.Many f) = refl
