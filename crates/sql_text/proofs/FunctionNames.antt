-- Each built-in function that is called by a name is read by that name.
use Rattle.std.proofs.Common.{◌≡◌, Bool, true, false, Some, None, refl}
use Rattle.val_types.specs.declared.ops.Func.{Func}
use Rattle.val_types.specs.declared.ops.Func0.{Func0}
use Rattle.val_types.specs.declared.ops.Func1.{Func1}
use Rattle.val_types.specs.declared.ops.Func2.{Func2}
use Rattle.val_types.specs.declared.ops.Func3.{Func3}
use Rattle.val_types.specs.declared.ops.FuncN.{FuncN}
use Rattle.sql_lex.specs.Keywords.{keyword_of}
use Rattle.sql_tree.specs.BuiltIns.{about, lower_name, function_named}
use Rattle.sql_syntax.specs.Tokens.{function_word}
use Rattle.sql_text.proofs.Reading.{Said}
use Rattle.sql_text.proofs.Written.{is_spelled, function_said}

-- IF, which is a word of the grammar
abbrev pub is_if : Func → Bool
is_if (Func.Three Func3.If) = true
is_if f = false

-- the name is a word, no keyword, and names the function
abbrev Named : Func → Type 0
Named f = (is_spelled (about f).name ≡ true) × (keyword_of (lower_name f) ≡ None) × (function_named (lower_name f) ≡ Some f)

-- The first line of each number of arguments splits the functions, and the second is checked for each of the others.
named : (f : Func) → is_if f ≡ false → Named f
named (Func.Zero Func0.Now) e = (refl, refl, refl)
named (Func.Zero f) e = (refl, refl, refl)
named (Func.One Func1.Abs) e = (refl, refl, refl)
named (Func.One f) e = (refl, refl, refl)
named (Func.Two Func2.IfNull) e = (refl, refl, refl)
named (Func.Three Func3.If) e = cc
named (Func.Three f) e = (refl, refl, refl)
named (Func.Many FuncN.Coalesce) e = (refl, refl, refl)
named (Func.Many f) e = (refl, refl, refl)

pub called_said : (f : Func) → is_if f ≡ false → Said (function_word f) (about f).name
called_said f e = let n = named f e in function_said f (about f).name n.0 n.1 n.2
