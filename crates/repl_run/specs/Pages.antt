-- The pages that a program shows in place of doing its work.
use Rattle.std.specs.Prelude.{ℕ, if◌then◌else◌, List, [], ◌∷◌, codes, Option, Some, None}
use Rattle.std.specs.Str.{bytes_eq}
use Rattle.repl_run.specs.declared.pages.Page.{Page}
use Rattle.repl_run.specs.declared.pages.Page.TheVariants.{Help, Version}

-- the page that a word asks for
abbrev pub page_of : List ℕ → Option Page
page_of word = if bytes_eq word (codes "--help") then Some Help else if bytes_eq word (codes "--version") then Some Version else None

-- the first word decides
abbrev pub page_asked : List (List ℕ) → Option Page
page_asked [] = None
page_asked (word ∷ words) = page_of word
