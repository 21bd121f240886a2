-- Scripts, of which worked examples are made.
use Rattle.std.specs.Prelude.{ℕ, List, [], ◌∷◌, ◌++◌, Result, Ok}
use Rattle.script_read.specs.Commands.{What, Command, of_session}
use Rattle.script_read.specs.Script.{command_at}

-- a line: some bytes, `//` and a line feed
abbrev pub line : List ℕ → List ℕ
line bytes = bytes ++ 0x2f ∷ 0x2f ∷ 0x0a ∷ []

-- two slashes
abbrev pub slashes : List ℕ
slashes = 0x2f ∷ 0x2f ∷ []

-- one command, which begins at the script's first byte
abbrev pub only : What → Result (List Command) ℕ
only what = Ok (command_at 0 what ∷ [])

-- the one command of session 1 with a text
abbrev pub says : List ℕ → Result (List Command) ℕ
says text = only (of_session 1 text)
