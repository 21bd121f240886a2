-- A script as the list of its commands, or the place of its first bad byte.
use Rattle.std.specs.Prelude.{ℕ, ◌+◌, ◌-◌, Bool, true, false, not, ◌&&◌, ◌||◌, nat_lt, ◌==◌, if◌then◌else◌, List, [], ◌∷◌, length, drop, reverse, zero, suc, Option, Some, None, Result, Ok, Err}
use Rattle.std.specs.List.{take_while}
use Rattle.std.specs.Option.{option_map, option_and_then}
use Rattle.script_read.specs.Bytes.{trim_front, trim}
use Rattle.script_read.specs.Commands.{What, Command, actor_of, what_of}

-- the greatest length of a script: 64 MiB
abbrev pub script_limit : ℕ
script_limit = 67108864

-- the greatest length of a command, from its first byte to the end of its `//`: 1 MiB
abbrev pub command_limit : ℕ
command_limit = 1048576

-- ---- what a command's body says

-- reversed bytes without a `;` at their front
abbrev pub drop_semicolon : List ℕ → List ℕ
drop_semicolon [] = []
drop_semicolon (b ∷ bs) = if b == 0x3b then bs else b ∷ bs

-- the body trimmed, one closing `;` dropped, trimmed again
abbrev pub text_of_body : List ℕ → List ℕ
text_of_body body = trim (reverse (drop_semicolon (reverse (trim body))))

-- ---- where a command ends

-- whether a `//` with this behind it ends a command: a line's end or the end of the script
abbrev pub ends_command : List ℕ → Bool
ends_command [] = true
ends_command (a ∷ []) = a == 0x0a
ends_command (a ∷ b ∷ bs) = a == 0x0a || (a == 0x0d && b == 0x0a)

-- whether these bytes begin with a `//` that ends a command
abbrev pub begins_with_end : List ℕ → Bool
begins_with_end [] = false
begins_with_end (a ∷ []) = false
begins_with_end (a ∷ b ∷ bs) = a == 0x2f && b == 0x2f && ends_command bs

-- the bytes up to the first `//` that ends a command
abbrev pub body_of : List ℕ → Option (List ℕ)
body_of [] = None
body_of (b ∷ bs) = if begins_with_end (b ∷ bs) then Some [] else option_map (λ body. b ∷ body) (body_of bs)

-- ---- one command

abbrev pub is_no_colon : ℕ → Bool
is_no_colon b = not (b == 0x3a)

-- the bytes up to the first colon
abbrev pub head_of : List ℕ → List ℕ
head_of = take_while is_no_colon

-- what is asked, and how many bytes the command has: the head, a colon, the body, two slashes
abbrev pub sized_command : ℕ → List ℕ → What → What × ℕ
sized_command head body what = (what, head + length body + 3)

-- the command at the front of these bytes: what it asks, and how many bytes it has
abbrev pub command_of : List ℕ → Option (What × ℕ)
command_of bytes =
    option_and_then (λ actor. option_and_then (λ body. option_map (sized_command (length (head_of bytes)) body) (what_of actor (text_of_body body))) (body_of (drop (length (head_of bytes) + 1) bytes))) (actor_of (head_of bytes))

-- ---- all commands

-- the commands behind one more, or the bad place
abbrev pub with_command : Command → Result (List Command) ℕ → Result (List Command) ℕ
with_command command (Ok commands) = Ok (command ∷ commands)
with_command command (Err at) = Err at

abbrev pub command_at : ℕ → What → Command
command_at place what = record { at = place; what = what }

-- a command that was found at a place, and what `next` makes of the bytes behind it
abbrev pub split_behind : (ℕ → List ℕ → Result (List Command) ℕ) → ℕ → List ℕ → Option (What × ℕ) → Result (List Command) ℕ
split_behind next at bytes None = Err at
split_behind next at bytes (Some command) =
    if nat_lt command_limit command.1 then Err at else with_command (command_at at command.0) (next (at + command.1) (drop command.1 bytes))

-- the commands of bytes without white space at their front, which begin at a place
abbrev pub split_here : (ℕ → List ℕ → Result (List Command) ℕ) → ℕ → List ℕ → Result (List Command) ℕ
split_here next at [] = Ok []
split_here next at (b ∷ bs) = split_behind next at (b ∷ bs) (command_of (b ∷ bs))

-- the commands of the bytes that begin at a place, in at most so many turns
abbrev pub split_from : ℕ → ℕ → List ℕ → Result (List Command) ℕ
split_from zero at bytes = Err at
split_from (suc turns) at bytes =
    split_here (split_from turns) (at + (length bytes - length (trim_front bytes))) (trim_front bytes)

-- the commands of a script, or the place of the first byte that begins none. A command takes some bytes, so that the script's
-- length is turns enough. A script past its limit is bad at the limit
unfoldable pub split_of : List ℕ → Result (List Command) ℕ
split_of script = if nat_lt script_limit (length script) then Err script_limit else split_from (length script + 1) 0 script
