-- Splitting a script, turn by turn.
use Rattle.std.proofs.Common.{◌≡◌, ℕ, ◌+◌, ◌-◌, ◌*◌, ◌<◌, ◌≤◌, List, [], ◌∷◌, ◌++◌, Bool, true, false, length, take, drop, get_or, nat_lt, cond, zero, suc, Option, Some, None, Result, Ok, Err, refl, sym, ap, ◌∙◌, arith, append_assoc, append-nil, add-one, drop-cons, length-drop, zero-add}
use Rattle.std.specs.Option.{option_map}
use Rattle.std.proofs.Math.Seq.{take-suc}
use Rattle.std.proofs.lemmas.Bool.Decides.{nat_tests}
use Rattle.script_read.specs.Bytes.{trim_front, is_blank}
use Rattle.script_read.specs.Commands.{What, Command}
use Rattle.script_read.specs.Script.{body_of, begins_with_end, command_of, command_at, command_limit, script_limit, split_of, split_from, split_here, with_command}

-- ---- a body, byte by byte

body-front : (b : ℕ) (bs : List ℕ) → begins_with_end (b ∷ bs) ≡ false → body_of (b ∷ bs) ≡ option_map (λ body. b ∷ body) (body_of bs)
body-front b bs e = rw e refl

map-twice : (front : List ℕ) (b : ℕ) (o : Option (List ℕ)) → option_map (λ body. front ++ body) (option_map (λ body. b ∷ body) o) ≡ option_map (λ body. (front ++ b ∷ []) ++ body) o
map-twice front b None = refl
map-twice front b (Some body) = simp append_assoc

-- what is passed over, with the body of the rest behind it
pub body_more : (whole : Option (List ℕ)) (bytes : List ℕ) (i : ℕ) → i < length bytes → begins_with_end (drop i bytes) ≡ false → whole ≡ option_map (λ body. take i bytes ++ body) (body_of (drop i bytes)) → whole ≡ option_map (λ body. take (i + 1) bytes ++ body) (body_of (drop (i + 1) bytes))
body_more whole bytes i within no_end e =
    let split : drop i bytes ≡ get_or bytes i 0 ∷ drop (i + 1) bytes = rw add-one (drop-cons bytes i 0 within) in
    let none : begins_with_end (get_or bytes i 0 ∷ drop (i + 1) bytes) ≡ false = rw split at no_end in
    let front : take (i + 1) bytes ≡ take i bytes ++ get_or bytes i 0 ∷ [] = rw add-one (take-suc bytes i 0 within) in
    e ∙ ap (λ bs. option_map (λ body. take i bytes ++ body) (body_of bs)) split
    ∙ ap (option_map (λ body. take i bytes ++ body)) (body-front (get_or bytes i 0) (drop (i + 1) bytes) none)
    ∙ map-twice (take i bytes) (get_or bytes i 0) (body_of (drop (i + 1) bytes))
    ∙ ap (λ f. option_map (λ body. f ++ body) (body_of (drop (i + 1) bytes))) (sym front)

-- ---- the commands so far

-- the commands behind more commands, or the bad place
abbrev pub with_commands : List Command → Result (List Command) ℕ → Result (List Command) ℕ
with_commands front (Ok commands) = Ok (front ++ commands)
with_commands front (Err at) = Err at

pub with_commands-none : (r : Result (List Command) ℕ) → with_commands [] r ≡ r
with_commands-none (Ok commands) = refl
with_commands-none (Err at) = refl

pub with_commands-more : (front : List Command) (command : Command) (r : Result (List Command) ℕ) → with_commands front (with_command command r) ≡ with_commands (front ++ command ∷ []) r
with_commands-more front command (Ok commands) = simp append_assoc
with_commands-more front command (Err at) = refl

-- ---- the turns

shorter_by : (blank : Bool) (b : ℕ) (bs : List ℕ) → length (trim_front bs) ≤ length bs → length (cond blank (trim_front bs) (b ∷ bs)) ≤ length (b ∷ bs)
shorter_by true b bs h = omega arith
shorter_by false b bs h = omega arith

pub trimmed_shorter : (bytes : List ℕ) → length (trim_front bytes) ≤ length bytes
trimmed_shorter [] = omega arith
trimmed_shorter (b ∷ bs) = shorter_by (is_blank b) b bs (trimmed_shorter bs)

pub first_turn : (script : List ℕ) → length script ≤ script_limit → split_of script ≡ with_commands [] (split_here (split_from (length script)) (length script - length (trim_front script)) (trim_front script))
unfolding split_of
first_turn script within =
    let small : nat_lt script_limit (length script) ≡ false = grind (arith, nat_tests) in
    rw small (rw add-one (ap (λ at. split_here (split_from (length script)) at (trim_front script)) (zero-add _) ∙ sym (with_commands-none _)))

-- a command at the front of what is left
found : (turns at : ℕ) (bytes : List ℕ) (what : What) (size : ℕ) → 0 < length bytes → command_of bytes ≡ Some (what, size) → size ≤ command_limit
    → split_here (split_from (suc turns)) at bytes ≡ with_command (command_at at what) (split_here (split_from turns) (at + size + (length (drop size bytes) - length (trim_front (drop size bytes)))) (trim_front (drop size bytes)))
found turns at [] what size some is within = absurd (omega arith)
found turns at (b ∷ bs) what size some is within =
    let small : nat_lt command_limit size ≡ false = grind (arith, nat_tests) in
    rw is (rw small refl)

-- no command at the front of what is left, or one that is too long
pub stuck : (turns at : ℕ) (bytes : List ℕ) → 0 < length bytes → command_of bytes ≡ None → split_here (split_from turns) at bytes ≡ Err at
stuck turns at [] some is = absurd (omega arith)
stuck turns at (b ∷ bs) some is = rw is refl

pub too_long : (turns at : ℕ) (bytes : List ℕ) (what : What) (size : ℕ) → 0 < length bytes → command_of bytes ≡ Some (what, size) → command_limit < size → split_here (split_from turns) at bytes ≡ Err at
too_long turns at [] what size some is past = absurd (omega arith)
too_long turns at (b ∷ bs) what size some is past =
    let large : nat_lt command_limit size ≡ true = grind (arith, nat_tests) in
    rw is (rw large refl)

-- what is left of a script in so many turns, with the commands so far
pub record Left (script : List ℕ) (commands : List Command) (bytes : List ℕ) (turns : ℕ) : Type 0 where
  pub enough : length bytes ≤ turns
  pub whole : split_of script ≡ with_commands commands (split_here (split_from turns) (length script - length bytes) bytes)

-- the next turn
pub next_turn : (script : List ℕ) (commands : List Command) (bytes : List ℕ) (what : What) (size turns : ℕ) → length bytes ≤ length script → 5 ≤ size → size ≤ length bytes → command_of bytes ≡ Some (what, size) → size ≤ command_limit
    → Left script commands bytes turns → (n : ℕ) × Left script (commands ++ command_at (length script - length bytes) what ∷ []) (trim_front (drop size bytes)) n
next_turn script commands bytes what size zero in_script some within is small left = absurd (omega (arith, left.enough))
next_turn script commands bytes what size (suc turns) in_script some within is small left =
    let rest : length (drop size bytes) ≡ length bytes - size = length-drop size bytes in
    let shorter : length (trim_front (drop size bytes)) ≤ length (drop size bytes) = trimmed_shorter (drop size bytes) in
    let place : length script - length bytes + size + (length (drop size bytes) - length (trim_front (drop size bytes))) ≡ length script - length (trim_front (drop size bytes)) = omega arith in (
      turns,
      record {
        enough = omega (arith, left.enough);
        whole = left.whole ∙ ap (with_commands commands) (found turns _ bytes what size (omega arith) is small) ∙ with_commands-more commands (command_at _ what) _
            ∙ ap (λ at. with_commands (commands ++ command_at (length script - length bytes) what ∷ []) (split_here (split_from turns) at (trim_front (drop size bytes)))) place;
      },
    )

-- one more command, and what is left behind it, are within the script too
pub left_within : (script bytes : List ℕ) (count size : ℕ) → 5 * count + length bytes ≤ length script → 5 ≤ size → size ≤ length bytes → 5 * (count + 1) + length (trim_front (drop size bytes)) ≤ length script
left_within script bytes count size within some most = omega (arith, trimmed_shorter (drop size bytes), length-drop size bytes)

-- where nothing is left, the commands so far are all
pub nothing_left : (script : List ℕ) (commands : List Command) (bytes : List ℕ) (turns : ℕ) → length bytes ≡ 0 → Left script commands bytes turns → split_of script ≡ Ok commands
nothing_left script commands [] turns none left = left.whole ∙ ap Ok (append-nil commands)
nothing_left script commands (b ∷ bs) turns none left = absurd (omega arith)

-- a script past its limit
pub too_long_script : (script : List ℕ) → script_limit < length script → split_of script ≡ Err script_limit
unfolding split_of
too_long_script script past =
    let large : nat_lt script_limit (length script) ≡ true = grind (arith, nat_tests) in
    rw large refl
