-- What is past a limit is bad.
use Rattle.std.proofs.Common.{◌≡◌, ℕ, ◌-◌, ◌<◌, ◌≤◌, List, [], length, Some, Err, ap, ◌∙◌, arith}
use Rattle.script_read.specs.Bytes.{trim_front}
use Rattle.script_read.specs.Commands.{What}
use Rattle.script_read.specs.Script.{split_of, split_here, split_from, command_of}
use Rattle.script_read.proofs.Splitting.{first_turn, with_commands, too_long, too_long_script}

pub long_script : (script : List ℕ) → 67108864 < length script → split_of script ≡ Err 67108864
long_script script past = too_long_script script past

pub long_command : (script : List ℕ) (what : What) (size : ℕ) → length script ≤ 67108864 → 0 < length script → trim_front script ≡ script → command_of script ≡ Some (what, size) → 1048576 < size → split_of script ≡ Err 0
long_command script what size within some trimmed is past =
    let here : split_of script ≡ with_commands [] (split_here (split_from (length script)) (length script - length script) script) =
    first_turn script within ∙ ap (λ bytes. with_commands [] (split_here (split_from (length script)) (length script - length bytes) bytes)) trimmed in
    let none : length script - length script ≡ 0 = omega arith in
    here ∙ ap (with_commands []) (too_long (length script) (length script - length script) script what size some is past) ∙ ap Err none
