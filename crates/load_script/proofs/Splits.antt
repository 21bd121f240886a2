-- Lines of the script, as they are split.
use Rattle.std.proofs.Common.{◌≡◌, ◌∙◌, ℕ, zero, suc, ◌+◌, ◌-◌, ◌*◌, ◌≤◌, ◌==◌, ◌%◌, ◌&&◌, not, Bool, true, false, if◌then◌else◌, List, [], ◌∷◌, ◌++◌, codes, length, drop, reverse, map, Some, Ok, ap, ap₂, sym, subst, refl, arith, append-nil, append_assoc}
use Rattle.std.specs.List.{list_all}
use Rattle.std.specs.Option.{option_map, option_and_then}
use Rattle.std.proofs.lemmas.List.{length-append, map-append, reverse-reverse, reverse-append}
use Rattle.std.proofs.lemmas.List.Folds.{list_all-append}
use Rattle.script_read.specs.Bytes.{is_blank, trim, trim_front}
use Rattle.script_read.specs.Commands.{Command, What, apply, fetch, of_session, replica_select, actor_of, replica_text, what_of}
use Rattle.script_read.specs.Script.{begins_with_end, body_of, command_at, command_of, drop_semicolon, sized_command, split_from, split_here, split_of, text_of_body}
use Rattle.script_read.proofs.Splitting.{Left, first_turn, next_turn, nothing_left, with_commands}
use Rattle.load_script.specs.Commands.{lasts, load_commands, steps, turn, turns}
use Rattle.load_script.specs.Script.{change_text, create_text, last_lines, line_end, load_text, replica_line, session_line, step_lines, turn_lines, turns_lines}
use Rattle.load_script.proofs.Texts.{IsText, change_is, create_is, is_plain}

-- ---- what a body says

front_stays : (text : List ℕ) (first : ℕ) (rest : List ℕ) → text ≡ first ∷ rest → is_blank first ≡ false → trim_front text ≡ text
front_stays text first rest begins seen = rw begins (rw seen refl)

trim_stays : (text : List ℕ) → IsText text → trim text ≡ text
trim_stays text t =
    ap (λ front. reverse (trim_front (reverse front))) (front_stays text t.first t.rest t.begins t.first_seen)
    ∙ ap reverse (front_stays (reverse text) t.last t.front t.ends t.last_seen) ∙ reverse-reverse text

-- a body: the text between spaces
abbrev body : List ℕ → List ℕ
body text = 0x20 ∷ (text ++ 0x20 ∷ [])

body_trimmed : (text : List ℕ) → IsText text → trim (body text) ≡ text
body_trimmed text t =
    let front : trim_front (text ++ 0x20 ∷ []) ≡ text ++ 0x20 ∷ [] = front_stays (text ++ 0x20 ∷ []) t.first (t.rest ++ 0x20 ∷ []) (ap (λ s. s ++ 0x20 ∷ []) t.begins) t.first_seen in
    let back : reverse (text ++ 0x20 ∷ []) ≡ 0x20 ∷ reverse text = reverse-append text (0x20 ∷ []) in
    ap (λ s. reverse (trim_front (reverse s))) front ∙ ap (λ s. reverse (trim_front s)) back
    ∙ ap reverse (front_stays (reverse text) t.last t.front t.ends t.last_seen) ∙ reverse-reverse text

semicolon_none : (text : List ℕ) → IsText text → drop_semicolon (reverse text) ≡ reverse text
semicolon_none text t = rw t.ends (rw t.no_semicolon refl)

body_says : (text : List ℕ) → IsText text → text_of_body (body text) ≡ text
body_says text t =
    ap (λ s. trim (reverse (drop_semicolon (reverse s)))) (body_trimmed text t) ∙ ap (λ s. trim (reverse s)) (semicolon_none text t)
    ∙ ap trim (reverse-reverse text) ∙ trim_stays text t

-- ---- where a body ends

-- two slashes and a line feed
abbrev ending : List ℕ → List ℕ
ending rest = 0x2f ∷ 0x2f ∷ 0x0a ∷ rest

no_end : (b : ℕ) (bs : List ℕ) → (b == 0x2f) ≡ false → begins_with_end (b ∷ bs) ≡ false
no_end b [] other = refl
no_end b (c ∷ bs) other = rw other refl

both : (a b : Bool) → (a && b) ≡ true → (a ≡ true) × (b ≡ true)
both true b e = (refl, e)
both false b e = cc

is_other : (b : Bool) → not b ≡ true → b ≡ false
is_other true e = sym e
is_other false e = refl

body_ends : (text rest : List ℕ) → list_all is_plain text ≡ true → body_of (text ++ ending rest) ≡ Some text
body_ends [] [] plain = refl
body_ends [] (b ∷ bs) plain = refl
body_ends (b ∷ bs) rest plain =
    let parts = both (is_plain b) (list_all is_plain bs) plain in
    let none : begins_with_end (b ∷ (bs ++ ending rest)) ≡ false = no_end b (bs ++ ending rest) (is_other (b == 0x2f) parts.0) in
    rw none (ap (option_map (λ front. b ∷ front)) (body_ends bs rest parts.1))

body_plain : (text : List ℕ) → IsText text → list_all is_plain (body text) ≡ true
body_plain text t = rw (list_all-append is_plain text (0x20 ∷ []), t.part.plain) refl

-- the end of a line, as that of a body
line_ends : (text rest : List ℕ) → (text ++ line_end) ++ rest ≡ (text ++ 0x20 ∷ []) ++ ending rest
line_ends text rest = append_assoc text line_end rest ∙ sym (append_assoc text (0x20 ∷ []) (ending rest))

drop_front : (front rest : List ℕ) → drop (length front) (front ++ rest) ≡ rest
drop_front [] rest = refl
drop_front (b ∷ bs) rest = drop_front bs rest

body_size : (text : List ℕ) → length (body text) ≡ length text + 2
body_size text = omega (arith, length-append text (0x20 ∷ []))

-- ---- one line

session_says : (text rest : List ℕ) → IsText text → command_of (session_line text ++ rest) ≡ Some (of_session 1 text, length text + 7)
session_says text rest t =
    let size : 2 + length (body text) + 3 ≡ length text + 7 = omega (arith, body_size text) in
    ap (λ s. command_of (0x73 ∷ 0x31 ∷ 0x3a ∷ 0x20 ∷ s)) (line_ends text rest)
    ∙ ap (λ ends. option_and_then (λ actor. option_and_then (λ found. option_map (sized_command 2 found) (what_of actor (text_of_body found))) ends) (actor_of (codes "s1"))) (body_ends (body text) rest (body_plain text t))
    ∙ ap₂ (λ s n. Some (of_session 1 s, n)) (body_says text t) size

replica_says : (text rest : List ℕ) (what : What) → IsText text → replica_text text ≡ Some what → command_of (replica_line text ++ rest) ≡ Some (what, length text + 12)
replica_says text rest what t asks =
    let size : 7 + length (body text) + 3 ≡ length text + 12 = omega (arith, body_size text) in
    ap (λ s. command_of (0x72 ∷ 0x65 ∷ 0x70 ∷ 0x6c ∷ 0x69 ∷ 0x63 ∷ 0x61 ∷ 0x3a ∷ 0x20 ∷ s)) (line_ends text rest)
    ∙ ap (λ ends. option_and_then (λ actor. option_and_then (λ found. option_map (sized_command 7 found) (what_of actor (text_of_body found))) ends) (actor_of (codes "replica"))) (body_ends (body text) rest (body_plain text t))
    ∙ ap (λ s. option_map (sized_command 7 (body text)) (replica_text s)) (body_says text t)
    ∙ ap (option_map (sized_command 7 (body text))) asks
    ∙ ap (λ n. Some (what, n)) size

-- the line without its feed
session_behind : (text rest : List ℕ) → drop (length text + 7) (session_line text ++ rest) ≡ 0x0a ∷ rest
session_behind text rest =
    let front = 0x73 ∷ 0x31 ∷ 0x3a ∷ 0x20 ∷ (text ++ 0x20 ∷ 0x2f ∷ 0x2f ∷ []) in
    let size : length text + 7 ≡ length front = omega (arith, length-append text (0x20 ∷ 0x2f ∷ 0x2f ∷ [])) in
    let same : (text ++ line_end) ++ rest ≡ (text ++ 0x20 ∷ 0x2f ∷ 0x2f ∷ []) ++ 0x0a ∷ rest = append_assoc text line_end rest ∙ sym (append_assoc text (0x20 ∷ 0x2f ∷ 0x2f ∷ []) (0x0a ∷ rest)) in
    ap (λ s. drop (length text + 7) (0x73 ∷ 0x31 ∷ 0x3a ∷ 0x20 ∷ s)) same ∙ ap (λ n. drop n (front ++ 0x0a ∷ rest)) size ∙ drop_front front (0x0a ∷ rest)

replica_behind : (text rest : List ℕ) → drop (length text + 12) (replica_line text ++ rest) ≡ 0x0a ∷ rest
replica_behind text rest =
    let front = 0x72 ∷ 0x65 ∷ 0x70 ∷ 0x6c ∷ 0x69 ∷ 0x63 ∷ 0x61 ∷ 0x3a ∷ 0x20 ∷ (text ++ 0x20 ∷ 0x2f ∷ 0x2f ∷ []) in
    let size : length text + 12 ≡ length front = omega (arith, length-append text (0x20 ∷ 0x2f ∷ 0x2f ∷ [])) in
    let same : (text ++ line_end) ++ rest ≡ (text ++ 0x20 ∷ 0x2f ∷ 0x2f ∷ []) ++ 0x0a ∷ rest = append_assoc text line_end rest ∙ sym (append_assoc text (0x20 ∷ 0x2f ∷ 0x2f ∷ []) (0x0a ∷ rest)) in
    ap (λ s. drop (length text + 12) (0x72 ∷ 0x65 ∷ 0x70 ∷ 0x6c ∷ 0x69 ∷ 0x63 ∷ 0x61 ∷ 0x3a ∷ 0x20 ∷ s)) same ∙ ap (λ n. drop n (front ++ 0x0a ∷ rest)) size ∙ drop_front front (0x0a ∷ rest)

-- ---- lines one after the other

abbrev what_is : Command → What
what_is c = c.what

-- what is left of a script that begins with this text says these commands first
record Reads (text : List ℕ) (whats : List What) : Type 0 where
  trimmed : (rest : List ℕ) → trim_front rest ≡ rest → trim_front (text ++ rest) ≡ text ++ rest
  splits : (script : List ℕ) (before : List Command) (rest : List ℕ) (turns : ℕ) → trim_front rest ≡ rest → length (text ++ rest) ≤ length script → Left script before (text ++ rest) turns
      → (found : List Command) × (map what_is found ≡ whats) × (n : ℕ) × Left script (before ++ found) rest n

nothing : Reads [] []
nothing = record {
  trimmed = λ rest t. t;
  splits = λ script before rest turns t within left. ([], refl, turns, subst (λ cs. Left script cs rest turns) (sym (append-nil before)) left);
}

and_then : (a b : List ℕ) (ws vs : List What) → Reads a ws → Reads b vs → Reads (a ++ b) (ws ++ vs)
and_then a b ws vs first second = record {
  trimmed = λ rest t. subst (λ s. trim_front s ≡ s) (sym (append_assoc a b rest)) (first.trimmed (b ++ rest) (second.trimmed rest t));
  splits = λ script before rest turns t within left.
      let joined : (a ++ b) ++ rest ≡ a ++ (b ++ rest) = append_assoc a b rest in
      let whole : length (a ++ (b ++ rest)) ≤ length script = subst (λ s. length s ≤ length script) joined within in
      let one = first.splits script before (b ++ rest) turns (second.trimmed rest t) whole (subst (λ s. Left script before s turns) joined left) in
      let two = second.splits script (before ++ one.0) rest one.2 t (omega (arith, length-append a (b ++ rest))) one.3 in (
        one.0 ++ two.0,
        map-append what_is one.0 two.0 ∙ ap₂ (λ x y. x ++ y) one.1 two.1,
        two.2,
        subst (λ cs. Left script cs rest two.2) (append_assoc before one.0 two.0) two.3,
      );
}

one_line : (line : List ℕ) (what : What) (size : ℕ) → ((rest : List ℕ) → command_of (line ++ rest) ≡ Some (what, size)) → ((rest : List ℕ) → drop size (line ++ rest) ≡ 0x0a ∷ rest)
    → 5 ≤ size → size ≤ 1048576 → size ≤ length line → ((rest : List ℕ) → trim_front (line ++ rest) ≡ line ++ rest) → Reads line (what ∷ [])
one_line line what size says behind some small within trimmed = record {
  trimmed = λ rest t. trimmed rest;
  splits = λ script before rest turns t whole left.
      let turn = next_turn script before (line ++ rest) what size turns whole some (omega (arith, length-append line rest)) (says rest) small left in
      let after : trim_front (drop size (line ++ rest)) ≡ rest = ap trim_front (behind rest) ∙ t in
      let found = command_at (length script - length (line ++ rest)) what ∷ [] in
      (found, refl, turn.0, subst (λ s. Left script (before ++ found) s turn.0) after turn.1);
}

session_reads : (text : List ℕ) → IsText text → Reads (session_line text) (of_session 1 text ∷ [])
session_reads text t =
    let long : length (session_line text) ≡ length text + 8 = omega (arith, length-append text line_end) in
    one_line (session_line text) (of_session 1 text) (length text + 7) (λ rest. session_says text rest t) (λ rest. session_behind text rest)
    (omega arith) (omega (arith, t.part.short)) (omega (arith, long)) (λ rest. refl)

replica_reads : (text : List ℕ) (what : What) → IsText text → replica_text text ≡ Some what → Reads (replica_line text) (what ∷ [])
replica_reads text what t asks =
    let long : length (replica_line text) ≡ length text + 13 = omega (arith, length-append text line_end) in
    one_line (replica_line text) what (length text + 12) (λ rest. replica_says text rest what t asks) (λ rest. replica_behind text rest)
    (omega arith) (omega (arith, t.part.short)) (omega (arith, long)) (λ rest. refl)

-- a text of the replica, which is written out
abbrev stands : (text : List ℕ) (first last : ℕ) (rest front : List ℕ) → list_all is_plain text ≡ true → length text ≤ 300 → text ≡ first ∷ rest → reverse text ≡ last ∷ front
    → is_blank first ≡ false → is_blank last ≡ false → (last == 0x3b) ≡ false → IsText text
stands text first last rest front plain short begins ends first_seen last_seen no_semicolon = record {
  part = record { plain = plain; short = short };
  first = first;
  rest = rest;
  begins = begins;
  first_seen = first_seen;
  last = last;
  front = front;
  ends = ends;
  last_seen = last_seen;
  no_semicolon = no_semicolon;
}

fetch_some : Reads (replica_line (codes "FETCH 1000000")) (fetch 1000000 ∷ [])
fetch_some = replica_reads _ _ (stands (codes "FETCH 1000000") 0x46 0x30 _ _ refl (omega arith) refl refl refl refl refl) refl

apply_some : Reads (replica_line (codes "APPLY 1000")) (apply 1000 ∷ [])
apply_some = replica_reads _ _ (stands (codes "APPLY 1000") 0x41 0x30 _ _ refl (omega arith) refl refl refl refl refl) refl

fetch_all : Reads (replica_line (codes "FETCH 1000000000")) (fetch 1000000000 ∷ [])
fetch_all = replica_reads _ _ (stands (codes "FETCH 1000000000") 0x46 0x30 _ _ refl (omega arith) refl refl refl refl refl) refl

apply_all : Reads (replica_line (codes "APPLY 4294967295")) (apply 4294967295 ∷ [])
apply_all = replica_reads _ _ (stands (codes "APPLY 4294967295") 0x41 0x35 _ _ refl (omega arith) refl refl refl refl refl) refl

count : Reads (replica_line (codes "SELECT COUNT(*) FROM g")) (replica_select (codes "SELECT COUNT(*) FROM g") ∷ [])
count = replica_reads _ _ (stands (codes "SELECT COUNT(*) FROM g") 0x53 0x67 _ _ refl (omega arith) refl refl refl refl refl) refl

-- ---- the script

steps_read : (b : Bool) → Reads (if b then step_lines else []) (if b then steps else [])
steps_read true = and_then _ _ _ _ fetch_some apply_some
steps_read false = nothing

turn_reads : (i : ℕ) → i ≤ 100000 → Reads (turn_lines i) (turn i)
turn_reads i within = and_then _ _ _ _ (session_reads (change_text i) (change_is i within)) (steps_read (i % 100 == 0))

turns_read : (n : ℕ) → n ≤ 100000 → Reads (turns_lines n) (turns n)
turns_read zero within = nothing
turns_read (suc i) within = and_then _ _ _ _ (turns_read i (omega arith)) (turn_reads (suc i) within)

lasts_read : Reads last_lines lasts
lasts_read = and_then _ _ _ _ (and_then _ _ _ _ fetch_all apply_all) count

script_reads : (n : ℕ) → n ≤ 100000 → Reads (load_text n) (load_commands n)
script_reads n within = and_then _ _ _ _ (and_then _ _ _ _ (session_reads create_text create_is) (turns_read n within)) lasts_read

-- ---- how long it is

steps_short : (b : Bool) → length (if b then step_lines else []) ≤ 60
steps_short true = omega arith
steps_short false = omega arith

turn_short : (i : ℕ) → i ≤ 100000 → length (turn_lines i) ≤ 400
turn_short i within =
    let line : length (session_line (change_text i)) ≡ length (change_text i) + 8 = omega (arith, length-append (change_text i) line_end) in
    omega (arith, (change_is i within).part.short, line, steps_short (i % 100 == 0), length-append (session_line (change_text i)) (if i % 100 == 0 then step_lines else []))

turns_short : (n : ℕ) → n ≤ 100000 → length (turns_lines n) ≤ 400 * n
turns_short zero within = omega arith
turns_short (suc i) within = omega (arith, turns_short i (omega arith), turn_short (suc i) within, length-append (turns_lines i) (turn_lines (suc i)))

script_short : (n : ℕ) → n ≤ 100000 → length (load_text n) ≤ 67108864
script_short n within =
    let first : length (session_line create_text) ≤ 400 = omega arith in
    let last : length last_lines ≤ 400 = omega arith in
    omega (arith, turns_short n within, length-append (session_line create_text) (turns_lines n), length-append (session_line create_text ++ turns_lines n) last_lines)

pub commands_made : (n : ℕ) → n ≤ 100000 → (commands : List Command) × (split_of (load_text n) ≡ Ok commands) × (map what_is commands ≡ load_commands n)
commands_made n within =
    let script = load_text n in
    let reads = script_reads n within in
    let trimmed : trim_front script ≡ script = subst (λ s. trim_front s ≡ s) (append-nil script) (reads.trimmed [] refl) in
    let left : Left script [] script (length script) = record {
      enough = omega arith;
      whole = first_turn script (script_short n within) ∙ ap (λ s. with_commands [] (split_here (split_from (length script)) (length script - length s) s)) trimmed;
    } in
    let none : script ≡ script ++ [] = sym (append-nil script) in
    let all = reads.splits script [] [] (length script) refl (omega (arith, length-append script [])) (subst (λ s. Left script [] s (length script)) none left) in
    (all.0, nothing_left script all.0 [] all.2 refl all.3, all.1)
