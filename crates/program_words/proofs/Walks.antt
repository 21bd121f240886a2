-- What a parse of the command makes of the words: of one or two, but for a first `--`, of which none before it looks like a flag,
-- these; and a fault of all others.
use Rattle.std.proofs.Common.{◌≡◌, ◌∙◌, ◌⊎◌, ℕ, ◌==◌, nat_lt, Bool, true, false, List, [], ◌∷◌, ◌++◌, codes, length, fold, Option, Some, None, is_some, inl, inr, ap, ap₂, sym, subst, refl, arith, eqb-true, true≢false, slice_get, append-nil, append_assoc}
use Rattle.std.specs.List.{list_any}
use Rattle.std.specs.Str.{bytes_eq, chars}
use Rattle.std.proofs.lemmas.Bool.{or_left, or_right}
use Rattle.std.proofs.lemmas.Bool.Decides.{nat_tests}
use Rattle.clap.specs.Lexer.{long_of, short_of, name_and_value}
use Rattle.clap.specs.Kinds.{Kinds, or_else}
use Rattle.clap.specs.Faults.{check_fault, defaults_fault, entered_fault, fault_of, flags_fault, settle_fault, turn_fault, walk_fault}
use Rattle.clap.specs.Simple.{App, Shape, built, entered, matches_of}
use Rattle.clap.specs.Walk.{Held, Row, Rule, Text, Waiting, Walk, all_of, bundle_met, finished, idle, nothing_held, positional, settled, walked}
use Rattle.clap.specs.declared.error.kind.ErrorKind.{ErrorKind}
use Rattle.clap.specs.declared.error.kind.ErrorKind.TheVariants.{TooManyValues}
use Rattle.program_words.specs.Commands.{positional_words}
use Rattle.program_words.specs.Words.{without_dashes, word_asked, words_asked}
use Rattle.program_words.proofs.Flags.{is_flag, flags_refused}

-- ---- where a walk stands

abbrev app : App
app = built positional_words

abbrev shape : Shape
shape = app.top

abbrev rules : List Rule
rules = shape.rules

abbrev held : List Text → Held
held [] = nothing_held
held (v ∷ vs) = record { rows = []; pending = Some (codes "words", v ∷ vs); skip = 0 }

abbrev waits : List Text → Waiting
waits [] = idle
waits (v ∷ vs) = positional

-- behind these values, with a `--` among what was passed or not
abbrev behind : Bool → List Text → Walk
behind trailing vs = record { held = held vs; waiting = waits vs; position = 1; is_trailing = trailing; stopped = None }

-- ---- behind a `--`

value_walked : (vs : List Text) (word : Text) → walked rules [] (behind true vs) word ≡ behind true (vs ++ word ∷ [])
unfolding walked
value_walked [] word = refl
value_walked (v ∷ vs) word = refl

value_passes : (vs : List Text) (word : Text) → turn_fault shape [] (behind true vs) word ≡ []
value_passes [] word = refl
value_passes (v ∷ vs) word = refl

-- ---- before it

dashes_walked : (vs : List Text) (word : Text) → bytes_eq word (45 ∷ 45 ∷ []) ≡ true → walked rules [] (behind false vs) word ≡ behind true vs
unfolding walked
dashes_walked [] word e = rw e refl
dashes_walked (v ∷ vs) word e = rw e refl

dashes_pass : (vs : List Text) (word : Text) → bytes_eq word (45 ∷ 45 ∷ []) ≡ true → turn_fault shape [] (behind false vs) word ≡ []
dashes_pass [] word e = rw e refl
dashes_pass (v ∷ vs) word e = rw e refl

-- a word that is no flag
plain_walked : (vs : List Text) (word : Text) → bytes_eq word (45 ∷ 45 ∷ []) ≡ false → long_of word ≡ None → short_of word ≡ None → walked rules [] (behind false vs) word ≡ behind false (vs ++ word ∷ [])
unfolding walked
plain_walked [] word e long short = rw (e, long, short) refl
plain_walked (v ∷ vs) word e long short = rw (e, long, short) refl

plain_passes : (vs : List Text) (word : Text) → bytes_eq word (45 ∷ 45 ∷ []) ≡ false → long_of word ≡ None → short_of word ≡ None → turn_fault shape [] (behind false vs) word ≡ []
plain_passes [] word e long short = rw (e, long, short) refl
plain_passes (v ∷ vs) word e long short = rw (e, long, short) refl

-- a word that looks like a long flag
long_fails : (vs : List Text) (word : Text) (name : Text × Option Text) → bytes_eq word (45 ∷ 45 ∷ []) ≡ false → long_of word ≡ Some name → (k : ErrorKind) × (ks : Kinds) × (turn_fault shape [] (behind false vs) word ≡ k ∷ ks)
long_fails [] word name e long = rw (e, long) (_, _, refl)
long_fails (v ∷ vs) word name e long = rw (e, long) (_, _, refl)

-- one that looks like short flags, of which there is a character
short_fails : (vs : List Text) (word : Text) (b x : ℕ) (bs : Text) → bytes_eq word (45 ∷ 45 ∷ []) ≡ false → long_of word ≡ None → short_of word ≡ Some (b ∷ bs) → slice_get (chars (b ∷ bs)) 0 ≡ Some x → (k : ErrorKind) × (ks : Kinds) × (turn_fault shape [] (behind false vs) word ≡ k ∷ ks)
unfolding flags_fault
short_fails [] word b x bs e long short first = rw (e, long, short, first) (_, _, refl)
short_fails (v ∷ vs) word b x bs e long short first = rw (e, long, short, first) (_, _, refl)

-- and one without a character, which no text has
bare_walked : (vs : List Text) (word : Text) (b : ℕ) (bs : Text) → bytes_eq word (45 ∷ 45 ∷ []) ≡ false → long_of word ≡ None → short_of word ≡ Some (b ∷ bs) → slice_get (chars (b ∷ bs)) 0 ≡ None → walked rules [] (behind false vs) word ≡ behind false (vs ++ word ∷ [])
unfolding walked bundle_met
bare_walked [] word b bs e long short none = rw (e, long, short, none) refl
bare_walked (v ∷ vs) word b bs e long short none = rw (e, long, short, none) refl

bare_passes : (vs : List Text) (word : Text) (b : ℕ) (bs : Text) → bytes_eq word (45 ∷ 45 ∷ []) ≡ false → long_of word ≡ None → short_of word ≡ Some (b ∷ bs) → slice_get (chars (b ∷ bs)) 0 ≡ None → turn_fault shape [] (behind false vs) word ≡ []
unfolding flags_fault bundle_met
bare_passes [] word b bs e long short none = rw (e, long, short, none) refl
bare_passes (v ∷ vs) word b bs e long short none = rw (e, long, short, none) refl

-- ---- one word before a `--`

record Fails (vs : List Text) (word : Text) : Type 0 where
  flag : is_flag word ≡ true
  kind : ErrorKind
  kinds : Kinds
  fault : turn_fault shape [] (behind false vs) word ≡ kind ∷ kinds

record Passes (vs : List Text) (word : Text) : Type 0 where
  fault : turn_fault shape [] (behind false vs) word ≡ []
  walk : walked rules [] (behind false vs) word ≡ behind false (vs ++ word ∷ [])

plain : (vs : List Text) (word : Text) → bytes_eq word (45 ∷ 45 ∷ []) ≡ false → long_of word ≡ None → short_of word ≡ None → Passes vs word
plain vs word e long short = record { fault = plain_passes vs word e long short; walk = plain_walked vs word e long short }

two_hyphens : (vs : List Text) (bs : Text) → bytes_eq (45 ∷ 45 ∷ bs) (45 ∷ 45 ∷ []) ≡ false → Fails vs (45 ∷ 45 ∷ bs)
two_hyphens vs [] e = absurd (true≢false e)
two_hyphens vs (b ∷ bs) e =
    let failed = long_fails vs (45 ∷ 45 ∷ b ∷ bs) (name_and_value (b ∷ bs)) e refl in
    record { flag = refl; kind = failed.0; kinds = failed.1; fault = failed.2 }

one_hyphen : (vs : List Text) (b : ℕ) (bs : Text) → (b == 45) ≡ false → bytes_eq (45 ∷ b ∷ bs) (45 ∷ 45 ∷ []) ≡ false → (first : Option ℕ) → slice_get (chars (b ∷ bs)) 0 ≡ first → Fails vs (45 ∷ b ∷ bs) ⊎ Passes vs (45 ∷ b ∷ bs)
one_hyphen vs b bs other e (Some x) first =
    let long : long_of (45 ∷ b ∷ bs) ≡ None = rw other refl in
    let short : short_of (45 ∷ b ∷ bs) ≡ Some (b ∷ bs) = rw other refl in
    let failed = short_fails vs (45 ∷ b ∷ bs) b x bs e long short first in
    inl (record { flag = refl; kind = failed.0; kinds = failed.1; fault = failed.2 })
one_hyphen vs b bs other e None first =
    let long : long_of (45 ∷ b ∷ bs) ≡ None = rw other refl in
    let short : short_of (45 ∷ b ∷ bs) ≡ Some (b ∷ bs) = rw other refl in
    inr (record { fault = bare_passes vs (45 ∷ b ∷ bs) b bs e long short first; walk = bare_walked vs (45 ∷ b ∷ bs) b bs e long short first })

hyphen : (vs : List Text) (bs : Text) → bytes_eq (45 ∷ bs) (45 ∷ 45 ∷ []) ≡ false → Fails vs (45 ∷ bs) ⊎ Passes vs (45 ∷ bs)
hyphen vs [] e = inr (plain vs (45 ∷ []) e refl refl)
hyphen vs (b ∷ bs) e = by_second (b == 45) refl where
  by_second : (t : Bool) → (b == 45) ≡ t → Fails vs (45 ∷ b ∷ bs) ⊎ Passes vs (45 ∷ b ∷ bs)
  by_second true same =
      let is : b ≡ 45 = eqb-true b 45 same in
      inl (subst (λ c. Fails vs (45 ∷ c ∷ bs)) (sym is) (two_hyphens vs bs (subst (λ c. bytes_eq (45 ∷ c ∷ bs) (45 ∷ 45 ∷ []) ≡ false) is e)))
  by_second false other = one_hyphen vs b bs other e (slice_get (chars (b ∷ bs)) 0) refl

turns : (vs : List Text) (word : Text) → bytes_eq word (45 ∷ 45 ∷ []) ≡ false → Fails vs word ⊎ Passes vs word
turns vs [] e = inr (plain vs [] e refl refl)
turns vs (b ∷ bs) e = by_first (b == 45) refl where
  by_first : (t : Bool) → (b == 45) ≡ t → Fails vs (b ∷ bs) ⊎ Passes vs (b ∷ bs)
  by_first true same =
      let is : b ≡ 45 = eqb-true b 45 same in
      subst (λ c. Fails vs (c ∷ bs) ⊎ Passes vs (c ∷ bs)) (sym is) (hyphen vs bs (subst (λ c. bytes_eq (c ∷ bs) (45 ∷ 45 ∷ []) ≡ false) is e))
  by_first false other =
      let long : long_of (b ∷ bs) ≡ None = rw other refl in
      let short : short_of (b ∷ bs) ≡ None = rw other refl in
      inr (plain vs (b ∷ bs) e long short)

-- ---- all words

record Stops (vs words : List Text) : Type 0 where
  flag : list_any is_flag (without_dashes words) ≡ true
  kind : ErrorKind
  kinds : Kinds
  fault : walk_fault shape [] (behind false vs) words ≡ kind ∷ kinds

record Goes (vs words : List Text) : Type 0 where
  fault : walk_fault shape [] (behind false vs) words ≡ []
  trailing : Bool
  walk : fold (walked rules []) (behind false vs) words ≡ behind trailing (vs ++ without_dashes words)

after_dashes : (vs words : List Text) → (walk_fault shape [] (behind true vs) words ≡ []) × (fold (walked rules []) (behind true vs) words ≡ behind true (vs ++ words))
unfolding walk_fault
after_dashes vs [] = (refl, ap (behind true) (sym (append-nil vs)))
after_dashes vs (word ∷ words) =
    let rest = after_dashes (vs ++ word ∷ []) words in
    let more : (vs ++ word ∷ []) ++ words ≡ vs ++ word ∷ words = append_assoc vs (word ∷ []) words in
    (ap₂ or_else (value_passes vs word) (ap (λ at. walk_fault shape [] at words) (value_walked vs word) ∙ rest.0), ap (λ at. fold (walked rules []) at words) (value_walked vs word) ∙ rest.1 ∙ ap (behind true) more)

word_dropped : (word : Text) (words : List Text) → bytes_eq word (45 ∷ 45 ∷ []) ≡ true → without_dashes (word ∷ words) ≡ words
word_dropped word words e = rw e refl

word_kept : (word : Text) (words : List Text) → bytes_eq word (45 ∷ 45 ∷ []) ≡ false → without_dashes (word ∷ words) ≡ word ∷ without_dashes words
word_kept word words e = rw e refl

passed : (vs : List Text) (word : Text) (words : List Text) → bytes_eq word (45 ∷ 45 ∷ []) ≡ false → Passes vs word → Stops (vs ++ word ∷ []) words ⊎ Goes (vs ++ word ∷ []) words → Stops vs (word ∷ words) ⊎ Goes vs (word ∷ words)
unfolding walk_fault
passed vs word words e now (inl stop) =
    let flag : list_any is_flag (word ∷ without_dashes words) ≡ true = or_right (is_flag word) (list_any is_flag (without_dashes words)) stop.flag in
    inl (record {
      flag = ap (list_any is_flag) (word_kept word words e) ∙ flag;
      kind = stop.kind;
      kinds = stop.kinds;
      fault = ap₂ or_else now.fault (ap (λ at. walk_fault shape [] at words) now.walk ∙ stop.fault);
    })
passed vs word words e now (inr goes) =
    let more : (vs ++ word ∷ []) ++ without_dashes words ≡ vs ++ word ∷ without_dashes words = append_assoc vs (word ∷ []) (without_dashes words) in
    inr (record {
      fault = ap₂ or_else now.fault (ap (λ at. walk_fault shape [] at words) now.walk ∙ goes.fault);
      trailing = goes.trailing;
      walk = ap (λ at. fold (walked rules []) at words) now.walk ∙ goes.walk ∙ ap (behind goes.trailing) (more ∙ ap (λ rest. vs ++ rest) (sym (word_kept word words e)));
    })

failed : (vs : List Text) (word : Text) (words : List Text) → bytes_eq word (45 ∷ 45 ∷ []) ≡ false → Fails vs word → Stops vs (word ∷ words)
unfolding walk_fault
failed vs word words e now =
    let flag : list_any is_flag (word ∷ without_dashes words) ≡ true = or_left (is_flag word) (list_any is_flag (without_dashes words)) now.flag in
    record {
      flag = ap (list_any is_flag) (word_kept word words e) ∙ flag;
      kind = now.kind;
      kinds = now.kinds;
      fault = ap (λ kinds. or_else kinds (walk_fault shape [] (walked rules [] (behind false vs) word) words)) now.fault;
    }

walk_on : (vs : List Text) (word : Text) (words : List Text) → Stops (vs ++ word ∷ []) words ⊎ Goes (vs ++ word ∷ []) words → (t : Bool) → bytes_eq word (45 ∷ 45 ∷ []) ≡ t → Stops vs (word ∷ words) ⊎ Goes vs (word ∷ words)
unfolding walk_fault
walk_on vs word words rest true e =
    let after = after_dashes vs words in
    inr (record {
      fault = ap₂ or_else (dashes_pass vs word e) (ap (λ at. walk_fault shape [] at words) (dashes_walked vs word e) ∙ after.0);
      trailing = true;
      walk = ap (λ at. fold (walked rules []) at words) (dashes_walked vs word e) ∙ after.1 ∙ ap (λ rest. behind true (vs ++ rest)) (sym (word_dropped word words e));
    })
walk_on vs word words rest false e = elim (turns vs word e) [ inl now ↦ inl (failed vs word words e now) | inr now ↦ passed vs word words e now rest ]

walks : (vs words : List Text) → Stops vs words ⊎ Goes vs words
unfolding walk_fault
walks vs [] = inr (record { fault = refl; trailing = false; walk = ap (behind false) (sym (append-nil vs)) })
walks vs (word ∷ words) = walk_on vs word words (walks (vs ++ word ∷ []) words) (bytes_eq word (45 ∷ 45 ∷ [])) refl

-- ---- behind the words

-- the faults of a parse, from those of its walk and from where it ended
abbrev whole : Kinds → Walk → Kinds
whole walked at = or_else walked (or_else (entered_fault app at.stopped) (or_else (settle_fault rules false at.held)
    (or_else (defaults_fault (settled rules at.held).rows rules) (check_fault shape (finished rules at.held) (is_some (entered app at.stopped))))))

-- one or two words are found, and no other number of them is taken
record Found (words : List Text) (fault : Kinds) (rows : List Row) : Type 0 where
  none : fault ≡ []
  found : all_of (codes "words") rows ≡ Some words

record Refused (words : List Text) (fault : Kinds) : Type 0 where
  kind : ErrorKind
  kinds : Kinds
  some : fault ≡ kind ∷ kinds
  nothing : words_asked words ≡ None

ends : (t : Bool) (words : List Text) → Found words (whole [] (behind t words)) (finished rules (held words)) ⊎ Refused words (whole [] (behind t words))
unfolding defaults_fault
ends t [] = inr (record { kind = _; kinds = _; some = refl; nothing = refl })
ends t (a ∷ []) = inl (record { none = refl; found = refl })
ends t (a ∷ b ∷ []) = inl (record { none = refl; found = refl })
ends t (a ∷ b ∷ c ∷ words) =
    let least : nat_lt (length (a ∷ b ∷ c ∷ words)) 1 ≡ false = grind (arith, nat_tests) in
    let most : nat_lt 2 (length (a ∷ b ∷ c ∷ words)) ≡ true = grind (arith, nat_tests) in
    let zero : (length (a ∷ b ∷ c ∷ words) == 0) ≡ false = grind (arith, nat_tests) in
    inr (record { kind = TooManyValues; kinds = []; some = rw (zero, least, most) refl; nothing = refl })

-- ---- a parse

pub record Reads (words : List Text) : Type 0 where
  pub none : fault_of positional_words words ≡ []
  pub found : all_of (codes "words") (matches_of positional_words words) ≡ Some (without_dashes words)

pub record Refuses (words : List Text) : Type 0 where
  pub kind : ErrorKind
  pub kinds : Kinds
  pub some : fault_of positional_words words ≡ kind ∷ kinds
  pub nothing : word_asked words ≡ None

fault_is : (words : List Text) → fault_of positional_words words ≡ whole (walk_fault shape [] (behind false []) words) (fold (walked rules []) (behind false []) words)
fault_is words = refl

rows_are : (words : List Text) → matches_of positional_words words ≡ finished rules (fold (walked rules []) (behind false []) words).held
rows_are words = refl

gone : (words : List Text) → Goes [] words → Reads words ⊎ Refuses words
gone words goes =
    let fault : fault_of positional_words words ≡ whole [] (behind goes.trailing (without_dashes words)) = fault_is words ∙ ap₂ whole goes.fault goes.walk in
    let rows : matches_of positional_words words ≡ finished rules (held (without_dashes words)) = rows_are words ∙ ap (λ (at : Walk). finished rules at.held) goes.walk in
    elim (ends goes.trailing (without_dashes words)) [
      | inl r ↦ inl (record { none = fault ∙ r.none; found = ap (all_of (codes "words")) rows ∙ r.found })
      | inr r ↦ inr (record { kind = r.kind; kinds = r.kinds; some = fault ∙ r.some; nothing = r.nothing })
    ]

pub parsed : (words : List Text) → Reads words ⊎ Refuses words
parsed words = elim (walks [] words) [
  | inl stop ↦ inr (record {
    kind = stop.kind;
    kinds = stop.kinds;
    some = fault_is words ∙ ap (λ kinds. whole kinds (fold (walked rules []) (behind false []) words)) stop.fault;
    nothing = flags_refused (without_dashes words) stop.flag;
  })
  | inr goes ↦ gone words goes
]
