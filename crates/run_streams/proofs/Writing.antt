-- Bytes that come to the end of a stream, piece by piece.
use Rattle.std.proofs.Common.{◌≡◌, ℕ, zero, suc, false, Ok, List, [], ◌++◌, take, drop, Option, Some, None, option_map, refl, sym, ap, ◌∙◌, append_assoc, append-nil}
use Rattle.std.proofs.lemmas.List.{take-append-drop}
use Rattle.port_traits.specs.Streams.{ended_after, is_end}
use Rattle.run_streams.specs.Wrote.{Wrote, WroteFront, Writing}

pub wrote_nothing : (before : Option (List ℕ)) → Wrote before before []
wrote_nothing None = refl
wrote_nothing (Some written) = ap Some (sym (append-nil written))

pub wrote_more : (before between after : Option (List ℕ)) (first second : List ℕ) → Wrote before between first → Wrote between after second → Wrote before after (first ++ second)
wrote_more None between after first second a b = b ∙ ap (option_map (λ written. written ++ second)) a
wrote_more (Some written) between after first second a b = b ∙ ap (option_map (λ w. w ++ second)) a ∙ ap Some (append_assoc written first second)

pub writing_begins : (before : Option (List ℕ)) (whole : List ℕ) → Writing before before whole whole
writing_begins before whole = record { front = []; split = refl; wrote = wrote_nothing before }

pub writing_goes_on : (before between after : Option (List ℕ)) (whole rest : List ℕ) (count : ℕ) → Writing before between whole rest → Wrote between after (take count rest) → Writing before after whole (drop count rest)
writing_goes_on before between after whole rest count writing more = record {
  front = writing.front ++ take count rest;
  split = append_assoc writing.front (take count rest) (drop count rest) ∙ ap (λ r. writing.front ++ r) (take-append-drop count rest) ∙ writing.split;
  wrote = wrote_more before between after writing.front (take count rest) writing.wrote more;
}

pub writing_stops : (before now : Option (List ℕ)) (whole rest : List ℕ) → Writing before now whole rest → WroteFront before now whole
writing_stops before now whole rest writing = record { front = writing.front; rest = rest; split = writing.split; wrote = writing.wrote }

pub writing_ends : (before now : Option (List ℕ)) (whole : List ℕ) → Writing before now whole [] → Wrote before now whole
writing_ends before now whole writing = writing.wrote ∙ ap (λ bytes. option_map (λ written. written ++ bytes) before) (sym (append-nil writing.front) ∙ writing.split)

-- a write that took bytes was not the end of a stream that went on
pub goes_on : (E : Type 0) (count old now : ℕ) (bytes : List ℕ) → (count ≡ 0 → ⊥) → now ≡ ended_after old (is_end {E = E} (Ok count) bytes) → old ≡ 0 → now ≡ 0
goes_on E zero old now bytes some is fresh = absurd (some refl)
goes_on E (suc count) old now bytes some is fresh = is ∙ ap (λ n. ended_after n false) fresh

-- a piece more was written
pub writing_on : (before between after : Option (List ℕ)) (whole piece rest : List ℕ) → Writing before between whole (piece ++ rest) → Wrote between after piece → Writing before after whole rest
writing_on before between after whole piece rest writing more = record {
  front = writing.front ++ piece;
  split = append_assoc writing.front piece rest ∙ writing.split;
  wrote = wrote_more before between after writing.front piece writing.wrote more;
}

-- writing broke off in a piece
pub writing_breaks : (before between after : Option (List ℕ)) (whole piece rest : List ℕ) → Writing before between whole (piece ++ rest) → WroteFront between after piece → WroteFront before after whole
writing_breaks before between after whole piece rest writing broken = record {
  front = writing.front ++ broken.front;
  rest = broken.rest ++ rest;
  split = append_assoc writing.front broken.front (broken.rest ++ rest)
      ∙ ap (λ r. writing.front ++ r) (sym (append_assoc broken.front broken.rest rest) ∙ ap (λ p. p ++ rest) broken.split) ∙ writing.split;
  wrote = wrote_more before between after writing.front broken.front writing.wrote broken.wrote;
}

-- ---- laws

-- bytes broke off behind others
pub broken_behind : (before between after : Option (List ℕ)) (first second : List ℕ) → Wrote before between first → WroteFront between after second → WroteFront before after (first ++ second)
broken_behind before between after first second wrote broken = record {
  front = first ++ broken.front;
  rest = broken.rest;
  split = append_assoc first broken.front broken.rest ∙ ap (λ r. first ++ r) broken.split;
  wrote = wrote_more before between after first broken.front wrote broken.wrote;
}

-- a front of some bytes is one of more bytes
pub front_of_more : (before after : Option (List ℕ)) (first second : List ℕ) → WroteFront before after first → WroteFront before after (first ++ second)
front_of_more before after first second broken = record {
  front = broken.front;
  rest = broken.rest ++ second;
  split = sym (append_assoc broken.front broken.rest second) ∙ ap (λ f. f ++ second) broken.split;
  wrote = broken.wrote;
}

-- all bytes are a front of themselves
pub whole_front : (before after : Option (List ℕ)) (bytes : List ℕ) → Wrote before after bytes → WroteFront before after bytes
whole_front before after bytes wrote = record { front = bytes; rest = []; split = append-nil bytes; wrote = wrote }
