-- Lines that are gathered and written some at a time.
use Rattle.std.proofs.Common.{◌≡◌, ◌<◌, ℕ, ◌+◌, suc, List, [], ◌∷◌, ◌++◌, length, drop, get_or, Option, Result, Ok, Err, OnOk, OnErr, refl, sym, ap, ◌∙◌, subst, append-nil, append_assoc, add-one, drop-cons}
use Rattle.run_streams.specs.Wrote.{Wrote, WroteFront, Writing}
use Rattle.run_streams.proofs.Writing.{wrote_nothing, wrote_more, broken_behind, front_of_more, writing_begins, writing_breaks, writing_stops}

-- ---- one piece

-- nothing was written yet
pub nothing_written : (before : Option (List ℕ)) (whole : List ℕ) → WroteFront before before whole
nothing_written before whole = record { front = []; rest = whole; split = refl; wrote = wrote_nothing before }

-- a piece is gathered
pub all_left : (before : Option (List ℕ)) (whole text : List ℕ) → text ≡ whole → Writing before before whole text
all_left before whole text is = rw is (writing_begins before whole)

-- all of it was written
pub none_left : (before now : Option (List ℕ)) (whole text : List ℕ) → Wrote before now whole → text ≡ [] → Writing before now whole text
none_left before now whole text wrote none = rw none (record { front = whole; split = append-nil whole; wrote = wrote })

-- ---- pieces one behind the other

-- what is left was written, and more is left
pub behind_writes : (before between after : Option (List ℕ)) (whole left more rest : List ℕ) → Writing before between whole left → Writing between after (left ++ more) rest → Writing before after (whole ++ more) rest
behind_writes before between after whole left more rest first second = record {
  front = first.front ++ second.front;
  split = append_assoc first.front second.front rest
      ∙ ap (λ r. first.front ++ r) second.split ∙ sym (append_assoc first.front left more) ∙ ap (λ w. w ++ more) first.split;
  wrote = wrote_more before between after first.front second.front first.wrote second.wrote;
}

-- writing it broke off
pub behind_breaks : (before between after : Option (List ℕ)) (whole left more : List ℕ) → Writing before between whole left → WroteFront between after (left ++ more) → WroteFront before after (whole ++ more)
behind_breaks before between after whole left more first broken = record {
  front = first.front ++ broken.front;
  rest = broken.rest;
  split = append_assoc first.front broken.front broken.rest
      ∙ ap (λ r. first.front ++ r) broken.split ∙ sym (append_assoc first.front left more) ∙ ap (λ w. w ++ more) first.split;
  wrote = wrote_more before between after first.front broken.front first.wrote broken.wrote;
}

-- some of what is left was written
pub writing_past : (before between after : Option (List ℕ)) (whole piece rest left : List ℕ) → Writing before between whole (piece ++ rest) → Writing between after piece left → Writing before after whole (left ++ rest)
writing_past before between after whole piece rest left first second = record {
  front = first.front ++ second.front;
  split = append_assoc first.front second.front (left ++ rest)
      ∙ ap (λ r. first.front ++ r) (sym (append_assoc second.front left rest) ∙ ap (λ p. p ++ rest) second.split) ∙ first.split;
  wrote = wrote_more before between after first.front second.front first.wrote second.wrote;
}

-- all of what is left was written, or that broke off
pub all_written : (before between after : Option (List ℕ)) (whole left : List ℕ) → Writing before between whole left → Wrote between after left → Wrote before after whole
all_written before between after whole left w wrote = subst (Wrote before after) w.split (wrote_more before between after w.front left w.wrote wrote)

pub rest_breaks : (before between after : Option (List ℕ)) (whole left : List ℕ) → Writing before between whole left → WroteFront between after left → WroteFront before after whole
rest_breaks before between after whole left w broken = subst (WroteFront before after) w.split (broken_behind before between after w.front left w.wrote broken)

-- ---- a line, and others behind it

module _ (before between : Option (List ℕ)) (text line lines one more : List ℕ) (line_is : line ≡ one) (lines_are : lines ≡ more) where
  together : (text ++ line) ++ lines ≡ text ++ (one ++ more)
  together = rw (line_is, lines_are) (append_assoc text one more)

  -- the line broke off
  pub line_breaks : WroteFront before between (text ++ line) → WroteFront before between (text ++ (one ++ more))
  line_breaks broken = subst (WroteFront before between) together (front_of_more before between (text ++ line) lines broken)

  module _ (left : List ℕ) (w : Writing before between (text ++ line) left) where
    -- nothing behind it was written
    pub line_stops : WroteFront before between (text ++ (one ++ more))
    line_stops = line_breaks (writing_stops before between (text ++ line) left w)

    pub lines_write : (after : Option (List ℕ)) (rest : List ℕ) → Writing between after (left ++ lines) rest → Writing before after (text ++ (one ++ more)) rest
    lines_write after rest second = subst (λ whole. Writing before after whole rest) together (behind_writes before between after (text ++ line) left lines rest w second)

    pub lines_break : (after : Option (List ℕ)) → WroteFront between after (left ++ lines) → WroteFront before after (text ++ (one ++ more))
    lines_break after broken = subst (WroteFront before after) together (behind_breaks before between after (text ++ line) left lines w broken)

-- ---- the lines of a list, in a loop

-- `all` are the lines of items, `one` those of one of them
module _ {A : Type 0} (one : A → List ℕ) (all : List A → List ℕ) (more : (x : A) (xs : List A) → all (x ∷ xs) ≡ one x ++ all xs) (xs : List A) (i : ℕ) (before now : Option (List ℕ)) (whole text : List ℕ) where
  module _ (x : A) (within : i < length xs) (is : x ≡ get_or xs i x) (line : List ℕ) (put : line ≡ one x) (w : Writing before now whole (text ++ all (drop i xs))) where
    item_first : drop i xs ≡ x ∷ drop (i + 1) xs
    item_first = rw add-one (drop-cons xs i x within ∙ ap (λ y. y ∷ drop (suc i) xs) (sym is))

    at_item : Writing before now whole ((text ++ line) ++ all (drop (i + 1) xs))
    at_item =
        rw put
        (subst (Writing before now whole)
        (ap (λ ys. text ++ all ys) item_first ∙ ap (λ ls. text ++ ls) (more x (drop (i + 1) xs)) ∙ sym (append_assoc text (one x) (all (drop (i + 1) xs)))) w)

    pub item_written : (after : Option (List ℕ)) (left : List ℕ) → Writing now after (text ++ line) left → Writing before after whole (left ++ all (drop (i + 1) xs))
    item_written after left second = writing_past before now after whole (text ++ line) (all (drop (i + 1) xs)) left at_item second

    pub item_breaks : (after : Option (List ℕ)) → WroteFront now after (text ++ line) → WroteFront before after whole
    item_breaks after broken = writing_breaks before now after whole (text ++ line) (all (drop (i + 1) xs)) at_item broken

-- ---- answers

pub at_err : {X E : Type 0} (r : Result X E) (P : Type 0) → P → OnErr r P
at_err (Ok x) P p = tt
at_err (Err e) P p = p

pub on_err : {X E : Type 0} (r : Result X E) (P Q : Type 0) → (P → Q) → OnErr r P → OnErr r Q
on_err (Ok x) P Q f p = tt
on_err (Err e) P Q f p = f p

pub on_ok : {X E : Type 0} (r : Result X E) (P Q : Type 0) → (P → Q) → OnOk r P → OnOk r Q
on_ok (Ok x) P Q f p = f p
on_ok (Err e) P Q f p = tt
