-- The script, some of which was written and some of which is gathered.
use Rattle.std.proofs.Common.{◌∙◌, ◌≤◌, ℕ, List, [], ◌++◌, Option, Result, Ok, Err, OnOk, OnErr, refl, sym, ap, subst, append-nil, append_assoc}
use Rattle.run_streams.specs.Wrote.{Wrote, WroteFront}
use Rattle.run_streams.proofs.Writing.{wrote_nothing, wrote_more, broken_behind, front_of_more}
use Rattle.load_script.specs.Script.{load_text, turns_text}
use Rattle.load_script.proofs.Turns.{goes_on}
use Rattle.gen_script.specs.Gathered.{Gathers}

-- nothing was written yet
pub all_gathered : (before : Option (List ℕ)) (text : List ℕ) → Gathers before before text text
all_gathered before text = record { written = []; wrote = wrote_nothing before; joined = refl }

-- all that was gathered was written, and nothing is
pub none_gathered : (before now : Option (List ℕ)) (text : List ℕ) → Wrote before now text → Gathers before now [] text
none_gathered before now text wrote = record { written = text; wrote = wrote; joined = append-nil text }

-- more is gathered
pub gathers_more : (before now : Option (List ℕ)) (gathered text more : List ℕ) → Gathers before now gathered text → Gathers before now (gathered ++ more) (text ++ more)
gathers_more before now gathered text more g = record {
  written = g.written;
  wrote = g.wrote;
  joined = sym (append_assoc g.written gathered more) ∙ ap (λ t. t ++ more) g.joined;
}

-- some of what is gathered is written
pub gathers_on : (before between after : Option (List ℕ)) (old new text : List ℕ) → Gathers before between old text → Gathers between after new old → Gathers before after new text
gathers_on before between after old new text first second = record {
  written = first.written ++ second.written;
  wrote = wrote_more before between after first.written second.written first.wrote second.wrote;
  joined = append_assoc first.written second.written new ∙ ap (λ t. first.written ++ t) second.joined ∙ first.joined;
}

-- what was written is a front
pub written_front : (before now : Option (List ℕ)) (gathered text : List ℕ) → Gathers before now gathered text → WroteFront before now text
written_front before now gathered text g = record { front = g.written; rest = gathered; split = g.joined; wrote = g.wrote }

-- writing broke off in what is gathered
pub broken_front : (before between after : Option (List ℕ)) (gathered text : List ℕ) → Gathers before between gathered text → WroteFront between after gathered → WroteFront before after text
broken_front before between after gathered text g broken = subst (WroteFront before after) g.joined (broken_behind before between after g.written gathered g.wrote broken)

-- and all of it was written
pub written_whole : (before between after : Option (List ℕ)) (gathered text : List ℕ) → Gathers before between gathered text → Wrote between after gathered → Wrote before after text
written_whole before between after gathered text g wrote = subst (Wrote before after) g.joined (wrote_more before between after g.written gathered g.wrote wrote)

-- a front of some changes' text is one of the script
pub front_of_script : (before now : Option (List ℕ)) (i n : ℕ) → i ≤ n → WroteFront before now (turns_text i) → WroteFront before now (load_text n)
front_of_script before now i n within front =
    let more = goes_on i n within in
    subst (WroteFront before now) (sym more.1) (front_of_more before now (turns_text i) more.0 front)

-- ---- answers

pub at_err : {X E : Type 0} (r : Result X E) (P : Type 0) → P → OnErr r P
at_err (Ok x) P p = tt
at_err (Err e) P p = p

pub on_ok : {X E : Type 0} (r : Result X E) (P Q : Type 0) → (P → Q) → OnOk r P → OnOk r Q
on_ok (Ok x) P Q f p = f p
on_ok (Err e) P Q f p = tt

pub on_err : {X E : Type 0} (r : Result X E) (P Q : Type 0) → (P → Q) → OnErr r P → OnErr r Q
on_err (Ok x) P Q f p = tt
on_err (Err e) P Q f p = f p
