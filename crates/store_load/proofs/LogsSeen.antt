-- Logs looked at, one by one.
use Rattle.std.proofs.Common.{◌≡◌, ◌⊎◌, inl, inr, ℕ, ◌+◌, ◌<◌, ◌≤◌, suc, List, ◌∷◌, length, drop, get_or, nat_lt, Option, Some, None, refl, sym, ◌∙◌, ap, subst, arith, add-one, drop-cons}
use Rattle.std.specs.Prelude.{IfSome}
use Rattle.std.proofs.lemmas.Bool.{cases_eq, cond-true, cond-false, lt-ltb, le-ltb}
use Rattle.std.proofs.Math.ListN.{drop_of_length-le}
use Rattle.disk_model.specs.Story.{Image, Story, seen}
use Rattle.disk_model.specs.Moments.{Only}
use Rattle.disk_model.specs.Claims.{Quietly}
use Rattle.disk_model.proofs.Laws.{if_all}
use Rattle.disk_model.proofs.Quiet.{quiet_none, quiet_trans}
use Rattle.store_model.specs.Stores.{first_log, first_short, HasLogs}
use Rattle.store_load.specs.Loading.{LogsAreSettled, ends_at}

-- the logs so far are long, so that the first short one is among the others, and durable
pub record Looked (t u : Option Story) (ends : List ℕ) (i file : ℕ) : Type 0 where
  pub place : file ≡ first_log + i
  pub quiet : Quietly t u
  pub so_far : IfSome t (λ _. first_short first_log (ends_at ends) (seen t) ≡ first_short file (ends_at (drop i ends)) (seen t))
  pub durable : (f : ℕ) → first_log ≤ f → f < file → Only u f (seen u f)

pub none_looked : (t : Option Story) (ends : List ℕ) → Looked t t ends 0 8
none_looked t ends = record {
  place = omega arith;
  quiet = quiet_none t;
  so_far = if_all t (first_short first_log (ends_at ends) (seen t) ≡ first_short 8 (ends_at (drop 0 ends)) (seen t)) refl;
  durable = λ f le lt. absurd (omega arith);
}

front : (ends : List ℕ) (i end : ℕ) → i < length ends → end ≡ get_or ends i 0 → drop i ends ≡ end ∷ drop (i + 1) ends
front ends i end lt is = drop-cons ends i 0 lt ∙ ap (λ (e : ℕ). e ∷ drop (suc i) ends) (sym is) ∙ ap (λ (n : ℕ). end ∷ drop n ends) (sym (add-one i))

long_step : (file end : ℕ) (ends : List ℕ) (image : Image) → end ≤ length (image file) → first_short file (ends_at (end ∷ ends)) image ≡ first_short (file + 1) (ends_at ends) image
long_step file end ends image le =
    cond-false (nat_lt (length (image file)) end) (Some (record { file = file; at = length (image file) })) (first_short (file + 1) (ends_at ends) image) (le-ltb (length (image file)) end le)

short_step : (file end : ℕ) (ends : List ℕ) (image : Image) → length (image file) < end → first_short file (ends_at (end ∷ ends)) image ≡ Some (record { file = file; at = length (image file) })
short_step file end ends image lt =
    cond-true (nat_lt (length (image file)) end) (Some (record { file = file; at = length (image file) })) (first_short (file + 1) (ends_at ends) image) (lt-ltb (length (image file)) end lt)

more_so_far : (t u : Option Story) (ends : List ℕ) (i file end : ℕ) → Quietly t u → i < length ends → end ≡ get_or ends i 0
    → IfSome t (λ _. first_short first_log (ends_at ends) (seen t) ≡ first_short file (ends_at (drop i ends)) (seen t)) → IfSome u (λ _. end ≤ length (seen u file))
    → IfSome t (λ _. first_short first_log (ends_at ends) (seen t) ≡ first_short (file + 1) (ends_at (drop (i + 1) ends)) (seen t))
more_so_far None u ends i file end quiet lt is so_far long = tt
more_so_far (Some s) None ends i file end quiet lt is so_far long = absurd quiet.on
more_so_far (Some s) (Some v) ends i file end quiet lt is so_far long =
    so_far ∙ ap (λ (es : List ℕ). first_short file (ends_at es) (seen (Some s))) (front ends i end lt is)
    ∙ long_step file end (drop (i + 1) ends) (seen (Some s)) (omega (arith, long, ap length (quiet.reads file)))

-- files that are durable still are, and one more is
one_durable : (u v : Option Story) (file : ℕ) → Quietly u v → ((f : ℕ) → first_log ≤ f → f < file → Only u f (seen u f)) → Only v file (seen v file)
    → (f : ℕ) → first_log ≤ f → f < file + 1 → Only v f (seen v f)
one_durable u v file quiet before here f le lt = by (cases_eq f file)
  where
    by : (f ≡ file) ⊎ (f ≡ file → ⊥) → Only v f (seen v f)
    by (inl same) = subst (λ (g : ℕ). Only v g (seen v g)) (sym same) here
    by (inr other) = λ c left. before f le (omega (arith, other)) c (quiet.left f c left) ∙ sym (quiet.reads f)

pub one_looked : (t u v : Option Story) (ends : List ℕ) (i file end : ℕ) → Looked t u ends i file → i < length ends → end ≡ get_or ends i 0 → Quietly u v
    → IfSome u (λ _. end ≤ length (seen u file)) → Only v file (seen v file) → Looked t v ends (i + 1) (file + 1)
one_looked t u v ends i file end looked lt is quiet long here = record {
  place = omega (arith, looked.place);
  quiet = quiet_trans t u v looked.quiet quiet;
  so_far = more_so_far t u ends i file end looked.quiet lt is looked.so_far long;
  durable = one_durable u v file quiet looked.durable here;
}

pub short_here : (t u : Option Story) (ends : List ℕ) (i file end f at : ℕ) → Looked t u ends i file → i < length ends → end ≡ get_or ends i 0
    → IfSome u (λ _. (f ≡ file) × (at ≡ length (seen u file)) × (at < end)) → IfSome t (λ _. first_short first_log (ends_at ends) (seen t) ≡ Some (record { file = f; at = at }))
short_here t u ends i file end f at looked lt is short = by t u looked.quiet looked.so_far short
  where
    by : (t u : Option Story) → Quietly t u → IfSome t (λ _. first_short first_log (ends_at ends) (seen t) ≡ first_short file (ends_at (drop i ends)) (seen t))
        → IfSome u (λ _. (f ≡ file) × (at ≡ length (seen u file)) × (at < end)) → IfSome t (λ _. first_short first_log (ends_at ends) (seen t) ≡ Some (record { file = f; at = at }))
    by None u quiet so_far short = tt
    by (Some s) None quiet so_far short = absurd quiet.on
    by (Some s) (Some v) quiet so_far short =
        let size : length (seen (Some s) file) ≡ at = sym (short.1 ∙ ap length (quiet.reads file)) in
        so_far ∙ ap (λ (es : List ℕ). first_short file (ends_at es) (seen (Some s))) (front ends i end lt is)
        ∙ short_step file end (drop (i + 1) ends) (seen (Some s)) (omega (arith, size, short.2))
        ∙ ap (λ (n : ℕ). Some (record { file = file; at = n })) size ∙ ap (λ (g : ℕ). Some (record { file = g; at = at })) (sym short.0)

pub all_durable : (t u : Option Story) (ends : List ℕ) (i file : ℕ) → Looked t u ends i file → length ends ≤ i → LogsAreSettled u (length ends)
all_durable t u ends i file looked le = λ f from lt. looked.durable f from (omega (arith, looked.place))

pub all_long : (t u : Option Story) (ends : List ℕ) (i file : ℕ) → Looked t u ends i file → length ends ≤ i → IfSome t (λ _. HasLogs first_log (ends_at ends) (seen t))
all_long t u ends i file looked le = by t looked.so_far
  where
    by : (t : Option Story) → IfSome t (λ _. first_short first_log (ends_at ends) (seen t) ≡ first_short file (ends_at (drop i ends)) (seen t)) → IfSome t (λ _. HasLogs first_log (ends_at ends) (seen t))
    by None so_far = tt
    by (Some s) so_far = so_far ∙ ap (λ (es : List ℕ). first_short file (ends_at es) (seen (Some s))) (drop_of_length-le ends le)
