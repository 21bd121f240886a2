use Rattle.std.proofs.Common.{◌≡◌, ℕ, ◌*◌, List, [], ◌∷◌, ◌++◌, pos, ◌∙◌, ap, append_assoc}
use Rattle.std.specs.Prelude.{None}
use Rattle.jiff_core.specs.declared.civil.date.Date.{Date}
use Rattle.jiff_core.specs.declared.civil.time.Time.{Time}
use Rattle.jiff_core.specs.declared.civil.datetime.DateTime.{DateTime}
use Rattle.jiff.specs.Words.{civil_nanos, date_text as plain_date_text, time_text as plain_time_text}
use Rattle.value_rules.specs.Moments.{moment_text}
use Rattle.expr_ops.proofs.Calendar.{moment_same}
use Rattle.expr_ops.proofs.moments.time_text.Goals as goal

-- a date, a space and a time, one after the other
written : (shown : DateTime) (date : Date) (time : Time) (t : ℕ) (text spaced clock all : List ℕ) → civil_nanos shown ≡ pos (t * 1_000_000_000)
    → date ≡ shown.date → time ≡ shown.time → text ≡ plain_date_text date → spaced ≡ text ++ 32 ∷ [] → clock ≡ plain_time_text None time
    → all ≡ spaced ++ clock → all ≡ moment_text t
written shown date time t text spaced clock all moment at_date at_time text_is spaced_is clock_is all_is =
    let front : text ≡ plain_date_text shown.date = text_is ∙ ap plain_date_text at_date in
    let back : clock ≡ plain_time_text None shown.time = clock_is ∙ ap (plain_time_text None) at_time in
    all_is ∙ ap (λ (xs : List ℕ). xs ++ clock) spaced_is ∙ append_assoc text (32 ∷ []) clock
    ∙ ap (λ (xs : List ℕ). xs ++ 32 ∷ clock) front ∙ ap (λ (xs : List ℕ). plain_date_text shown.date ++ 32 ∷ xs) back ∙ moment_same shown t moment

pub returns : goal.returns
returns c =
    written c.utc_clock-clock.result c.date.result c.time.result c.args.t c.in_ok-text.text c.push.new.self c.in_ok-clock_text.field-0 c.append.new.self
    c.utc_clock-clock.ensures c.date.ensures c.time.ensures c.in_ok-text.ensures c.in_ok-push.ensures.ok c.in_ok-clock_text.ensures c.in_ok-append.ensures.ok
