-- A definition of a log: the statement that its text is, and what is made of it.
use Rattle.std.proofs.Common.{◌≡◌, ℕ, ◌<◌, ◌≤◌, List, length, Bool, true, false, Option, Some, None, Result, Ok, Err, sym, ap, subst, ◌∙◌, arith}
use Rattle.std.specs.Prelude.{if◌then◌else◌, nat_lt}
use Rattle.std.proofs.lemmas.Bool.{lt-ltb}
use Rattle.std.proofs.lemmas.Bool.Decides.{nat_tests}
use Rattle.val_types.specs.declared.refusal.SqlRefusal.{SqlRefusal}
use Rattle.val_types.specs.declared.refusal.SqlRefusal.TheVariants.{Sql, NoMemory}
use Rattle.auto_inc.specs.declared.counters.Counter.{Counter}
use Rattle.sql_tree.specs.Statement.{Statement}
use Rattle.log_groups.specs.catalog_rules.Bases.{Base, defined}
use Rattle.log_groups.specs.catalog_rules.Creating.{ddl_refusal}
use Rattle.row_apply.specs.catalog_objects.Keys.{objects_of}
use Rattle.apply_laws.specs.sql_reach.Defining.{counters_after}
use Rattle.apply_laws.specs.sql_reach.Reach.{is_definition}
use Rattle.apply_laws.specs.text_answers.Answers.{TextAnswer, text_answer}
use Rattle.apply_model.specs.Groups.{Applied, define_allowed, define_if}
use Rattle.apply_model.specs.binlog_sizes.Sizes.{most_text}
use Rattle.apply_model.specs.Texts.{statement_by, statement_in}
use Rattle.row_apply.specs.prog_work.Contents.{Contents, base_of}
use Rattle.row_apply.specs.prog_work.Defining.{Defines, Makes}
use Rattle.row_apply.specs.prog_work.declared.meter.Outcome.{Outcome}
use Rattle.stmt_apply.specs.Applying.{applied_in}
use Rattle.stmt_apply.specs.Ending.{EndsBy, IsRefusal}

-- ---- the text

abbrev read_by : Bool → TextAnswer → Result Statement ℕ
read_by long answer = if long then Err 1153 else statement_by answer

pub too_long : (text : List ℕ) → 1048576 < length text → statement_in text ≡ Err 1153
too_long text long = ap (λ (b : Bool). read_by b (text_answer text)) (lt-ltb most_text (length text) long)

not_above : (n k : ℕ) → k ≤ n → nat_lt n k ≡ false
not_above n k low = grind (arith, nat_tests)

pub reads_as : (text : List ℕ) (answer : TextAnswer) → length text ≤ 1048576 → text_answer text ≡ answer → statement_in text ≡ statement_by answer
reads_as text answer short is =
    ap (λ (b : Bool). read_by b (text_answer text)) (not_above most_text (length text) short) ∙ ap (read_by false) is

-- ---- the definition

abbrev allowed_by : Bool → Base → List Counter → Statement → Option ℕ → Option Base → Result Applied ℕ
allowed_by is base counters s refusal made = if is then define_if base counters s refusal made else Err 30005

pub no_definition : (base : Base) (counters : List Counter) (s : Statement) → is_definition s ≡ false → define_allowed base counters (Ok s) ≡ Err 30005
no_definition base counters s e = ap (λ (b : Bool). allowed_by b base counters s (ddl_refusal base.catalog s) (defined s base)) e

abbrev made_of : Statement → List Counter → Base → Result Applied ℕ
made_of s counters b = Ok (record { base = b; counters = counters_after s counters })

made_by : (base b : Base) (counters : List Counter) (s : Statement) (refusal : Option ℕ) (made : Option Base) → refusal ≡ None → made ≡ Some b
    → define_if base counters s refusal made ≡ made_of s counters b
made_by base b counters s refusal made e m =
    ap (λ (r : Option ℕ). define_if base counters s r made) e ∙ ap (define_if base counters s None) m

refused_by : (base : Base) (counters : List Counter) (s : Statement) (refusal : Option ℕ) (made : Option Base) (code : ℕ) → refusal ≡ Some code
    → define_if base counters s refusal made ≡ Err code
refused_by base counters s refusal made code e = ap (λ (r : Option ℕ). define_if base counters s r made) e

definition_by : (base : Base) (counters : List Counter) (s : Statement) → is_definition s ≡ true
    → define_allowed base counters (Ok s) ≡ define_if base counters s (ddl_refusal base.catalog s) (defined s base)
definition_by base counters s e = ap (λ (b : Bool). allowed_by b base counters s (ddl_refusal base.catalog s) (defined s base)) e

-- it is made
pub definition_made : (s : Statement) (told : Outcome) (before after : Contents) → is_definition s ≡ true → Makes s told before after
    → define_allowed (base_of before) before.counters (Ok s) ≡ Ok (applied_in after)
definition_made s told before after is made =
    definition_by (base_of before) before.counters s is
    ∙ made_by (base_of before) (base_of after) before.counters s (ddl_refusal (objects_of before.objects) s) (defined s (base_of before)) made.allowed made.base
    ∙ (λ i. Ok (record { base = base_of after; counters = sym made.counters i }))

-- or refused
pub definition_refused : (s : Statement) (refusal : SqlRefusal) (before after : Contents) → is_definition s ≡ true → Defines s (Err refusal) before after
    → IsRefusal (define_allowed (base_of before) before.counters (Ok s)) refusal
definition_refused s (Sql code) before after is refused =
    definition_by (base_of before) before.counters s is
    ∙ refused_by (base_of before) before.counters s (ddl_refusal (objects_of before.objects) s) (defined s (base_of before)) code refused.0
definition_refused s NoMemory before after is refused = tt

pub definition_left : (s : Statement) (refusal : SqlRefusal) (before after : Contents) → Defines s (Err refusal) before after → after ≡ before
definition_left s (Sql code) before after refused = refused.1
definition_left s NoMemory before after refused = refused

-- ---- a text that is none

pub refused_text : (refusal : SqlRefusal) (base : Base) (counters : List Counter) (read : Result Statement ℕ) → IsRefusal read refusal → IsRefusal (define_allowed base counters read) refusal
refused_text (Sql code) base counters read e = ap (define_allowed base counters) e
refused_text NoMemory base counters read e = tt

pub read_text : (base : Base) (counters : List Counter) (read : Result Statement ℕ) (s : Statement) (result : Result (Unit {0}) SqlRefusal) (now : Applied) → read ≡ Ok s
    → EndsBy result now (define_allowed base counters (Ok s)) → EndsBy result now (define_allowed base counters read)
read_text base counters read s result now e ends = subst (λ (r : Result Statement ℕ). EndsBy result now (define_allowed base counters r)) (sym e) ends
