-- A SELECT of the replica: it runs in a new session without a number, and changes nothing.
use Rattle.std.specs.Prelude.{ℕ, Bool, true, false, List, [], Option, Some, None}
use Rattle.auto_inc.specs.declared.counters.Counter.{Counter}
use Rattle.port_traits.specs.declared.identity.Identity.{Identity}
use Rattle.port_traits.specs.declared.identity.Draw.{Draw}
use Rattle.answer_text.specs.declared.answer.Answer.{Answer}
use Rattle.log_file_model.specs.catalog_rules.Bases.{Base}
use Rattle.log_file_model.specs.catalog_rules.Checks.{session_scope, statement_refusal}
use Rattle.apply_model.specs.session_ctx.Contexts.{new_context}
use Rattle.apply_model.specs.sql_meaning.Changing.{Did}
use Rattle.apply_model.specs.sql_meaning.Scenes.{Scene, Ending, done, failed}
use Rattle.apply_model.specs.sql_meaning.Frames.{Context}
use Rattle.apply_model.specs.sql_meaning.Running.{most_nested, effect}
use Rattle.apply_model.specs.sql_reach.Defining.{number_of_bytes}
use Rattle.apply_model.specs.sql_reach.Reach.{writes}
use Rattle.sql_tree.specs.Statement.{Statement}
use Rattle.apply_model.specs.text_answers.Answers.{TextAnswer, a_statement, a_syntax_error, too_deep, text_answer}
use Rattle.session_model.specs.Answers.{refused, refused_at}
use Rattle.session_model.specs.Running.{full, setting_of, did_answer}

-- its session has the number 0
abbrev pub select_context : Identity → Draw → Context
select_context identity draw = new_context identity 0 draw

-- the rows that it reads
abbrev pub select_scene : List Counter → Context → Base → Scene
select_scene counters context base =
    record { tables = base.tables; changes = []; counters = counters; seeds = context.seeds; turns = full.turns; uuids = full.uuids }

-- how a statement ended; nothing is logged, so nothing is warned
abbrev pub ending_answer : Ending Did → Answer
ending_answer (done did scene) = did_answer false did
ending_answer (failed code scene) = refused code

-- one that nothing refuses
abbrev pub select_run : Identity → Draw → List Counter → Base → Statement → Answer
select_run identity draw counters base s =
    ending_answer (effect (setting_of base.catalog (select_context identity draw) (number_of_bytes 0 draw.uuid)) most_nested [] s
    (select_scene counters (select_context identity draw) base))

-- 1290: a replica's rows are changed by its source alone
abbrev pub read_only : Bool → Answer → Answer
read_only true answer = refused 1290
read_only false answer = answer

abbrev pub unless_refused : Option ℕ → Answer → Answer
unless_refused (Some code) answer = refused code
unless_refused None answer = answer

-- the catalog's checks, then whether it would write, then its run
abbrev pub select_checked : Identity → Draw → List Counter → Base → Statement → Answer
select_checked identity draw counters base s =
    unless_refused (statement_refusal base.catalog session_scope s) (read_only (writes base.catalog s) (select_run identity draw counters base s))

abbrev pub select_answered : Identity → Draw → List Counter → Base → TextAnswer → Answer
select_answered identity draw counters base (a_statement s) = select_checked identity draw counters base s
select_answered identity draw counters base (a_syntax_error place) = refused_at place
select_answered identity draw counters base too_deep = refused 30007

-- the answer to a text, by who the replica is, its draw, and its base and counters
unfoldable pub select_answer : Identity → Draw → List Counter → Base → List ℕ → Answer
select_answer identity draw counters base text = select_answered identity draw counters base (text_answer text)
