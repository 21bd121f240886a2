use Rattle.std.proofs.Common.{refl}
use Rattle.std.specs.Fmt.{digits}
use Rattle.sql_grammar.specs.Reader.{steps}
use Rattle.sql_syntax.specs.Tokens.{kind}
use Rattle.sql_syntax.specs.Expressions.{nested}
use Rattle.sql_syntax.specs.Programs.{inner, created_within}
use Rattle.session_replays.specs.text_answers.Answers.{tokens_from, text_answer}
use Rattle.table_rules.specs.Stored.{all_applied}
use Rattle.log_entry_laws.specs.catalog_rules.Checks.{statement_refusal}
use Rattle.log_entry_laws.specs.catalog_rules.Creating.{ddl_refusal}
use Rattle.session_replays.specs.sql_meaning.Running.{effect, evaluation, level_of}
use Rattle.session_replays.specs.sql_reach.Carrying.{carried}
use Rattle.session_replays.specs.sql_reach.Reach.{writes}
use Rattle.session_replays.specs.session_model.Machine.{step}
use Rattle.replica_model.specs.Selecting.{select_answer}
use Rattle.run_model.proofs.worked.replica_only_reads.Goals as goal

pub returns : goal.returns
unfolding digits kind steps nested inner created_within tokens_from text_answer statement_refusal ddl_refusal effect evaluation level_of carried writes all_applied step select_answer
returns c = refl
