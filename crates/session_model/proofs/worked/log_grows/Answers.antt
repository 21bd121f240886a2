use Rattle.std.proofs.Common.{refl}
use Rattle.sql_grammar.specs.Reader.{steps}
use Rattle.sql_syntax.specs.Tokens.{kind}
use Rattle.sql_syntax.specs.Expressions.{nested}
use Rattle.sql_syntax.specs.Programs.{inner, created_within}
use Rattle.text_answers.specs.Answers.{tokens_from, text_answer}
use Rattle.table_rules.specs.Stored.{all_applied}
use Rattle.session_ctx.specs.catalog_rules.Checks.{statement_refusal}
use Rattle.session_ctx.specs.catalog_rules.Creating.{ddl_refusal}
use Rattle.session_ctx.specs.sql_meaning.Running.{effect, evaluation, level_of}
use Rattle.proc_model.specs.sql_reach.Carrying.{carried}
use Rattle.proc_model.specs.sql_reach.Reach.{writes}
use Rattle.proc_model.specs.sql_reach.Reasons.{reasons}
use Rattle.byte_fields.specs.Field.{number_bytes}
use Rattle.byte_fields.specs.LengthEncoded.{lenenc_bytes}
use Rattle.event_codec.specs.Writing.{query_bytes, names_bytes, table_map_bytes, rows_bytes, size}
use Rattle.binlog_sizes.specs.log_model.Images.{row_bytes}
use Rattle.session_model.specs.Machine.{step}
use Rattle.session_model.proofs.worked.log_grows.Goals as goal

pub returns-clause-texts : goal.returns-clause-texts
unfolding kind steps nested inner created_within tokens_from text_answer statement_refusal ddl_refusal effect evaluation level_of carried reasons writes all_applied step size query_bytes names_bytes table_map_bytes rows_bytes lenenc_bytes row_bytes number_bytes
returns-clause-texts c = refl

pub returns-clause-rows : goal.returns-clause-rows
unfolding kind steps nested inner created_within tokens_from text_answer statement_refusal ddl_refusal effect evaluation level_of carried reasons writes all_applied step size query_bytes names_bytes table_map_bytes rows_bytes lenenc_bytes row_bytes number_bytes
returns-clause-rows c = refl
