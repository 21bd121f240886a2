use Rattle.std.proofs.Common.{refl}
use Rattle.sql_grammar.specs.Reader.{steps}
use Rattle.sql_syntax.specs.Tokens.{kind}
use Rattle.sql_syntax.specs.Expressions.{nested}
use Rattle.sql_syntax.specs.Programs.{inner, created_within}
use Rattle.session_model.specs.text_answers.Answers.{tokens_from, text_answer}
use Rattle.table_rules.specs.Stored.{all_applied}
use Rattle.session_model.specs.catalog_rules.Checks.{statement_refusal}
use Rattle.session_model.specs.catalog_rules.Creating.{ddl_refusal}
use Rattle.session_model.specs.sql_meaning.Running.{effect, evaluation, level_of}
use Rattle.session_model.specs.sql_reach.Carrying.{carried}
use Rattle.session_model.specs.sql_reach.Reach.{writes}
use Rattle.session_model.specs.sql_reach.Reasons.{reasons}
use Rattle.byte_fields.specs.Field.{number_at, number_bytes}
use Rattle.byte_fields.specs.LengthEncoded.{lenenc_bytes}
use Rattle.event_codec.specs.LogName.{log_name}
use Rattle.event_codec.specs.Writing.{size, event_bytes, rotate_bytes, header_bytes, query_bytes, names_bytes, table_map_bytes, rows_bytes, format_description_bytes, layout_bytes}
use Rattle.session_model.specs.log_model.Images.{row_bytes}
use Rattle.session_model.specs.Machine.{step}
use Rattle.durable_runs.proofs.worked.logs_by_hand.Goals as goal

pub returns-clause-zeroth : goal.returns-clause-zeroth
unfolding kind steps nested inner created_within tokens_from text_answer statement_refusal ddl_refusal effect evaluation level_of carried reasons writes all_applied step size event_bytes header_bytes query_bytes names_bytes table_map_bytes rows_bytes format_description_bytes layout_bytes lenenc_bytes row_bytes number_at number_bytes
returns-clause-zeroth c = refl

pub returns-clause-first : goal.returns-clause-first
unfolding kind steps nested inner created_within tokens_from text_answer statement_refusal ddl_refusal effect evaluation level_of carried reasons writes all_applied step size event_bytes header_bytes query_bytes names_bytes table_map_bytes rows_bytes format_description_bytes layout_bytes lenenc_bytes row_bytes number_at number_bytes
returns-clause-first c = refl

pub returns-clause-second : goal.returns-clause-second
unfolding kind steps nested inner created_within tokens_from text_answer statement_refusal ddl_refusal effect evaluation level_of carried reasons writes all_applied step size event_bytes header_bytes query_bytes names_bytes table_map_bytes rows_bytes format_description_bytes layout_bytes lenenc_bytes row_bytes number_at number_bytes
returns-clause-second c = refl

pub returns-clause-named : goal.returns-clause-named
unfolding kind steps nested inner created_within tokens_from text_answer statement_refusal ddl_refusal effect evaluation level_of carried reasons writes all_applied step size event_bytes rotate_bytes log_name header_bytes query_bytes names_bytes table_map_bytes rows_bytes format_description_bytes layout_bytes lenenc_bytes row_bytes number_at number_bytes
returns-clause-named c = refl

pub returns-clause-head : goal.returns-clause-head
unfolding kind steps nested inner created_within tokens_from text_answer statement_refusal ddl_refusal effect evaluation level_of carried reasons writes all_applied step size event_bytes header_bytes query_bytes names_bytes table_map_bytes rows_bytes format_description_bytes layout_bytes lenenc_bytes row_bytes number_at number_bytes
returns-clause-head c = refl
