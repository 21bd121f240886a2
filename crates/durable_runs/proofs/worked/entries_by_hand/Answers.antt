use Rattle.std.proofs.Common.{refl}
use Rattle.sql_grammar.specs.Reader.{steps}
use Rattle.sql_syntax.specs.Tokens.{kind}
use Rattle.sql_syntax.specs.Expressions.{nested}
use Rattle.sql_syntax.specs.Programs.{inner, created_within}
use Rattle.session_model.specs.text_answers.Answers.{tokens_from, text_answer}
use Rattle.table_rules.specs.Stored.{all_applied}
use Rattle.session_model.specs.catalog_rules.Checks.{statement_refusal}
use Rattle.session_model.specs.catalog_rules.Creating.{ddl_refusal}
use Rattle.session_model.specs.sql_meaning.Running.{effect, evaluation, level_of}
use Rattle.session_model.specs.sql_reach.Carrying.{carried}
use Rattle.session_model.specs.sql_reach.Reach.{writes}
use Rattle.session_model.specs.sql_reach.Reasons.{reasons}
use Rattle.byte_fields.specs.Field.{number_at, number_bytes}
use Rattle.byte_fields.specs.LengthEncoded.{lenenc_bytes}
use Rattle.event_codec.specs.Writing.{size, event_bytes, header_bytes, query_bytes, names_bytes, table_map_bytes, rows_bytes, format_description_bytes, layout_bytes}
use Rattle.session_model.specs.log_model.Images.{row_bytes}
use Rattle.session_model.specs.Machine.{step}
use Rattle.store_model.specs.Bodies.{body_of, change_bytes, record_of}
use Rattle.store_model.specs.Bodies as bodies
use Rattle.durable_runs.proofs.worked.entries_by_hand.Goals as goal

pub returns-clause-log_begun : goal.returns-clause-log_begun
unfolding kind steps nested inner created_within tokens_from text_answer statement_refusal ddl_refusal effect evaluation level_of carried reasons writes all_applied step size event_bytes header_bytes query_bytes names_bytes table_map_bytes rows_bytes format_description_bytes layout_bytes lenenc_bytes row_bytes number_at number_bytes
returns-clause-log_begun c = refl

pub returns-clause-table : goal.returns-clause-table
unfolding kind steps nested inner created_within tokens_from text_answer statement_refusal ddl_refusal effect evaluation level_of carried reasons writes all_applied step size event_bytes header_bytes query_bytes names_bytes table_map_bytes rows_bytes format_description_bytes layout_bytes lenenc_bytes row_bytes number_at number_bytes
returns-clause-table c = refl

pub returns-clause-row : goal.returns-clause-row
unfolding kind steps nested inner created_within tokens_from text_answer statement_refusal ddl_refusal effect evaluation level_of carried reasons writes all_applied step size event_bytes header_bytes query_bytes names_bytes table_map_bytes rows_bytes format_description_bytes layout_bytes lenenc_bytes row_bytes number_at number_bytes
returns-clause-row c = refl

pub returns-clause-twice : goal.returns-clause-twice
unfolding kind steps nested inner created_within tokens_from text_answer statement_refusal ddl_refusal effect evaluation level_of carried reasons writes all_applied step size event_bytes header_bytes query_bytes names_bytes table_map_bytes rows_bytes format_description_bytes layout_bytes lenenc_bytes row_bytes number_at number_bytes
returns-clause-twice c = refl

pub returns-clause-records : goal.returns-clause-records
unfolding kind steps nested inner created_within tokens_from text_answer statement_refusal ddl_refusal effect evaluation level_of carried reasons writes all_applied step size event_bytes header_bytes query_bytes names_bytes table_map_bytes rows_bytes format_description_bytes layout_bytes lenenc_bytes row_bytes number_at number_bytes bodies.row_bytes body_of change_bytes
returns-clause-records c = refl
