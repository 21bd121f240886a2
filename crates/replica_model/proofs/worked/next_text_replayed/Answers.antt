use Rattle.std.proofs.Common.{refl}
use Rattle.sql_grammar.specs.Reader.{steps}
use Rattle.sql_syntax.specs.Tokens.{kind}
use Rattle.sql_syntax.specs.Expressions.{nested}
use Rattle.sql_syntax.specs.Programs.{inner, created_within}
use Rattle.apply_model.specs.text_answers.Answers.{tokens_from, text_answer}
use Rattle.table_rules.specs.Stored.{all_applied}
use Rattle.log_file_model.specs.catalog_rules.Checks.{statement_refusal}
use Rattle.log_file_model.specs.catalog_rules.Creating.{ddl_refusal}
use Rattle.apply_model.specs.sql_meaning.Running.{effect, evaluation, level_of}
use Rattle.apply_model.specs.sql_reach.Carrying.{carried}
use Rattle.apply_model.specs.sql_reach.Reach.{writes}
use Rattle.byte_fields.specs.Unroll.{all_from}
use Rattle.byte_fields.specs.Field.{number_at, number_bytes}
use Rattle.byte_fields.specs.LengthEncoded.{lenenc_at, lenenc_bytes}
use Rattle.event_codec.specs.Bodies.{step_at, query_body, rotate_body, xid_body, table_map_body, rows_body, format_description_body}
use Rattle.event_codec.specs.Columns.{columns_at}
use Rattle.event_codec.specs.Parts.{text}
use Rattle.event_codec.specs.Reading.{reading}
use Rattle.event_codec.specs.Writing.{size, event_bytes, header_bytes, query_bytes, names_bytes, table_map_bytes, rows_bytes, format_description_bytes, layout_bytes}
use Rattle.session_model.specs.log_model.Events.{walk}
use Rattle.session_model.specs.log_model.Groups.{group_at}
use Rattle.session_model.specs.log_model.Images.{row_at, changes_at, row_bytes}
use Rattle.apply_model.specs.Groups.{group_carried}
use Rattle.session_model.specs.log_model.Worked.{first_log}
use Rattle.log_file_model.specs.Walk.{grouped, grouped_from}
use Rattle.replica_model.specs.Replaying.{replayed, replayed_from}
use Rattle.replica_model.proofs.worked.next_text_replayed.Goals as goal

pub returns-clause-count : goal.returns-clause-count
unfolding kind steps nested inner created_within tokens_from text_answer all_applied statement_refusal ddl_refusal effect evaluation level_of carried writes all_from number_at number_bytes lenenc_at lenenc_bytes step_at columns_at text query_body rotate_body xid_body table_map_body rows_body format_description_body reading size event_bytes header_bytes query_bytes names_bytes table_map_bytes rows_bytes format_description_bytes layout_bytes walk group_at row_at changes_at row_bytes group_carried first_log grouped replayed grouped_from replayed_from
returns-clause-count c = refl

pub returns-clause-number : goal.returns-clause-number
unfolding kind steps nested inner created_within tokens_from text_answer all_applied statement_refusal ddl_refusal effect evaluation level_of carried writes all_from number_at number_bytes lenenc_at lenenc_bytes step_at columns_at text query_body rotate_body xid_body table_map_body rows_body format_description_body reading size event_bytes header_bytes query_bytes names_bytes table_map_bytes rows_bytes format_description_bytes layout_bytes walk group_at row_at changes_at row_bytes group_carried first_log grouped replayed grouped_from replayed_from
returns-clause-number c = refl

pub returns-clause-place : goal.returns-clause-place
unfolding kind steps nested inner created_within tokens_from text_answer all_applied statement_refusal ddl_refusal effect evaluation level_of carried writes all_from number_at number_bytes lenenc_at lenenc_bytes step_at columns_at text query_body rotate_body xid_body table_map_body rows_body format_description_body reading size event_bytes header_bytes query_bytes names_bytes table_map_bytes rows_bytes format_description_bytes layout_bytes walk group_at row_at changes_at row_bytes group_carried first_log grouped replayed grouped_from replayed_from
returns-clause-place c = refl

pub returns-clause-short : goal.returns-clause-short
unfolding kind steps nested inner created_within tokens_from text_answer all_applied statement_refusal ddl_refusal effect evaluation level_of carried writes all_from number_at number_bytes lenenc_at lenenc_bytes step_at columns_at text query_body rotate_body xid_body table_map_body rows_body format_description_body reading size event_bytes header_bytes query_bytes names_bytes table_map_bytes rows_bytes format_description_bytes layout_bytes walk group_at row_at changes_at row_bytes group_carried first_log grouped replayed grouped_from replayed_from
returns-clause-short c = refl
