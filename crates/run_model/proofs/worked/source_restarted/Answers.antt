use Rattle.std.proofs.Common.{refl}
use Rattle.std.specs.Fmt.{digits}
use Rattle.sql_grammar.specs.Reader.{steps}
use Rattle.sql_syntax.specs.Tokens.{kind}
use Rattle.sql_syntax.specs.Expressions.{nested}
use Rattle.sql_syntax.specs.Programs.{inner, created_within}
use Rattle.session_replays.specs.text_answers.Answers.{tokens_from, text_answer}
use Rattle.table_rules.specs.Stored.{all_applied}
use Rattle.log_entry_laws.specs.catalog_rules.Checks.{expression_refusal, statement_refusal}
use Rattle.log_entry_laws.specs.catalog_rules.Creating.{ddl_refusal}
use Rattle.session_replays.specs.sql_meaning.Running.{effect, evaluation, level_of}
use Rattle.session_replays.specs.sql_reach.Carrying.{carried}
use Rattle.session_replays.specs.sql_reach.Reach.{writes}
use Rattle.session_replays.specs.sql_reach.Reasons.{reasons}
use Rattle.byte_fields.specs.Unroll.{all_from}
use Rattle.byte_fields.specs.Field.{number_at, number_bytes}
use Rattle.byte_fields.specs.LengthEncoded.{lenenc_at, lenenc_bytes}
use Rattle.event_codec.specs.Bodies.{step_at, query_body, rotate_body, xid_body, table_map_body, rows_body, format_description_body}
use Rattle.event_codec.specs.Columns.{columns_at}
use Rattle.event_codec.specs.Parts.{text}
use Rattle.event_codec.specs.Reading.{reading}
use Rattle.event_codec.specs.Writing.{size, event_bytes, header_bytes, query_bytes, names_bytes, table_map_bytes, rows_bytes, format_description_bytes, layout_bytes}
use Rattle.log_entry_laws.specs.log_model.Events.{walk}
use Rattle.log_entry_laws.specs.log_model.Groups.{group_at}
use Rattle.log_entry_laws.specs.log_model.Images.{row_at, changes_at, row_bytes}
use Rattle.session_replays.specs.session_model.Machine.{step}
use Rattle.replica_model.specs.apply_model.Groups.{group_carried}
use Rattle.replica_model.specs.Replica.{want}
use Rattle.replica_model.specs.Applying.{apply}
use Rattle.replica_model.specs.Selecting.{select_answer}
use Rattle.run_model.proofs.worked.source_restarted.Goals as goal

pub returns : goal.returns
unfolding digits kind steps nested inner created_within tokens_from text_answer all_applied statement_refusal expression_refusal ddl_refusal effect evaluation level_of carried writes reasons all_from number_at number_bytes lenenc_at lenenc_bytes step_at columns_at text query_body rotate_body xid_body table_map_body rows_body format_description_body reading size event_bytes header_bytes query_bytes names_bytes table_map_bytes rows_bytes format_description_bytes layout_bytes walk group_at row_at changes_at row_bytes step group_carried want apply select_answer
returns c = refl
