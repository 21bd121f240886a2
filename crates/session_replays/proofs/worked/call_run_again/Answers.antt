use Rattle.std.proofs.Common.{refl}
use Rattle.std.specs.Fmt.{digits}
use Rattle.sql_grammar.specs.Reader.{steps}
use Rattle.sql_syntax.specs.Tokens.{kind}
use Rattle.sql_syntax.specs.Expressions.{nested}
use Rattle.sql_syntax.specs.Programs.{inner, created_within}
use Rattle.session_model.specs.text_answers.Answers.{tokens_from, text_answer}
use Rattle.table_rules.specs.Stored.{all_applied}
use Rattle.name_const_laws.specs.catalog_rules.Checks.{expression_refusal, statement_refusal}
use Rattle.name_const_laws.specs.catalog_rules.Creating.{ddl_refusal}
use Rattle.name_const_laws.specs.sql_meaning.Running.{effect, evaluation, level_of}
use Rattle.name_const_laws.specs.sql_reach.Closing.{closed}
use Rattle.session_model.specs.proc_model.Closing.{closing_refusal}
use Rattle.session_model.specs.proc_model.Procedures.{call_at, called}
use Rattle.name_const_laws.specs.sql_reach.Carrying.{carried}
use Rattle.name_const_laws.specs.sql_reach.Reach.{writes}
use Rattle.name_const_laws.specs.sql_reach.Reasons.{reasons}
use Rattle.byte_fields.specs.Field.{number_bytes}
use Rattle.byte_fields.specs.LengthEncoded.{lenenc_bytes}
use Rattle.event_codec.specs.Writing.{query_bytes, names_bytes, table_map_bytes, rows_bytes, size}
use Rattle.session_model.specs.log_model.Images.{row_bytes}
use Rattle.session_model.specs.Machine.{step}
use Rattle.session_replays.proofs.worked.call_run_again.Goals as goal

pub returns : goal.returns
unfolding digits closed closing_refusal call_at called kind steps nested inner created_within tokens_from text_answer statement_refusal expression_refusal ddl_refusal effect evaluation level_of carried writes reasons all_applied step size query_bytes names_bytes table_map_bytes rows_bytes lenenc_bytes row_bytes number_bytes
returns c = refl
