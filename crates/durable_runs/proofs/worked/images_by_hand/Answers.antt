use Rattle.std.proofs.Common.{◌≡◌, ℕ, zero, suc, [], Result, Ok, refl, ap, sym, arith}
use Rattle.sql_grammar.specs.Reader.{steps}
use Rattle.sql_syntax.specs.Tokens.{kind}
use Rattle.sql_syntax.specs.Expressions.{nested}
use Rattle.sql_syntax.specs.Programs.{inner, created_within}
use Rattle.session_model.specs.text_answers.Answers.{tokens_from, text_answer}
use Rattle.table_rules.specs.Stored.{all_applied}
use Rattle.session_model.specs.catalog_rules.Checks.{statement_refusal}
use Rattle.session_model.specs.catalog_rules.Creating.{ddl_refusal}
use Rattle.session_model.specs.sql_meaning.Running.{effect, evaluation, level_of}
use Rattle.session_model.specs.sql_reach.Carrying.{carried}
use Rattle.session_model.specs.sql_reach.Reach.{writes}
use Rattle.session_model.specs.sql_reach.Reasons.{reasons}
use Rattle.byte_fields.specs.Field.{number_at, number_bytes}
use Rattle.byte_fields.specs.LengthEncoded.{lenenc_bytes}
use Rattle.event_codec.specs.Writing.{size, event_bytes, header_bytes, query_bytes, names_bytes, table_map_bytes, rows_bytes, format_description_bytes, layout_bytes}
use Rattle.session_model.specs.log_model.Images.{row_bytes}
use Rattle.session_model.specs.Machine.{step}
use Rattle.store_model.specs.Reading.{row_in, change_in}
use Rattle.store_model.specs.Bodies.{record_of}
use Rattle.store_model.specs.Held.{applied}
use Rattle.store_model.specs.Stores.{begun_from, journal_applied, held_by}
use Rattle.store_model.specs.declared.record.Kind.TheVariants.{Source}
use Rattle.store_model.specs.Held.{Held}
use Rattle.store_model.specs.Stores.{Spot}
use Rattle.store_model.specs.Worked.{source_at, with_rows}
use Rattle.durable_runs.specs.Sources.{log_in}
use Rattle.durable_runs.specs.Worked.{stored_with_table, image_with_table, image_staged}
use Rattle.durable_runs.proofs.worked.images_by_hand.Goals as goal

-- the row is logged behind the end
same_log : (n : ℕ) → log_in n stored_with_table.held.ends image_staged ≡ log_in n stored_with_table.held.ends image_with_table
unfolding kind steps nested inner created_within tokens_from text_answer statement_refusal ddl_refusal effect evaluation level_of carried reasons writes all_applied step size event_bytes header_bytes query_bytes names_bytes table_map_bytes rows_bytes format_description_bytes layout_bytes lenenc_bytes row_bytes number_at number_bytes
same_log zero = refl
same_log (suc zero) = refl
same_log (suc (suc n)) = refl

ok_same : (a b : Held) → Path (Result Held Spot) (Ok a) (Ok b) → a ≡ b
ok_same a b is = cc

staged_number : (held : Held) → held_by Source image_staged ≡ Ok held → held.number ≡ 1
unfolding kind steps nested inner created_within tokens_from text_answer statement_refusal ddl_refusal effect evaluation level_of carried reasons writes all_applied step size event_bytes header_bytes query_bytes names_bytes table_map_bytes rows_bytes format_description_bytes layout_bytes lenenc_bytes row_bytes number_at number_bytes row_in change_in record_of applied begun_from journal_applied held_by
staged_number held is = ap (λ (h : Held). h.number) (sym (ok_same (source_at (with_rows []) 1 206) held is))

pub returns-clause-inside : goal.returns-clause-inside
unfolding kind steps nested inner created_within tokens_from text_answer statement_refusal ddl_refusal effect evaluation level_of carried reasons writes all_applied step size event_bytes header_bytes query_bytes names_bytes table_map_bytes rows_bytes format_description_bytes layout_bytes lenenc_bytes row_bytes number_at number_bytes row_in change_in record_of applied begun_from journal_applied held_by
returns-clause-inside c = record { first = 0; within = omega arith; now = stored_with_table; after = refl; stands = record { held = refl; logs = same_log }; holds = omega arith }

pub returns-clause-behind : goal.returns-clause-behind
returns-clause-behind c claim = omega (arith, claim.holds, staged_number claim.now.held claim.stands.held)
