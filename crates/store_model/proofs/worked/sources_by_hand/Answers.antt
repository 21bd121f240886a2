use Rattle.std.proofs.Common.{refl}
use Rattle.sql_grammar.specs.Reader.{steps}
use Rattle.sql_syntax.specs.Tokens.{kind}
use Rattle.sql_syntax.specs.Expressions.{nested}
use Rattle.sql_syntax.specs.Programs.{inner, created_within}
use Rattle.text_answers.specs.Answers.{tokens_from, text_answer}
use Rattle.sql_reach.specs.catalog_rules.Creating.{ddl_refusal}
use Rattle.table_rules.specs.Stored.{all_applied}
use Rattle.byte_fields.specs.Field.{number_at}
use Rattle.store_model.specs.Reading.{row_in, change_in}
use Rattle.store_model.specs.Bodies.{record_of}
use Rattle.store_model.specs.Held.{applied}
use Rattle.store_model.specs.Stores.{begun_from, journal_applied, held_by}
use Rattle.store_model.proofs.worked.sources_by_hand.Goals as goal

pub returns-clause-nothing : goal.returns-clause-nothing
unfolding kind steps nested inner created_within tokens_from text_answer ddl_refusal all_applied row_in change_in number_at record_of applied begun_from journal_applied held_by
returns-clause-nothing c = refl

pub returns-clause-one_byte : goal.returns-clause-one_byte
unfolding kind steps nested inner created_within tokens_from text_answer ddl_refusal all_applied row_in change_in number_at record_of applied begun_from journal_applied held_by
returns-clause-one_byte c = refl

pub returns-clause-log_begun : goal.returns-clause-log_begun
unfolding kind steps nested inner created_within tokens_from text_answer ddl_refusal all_applied row_in change_in number_at record_of applied begun_from journal_applied held_by
returns-clause-log_begun c = refl

pub returns-clause-table : goal.returns-clause-table
unfolding kind steps nested inner created_within tokens_from text_answer ddl_refusal all_applied row_in change_in number_at record_of applied begun_from journal_applied held_by
returns-clause-table c = refl

pub returns-clause-staged : goal.returns-clause-staged
unfolding kind steps nested inner created_within tokens_from text_answer ddl_refusal all_applied row_in change_in number_at record_of applied begun_from journal_applied held_by
returns-clause-staged c = refl

pub returns-clause-row : goal.returns-clause-row
unfolding kind steps nested inner created_within tokens_from text_answer ddl_refusal all_applied row_in change_in number_at record_of applied begun_from journal_applied held_by
returns-clause-row c = refl

pub returns-clause-row_read : goal.returns-clause-row_read
unfolding kind steps nested inner created_within tokens_from text_answer ddl_refusal all_applied row_in change_in number_at record_of applied begun_from journal_applied held_by
returns-clause-row_read c = refl

pub returns-clause-two_logs : goal.returns-clause-two_logs
unfolding kind steps nested inner created_within tokens_from text_answer ddl_refusal all_applied row_in change_in number_at record_of applied begun_from journal_applied held_by
returns-clause-two_logs c = refl
