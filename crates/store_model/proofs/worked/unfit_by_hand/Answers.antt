use Rattle.std.proofs.Common.{refl}
use Rattle.sql_grammar.specs.Reader.{steps}
use Rattle.sql_syntax.specs.Tokens.{kind}
use Rattle.sql_syntax.specs.Expressions.{nested}
use Rattle.sql_syntax.specs.Programs.{inner, created_within}
use Rattle.text_answers.specs.Answers.{tokens_from, text_answer}
use Rattle.sql_reach.specs.catalog_rules.Creating.{ddl_refusal}
use Rattle.table_rules.specs.Stored.{all_applied}
use Rattle.byte_fields.specs.Field.{number_at}
use Rattle.store_model.specs.Reading.{row_in, change_in}
use Rattle.store_model.specs.Bodies.{record_of}
use Rattle.store_model.specs.Held.{applied}
use Rattle.store_model.specs.Stores.{begun_from, journal_applied, held_by}
use Rattle.store_model.proofs.worked.unfit_by_hand.Goals as goal

pub returns-clause-late_end : goal.returns-clause-late_end
unfolding kind steps nested inner created_within tokens_from text_answer ddl_refusal all_applied row_in change_in number_at record_of applied begun_from journal_applied held_by
returns-clause-late_end c = refl

pub returns-clause-latest_end : goal.returns-clause-latest_end
unfolding kind steps nested inner created_within tokens_from text_answer ddl_refusal all_applied row_in change_in number_at record_of applied begun_from journal_applied held_by
returns-clause-latest_end c = refl

pub returns-clause-second_log : goal.returns-clause-second_log
unfolding kind steps nested inner created_within tokens_from text_answer ddl_refusal all_applied row_in change_in number_at record_of applied begun_from journal_applied held_by
returns-clause-second_log c = refl

pub returns-clause-old_end : goal.returns-clause-old_end
unfolding kind steps nested inner created_within tokens_from text_answer ddl_refusal all_applied row_in change_in number_at record_of applied begun_from journal_applied held_by
returns-clause-old_end c = refl

pub returns-clause-byte_behind : goal.returns-clause-byte_behind
unfolding kind steps nested inner created_within tokens_from text_answer ddl_refusal all_applied row_in change_in number_at record_of applied begun_from journal_applied held_by
returns-clause-byte_behind c = refl

pub returns-clause-number : goal.returns-clause-number
unfolding kind steps nested inner created_within tokens_from text_answer ddl_refusal all_applied row_in change_in number_at record_of applied begun_from journal_applied held_by
returns-clause-number c = refl

pub returns-clause-before_log : goal.returns-clause-before_log
unfolding kind steps nested inner created_within tokens_from text_answer ddl_refusal all_applied row_in change_in number_at record_of applied begun_from journal_applied held_by
returns-clause-before_log c = refl

pub returns-clause-no_definition : goal.returns-clause-no_definition
unfolding kind steps nested inner created_within tokens_from text_answer ddl_refusal all_applied row_in change_in number_at record_of applied begun_from journal_applied held_by
returns-clause-no_definition c = refl

pub returns-clause-table_there : goal.returns-clause-table_there
unfolding kind steps nested inner created_within tokens_from text_answer ddl_refusal all_applied row_in change_in number_at record_of applied begun_from journal_applied held_by
returns-clause-table_there c = refl

pub returns-clause-key_taken : goal.returns-clause-key_taken
unfolding kind steps nested inner created_within tokens_from text_answer ddl_refusal all_applied row_in change_in number_at record_of applied begun_from journal_applied held_by
returns-clause-key_taken c = refl

pub returns-clause-no_table : goal.returns-clause-no_table
unfolding kind steps nested inner created_within tokens_from text_answer ddl_refusal all_applied row_in change_in number_at record_of applied begun_from journal_applied held_by
returns-clause-no_table c = refl

pub returns-clause-moved : goal.returns-clause-moved
unfolding kind steps nested inner created_within tokens_from text_answer ddl_refusal all_applied row_in change_in number_at record_of applied begun_from journal_applied held_by
returns-clause-moved c = refl

pub returns-clause-log_before : goal.returns-clause-log_before
unfolding kind steps nested inner created_within tokens_from text_answer ddl_refusal all_applied row_in change_in number_at record_of applied begun_from journal_applied held_by
returns-clause-log_before c = refl
