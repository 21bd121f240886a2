use Rattle.std.proofs.Common.{refl}
use Rattle.sql_grammar.specs.Reader.{steps}
use Rattle.sql_syntax.specs.Tokens.{kind}
use Rattle.sql_syntax.specs.Expressions.{nested}
use Rattle.sql_syntax.specs.Programs.{inner, created_within}
use Rattle.text_answers.specs.Answers.{tokens_from, text_answer}
use Rattle.sql_reach.specs.catalog_rules.Creating.{ddl_refusal}
use Rattle.table_rules.specs.Stored.{all_applied}
use Rattle.byte_fields.specs.Field.{number_at}
use Rattle.store_model.specs.Reading.{row_in, change_in}
use Rattle.store_model.specs.Bodies.{record_of}
use Rattle.store_model.specs.Held.{applied}
use Rattle.store_model.specs.Snapshots.{snapshot_of}
use Rattle.store_model.specs.Stores.{begun_from, journal_applied, held_by}
use Rattle.store_model.proofs.worked.damage_by_hand.Goals as goal

pub returns-clause-not_whole : goal.returns-clause-not_whole
unfolding kind steps nested inner created_within tokens_from text_answer ddl_refusal all_applied row_in change_in number_at record_of applied begun_from journal_applied held_by
returns-clause-not_whole c = refl

pub returns-clause-cut : goal.returns-clause-cut
unfolding kind steps nested inner created_within tokens_from text_answer ddl_refusal all_applied row_in change_in number_at record_of applied begun_from journal_applied held_by
returns-clause-cut c = refl

pub returns-clause-other_kind : goal.returns-clause-other_kind
unfolding kind steps nested inner created_within tokens_from text_answer ddl_refusal all_applied row_in change_in number_at record_of applied begun_from journal_applied held_by
returns-clause-other_kind c = refl

pub returns-clause-twice : goal.returns-clause-twice
unfolding kind steps nested inner created_within tokens_from text_answer ddl_refusal all_applied row_in change_in number_at record_of applied begun_from journal_applied held_by
returns-clause-twice c = refl

pub returns-clause-short_log : goal.returns-clause-short_log
unfolding kind steps nested inner created_within tokens_from text_answer ddl_refusal all_applied row_in change_in number_at record_of applied begun_from journal_applied held_by
returns-clause-short_log c = refl

pub returns-clause-snapshot : goal.returns-clause-snapshot
unfolding number_at snapshot_of begun_from held_by
returns-clause-snapshot c = refl

pub returns-clause-short_second : goal.returns-clause-short_second
unfolding kind steps nested inner created_within tokens_from text_answer ddl_refusal all_applied row_in change_in number_at record_of applied begun_from journal_applied held_by
returns-clause-short_second c = refl

pub returns-clause-short_first : goal.returns-clause-short_first
unfolding kind steps nested inner created_within tokens_from text_answer ddl_refusal all_applied row_in change_in number_at record_of applied begun_from journal_applied held_by
returns-clause-short_first c = refl
