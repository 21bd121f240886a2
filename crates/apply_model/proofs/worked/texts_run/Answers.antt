use Rattle.std.proofs.Common.{refl}
use Rattle.sql_grammar.specs.Reader.{steps}
use Rattle.sql_syntax.specs.Tokens.{kind}
use Rattle.sql_syntax.specs.Expressions.{nested}
use Rattle.sql_syntax.specs.Programs.{inner, created_within}
use Rattle.text_answers.specs.Answers.{tokens_from, text_answer}
use Rattle.table_rules.specs.Stored.{all_applied}
use Rattle.session_ctx.specs.catalog_rules.Checks.{statement_refusal}
use Rattle.session_ctx.specs.catalog_rules.Creating.{ddl_refusal}
use Rattle.session_ctx.specs.sql_meaning.Running.{effect, evaluation, level_of}
use Rattle.sql_reach.specs.Carrying.{carried}
use Rattle.sql_reach.specs.Reach.{writes}
use Rattle.byte_fields.specs.Unroll.{all_from}
use Rattle.byte_fields.specs.Field.{number_at}
use Rattle.binlog_sizes.specs.log_model.Images.{row_at, changes_at}
use Rattle.apply_model.specs.Groups.{group_carried}
use Rattle.apply_model.proofs.worked.texts_run.Goals as goal

pub returns-clause-first : goal.returns-clause-first
unfolding kind steps nested inner created_within tokens_from text_answer statement_refusal ddl_refusal effect evaluation level_of carried writes all_applied all_from number_at row_at changes_at group_carried
returns-clause-first c = refl

pub returns-clause-behind : goal.returns-clause-behind
unfolding kind steps nested inner created_within tokens_from text_answer statement_refusal ddl_refusal effect evaluation level_of carried writes all_applied all_from number_at row_at changes_at group_carried
returns-clause-behind c = refl
