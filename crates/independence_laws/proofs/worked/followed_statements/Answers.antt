use Rattle.std.proofs.Common.{refl}
use Rattle.reach_laws.specs.sql_reach.Reasons.{reasons}
use Rattle.independence_laws.specs.Followed.{is_followed, is_unsafe_by_rand_alone}
use Rattle.independence_laws.proofs.worked.followed_statements.Goals as goal

pub returns-clause-rand : goal.returns-clause-rand
unfolding reasons is_followed is_unsafe_by_rand_alone
returns-clause-rand c = refl

pub returns-clause-limit : goal.returns-clause-limit
unfolding reasons is_followed is_unsafe_by_rand_alone
returns-clause-limit c = refl

pub returns-clause-functions : goal.returns-clause-functions
unfolding reasons is_followed is_unsafe_by_rand_alone
returns-clause-functions c = refl

pub returns-clause-triggers : goal.returns-clause-triggers
unfolding reasons is_followed is_unsafe_by_rand_alone
returns-clause-triggers c = refl

pub returns-clause-generated : goal.returns-clause-generated
unfolding reasons is_followed is_unsafe_by_rand_alone
returns-clause-generated c = refl
