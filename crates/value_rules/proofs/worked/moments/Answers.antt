use Rattle.std.proofs.Common.{refl}
use Rattle.value_rules.specs.Moments.{clock_text, date_text, moment_text, month_of_day, year_of_day}
use Rattle.value_rules.proofs.worked.moments.Goals as goal

pub returns-clause-first_second : goal.returns-clause-first_second
unfolding moment_text date_text clock_text year_of_day month_of_day
returns-clause-first_second c = refl

pub returns-clause-last_second : goal.returns-clause-last_second
unfolding moment_text date_text clock_text year_of_day month_of_day
returns-clause-last_second c = refl

pub returns-clause-leap_day : goal.returns-clause-leap_day
unfolding moment_text date_text clock_text year_of_day month_of_day
returns-clause-leap_day c = refl

pub returns-clause-day_before_no_leap_day : goal.returns-clause-day_before_no_leap_day
unfolding moment_text date_text clock_text year_of_day month_of_day
returns-clause-day_before_no_leap_day c = refl

pub returns-clause-no_leap_day : goal.returns-clause-no_leap_day
unfolding moment_text date_text clock_text year_of_day month_of_day
returns-clause-no_leap_day c = refl
