-- The reasons for which a statement is unsafe to log by its text, as they are kept.
use Rattle.std.specs.Prelude.{Bool, true, false, List, [], ◌∷◌, filter}
use Rattle.sql_reach.specs.Reasons.{Reason, a_function, a_variable, a_limited, a_counted_select, a_counted_program, two_keys, ignored_select, replaced_select, updated_select, all_reasons}
use Rattle.unsafe_rules.specs.declared.unsafety.Reasons.{Reasons}

-- whether a reason is among them
abbrev pub has_reason : Reasons → Reason → Bool
has_reason r a_function = r.function
has_reason r a_variable = r.variable
has_reason r a_limited = r.limit
has_reason r a_counted_select = r.counted_select
has_reason r a_counted_program = r.counted_program
has_reason r two_keys = r.two_keys
has_reason r ignored_select = r.ignored_select
has_reason r replaced_select = r.replaced_select
has_reason r updated_select = r.updated_select

-- the list of them
abbrev pub reasons_in : Reasons → List Reason
reasons_in r = filter (has_reason r) all_reasons

abbrev pub is_nothing : List Reason → Bool
is_nothing [] = true
is_nothing (r ∷ rs) = false
