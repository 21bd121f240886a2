-- What nothing refuses has room.
use Rattle.std.proofs.Common.{◌≡◌, ℕ, Bool, true, false, ◌||◌, cond, List, [], ◌∷◌, Option, Some, None, refl}
use Rattle.std.specs.Prelude.{is_some}
use Rattle.sql_tree.specs.Statement.{trigger}
use Rattle.catalog_show_create.specs.catalog_rules.Bases.{creation_of}
use Rattle.catalog_show_create.specs.catalog_rules.Objects.{Object, table, function, procedure, reaction, name_of, function_in, procedure_in}
use Rattle.catalog_show_create.specs.catalog_rules.Bodies.{of_function, of_procedure}
use Rattle.catalog_show_create.specs.catalog_rules.Creating.{Check, first_refusal, ddl_refusal, program_checks, table_checks, trigger_checks}
use Rattle.catalog_show_create.specs.catalog_rules.Defined.{written_table}
use Rattle.catalog_show_create.specs.Stated.{HasRoom}

-- no check refuses
abbrev AllPass : List Check → Type 0
AllPass [] = Unit {0}
AllPass (check ∷ checks) = (check.1 ≡ false) × AllPass checks

pass_first : (b : Bool) (e : ℕ) (rest : Option ℕ) → cond b (Some e) rest ≡ None → (b ≡ false) × (rest ≡ None)
pass_first true e rest none = cc
pass_first false e rest none = (refl, none)

all_passed : (checks : List Check) → first_refusal checks ≡ None → AllPass checks
all_passed [] none = tt
all_passed (check ∷ checks) none =
    let parts = pass_first check.1 check.0 (first_refusal checks) none in
    (parts.0, all_passed checks parts.1)

-- the last of two tests
last_false : (a b : Bool) → (a || b) ≡ false → b ≡ false
last_false true b e = cc
last_false false b e = e

absent : {A : Type 0} (o : Option A) → is_some o ≡ false → o ≡ None
absent None e = refl
absent (Some a) e = cc

pub room_of : (catalog : List Object) (o : Object) → ddl_refusal catalog (creation_of o) ≡ None → HasRoom catalog o
unfolding ddl_refusal
room_of catalog (table d) none =
    let pass = all_passed (table_checks catalog (written_table d)) none in
    (absent _ pass.0, last_false _ _ pass.1.1.1.1.1.1.1.1.0)
room_of catalog (function p) none =
    let pass = all_passed (program_checks catalog of_function (is_some (function_in catalog (name_of p))) p) none in
    (absent _ pass.0, last_false _ _ pass.1.1.1.0)
room_of catalog (procedure p) none =
    let pass = all_passed (program_checks catalog of_procedure (is_some (procedure_in catalog (name_of p))) p) none in
    (absent _ pass.0, last_false _ _ pass.1.1.1.0)
room_of catalog (reaction (trigger name time event on body)) none =
    let pass = all_passed (trigger_checks catalog (trigger name time event on body)) none in
    (((pass.0, absent _ pass.1.0), absent _ (last_false _ _ pass.1.1.1.0)), last_false _ _ pass.1.1.1.1.0)
