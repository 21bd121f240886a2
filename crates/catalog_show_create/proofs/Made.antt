-- What nothing refused is written as it was.
use Rattle.std.proofs.Common.{◌≡◌, ℕ, Bool, true, false, ◌||◌, cond, List, [], ◌∷◌, ◌++◌, map, length, Option, Some, None, refl, sym, ap, subst, ◌∙◌}
use Rattle.std.specs.Prelude.{nat_lt, is_none, is_some, option_to_list}
use Rattle.std.specs.List.{list_any}
use Rattle.sql_tree.specs.declared.statements.CreateTable.{CreateTable}
use Rattle.sql_tree.specs.declared.statements.Column.{Column}
use Rattle.sql_tree.specs.declared.statements.UniqueKey.{UniqueKey}
use Rattle.sql_tree.specs.Statement.{Statement, Program, Trigger, trigger, create_table, create_function, create_procedure, create_trigger}
use Rattle.catalog_objects.specs.catalog_rules.Bodies.{Kind, of_function, of_procedure, of_trigger, body_codes, declared_types, has_code}
use Rattle.catalog_objects.specs.catalog_rules.Objects.{Object, table, function, procedure, reaction, name_of, table_in, function_in, procedure_in, trigger_in, trigger_for}
use Rattle.catalog_objects.specs.catalog_rules.Defined.{names_of_columns, definition_of, written_table}
use Rattle.catalog_objects.specs.catalog_rules.Creating.{Check, counted_columns, catalog_after, is_ill_type, keys_of, program_types, row_width, runs_before_storing, ddl_refusal, first_refusal, has_unknown, program_checks, table_checks, trigger_checks}
use Rattle.catalog_show_create.specs.Stated.{statement_of, object_made, AreFewPrograms, AreFewTables, HasRoom, IsMadeByItsStatement, MayWait, StatementIsThatOfMaking}
use Rattle.catalog_show_create.proofs.Back.{table_back}

-- no check refuses
abbrev AllPass : List Check → Type 0
AllPass [] = Unit {0}
AllPass (check ∷ checks) = (check.1 ≡ false) × AllPass checks

pass_first : (b : Bool) (e : ℕ) (rest : Option ℕ) → cond b (Some e) rest ≡ None → (b ≡ false) × (rest ≡ None)
pass_first true e rest none = cc
pass_first false e rest none = (refl, none)

all_passed : (checks : List Check) → first_refusal checks ≡ None → AllPass checks
all_passed [] none = tt
all_passed (check ∷ checks) none =
    let parts = pass_first check.1 check.0 (first_refusal checks) none in
    (parts.0, all_passed checks parts.1)

none_refuses : (checks : List Check) → AllPass checks → first_refusal checks ≡ None
none_refuses [] pass = refl
none_refuses (check ∷ checks) pass = rw (pass.0) (none_refuses checks pass.1)

none_first : (a b : Bool) → (a || b) ≡ false → (a ≡ false) × (b ≡ false)
none_first true b e = cc
none_first false b e = (refl, e)

by_primary : (t : CreateTable) (primary : Option (List (List ℕ))) → t.primary ≡ primary → is_none primary ≡ false
    → list_any (has_unknown (names_of_columns t)) (option_to_list primary ++ map (λ (k : UniqueKey). k.columns) t.uniques) ≡ false
    → nat_lt 1 (length (counted_columns t)) ≡ false → written_table (definition_of t) ≡ t
by_primary t None is some known one = cc
by_primary t (Some key) is some known one =
    let parts = none_first (has_unknown (names_of_columns t) key) _ known in
    table_back t key is parts.0 parts.1 one

let_through : (catalog : List Object) (t : CreateTable) → AllPass (table_checks catalog t) → written_table (definition_of t) ≡ t
let_through catalog t pass =
    let known = pass.1.1.1 in
    let counted = known.1.1.1.1.0 in
    let one = none_first (nat_lt 1 (length (counted_columns t))) _ counted in
    by_primary t t.primary refl known.1.0 known.0 one.0

table_let_through : (catalog : List Object) (t : CreateTable) → ddl_refusal catalog (create_table t) ≡ None → written_table (definition_of t) ≡ t
unfolding ddl_refusal
table_let_through catalog t none = let_through catalog t (all_passed (table_checks catalog t) none)

made_by : (s : Statement) (o : Object) (catalog : List Object) → object_made s ≡ Some o → ddl_refusal catalog s ≡ None → statement_of o ≡ s
made_by (create_table t) o catalog made none =
    let same : Some (table (definition_of t)) ≡ Some o = made in
    let own : table (definition_of t) ≡ o = cc in
    ap statement_of (sym own) ∙ ap create_table (table_let_through catalog t none)
made_by (create_function p) o catalog made none =
    let same : Some (function p) ≡ Some o = made in
    let own : function p ≡ o = cc in
    ap statement_of (sym own)
made_by (create_procedure p) o catalog made none =
    let same : Some (procedure p) ≡ Some o = made in
    let own : procedure p ≡ o = cc in
    ap statement_of (sym own)
made_by (create_trigger t) o catalog made none =
    let same : Some (reaction t) ≡ Some o = made in
    let own : reaction t ≡ o = cc in
    ap statement_of (sym own)
made_by s o catalog made none = cc

pub is_that_of_making : StatementIsThatOfMaking
is_that_of_making o is = made_by is.by o is.catalog is.made is.let_through

-- ---- made again

few_still : (a b c : Bool) → (a || b) ≡ false → c ≡ false → (a || c) ≡ false
few_still true b c e f = cc
few_still false b c e f = f

nobody : {A : Type 0} (o : Option A) → o ≡ None → is_some o ≡ false
nobody None e = refl
nobody (Some a) e = cc

-- more columns, keys or bytes than a table may have
abbrev is_past_limits : CreateTable → Bool
is_past_limits t =
    nat_lt 64 (length t.columns)
    || list_any (λ columns. nat_lt 4 (length columns)) (keys_of t)
    || nat_lt 8 (length t.uniques)
    || list_any (λ (c : Column). is_ill_type c.kind) t.columns
    || nat_lt 65535 (row_width t.columns)

table_again : (catalog other : List Object) (t : CreateTable) → AllPass (table_checks catalog t) → table_in other t.name ≡ None → AreFewTables other → AllPass (table_checks other t)
table_again catalog other t pass free few =
    let twice = pass.1 in
    let presets = twice.1.1.1.1 in
    let limits = presets.1.1.1 in (
      nobody (table_in other t.name) free,
      (
        twice.0,
        (
          twice.1.0,
          (
            twice.1.1.0,
            (
              twice.1.1.1.0,
              (
                presets.0,
                (
                  presets.1.0,
                  (
                    presets.1.1.0,
                    (few_still (is_past_limits t) _ _ limits.0 few, tt),
                  ),
                ),
              ),
            ),
          ),
        ),
      ),
    )

program_again : (catalog other : List Object) (kind : Kind) (was is_there : Bool) (p : Program) → AllPass (program_checks catalog kind was p) → is_there ≡ false → AreFewPrograms other
    → AllPass (program_checks other kind is_there p)
program_again catalog other kind was is_there p pass free few =
    (free, (pass.1.0, (pass.1.1.0, (few_still (list_any is_ill_type (program_types p)) _ _ pass.1.1.1.0 few, tt))))

trigger_again : (catalog other : List Object) (t : Trigger) → AllPass (trigger_checks catalog t) → MayWait other t → AreFewPrograms other → AllPass (trigger_checks other t)
trigger_again catalog other (trigger name time event on body) pass may few =
    let sets = pass.1.1 in (
      may.0.0,
      (
        nobody (trigger_in other name) may.0.1,
        (
          sets.0,
          (
            few_still (has_code (body_codes (of_trigger (runs_before_storing time event)) [] body) 30005) _ _ sets.1.0 (nobody (trigger_for other on time event) may.1),
            (few_still (list_any is_ill_type (declared_types body)) _ _ sets.1.1.0 few, tt),
          ),
        ),
      ),
    )

refused_again : (s : Statement) (o : Object) (catalog other : List Object) → object_made s ≡ Some o → ddl_refusal catalog s ≡ None → HasRoom other o → ddl_refusal other s ≡ None
unfolding ddl_refusal
refused_again (create_table t) o catalog other made none room =
    let same : Some (table (definition_of t)) ≡ Some o = made in
    let own : o ≡ table (definition_of t) = cc in
    let here : HasRoom other (table (definition_of t)) = subst (HasRoom other) own room in
    none_refuses (table_checks other t) (table_again catalog other t (all_passed (table_checks catalog t) none) here.0 here.1)
refused_again (create_function p) o catalog other made none room =
    let same : Some (function p) ≡ Some o = made in
    let own : o ≡ function p = cc in
    let here : HasRoom other (function p) = subst (HasRoom other) own room in
    none_refuses (program_checks other of_function (is_some (function_in other (name_of p))) p)
    (program_again catalog other of_function (is_some (function_in catalog (name_of p))) _ p (all_passed (program_checks catalog of_function (is_some (function_in catalog (name_of p))) p) none) (nobody (function_in other (name_of p)) here.0) here.1)
refused_again (create_procedure p) o catalog other made none room =
    let same : Some (procedure p) ≡ Some o = made in
    let own : o ≡ procedure p = cc in
    let here : HasRoom other (procedure p) = subst (HasRoom other) own room in
    none_refuses (program_checks other of_procedure (is_some (procedure_in other (name_of p))) p)
    (program_again catalog other of_procedure (is_some (procedure_in catalog (name_of p))) _ p (all_passed (program_checks catalog of_procedure (is_some (procedure_in catalog (name_of p))) p) none) (nobody (procedure_in other (name_of p)) here.0) here.1)
refused_again (create_trigger t) o catalog other made none room =
    let same : Some (reaction t) ≡ Some o = made in
    let own : o ≡ reaction t = cc in
    let here : HasRoom other (reaction t) = subst (HasRoom other) own room in
    none_refuses (trigger_checks other t) (trigger_again catalog other t (all_passed (trigger_checks catalog t) none) here.0 here.1)
refused_again s o catalog other made none room = cc

after_by : (s : Statement) (o : Object) (catalog : List Object) → object_made s ≡ Some o → catalog_after s catalog ≡ catalog ++ o ∷ []
after_by (create_table t) o catalog made =
    let same : Some (table (definition_of t)) ≡ Some o = made in
    let own : table (definition_of t) ≡ o = cc in
    ap (λ (x : Object). catalog ++ x ∷ []) own
after_by (create_function p) o catalog made =
    let same : Some (function p) ≡ Some o = made in
    let own : function p ≡ o = cc in
    ap (λ (x : Object). catalog ++ x ∷ []) own
after_by (create_procedure p) o catalog made =
    let same : Some (procedure p) ≡ Some o = made in
    let own : procedure p ≡ o = cc in
    ap (λ (x : Object). catalog ++ x ∷ []) own
after_by (create_trigger t) o catalog made =
    let same : Some (reaction t) ≡ Some o = made in
    let own : reaction t ≡ o = cc in
    ap (λ (x : Object). catalog ++ x ∷ []) own
after_by s o catalog made = cc

pub made_again : IsMadeByItsStatement
made_again o is catalog room =
    let same = is_that_of_making o is in (
      ap (ddl_refusal catalog) same ∙ refused_again is.by o is.catalog catalog is.made is.let_through room,
      ap (λ (s : Statement). catalog_after s catalog) same ∙ after_by is.by o catalog is.made,
    )
