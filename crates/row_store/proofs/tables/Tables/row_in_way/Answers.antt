use Rattle.std.proofs.Common.{Some, None, sym, ◌∙◌}
use Rattle.row_store.proofs.Walking.{in_way_by}
use Rattle.row_store.proofs.tables.Tables.row_in_way.Goals as goal

pub returns-in-Some : goal.returns-in-Some
returns-in-Some c =
    λ name table at named. c.row_on_key.ensures name table at named
    ∙ in_way_by table.definition c.args.row.now table.rows (Some c.in-Some.which) (sym c.in-Some.is ∙ c.key_in_way.ensures name table at named)

pub returns-in-None : goal.returns-in-None
returns-in-None c =
    λ name table at named. in_way_by table.definition c.args.row.now table.rows None (sym c.in-None.is ∙ c.key_in_way.ensures name table at named)
