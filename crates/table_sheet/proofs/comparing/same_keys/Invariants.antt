use Rattle.std.proofs.Common.{◌≡◌, drop}
use Rattle.std.specs.List.{list_all}
use Rattle.val_types.specs.Keys.{same_values, values_at}
use Rattle.table_sheet.proofs.comparing.same_keys.Given as goal

-- the rows have the same values in the keys so far, so the rest decides
abbrev pub invariant-loop-key : goal.invariant-loop-key
invariant-loop-key l =
    list_all (λ key. same_values (values_at key.columns l.a) (values_at key.columns l.b)) (drop l.key-index l.key-items)
    ≡ list_all (λ key. same_values (values_at key.columns l.a) (values_at key.columns l.b)) l.key-items
