use Rattle.std.proofs.Common.{◌≡◌, refl, rules}
use Rattle.std.specs.Prelude.{is_none}
use Rattle.std.specs.List.{list_any}
use Rattle.sql_tree.specs.declared.statements.Column.{Column}
use Rattle.sql_tree.specs.declared.statements.UniqueKey.{UniqueKey}
use Rattle.std.proofs.Common.{map, ◌&&◌}
use Rattle.catalog_checks.specs.catalog_rules.Names.{has_twice}
use Rattle.catalog_checks.specs.catalog_rules.Creating.{has_ill_preset, is_varchar}
use Rattle.catalog_create_table.proofs.Chained.{chained}
use Rattle.catalog_create_table.proofs.refusing.table_refusal.Goals as goal

pub returns : goal.returns
returns c =
    let t = c.args.t.now in
    let presets : c.has_ill_preset.result ≡ list_any has_ill_preset t.columns = search rules in
    let texts : c.has_counted_text.result ≡ list_any (λ (k : Column). k.auto_increment && is_varchar k.kind) t.columns = search rules in
    let names : c.has_keys_twice.result ≡ has_twice (map (λ (k : UniqueKey). k.name) t.uniques) = search rules in
    let primary : c.is_none.result ≡ is_none t.primary = search rules in
    chained _ _ _ _ _ _ c.refused.ensures c.is_taken.ensures
    (chained _ _ _ _ _ _ c.refused-twice.ensures c.column_twice.ensures
    (chained _ _ _ _ _ _ c.refused-names.ensures names
    (chained _ _ _ _ _ _ c.refused-unknown.ensures c.key_unknown.ensures
    (chained _ _ _ _ _ _ c.refused-primary.ensures primary
    (chained _ _ _ _ _ _ c.refused-presets.ensures presets
    (chained _ _ _ _ _ _ c.refused-texts.ensures texts
    (chained _ _ _ _ _ _ c.refused-counted.ensures c.is_ill_counted.ensures
    (chained _ _ _ _ _ _ c.refused-limits.ensures c.is_past_limits.ensures refl))))))))
