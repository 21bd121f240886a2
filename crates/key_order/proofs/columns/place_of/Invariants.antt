use Rattle.std.proofs.Common.{◌≡◌, ◌+◌, drop, map}
use Rattle.std.specs.Option.{option_map}
use Rattle.where_candidates.specs.session_ctx.sql_meaning.catalog_rules.Names.{place_among}
use Rattle.key_order.proofs.columns.place_of.Given as goal

abbrev pub invariant-loop-place : goal.invariant-loop-place
invariant-loop-place l =
    option_map (λ p. l.place + p) (place_among (map (λ c. c.name) (drop l.place l.column-items)) l.name) ≡ place_among (map (λ c. c.name) l.column-items) l.name
