use Rattle.std.proofs.Common.{◌≡◌, ◌+◌, drop, map}
use Rattle.std.specs.Option.{option_map}
use Rattle.session_ctx.specs.sql_meaning.catalog_rules.Names.{place_among}
use Rattle.where_keys.proofs.sides.place_of.Given as goal

abbrev pub invariant-loop-place : goal.invariant-loop-place
invariant-loop-place l =
    option_map (λ p. l.place + p) (place_among (map (λ c. c.name) (drop l.place l.column-items)) l.name) ≡ place_among (map (λ c. c.name) l.column-items) l.name
