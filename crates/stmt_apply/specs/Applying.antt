-- Who carries out a group, and what stands behind it.
use Rattle.std.specs.Prelude.{◌≡◌, ◌++◌, drop, length}
use Rattle.port_traits.specs.declared.identity.Identity.{Identity}
use Rattle.port_traits.specs.declared.identity.Draw.{Draw}
use Rattle.apply_model.specs.Texts.{Applier}
use Rattle.apply_model.specs.Groups.{Applied, applier_of}
use Rattle.row_apply.specs.prog_work.Contents.{Contents, base_of}

-- who applies: a replica with a draw, and the catalog that is there
abbrev pub applier_in : Identity → Draw → Contents → Applier
applier_in identity draw c = applier_of identity draw (base_of c)

-- what stands behind a group
abbrev pub applied_in : Contents → Applied
applied_in c = record { base = base_of c; counters = c.counters }

-- changes were put behind those that stood
abbrev pub Adds : (before after : Contents) → Type 0
Adds before after = after.changes ≡ before.changes ++ drop (length before.changes) after.changes
