use Rattle.row_store.proofs.tables.Tables.held_with.Given as goal

-- the ledger in which nobody counts
abbrev pub ghosts-held_in : goal.ghosts-held_in
ghosts-held_in a = record { name = a.blank.name; parts = a.blank.parts }
