use Rattle.test_sheets.proofs.found.Given as goal

-- the ledger in which nobody counts
abbrev pub ghosts-found_in : goal.ghosts-found_in
ghosts-found_in a = record { name = a.blank.name; parts = a.blank.parts }
