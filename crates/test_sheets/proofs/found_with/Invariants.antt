use Rattle.test_sheets.proofs.found_with.Given as goal

-- the ledger in which nobody counts
abbrev pub ghosts-found_with_in : goal.ghosts-found_with_in
ghosts-found_with_in a = record { name = a.blank.name; parts = a.blank.parts }
