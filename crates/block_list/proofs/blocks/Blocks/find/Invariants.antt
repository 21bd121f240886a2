use Rattle.block_list.proofs.blocks.Blocks.find.Given as goal

-- the ledger in which nobody counts
abbrev pub ghosts-find_in : goal.ghosts-find_in
ghosts-find_in g a = record { name = a.blank.name; parts = a.blank.parts }
