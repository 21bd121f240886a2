use Rattle.std.proofs.Common.{◌∙◌}
use Rattle.commit_store.proofs.Standing.{no_records, keeps_moved}
use Rattle.commit_store.proofs.store.Store.move_to.Goals as goal

pub found-requires : goal.found-requires
found-requires c = no_records

pub returns-clause-keeps : goal.returns-clause-keeps
returns-clause-keeps c t held moves = keeps_moved t c.args.self.now c.args.generation held c.found.result (c.found.ensures.file ∙ c.journal_file.ensures) c.found.ensures.gate moves
