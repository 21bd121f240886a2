use Rattle.std.proofs.Common.{◌≡◌, ℕ, length}
use Rattle.disk_model.specs.Files.{files}
use Rattle.disk_model.proofs.files.Files.reach.Given as goal

abbrev pub invariant-loop : goal.invariant-loop
invariant-loop l = ((f : ℕ) → files l.self.list.items f ≡ files l.fn.self.list.items f) × (length l.self.list.items ≡ l.counter)
