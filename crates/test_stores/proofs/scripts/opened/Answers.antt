use Rattle.std.proofs.Common.{◌≡◌, [], rules}
use Rattle.test_stores.proofs.Resting.{nothing_there}
use Rattle.test_stores.proofs.scripts.opened.Goals as goal

pub start-requires-clause-found : goal.start-requires-clause-found
start-requires-clause-found g c =
    let none : c.in_ok-bytes.bytes ≡ [] = search rules in
    c.new-store.ensures.found _ (nothing_there _ _ _ c.in_ok-bytes.bytes c.whole_file.ensures.quiet c.in_ok-bytes.ensures.bytes none)
