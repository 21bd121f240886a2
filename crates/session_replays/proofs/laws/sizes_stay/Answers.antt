use Rattle.session_replays.proofs.Sizing.{entries_keep}
use Rattle.session_replays.proofs.laws.sizes_stay.Goals as goal

pub returns : goal.returns
returns c = λ from m holds sized. entries_keep m.history from.base m.state.shared.base holds.entries sized
