use Rattle.std.proofs.Common.{List, take, sym, ap, ◌∙◌}
use Rattle.std.proofs.lemmas.List.{take-map}
use Rattle.binlog_sizes.specs.log_entries.declared.entries.Item.{Item}
use Rattle.binlog_cache.specs.declared.kept.Kept.{Kept}
use Rattle.binlog_cache.proofs.Summing.{counted_front}
use Rattle.binlog_cache.proofs.cache.Cache.cut.Goals as goal

pub invariant_of-self : goal.invariant_of-self
invariant_of-self c = rw c.truncate.ensures (counted_front c.args.mark c.self.inside.kept c.self.invariant)

pub returns : goal.returns
returns c =
    rw c.truncate.ensures (sym (take-map (λ (k : Kept). k.item) c.args.mark c.self.inside.kept) ∙ ap (λ (is : List Item). take c.args.mark is) c.self.view_is)
