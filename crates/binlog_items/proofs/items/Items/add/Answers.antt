use Rattle.std.proofs.Common.{rules, ◌≡◌, true}
use Rattle.std.proofs.lemmas.Bool.{OnTrue_at}
use Rattle.binlog_items.proofs.Encoding.{logged_if}
use Rattle.binlog_items.proofs.items.Items.add.Goals as goal

pub invariant_of-self : goal.invariant_of-self
invariant_of-self c =
    let is : c.is_logged.result ≡ true = search rules in
    logged_if c.add.result c.self.inside.cache c.add.new.self c.args.item c.self.invariant (OnTrue_at is c.is_logged.ensures) c.add.ensures.ok c.add.ensures.err
