use Rattle.std.proofs.Common.{ℕ, ◌-◌, min, [], ◌∙◌, ap, arith}
use Rattle.disk_model.proofs.Quiet.{quiet_none}
use Rattle.store_source.proofs.Served.{served, served_none, few_served, log_low}
use Rattle.store_source.proofs.Steps.{ok_map, on_looked}
use Rattle.store_source.proofs.serving.log_bytes.Goals as goal

pub returns-then-count-eq0-clause-bytes : goal.returns-then-count-eq0-clause-bytes
returns-then-count-eq0-clause-bytes g c s on =
    served_none _ c.args.store.now s on c.args.log c.args.pos c.args.max c.end_of_log-end.result c.min-count.result c.new.result
    (c.end_of_log-end.ensures s.held.ends (c.ends.ensures ∙ on.keeps.holds.shows.ends)) (omega (arith, c.min-count.ensures, c.saturating_sub.ensures))
    c.if-count-eq0.true c.new.ensures

pub returns-then-count-eq0-clause-most : goal.returns-then-count-eq0-clause-most
returns-then-count-eq0-clause-most g c s on =
    few_served _ c.args.store.now s on c.args.log c.args.pos c.args.max c.end_of_log-end.result c.min-count.result c.new.result
    (c.end_of_log-end.ensures s.held.ends (c.ends.ensures ∙ on.keeps.holds.shows.ends)) (omega (arith, c.min-count.ensures, c.saturating_sub.ensures))
    (omega (arith, ap Rattle.std.proofs.Common.length c.new.ensures))

pub returns-then-count-eq0-clause-on : goal.returns-then-count-eq0-clause-on
returns-then-count-eq0-clause-on g c s on = on

pub returns-then-count-eq0-clause-quiet : goal.returns-then-count-eq0-clause-quiet
returns-then-count-eq0-clause-quiet g c = quiet_none _

pub overflow_add-log : goal.overflow_add-log
overflow_add-log g c =
    let low = log_low _ c.args.store.now c.requires.0 c.requires.1 c.args.log c.args.pos c.args.max c.end_of_log-end.result c.min-count.result []
    (c.end_of_log-end.ensures c.requires.0.held.ends (c.ends.ensures ∙ c.requires.1.keeps.holds.shows.ends))
    (omega (arith, c.min-count.ensures, c.saturating_sub.ensures)) c.requires.1.few c.if-count-eq0.false in
    omega (arith, low)

pub returns-clause-bytes : goal.returns-clause-bytes
returns-clause-bytes g c s on = ok_map c.read_piece.result c.read_piece.ensures.bytes (λ bytes read.
    served _ c.args.store.now s on c.args.log c.args.pos c.args.max c.end_of_log-end.result c.min-count.result bytes
    (c.end_of_log-end.ensures s.held.ends (c.ends.ensures ∙ on.keeps.holds.shows.ends)) (omega (arith, c.min-count.ensures, c.saturating_sub.ensures))
    c.from.result c.from.ensures read)

pub returns-clause-most : goal.returns-clause-most
returns-clause-most g c s on = ok_map c.read_piece.result c.read_piece.ensures.most (λ bytes le.
    few_served _ c.args.store.now s on c.args.log c.args.pos c.args.max c.end_of_log-end.result c.min-count.result bytes
    (c.end_of_log-end.ensures s.held.ends (c.ends.ensures ∙ on.keeps.holds.shows.ends)) (omega (arith, c.min-count.ensures, c.saturating_sub.ensures)) le)

pub returns-clause-on : goal.returns-clause-on
returns-clause-on g c s on = on_looked _ _ c.args.store.now s on c.read_piece.ensures.quiet
