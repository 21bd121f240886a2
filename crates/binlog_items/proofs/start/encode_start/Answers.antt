use Rattle.std.proofs.Common.{◌≡◌, ◌++◌, ap, ◌∙◌, length}
use Rattle.log_entry_laws.specs.log_model.Log.{description, head}
use Rattle.log_entry_laws.specs.log_model.Written.{bytes_of}
use Rattle.binlog_items.proofs.Encoding.{start_can}
use Rattle.binlog_items.proofs.start.encode_start.Goals as goal

pub put-requires : goal.put-requires
put-requires c = start_can c.args.stamp c.ranges.stamp.fits

pub returns-clause-bytes : goal.returns-clause-bytes
returns-clause-bytes c = c.in_ok-put.ensures.ok.bytes ∙ ap (λ bs. bs ++ bytes_of c.args.server_id 4 (description c.args.stamp)) c.in_ok-out.ensures

pub returns-clause-length : goal.returns-clause-length
returns-clause-length c =
    let is : c.put.new.out ≡ head c.args.stamp c.args.server_id =
    c.in_ok-put.ensures.ok.bytes ∙ ap (λ bs. bs ++ bytes_of c.args.server_id 4 (description c.args.stamp)) c.in_ok-out.ensures in
    ap length is ∙ c.heads_have_length.ensures c.args.stamp c.args.server_id
