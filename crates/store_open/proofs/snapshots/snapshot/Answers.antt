use Rattle.std.proofs.Common.{◌≡◌, None, refl, rules, sym, true, false, ◌∙◌}
use Rattle.disk_model.proofs.Quiet.{quiet_trans}
use Rattle.store_model.specs.Snapshots.{is_open}
use Rattle.store_load.proofs.Telling.{only_still}
use Rattle.store_open.proofs.Decoding.{closed_so, contents_read, open_so}
use Rattle.store_open.proofs.snapshots.snapshot.Goals as goal

pub returns-in_err-bytes-clause-quiet : goal.returns-in_err-bytes-clause-quiet
returns-in_err-bytes-clause-quiet g c = quiet_trans _ _ _ c.settle.ensures.quiet c.whole_file.ensures.quiet

pub returns-then-not-is_open-clause-found : goal.returns-then-not-is_open-clause-found
returns-then-not-is_open-clause-found g c =
    let no : c.is_open.result ≡ false = search rules in
    closed_so _ _ c.args.kind c.args.file _ c.settle.ensures.quiet (contents_read _ _ _ _ c.as_slice-contents.ensures c.in_ok-bytes.ensures.bytes) (sym c.is_open.ensures ∙ no)

pub returns-then-not-is_open-clause-durable : goal.returns-then-not-is_open-clause-durable
returns-then-not-is_open-clause-durable g c = only_still _ _ _ c.whole_file.ensures.quiet c.in_ok-settle.ensures.durable

pub returns-then-not-is_open-clause-quiet : goal.returns-then-not-is_open-clause-quiet
returns-then-not-is_open-clause-quiet g c = quiet_trans _ _ _ c.settle.ensures.quiet c.whole_file.ensures.quiet

pub returns-in_err-s-clause-quiet : goal.returns-in_err-s-clause-quiet
returns-in_err-s-clause-quiet g c = quiet_trans _ _ _ c.settle.ensures.quiet c.whole_file.ensures.quiet

pub returns-in-Some-clause-found : goal.returns-in-Some-clause-found
returns-in-Some-clause-found g c =
    let yes : c.is_open.result ≡ true = search rules in
    open_so _ _ c.args.kind c.args.file _ _ c.settle.ensures.quiet (contents_read _ _ _ _ c.as_slice-contents.ensures c.in_ok-bytes.ensures.bytes) (sym c.is_open.ensures ∙ yes) (sym (rw c.in-Some.is at c.in_ok-s.ensures.is))

pub returns-in-Some-clause-durable : goal.returns-in-Some-clause-durable
returns-in-Some-clause-durable g c = only_still _ _ _ c.whole_file.ensures.quiet c.in_ok-settle.ensures.durable

pub returns-in-Some-clause-quiet : goal.returns-in-Some-clause-quiet
returns-in-Some-clause-quiet g c = quiet_trans _ _ _ c.settle.ensures.quiet c.whole_file.ensures.quiet

pub returns-clause-damaged : goal.returns-clause-damaged
returns-clause-damaged g c =
    let yes : c.is_open.result ≡ true = search rules in
    open_so _ _ c.args.kind c.args.file _ _ c.settle.ensures.quiet (contents_read _ _ _ _ c.as_slice-contents.ensures c.in_ok-bytes.ensures.bytes) (sym c.is_open.ensures ∙ yes) (sym (rw c.in-None.is at c.in_ok-s.ensures.is))

pub returns-clause-quiet : goal.returns-clause-quiet
returns-clause-quiet g c = quiet_trans _ _ _ c.settle.ensures.quiet c.whole_file.ensures.quiet
