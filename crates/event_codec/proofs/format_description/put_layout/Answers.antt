use Rattle.std.proofs.Common.{◌≡◌, ◌++◌, append_assoc}
use Rattle.event_codec.specs.Writing.{layout_bytes}
use Rattle.event_codec.proofs.format_description.put_layout.Goals as goal

pub returns-clause-ok : goal.returns-clause-ok
unfolding layout_bytes
returns-clause-ok c =
    let e : c.push-2.new.self ++ c.bytes_u32-2.result ≡ c.args.out.now ++ layout_bytes c.args.stamp =
    rw (c.in_ok-push-2.ensures.ok, c.in_ok-extend_from_slice-2.ensures.ok, c.in_ok-push.ensures.ok, c.in_ok-extend_from_slice.ensures.ok, c.bytes_u32.ensures, c.from.ensures, c.bytes_u32-2.ensures)
    (simp append_assoc) in
    rw e at c.extend_from_slice-3.ensures.ok
