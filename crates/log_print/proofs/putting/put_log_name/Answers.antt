use Rattle.std.proofs.Common.{◌≡◌, ◌++◌, append_assoc, refl}
use Rattle.event_codec.specs.LogName.{log_name}
use Rattle.log_print.proofs.putting.put_log_name.Goals as goal

pub returns : goal.returns
unfolding log_name
returns c =
    let e : c.extend_from_slice.new.self ++ c.digits.result ≡ c.args.out.now ++ log_name c.args.number =
    rw (c.in_ok-extend_from_slice.ensures.ok, c.digits.ensures, append_assoc) refl in
    rw e at c.extend_from_slice-2.ensures.ok
