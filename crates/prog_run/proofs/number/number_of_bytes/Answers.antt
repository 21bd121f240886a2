use Rattle.std.proofs.Common.{◌<◌, ◌^◌, ◌*◌, ◌+◌, arith}
use Rattle.prog_run.proofs.Digits.{digit_fits}
use Rattle.prog_run.proofs.number.number_of_bytes.Goals as goal

pub overflow_mul-number : goal.overflow_mul-number
overflow_mul-number c =
    let bound : 256 * c.loop-byte.number + 0 < 256 ^ 16 =
    digit_fits c.loop-byte.number c.loop-byte.byte-index 0 c.loop-byte.invariant.fits (omega (arith, c.requires, c.loop-byte-test.true)) (omega arith) in
    omega (arith, bound)

pub overflow_add-number : goal.overflow_add-number
overflow_add-number c =
    let fits = c.type_inv.bytes c.loop-byte.byte-index in
    let byte : c.from.result < 256 = omega (arith, fits, c.from.ensures) in
    let bound : 256 * c.loop-byte.number + c.from.result < 256 ^ 16 =
    digit_fits c.loop-byte.number c.loop-byte.byte-index c.from.result c.loop-byte.invariant.fits (omega (arith, c.requires, c.loop-byte-test.true)) byte in
    omega (arith, bound)
