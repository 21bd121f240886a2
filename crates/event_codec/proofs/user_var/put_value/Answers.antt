use Rattle.event_codec.proofs.user_var.put_value.Goals as goal

pub returns-in-Int-clause-ok : goal.returns-in-Int-clause-ok
returns-in-Int-clause-ok c = rw (c.in-Int.is, ← c.bits.ensures, ← c.bytes_u64.ensures) c.put_typed.ensures.ok
