use Rattle.store_open.proofs.Onto.{Ahead}
use Rattle.store_open.proofs.objects.take_objects.Given as goal

abbrev pub invariant-loop-object : goal.invariant-loop-object
invariant-loop-object l = Ahead l.count l._object l.fn.work l.work l.fn.bytes l.rest
