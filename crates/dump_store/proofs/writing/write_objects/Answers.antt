use Rattle.std.proofs.Common.{flat_map, refl, arith}
use Rattle.catalog_show_create.specs.catalog_objects.Keys.{objects_of, seen}
use Rattle.dump_store.specs.Lines.{object_lines}
use Rattle.dump_store.proofs.Gathered.{at_err, item_breaks, item_written}
use Rattle.dump_store.proofs.writing.write_objects.Goals as goal

pub returns-in_err-write_object-clause-err : goal.returns-in_err-write_object-clause-err
returns-in_err-write_object-clause-err g c =
    at_err c.from_residual.result _
    (item_breaks (λ o. object_lines c.args.tables.now.tables (seen o)) (λ os. flat_map (object_lines c.args.tables.now.tables) (objects_of os)) (λ x xs. refl) c.args.objects.now c.loop-object.object-index _ _ _ c.loop-object.text c.object-item.result c.loop-object-test.true c.object-item.is
    _ refl c.loop-object.invariant.lines _ c.in_err-write_object.ensures.err)

pub loop-object-preserved : goal.loop-object-preserved
loop-object-preserved g c = record {
  lines = item_written (λ o. object_lines c.args.tables.now.tables (seen o)) (λ os. flat_map (object_lines c.args.tables.now.tables) (objects_of os)) (λ x xs. refl) c.args.objects.now c.loop-object.object-index _ _ _ c.loop-object.text c.object-item.result c.loop-object-test.true c.object-item.is
      _ refl c.loop-object.invariant.lines _ c.write_object.new.text c.in_ok-write_object.ensures.ok;
  later = omega (arith, c.loop-object.invariant.later, c.write_object.ensures.later);
  ended = λ fresh. c.in_ok-write_object.ensures.ended (c.loop-object.invariant.ended fresh);
}
