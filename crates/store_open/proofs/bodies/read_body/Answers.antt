use Rattle.std.proofs.Common.{◌≡◌, ◌∙◌, ap, eqb, false, length, rules, sym, true}
use Rattle.prog_work.specs.Contents.{Contents, base_of}
use Rattle.store_load.specs.declared.stored.Stored.{Stored}
use Rattle.store_load.specs.Loading.{held_of}
use Rattle.store_open.proofs.Decoding.{begun_is, is_held, more_behind, none_held}
use Rattle.store_open.proofs.bodies.read_body.Goals as goal

pub returns-in_default-2-clause-is : goal.returns-in_default-2-clause-is
returns-in_default-2-clause-is c =
    sym (none_held c.args.kind c.args.body.now c.in-Some.generation c.in-Some.behind.now (sym c.in-Some.ensures) c.in-Some-take_eight.number c.in-Some-take_eight.bytes.now (sym c.in-Some-take_eight.ensures)
    (rw c.in_default-2.is at c.in_ok-begun.ensures))

pub returns-then-not-is_empty-clause-is : goal.returns-then-not-is_empty-clause-is
returns-then-not-is_empty-clause-is c =
    let some : eqb (length c.in-Some-2.rest.now) 0 ≡ false = search rules in
    let read = rw c.in-Some-2.is at c.in_ok-begun.ensures in
    sym (more_behind c.args.kind c.args.body.now c.in-Some.generation c.in-Some.behind.now (sym c.in-Some.ensures) c.in-Some-take_eight.number c.in-Some-take_eight.bytes.now (sym c.in-Some-take_eight.ensures)
    (held_of (base_of c.in-Some-2.begun.work) c.in-Some-2.begun.reached) c.in-Some-2.rest.now read.0 some)

pub returns-clause-is : goal.returns-clause-is
returns-clause-is c =
    let none : eqb (length c.in-Some-2.rest.now) 0 ≡ true = search rules in
    let read = rw c.in-Some-2.is at c.in_ok-begun.ensures in
    begun_is c.begun.result c.in-Some-2.begun.work c.in-Some.generation c.in-Some-2.begun.reached (ap (λ (s : Stored). s.generation) c.begun.ensures) (ap (λ (s : Stored). s.work) c.begun.ensures)
    (ap (λ (s : Stored). s.reached) c.begun.ensures)
    ∙ sym (is_held c.args.kind c.args.body.now c.in-Some.generation c.in-Some.behind.now (sym c.in-Some.ensures) c.in-Some-take_eight.number c.in-Some-take_eight.bytes.now (sym c.in-Some-take_eight.ensures)
    (held_of (base_of c.in-Some-2.begun.work) c.in-Some-2.begun.reached) c.in-Some-2.rest.now read.0 none)
