use Rattle.std.proofs.Common.{rules, ◌≡◌, Bool, true, subst, arith}
use Rattle.log_reader.specs.Reading.{ReadsMagic}
use Rattle.log_reader.proofs.Fronts.{front_reads, front_takes}
use Rattle.log_reader.proofs.front.read_front.Goals as goal

pub returns-clause-front : goal.returns-clause-front
returns-clause-front g c =
    let on : c.in_ok-read_magic.field-0 ≡ true = search rules in
    front_reads c.args.pos (g.S.Source.left c.args.input.now) (g.S.Source.left c.read_magic.new.input) (g.S.Source.left c.pass_to.new.input) c.pass_to.result
    (subst (λ (b : Bool). ReadsMagic (g.S.Source.left c.args.input.now) (g.S.Source.left c.read_magic.new.input) b) on c.in_ok-read_magic.ensures.magic)
    (omega (arith, c.if-pos-lt-MAGIC_LENGTH.false)) c.pass_to.ensures.passes

pub returns-clause-takes : goal.returns-clause-takes
returns-clause-takes g c =
    let on : c.in_ok-read_magic.field-0 ≡ true = search rules in
    front_takes (g.S.Source.left c.args.input.now) (g.S.Source.left c.read_magic.new.input) (g.S.Source.left c.pass_to.new.input) c.pass_to.result
    (subst (λ (b : Bool). ReadsMagic (g.S.Source.left c.args.input.now) (g.S.Source.left c.read_magic.new.input) b) on c.in_ok-read_magic.ensures.magic)
    c.pass_to.ensures.takes
