use Rattle.std.proofs.Common.{rules}
use Rattle.prog_work.specs.Contents.{base_of}
use Rattle.run_streams.specs.Wrote.{Writing}
use Rattle.dump_store.specs.Lines.{dump_lines}
use Rattle.dump_store.proofs.Gathered.{on_err, rest_breaks}
use Rattle.dump_store.proofs.writing.write_base.Goals as goal

pub returns-clause-err : goal.returns-clause-err
returns-clause-err g c =
    let w : Writing (g.K.Sink.written c.args.out.now) (g.K.Sink.written c.write_objects.new.out) (dump_lines (base_of c.args.work.now)) c.as_slice.result.now = search rules in
    on_err c.write_line.result _ _ (rest_breaks _ _ _ _ _ w) c.write_line.ensures.err
