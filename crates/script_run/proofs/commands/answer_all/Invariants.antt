use Rattle.std.proofs.Common.{◌≡◌, ◌≤◌, map}
use Rattle.run_laws.specs.run_model.Run.{Starts}
use Rattle.run_streams.specs.Reports.{GoesOnDrawing}
use Rattle.script_run.specs.Asking.{asked_seen}
use Rattle.script_run.specs.Running.{Going}
use Rattle.script_run.specs.Disks.{BothGoOn, Disks, NoFewer, disks, faults}
use Rattle.script_run.specs.Together.{AreOnDisks, Grew, Opened}
use Rattle.script_run.proofs.commands.answer_all.Given as goal

abbrev pub invariant-loop-i : goal.invariant-loop-i
invariant-loop-i g l =
    ((from : Starts) (t : Disks) → Opened from t (disks (g.D.Disk.told l.fn.src) (g.R.Disk.told l.fn.rep)) l.fn.nodes l.fn.report
    → Going from t (disks (g.D.Disk.told l.src) (g.R.Disk.told l.rep)) (map asked_seen l.asked) l.i l.report (g.K.Sink.written l.fn.out) (g.K.Sink.written l.out) l.nodes)
    × (g.K.Sink.faults l.fn.out ≤ g.K.Sink.faults l.out)
    × GoesOnDrawing (g.E.Env.draws l.fn.src_env) l.fn.report.src_draws (g.E.Env.draws l.src_env) l.report.src_draws
    × GoesOnDrawing (g.F.Env.draws l.fn.rep_env) l.fn.report.rep_draws (g.F.Env.draws l.rep_env) l.report.rep_draws
    × Grew l.fn.report l.report
    × (g.K.Sink.ended l.fn.out ≡ 0 → g.K.Sink.ended l.out ≡ 0)
    × NoFewer (faults (g.D.Disk.faults l.fn.src) (g.R.Disk.faults l.fn.rep)) (faults (g.D.Disk.faults l.src) (g.R.Disk.faults l.rep))
    × BothGoOn (disks (g.D.Disk.told l.fn.src) (g.R.Disk.told l.fn.rep)) (disks (g.D.Disk.told l.src) (g.R.Disk.told l.rep))
    × AreOnDisks (disks (g.D.Disk.told l.src) (g.R.Disk.told l.rep)) l.nodes
