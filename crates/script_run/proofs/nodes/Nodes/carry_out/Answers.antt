use Rattle.std.proofs.Common.{refl, arith}
use Rattle.disk_model.proofs.Moments.{on_refl}
use Rattle.run_laws.specs.run_model.Asked.{take_bytes}
use Rattle.script_run.proofs.Disks.{both_refl, fewer_refl}
use Rattle.script_run.proofs.Drawing.{drew_none}
use Rattle.script_run.proofs.Running.{grew_none}
use Rattle.script_run.proofs.Spoken.{any_err, fetched_go, fetched_out, gave_up, on_replica, on_same, on_source, replica_alone, short_refuses, some_draw, source_alone}
use Rattle.script_run.proofs.nodes.Nodes.carry_out.Goals as goal

pub returns-in-Say-clause-rep_drawn : goal.returns-in-Say-clause-rep_drawn
returns-in-Say-clause-rep_drawn g c = drew_none _ _ _ _ c.say.ensures.others

pub returns-in-Say-clause-goes : goal.returns-in-Say-clause-goes
returns-in-Say-clause-goes g c = record { source = c.say.ensures.goes; replica = on_refl _ }

pub returns-in-Say-clause-refuses : goal.returns-in-Say-clause-refuses
returns-in-Say-clause-refuses g c = source_alone c.say.result _ _ _ _ _ c.say.ensures.refuses

pub returns-in-Say-clause-later : goal.returns-in-Say-clause-later
returns-in-Say-clause-later g c = record { source = c.say.ensures.later; replica = omega arith }

pub returns-in-Say-clause-carried : goal.returns-in-Say-clause-carried
returns-in-Say-clause-carried g c names start b before = rw c.in-Say.is (c.say.ensures.carried names _ start b before)

pub returns-in-Say-clause-left : goal.returns-in-Say-clause-left
returns-in-Say-clause-left g c names start b before = rw c.in-Say.is (c.say.ensures.left names _ start b before)

pub returns-in-CheckpointSource-clause-grew : goal.returns-in-CheckpointSource-clause-grew
returns-in-CheckpointSource-clause-grew g c = grew_none c.args.report.now

pub returns-in-CheckpointSource-clause-src_drawn : goal.returns-in-CheckpointSource-clause-src_drawn
returns-in-CheckpointSource-clause-src_drawn g c = drew_none _ _ _ _ refl

pub returns-in-CheckpointSource-clause-rep_drawn : goal.returns-in-CheckpointSource-clause-rep_drawn
returns-in-CheckpointSource-clause-rep_drawn g c = drew_none _ _ _ _ refl

pub returns-in-CheckpointSource-clause-goes : goal.returns-in-CheckpointSource-clause-goes
returns-in-CheckpointSource-clause-goes g c = record { source = c.checkpoint_source.ensures.goes; replica = on_refl _ }

pub returns-in-CheckpointSource-clause-refuses : goal.returns-in-CheckpointSource-clause-refuses
returns-in-CheckpointSource-clause-refuses g c = source_alone c.checkpoint_source.result _ _ _ _ _ c.checkpoint_source.ensures.refuses

pub returns-in-CheckpointSource-clause-later : goal.returns-in-CheckpointSource-clause-later
returns-in-CheckpointSource-clause-later g c = record { source = c.checkpoint_source.ensures.later; replica = omega arith }

pub returns-in-CheckpointSource-clause-carried : goal.returns-in-CheckpointSource-clause-carried
returns-in-CheckpointSource-clause-carried g c names start b before = rw c.in-CheckpointSource.is (c.checkpoint_source.ensures.carried names _ start b _ before)

pub returns-in-CheckpointSource-clause-left : goal.returns-in-CheckpointSource-clause-left
returns-in-CheckpointSource-clause-left g c names start b before = rw c.in-CheckpointSource.is (c.checkpoint_source.ensures.left names _ start b _ before)

pub returns-in-CheckpointSource-clause-on : goal.returns-in-CheckpointSource-clause-on
returns-in-CheckpointSource-clause-on g c = on_source c.checkpoint_source.result _ _ _ c.args.self.now _ c.checkpoint_source.ensures.replica c.requires.on c.checkpoint_source.ensures.on

pub returns-in-CheckpointReplica-clause-grew : goal.returns-in-CheckpointReplica-clause-grew
returns-in-CheckpointReplica-clause-grew g c = grew_none c.args.report.now

pub returns-in-CheckpointReplica-clause-src_drawn : goal.returns-in-CheckpointReplica-clause-src_drawn
returns-in-CheckpointReplica-clause-src_drawn g c = drew_none _ _ _ _ refl

pub returns-in-CheckpointReplica-clause-rep_drawn : goal.returns-in-CheckpointReplica-clause-rep_drawn
returns-in-CheckpointReplica-clause-rep_drawn g c = drew_none _ _ _ _ refl

pub returns-in-CheckpointReplica-clause-goes : goal.returns-in-CheckpointReplica-clause-goes
returns-in-CheckpointReplica-clause-goes g c = record { source = on_refl _; replica = c.checkpoint_replica.ensures.goes }

pub returns-in-CheckpointReplica-clause-refuses : goal.returns-in-CheckpointReplica-clause-refuses
returns-in-CheckpointReplica-clause-refuses g c = replica_alone c.checkpoint_replica.result _ _ _ _ _ c.checkpoint_replica.ensures.refuses

pub returns-in-CheckpointReplica-clause-later : goal.returns-in-CheckpointReplica-clause-later
returns-in-CheckpointReplica-clause-later g c = record { source = omega arith; replica = c.checkpoint_replica.ensures.later }

pub returns-in-CheckpointReplica-clause-carried : goal.returns-in-CheckpointReplica-clause-carried
returns-in-CheckpointReplica-clause-carried g c names start b before = rw c.in-CheckpointReplica.is (c.checkpoint_replica.ensures.carried names _ start b _ before)

pub returns-in-CheckpointReplica-clause-left : goal.returns-in-CheckpointReplica-clause-left
returns-in-CheckpointReplica-clause-left g c names start b before = rw c.in-CheckpointReplica.is (c.checkpoint_replica.ensures.left names _ start b _ before)

pub returns-in-CheckpointReplica-clause-on : goal.returns-in-CheckpointReplica-clause-on
returns-in-CheckpointReplica-clause-on g c = on_replica c.checkpoint_replica.result _ _ _ c.args.self.now _ c.checkpoint_replica.ensures.source c.requires.on c.checkpoint_replica.ensures.on

pub returns-in-RestartSource-clause-rep_drawn : goal.returns-in-RestartSource-clause-rep_drawn
returns-in-RestartSource-clause-rep_drawn g c = drew_none _ _ _ _ c.restart_source.ensures.others

pub returns-in-RestartSource-clause-goes : goal.returns-in-RestartSource-clause-goes
returns-in-RestartSource-clause-goes g c = record { source = c.restart_source.ensures.goes; replica = on_refl _ }

pub returns-in-RestartSource-clause-refuses : goal.returns-in-RestartSource-clause-refuses
returns-in-RestartSource-clause-refuses g c = source_alone c.restart_source.result _ _ _ _ _ c.restart_source.ensures.refuses

pub returns-in-RestartSource-clause-later : goal.returns-in-RestartSource-clause-later
returns-in-RestartSource-clause-later g c = record { source = c.restart_source.ensures.later; replica = omega arith }

pub returns-in-RestartSource-clause-carried : goal.returns-in-RestartSource-clause-carried
returns-in-RestartSource-clause-carried g c names start b before = rw c.in-RestartSource.is (c.restart_source.ensures.carried names _ start b before)

pub returns-in-RestartSource-clause-left : goal.returns-in-RestartSource-clause-left
returns-in-RestartSource-clause-left g c names start b before = rw c.in-RestartSource.is (c.restart_source.ensures.left names _ start b before)

pub returns-in-RestartReplica-clause-src_drawn : goal.returns-in-RestartReplica-clause-src_drawn
returns-in-RestartReplica-clause-src_drawn g c = drew_none _ _ _ _ c.restart_replica.ensures.others

pub returns-in-RestartReplica-clause-goes : goal.returns-in-RestartReplica-clause-goes
returns-in-RestartReplica-clause-goes g c = record { source = on_refl _; replica = c.restart_replica.ensures.goes }

pub returns-in-RestartReplica-clause-refuses : goal.returns-in-RestartReplica-clause-refuses
returns-in-RestartReplica-clause-refuses g c = replica_alone c.restart_replica.result _ _ _ _ _ c.restart_replica.ensures.refuses

pub returns-in-RestartReplica-clause-later : goal.returns-in-RestartReplica-clause-later
returns-in-RestartReplica-clause-later g c = record { source = omega arith; replica = c.restart_replica.ensures.later }

pub returns-in-RestartReplica-clause-carried : goal.returns-in-RestartReplica-clause-carried
returns-in-RestartReplica-clause-carried g c names start b before = rw c.in-RestartReplica.is (c.restart_replica.ensures.carried names _ start b before)

pub returns-in-RestartReplica-clause-left : goal.returns-in-RestartReplica-clause-left
returns-in-RestartReplica-clause-left g c names start b before = rw c.in-RestartReplica.is (c.restart_replica.ensures.left names _ start b before)

pub returns-in-Select-clause-src_drawn : goal.returns-in-Select-clause-src_drawn
returns-in-Select-clause-src_drawn g c = drew_none _ _ _ _ c.select.ensures.others

pub returns-in-Select-clause-goes : goal.returns-in-Select-clause-goes
returns-in-Select-clause-goes g c = both_refl _

pub returns-in-Select-clause-refuses : goal.returns-in-Select-clause-refuses
returns-in-Select-clause-refuses g c = short_refuses c.select.result _ _ _ c.select.ensures.short

pub returns-in-Select-clause-later : goal.returns-in-Select-clause-later
returns-in-Select-clause-later g c = fewer_refl _

pub returns-in-Select-clause-carried : goal.returns-in-Select-clause-carried
returns-in-Select-clause-carried g c names start b before = rw c.in-Select.is (c.select.ensures.carried names _ start b before)

pub returns-in-Select-clause-left : goal.returns-in-Select-clause-left
returns-in-Select-clause-left g c names start b before = rw c.in-Select.is (c.select.ensures.left names _ start b before)

pub returns-in-Apply-clause-src_drawn : goal.returns-in-Apply-clause-src_drawn
returns-in-Apply-clause-src_drawn g c = drew_none _ _ _ _ c.apply.ensures.others

pub returns-in-Apply-clause-goes : goal.returns-in-Apply-clause-goes
returns-in-Apply-clause-goes g c = record { source = on_refl _; replica = c.apply.ensures.goes }

pub returns-in-Apply-clause-refuses : goal.returns-in-Apply-clause-refuses
returns-in-Apply-clause-refuses g c = replica_alone c.apply.result _ _ _ _ _ c.apply.ensures.refuses

pub returns-in-Apply-clause-later : goal.returns-in-Apply-clause-later
returns-in-Apply-clause-later g c = record { source = omega arith; replica = c.apply.ensures.later }

pub returns-in-Apply-clause-carried : goal.returns-in-Apply-clause-carried
returns-in-Apply-clause-carried g c names start b before = rw c.in-Apply.is (c.apply.ensures.carried names _ start b before)

pub returns-in-Apply-clause-left : goal.returns-in-Apply-clause-left
returns-in-Apply-clause-left g c names start b before = rw c.in-Apply.is (c.apply.ensures.left names _ start b before)

pub returns-in-Fetch-clause-grew : goal.returns-in-Fetch-clause-grew
returns-in-Fetch-clause-grew g c = grew_none c.args.report.now

pub returns-in-Fetch-clause-src_drawn : goal.returns-in-Fetch-clause-src_drawn
returns-in-Fetch-clause-src_drawn g c = drew_none _ _ _ _ refl

pub returns-in-Fetch-clause-rep_drawn : goal.returns-in-Fetch-clause-rep_drawn
returns-in-Fetch-clause-rep_drawn g c = drew_none _ _ _ _ refl

pub returns-in-Fetch-clause-left : goal.returns-in-Fetch-clause-left
returns-in-Fetch-clause-left g c names start b before =
    rw c.in-Fetch.is
    (any_err c.fetch.result _ (gave_up names (take_bytes c.in-Fetch.count) start _ c.args.number b _ _ c.args.report.now c.args.report.now some_draw before refl refl c.fetch.ensures.goes
    (c.fetch.ensures.lasts names start b c.args.report.now.marks before.together) (λ fits. (c.fetch.ensures.carries names start b some_draw c.args.report.now.marks before.together fits).carries)))

pub returns-in-Fetch-clause-carried : goal.returns-in-Fetch-clause-carried
returns-in-Fetch-clause-carried g c names start b before =
    rw c.in-Fetch.is
    (fetched_out c.fetch.result _ _ start c.args.self.now _ c.args.number c.in-Fetch.count c.args.report.now names b before
    (fetched_go c.fetch.result c.in-Fetch.count c.args.self.now _ c.fetch.ensures.source c.fetch.ensures.generation) (λ marks together. c.fetch.ensures.lasts names start b marks together)
    (λ draw marks together. c.fetch.ensures.carries names start b draw marks together) (λ draw together. c.fetch.ensures.shows names start b draw together))

pub returns-in-Say-clause-on : goal.returns-in-Say-clause-on
returns-in-Say-clause-on g c = on_source c.say.result _ _ _ c.args.self.now _ c.say.ensures.replica c.requires.on c.say.ensures.on

pub returns-in-RestartSource-clause-on : goal.returns-in-RestartSource-clause-on
returns-in-RestartSource-clause-on g c = on_source c.restart_source.result _ _ _ c.args.self.now _ c.restart_source.ensures.replica c.requires.on c.restart_source.ensures.on

pub returns-in-RestartReplica-clause-on : goal.returns-in-RestartReplica-clause-on
returns-in-RestartReplica-clause-on g c = on_replica c.restart_replica.result _ _ _ c.args.self.now _ c.restart_replica.ensures.source c.requires.on c.restart_replica.ensures.on

pub returns-in-Apply-clause-on : goal.returns-in-Apply-clause-on
returns-in-Apply-clause-on g c = on_replica c.apply.result _ _ _ c.args.self.now _ c.apply.ensures.source c.requires.on c.apply.ensures.on

pub returns-in-Select-clause-on : goal.returns-in-Select-clause-on
returns-in-Select-clause-on g c = on_same c.select.result _ c.args.self.now _ c.select.ensures.same c.requires.on
