use Rattle.std.proofs.Common.{refl, ap, ◌∙◌}
use Rattle.durable_replica.specs.replica_node.replica_model.Lines.{fetched_line}
use Rattle.script_run.proofs.Spoken.{fetched_idle, fetched_on, fetched_shown, looked_on}
use Rattle.script_run.proofs.nodes.Nodes.fetch.Goals as goal

pub returns-in-Err-Failed-clause-lasts : goal.returns-in-Err-Failed-clause-lasts
returns-in-Err-Failed-clause-lasts g c names start b marks together = looked_on c.runs_last.ensures.source _ _ _ start c.args.self.now c.log_bytes.ensures.quiet.on c.log_bytes.ensures.runs names b marks together

pub returns-in-Err-NoMemory-clause-lasts : goal.returns-in-Err-NoMemory-clause-lasts
returns-in-Err-NoMemory-clause-lasts g c names start b marks together = looked_on c.runs_last.ensures.source _ _ _ start c.args.self.now c.log_bytes.ensures.quiet.on c.log_bytes.ensures.runs names b marks together

pub returns-in_err-fetched_line-in-Ok-fetch-clause-lasts : goal.returns-in_err-fetched_line-in-Ok-fetch-clause-lasts
returns-in_err-fetched_line-in-Ok-fetch-clause-lasts g c names start b marks together = looked_on c.runs_last.ensures.source _ _ _ start c.args.self.now c.log_bytes.ensures.quiet.on c.log_bytes.ensures.runs names b marks together

pub returns-in-Ok-fetch-clause-lasts : goal.returns-in-Ok-fetch-clause-lasts
returns-in-Ok-fetch-clause-lasts g c names start b marks together = looked_on c.runs_last.ensures.source _ _ _ start c.args.self.now c.log_bytes.ensures.quiet.on c.log_bytes.ensures.runs names b marks together

pub returns-in-Err-Failed-clause-carries : goal.returns-in-Err-Failed-clause-carries
returns-in-Err-Failed-clause-carries g c names start b draw marks together = fetched_idle _ _ start c.args.self.now c.args.count names b draw marks together

pub returns-in-Err-NoMemory-clause-carries : goal.returns-in-Err-NoMemory-clause-carries
returns-in-Err-NoMemory-clause-carries g c names start b draw marks together = fetched_idle _ _ start c.args.self.now c.args.count names b draw marks together

pub returns-in_err-fetched_line-in-Ok-fetch-clause-carries : goal.returns-in_err-fetched_line-in-Ok-fetch-clause-carries
returns-in_err-fetched_line-in-Ok-fetch-clause-carries g c names start b draw marks together = fetched_on _ _ _ start c.args.self.now c.args.count c.fetch.ensures.runs names b draw marks together

pub returns-in-Ok-fetch-clause-carries : goal.returns-in-Ok-fetch-clause-carries
returns-in-Ok-fetch-clause-carries g c names start b draw marks together = fetched_on _ _ _ start c.args.self.now c.args.count c.fetch.ensures.runs names b draw marks together

pub returns-clause-carries : goal.returns-clause-carries
returns-clause-carries g c names start b draw marks together = fetched_on _ _ _ start c.args.self.now c.args.count c.fetch.ensures.runs names b draw marks together

pub returns-clause-lasts : goal.returns-clause-lasts
returns-clause-lasts g c names start b marks together = looked_on c.runs_last.ensures.source _ _ _ start c.args.self.now c.log_bytes.ensures.quiet.on c.log_bytes.ensures.runs names b marks together

pub returns-in-Ok-fetch-clause-shows : goal.returns-in-Ok-fetch-clause-shows
returns-in-Ok-fetch-clause-shows g c names start b draw together =
    fetched_shown (record { goes_on = c.log_goes_on.ensures; one = c.logs_go_on.ensures.one; stores = c.stores_go_on.ensures }) c.args.self.now _ _ _ start c.args.number c.args.count c.min-most.result _ _ c.in-Ok.piece
    c.in_ok-fetched_line-in-Ok-fetch.field-0 c.replica_follows.ensures.goes_on refl c.want-log.ensures (record { source = c.log_bytes.ensures.quiet.on; replica = c.fetch.ensures.goes }) c.min-most.ensures c.log_bytes.ensures.end
    c.in-Ok.ensures.bytes c.log_bytes.ensures.stands
    c.fetch.ensures.identity c.in-Ok-fetch.ensures.ok c.in-Ok-fetch.ensures.on (c.in_ok-fetched_line-in-Ok-fetch.ensures ∙ ap (fetched_line c.args.number) c.len.ensures) names b draw together
