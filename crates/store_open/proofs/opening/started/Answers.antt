use Rattle.std.proofs.Common.{ap}
use Rattle.commit_store.specs.declared.store.Store.{Store}
use Rattle.store_open.proofs.opening.started.Goals as goal

pub returns : goal.returns
returns c = record {
  work = c.in_ok-start_counters.ensures;
  node = ap (λ (s : Store). s.node) c.found-store.ensures.readers;
  generation = ap (λ (s : Store). s.generation) c.found-store.ensures.readers;
  number = ap (λ (s : Store). s.number) c.found-store.ensures.readers;
  ends = c.found-store.ensures.ends;
  log = ap (λ (s : Store). s.log) c.found-store.ensures.readers;
  pos = ap (λ (s : Store). s.pos) c.found-store.ensures.readers;
  journal = ap (λ (s : Store). s.journal) c.found-store.ensures.readers;
}
