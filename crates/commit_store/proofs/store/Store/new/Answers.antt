use Rattle.commit_store.proofs.Standing.{no_records, none_read}
use Rattle.commit_store.proofs.store.Store.new.Goals as goal

pub found-requires : goal.found-requires
found-requires c = no_records

pub returns-clause-found : goal.returns-clause-found
returns-clause-found c t none = c.found.ensures.found t (none_read t _ _ c.journal_file.ensures none)
