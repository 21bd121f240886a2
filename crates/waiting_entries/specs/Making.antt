-- Where an entry comes.
use Rattle.commit_store.specs.store_model.log_model.Log.{LogPlace}
use Rattle.commit_store.specs.store_model.declared.record.Head.{Head}

-- the place that a head speaks of
abbrev pub has_place : Head → LogPlace
has_place head = record { log = head.log; pos = head.pos }
