use Rattle.std.proofs.Common.{refl}
use Rattle.byte_fields.specs.Field.{number_at}
use Rattle.store_model.specs.Bodies.{record_of}
use Rattle.store_model.specs.Held.{applied}
use Rattle.store_model.specs.Stores.{begun_from, journal_applied, held_by}
use Rattle.store_model.proofs.worked.first_damage_by_hand.Goals as goal

pub returns-clause-snapshot : goal.returns-clause-snapshot
unfolding number_at record_of applied begun_from journal_applied held_by
returns-clause-snapshot c = refl

pub returns-clause-record : goal.returns-clause-record
unfolding number_at record_of applied begun_from journal_applied held_by
returns-clause-record c = refl

pub returns-clause-journal : goal.returns-clause-journal
unfolding number_at record_of applied begun_from journal_applied held_by
returns-clause-journal c = refl

pub returns-clause-snapshots : goal.returns-clause-snapshots
unfolding number_at begun_from held_by
returns-clause-snapshots c = refl
