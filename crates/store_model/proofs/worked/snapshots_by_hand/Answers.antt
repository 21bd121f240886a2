use Rattle.std.proofs.Common.{refl}
use Rattle.byte_fields.specs.Field.{number_at, number_bytes}
use Rattle.store_model.specs.Bodies.{record_of}
use Rattle.store_model.specs.Held.{applied}
use Rattle.store_model.specs.Snapshots.{snapshot_of, snapshot_body}
use Rattle.store_model.specs.Stores.{begun_from, journal_applied, held_by}
use Rattle.store_model.proofs.worked.snapshots_by_hand.Goals as goal

pub returns-clause-open : goal.returns-clause-open
unfolding number_bytes snapshot_of snapshot_body number_at record_of applied begun_from journal_applied held_by
returns-clause-open c = refl

pub returns-clause-bytes : goal.returns-clause-bytes
unfolding number_bytes snapshot_of snapshot_body number_at record_of applied begun_from journal_applied held_by
returns-clause-bytes c = refl

pub returns-clause-closed : goal.returns-clause-closed
unfolding number_bytes snapshot_of snapshot_body number_at record_of applied begun_from journal_applied held_by
returns-clause-closed c = refl

pub returns-clause-greater : goal.returns-clause-greater
unfolding number_at snapshot_of record_of applied begun_from journal_applied held_by
returns-clause-greater c = refl

pub returns-clause-later : goal.returns-clause-later
unfolding number_at snapshot_of record_of applied begun_from journal_applied held_by
returns-clause-later c = refl
