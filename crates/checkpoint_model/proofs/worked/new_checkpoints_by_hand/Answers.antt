use Rattle.std.proofs.Common.{refl}
use Rattle.byte_fields.specs.Field.{number_at, number_bytes}
use Rattle.store_model.specs.Bodies.{record_of}
use Rattle.store_model.specs.Held.{applied}
use Rattle.store_model.specs.Snapshots.{snapshot_of, snapshot_body}
use Rattle.store_model.specs.Stores.{begun_from, journal_applied, held_by}
use Rattle.checkpoint_model.proofs.worked.new_checkpoints_by_hand.Goals as goal

pub returns-clause-snapshot : goal.returns-clause-snapshot
unfolding number_bytes number_at snapshot_of snapshot_body record_of applied begun_from journal_applied held_by
returns-clause-snapshot c = refl

pub returns-clause-of_38 : goal.returns-clause-of_38
unfolding number_bytes number_at snapshot_of snapshot_body record_of applied begun_from journal_applied held_by
returns-clause-of_38 c = refl

pub returns-clause-journal : goal.returns-clause-journal
unfolding number_bytes number_at snapshot_of snapshot_body record_of applied begun_from journal_applied held_by
returns-clause-journal c = refl

pub returns-clause-old_journal : goal.returns-clause-old_journal
unfolding number_bytes number_at snapshot_of snapshot_body record_of applied begun_from journal_applied held_by
returns-clause-old_journal c = refl

pub returns-clause-held : goal.returns-clause-held
unfolding number_bytes number_at snapshot_of snapshot_body record_of applied begun_from journal_applied held_by
returns-clause-held c = refl

pub returns-clause-next : goal.returns-clause-next
unfolding number_bytes number_at snapshot_of snapshot_body record_of applied begun_from journal_applied held_by
returns-clause-next c = refl

pub returns-clause-next_journal : goal.returns-clause-next_journal
unfolding number_bytes number_at snapshot_of snapshot_body record_of applied begun_from journal_applied held_by
returns-clause-next_journal c = refl

pub returns-clause-last : goal.returns-clause-last
unfolding number_bytes number_at snapshot_of snapshot_body record_of applied begun_from journal_applied held_by
returns-clause-last c = refl

pub returns-clause-others : goal.returns-clause-others
unfolding number_bytes number_at snapshot_of snapshot_body record_of applied begun_from journal_applied held_by
returns-clause-others c = refl
