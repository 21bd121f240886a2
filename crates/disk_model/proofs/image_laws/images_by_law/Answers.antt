use Rattle.disk_model.proofs.Holding.{seen_held}
use Rattle.disk_model.proofs.Laws.{torn_done, left_sync_call, left_synced}
use Rattle.disk_model.proofs.image_laws.images_by_law.Goals as goal

pub returns-clause-read : goal.returns-clause-read
returns-clause-read c first calls f story = record { story = story; held = seen_held first calls f story }

pub returns-clause-bytes : goal.returns-clause-bytes
returns-clause-bytes c first calls f file left = left.held.bytes

pub returns-clause-synced : goal.returns-clause-synced
returns-clause-synced c first past f file left = left_synced first past f file left

pub returns-clause-fewer : goal.returns-clause-fewer
returns-clause-fewer c first past g f done file left = left_sync_call g done first past f file left

pub returns-clause-torn : goal.returns-clause-torn
returns-clause-torn c first past f at piece done file only within left = torn_done first past f at piece only within done file left
