-- The name of the next log has 40 bytes.
use Rattle.std.proofs.Common.{◌≡◌, ℕ, refl}
use Rattle.event_codec.specs.Writing.{size, rotate_bytes}
use Rattle.event_codec.specs.LogName.{log_name}
use Rattle.byte_fields.specs.Field.{number_bytes}
use Rattle.session_model.specs.log_model.Log.{rotation}
use Rattle.session_model.specs.log_model.Written.{total}

pub rotation_size : (stamp next : ℕ) → total (rotation stamp next) ≡ 40
unfolding size rotate_bytes log_name number_bytes
rotation_size stamp next = refl
