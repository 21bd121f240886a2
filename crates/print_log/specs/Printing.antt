-- A log on an input of which some groups are shown.
use Rattle.std.specs.Prelude.{ℕ, List, flat_map, Option}
use Rattle.log_reader.specs.run_streams.Wrote.{Wrote}
use Rattle.log_reader.specs.log_file_model.Walk.{Piece, grouped}
use Rattle.log_reader.specs.log_file_model.Printed.{piece_lines}
use Rattle.log_reader.specs.Reading.{Reader}
use Rattle.log_reader.specs.Behind.{Behind}

-- a reader stands behind groups whose lines were written
pub record IsShown (start left before now : Option (List ℕ)) (r : Reader) : Type 0 where
  pub groups : List Piece
  pub behind : Behind grouped start left groups r
  pub wrote : Wrote before now (flat_map piece_lines groups)
