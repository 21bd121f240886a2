-- What is known of a whole log on an input behind calls that read it group by group.
use Rattle.std.specs.Prelude.{◌≡◌, ℕ, Bool, true, false, List, [], ◌∷◌, ◌++◌, Option, Some, None, IfSome}
use Rattle.log_groups.specs.log_model.Groups.{Group, group, group_at}
use Rattle.log_file_model.specs.Walk.{Ending, ended, damaged, foreign, Piece, Grouped, grouped, grouped_from}
use Rattle.log_file_model.specs.Passing.{with_pieces, ending_with, Passed}
use Rattle.log_reader.specs.declared.reader.Found.{Found}
use Rattle.log_reader.specs.declared.reader.Found.TheVariants as found
use Rattle.log_reader.specs.Reading.{Reader, next_pos, Took, Reads, ReadsMagic, ReadsFront, begun_at}

-- A log is read from its first group, or from a position on.

-- of an input that had these bytes at the start, the front of a log was taken, up to where its groups are read from and then just these,
-- and a reader stands behind them
pub record Behind (read : List ℕ → Grouped) (start left : Option (List ℕ)) (ps : List Piece) (r : Reader) : Type 0 where
  pub front : List ℕ
  pub took : Took start left front
  pub passed : Passed read front ps (next_pos r) r.closed

-- the input is a log of these groups that ends so
pub record IsLog (read : List ℕ → Grouped) (start : Option (List ℕ)) (ps : List Piece) (ending : Ending) : Type 0 where
  pub bytes : List ℕ
  pub input_is : IfSome start (λ all. all ≡ bytes)
  pub groups : read bytes ≡ ending_with ps ending

-- the input is a log that begins with these groups
pub record IsLogFront (read : List ℕ → Grouped) (start : Option (List ℕ)) (ps : List Piece) : Type 0 where
  pub bytes : List ℕ
  pub input_is : IfSome start (λ all. all ≡ bytes)
  pub more : Grouped
  pub groups : read bytes ≡ with_pieces ps more

-- the group that a reader has just read, behind others
abbrev pub piece_read : Reader → Group → Piece
piece_read r g = record { bytes = r.bytes; group = g }

-- what a call leads to, by what it finds: one more group is passed, or it is known how the log ends
abbrev pub LeadsTo : (List ℕ → Grouped) → Option (List ℕ) → Option (List ℕ) → List Piece → Reader → Found → Type 0
LeadsTo read start after ps new found.Group =
    (g : Group) × (group_at (record { bytes = new.bytes; pos = new.begin }) ≡ group g) × Behind read start after (ps ++ piece_read new g ∷ []) new
LeadsTo read start after ps new found.End = IsLog read start ps ended
LeadsTo read start after ps new (found.Damaged pos) = IsLog read start ps (damaged pos)
LeadsTo read start after ps new (found.Foreign pos kind) = IsLog read start ps (foreign pos kind)

-- behind the magic, or without it, the log is damaged at its first byte
abbrev pub MagicLeadsTo : Option (List ℕ) → Option (List ℕ) → Reader → Bool → Type 0
MagicLeadsTo start after r true = Behind grouped start after [] r
MagicLeadsTo start after r false = IsLog grouped start [] (damaged 0)

-- behind the bytes before a position, or without them, the log is damaged at a place
abbrev pub FrontLeadsTo : (pos : ℕ) → Option (List ℕ) → Option (List ℕ) → Option ℕ → Type 0
FrontLeadsTo pos start after None = Behind (grouped_from pos) start after [] (begun_at pos)
FrontLeadsTo pos start after (Some at) = IsLog (grouped_from pos) start [] (damaged at)

-- a reader that has read nothing
abbrev pub fresh : Reader
fresh = record { bytes = []; begin = 4; closed = false }

-- ---- laws

abbrev pub MagicLeads : Type 0
MagicLeads = (start after : Option (List ℕ)) (found : Bool) → ReadsMagic start after found → MagicLeadsTo start after fresh found

abbrev pub FrontLeads : Type 0
FrontLeads = (pos : ℕ) (start after : Option (List ℕ)) (found : Option ℕ) → ReadsFront pos start after found → FrontLeadsTo pos start after found

abbrev pub CallsLead : Type 0
CallsLead =
    (read : List ℕ → Grouped) (start before after : Option (List ℕ)) (ps : List Piece) (old new : Reader) (found : Found)
    → Behind read start before ps old → Reads old new before after found → LeadsTo read start after ps new found

-- wherever one stands, the groups that were passed begin the log
abbrev pub FrontsAreKnown : Type 0
FrontsAreKnown =
    (read : List ℕ → Grouped) (start left : Option (List ℕ)) (ps : List Piece) (r : Reader) → Behind read start left ps r → IsLogFront read start ps
