-- Statuses as numbers and as lines.
use Rattle.std.specs.Prelude.{ℕ, List, [], ◌∷◌, ◌++◌, codes}
use Rattle.std.specs.Fmt.{decimal}
use Rattle.val_types.specs.declared.value.Value.{Value}
use Rattle.val_types.specs.Text.{row_text_of}
use Rattle.answer_text.specs.declared.status.Status.{Status}
use Rattle.answer_text.specs.declared.status.Status.TheVariants.{Done, BadWords, BadScript, ReadFault, WriteFault, SourceDisk, ReplicaDisk, SourceDamaged, ReplicaDamaged, LogDamaged, LogForeign, Differs, NoMemory}

-- the number that the program exits with
abbrev pub number_of_status : Status → ℕ
number_of_status Done = 0
number_of_status BadWords = 1
number_of_status (BadScript at) = 2
number_of_status ReadFault = 3
number_of_status WriteFault = 4
number_of_status SourceDisk = 5
number_of_status ReplicaDisk = 6
number_of_status (SourceDamaged file at) = 7
number_of_status (ReplicaDamaged file at) = 8
number_of_status (LogDamaged pos) = 9
number_of_status (LogForeign pos kind) = 10
number_of_status (Differs pos code table key) = 11
number_of_status NoMemory = 12

-- a table's name, a dash where there is none
abbrev pub table_text : List ℕ → List ℕ
table_text [] = codes "-"
table_text (b ∷ bs) = b ∷ bs

-- files of a node that stand for no state, by the first place
abbrev pub damaged_words : List ℕ → ℕ → ℕ → List ℕ
damaged_words node file at = node ++ codes " damaged file " ++ decimal file ++ codes " at " ++ decimal at

-- an event that is not known
abbrev pub foreign_words : ℕ → ℕ → List ℕ
foreign_words pos kind = codes "log foreign at " ++ decimal pos ++ codes " type " ++ decimal kind

-- what the log says and the tables are not
abbrev pub differing_words : ℕ → ℕ → List ℕ → List Value → List ℕ
differing_words pos code table key =
    codes "differs at " ++ decimal pos ++ codes " code " ++ decimal code ++ codes " table " ++ table_text table ++ codes " key ("
    ++ row_text_of key ++ codes ")"

-- the words that tell a status; none for the first
abbrev pub status_words : Status → List ℕ
status_words Done = []
status_words BadWords = codes "bad words"
status_words (BadScript at) = codes "bad script at " ++ decimal at
status_words ReadFault = codes "read fault"
status_words WriteFault = codes "write fault"
status_words SourceDisk = codes "source disk fault"
status_words ReplicaDisk = codes "replica disk fault"
status_words (SourceDamaged file at) = damaged_words (codes "source") file at
status_words (ReplicaDamaged file at) = damaged_words (codes "replica") file at
status_words (LogDamaged pos) = codes "log damaged at " ++ decimal pos
status_words (LogForeign pos kind) = foreign_words pos kind
status_words (Differs pos code table key) = differing_words pos code table key
status_words NoMemory = codes "out of memory"

abbrev pub ended : List ℕ → List ℕ
ended [] = []
ended (b ∷ bs) = (b ∷ bs) ++ 0x0a ∷ []

-- the line that tells a status
abbrev pub status_line : Status → List ℕ
status_line status = ended (status_words status)
