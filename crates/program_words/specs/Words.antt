-- The words that the program is called with.
use Rattle.std.specs.Prelude.{ℕ, Bool, true, false, if◌then◌else◌, List, [], ◌∷◌, codes, Option, Some, None}
use Rattle.std.specs.Option.{option_map}
use Rattle.std.specs.Str.{bytes_eq}
use Rattle.script_read.specs.Bytes.{number_to}
use Rattle.program_words.specs.declared.words.Word.{Word}
use Rattle.program_words.specs.declared.words.Word.TheVariants.{Run, Replay, Print, DumpSource, DumpReplica, Gen}

-- the words without the first one that is `--`
abbrev pub without_dashes : List (List ℕ) → List (List ℕ)
without_dashes [] = []
without_dashes (word ∷ words) = if bytes_eq word (codes "--") then words else word ∷ without_dashes words

-- the greatest number of lines of a made script
abbrev pub most_lines : ℕ
most_lines = 100000

-- what one word alone asks for
abbrev pub word_named : List ℕ → Option Word
word_named word =
    if bytes_eq word (codes "run") then Some Run
    else if bytes_eq word (codes "replay") then Some Replay
    else if bytes_eq word (codes "print") then Some Print
    else None

-- what a word with a number behind it asks for: `gen` and a number in decimal, without sign or leading zero
abbrev pub number_asked : List ℕ → List ℕ → Option Word
number_asked word digits = if bytes_eq word (codes "gen") then option_map Gen (number_to most_lines digits) else None

-- whose tables `dump` shows
abbrev pub node_named : List ℕ → Option Word
node_named name =
    if bytes_eq name (codes "source") then Some DumpSource
    else if bytes_eq name (codes "replica") then Some DumpReplica
    else None

-- what two words ask for
abbrev pub pair_asked : List ℕ → List ℕ → Option Word
pair_asked word more = if bytes_eq word (codes "dump") then node_named more else number_asked word more

-- what words ask for of which none is a `--` that does not count
abbrev pub words_asked : List (List ℕ) → Option Word
words_asked [] = None
words_asked (word ∷ []) = word_named word
words_asked (word ∷ more ∷ []) = pair_asked word more
words_asked (a ∷ b ∷ c ∷ words) = None

-- what the words ask for
abbrev pub word_asked : List (List ℕ) → Option Word
word_asked words = words_asked (without_dashes words)

-- ---- what it comes to, by what is asked

-- this of the number of changes, where a script is to be made
abbrev pub IfGen : Option Word → (ℕ → Type 0) → Type 0
IfGen None P = Unit {0}
IfGen (Some Run) P = Unit {0}
IfGen (Some Replay) P = Unit {0}
IfGen (Some Print) P = Unit {0}
IfGen (Some DumpSource) P = Unit {0}
IfGen (Some DumpReplica) P = Unit {0}
IfGen (Some (Gen n)) P = P n

-- whether what is asked reads the input
abbrev pub reads_input : Option Word → Bool
reads_input None = false
reads_input (Some Run) = true
reads_input (Some Replay) = true
reads_input (Some Print) = true
reads_input (Some DumpSource) = false
reads_input (Some DumpReplica) = false
reads_input (Some (Gen n)) = false

-- whether it calls the source's disk, and whether the replica's
abbrev pub calls_source : Option Word → Bool
calls_source None = false
calls_source (Some Run) = true
calls_source (Some Replay) = false
calls_source (Some Print) = false
calls_source (Some DumpSource) = true
calls_source (Some DumpReplica) = false
calls_source (Some (Gen n)) = false

abbrev pub calls_replica : Option Word → Bool
calls_replica None = false
calls_replica (Some Run) = true
calls_replica (Some Replay) = true
calls_replica (Some Print) = false
calls_replica (Some DumpSource) = false
calls_replica (Some DumpReplica) = true
calls_replica (Some (Gen n)) = false

-- whether it shows a store
abbrev pub shows_store : Option Word → Bool
shows_store None = false
shows_store (Some Run) = false
shows_store (Some Replay) = false
shows_store (Some Print) = false
shows_store (Some DumpSource) = true
shows_store (Some DumpReplica) = true
shows_store (Some (Gen n)) = false
