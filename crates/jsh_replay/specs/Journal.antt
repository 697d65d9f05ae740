-- The bytes of a journal: a header, the entries, and an end mark with their count.
use Rattle.std.specs.Prelude.{◌≡◌, ℕ, ◌<◌, ◌≤◌, ◌^◌, List, [], ◌∷◌, ◌++◌, length, codes}
use Rattle.std.specs.Int.{w16, w32, w64, to_be_bytes}
use Rattle.std.specs.List.{flat_map, AllByRecursion}
use Rattle.std.specs.Str.{IsUtf8}
use Rattle.jsh_tree.specs.Text.{most_source}
use Rattle.jsh_snippet.specs.declared.acts.Act.{Act}
use Rattle.jsh_snippet.specs.declared.acts.Act.TheVariants as act
use Rattle.jsh_snippet.specs.declared.acts.Entry.{Entry}
use Rattle.jsh_snippet.specs.declared.acts.Question.{Question}
use Rattle.jsh_snippet.specs.declared.acts.Question.TheVariants as question
use Rattle.jsh_snippet.specs.declared.acts.Target.{Target}
use Rattle.jsh_snippet.specs.declared.acts.Target.TheVariants as target
use Rattle.jsh_core.specs.History.{Allows, IsLegal}

-- a text: its length in four bytes, and its bytes
unfoldable pub text_bytes : List ℕ → List ℕ
text_bytes text = to_be_bytes w32 (length text) ++ text

-- what a Drop takes back: a number or a name
unfoldable pub target_bytes : Target → List ℕ
target_bytes (target.Id id) = 0 ∷ to_be_bytes w32 id
target_bytes (target.Named name) = 1 ∷ text_bytes name

-- a question, in the order of its variants, and its text where it has one
unfoldable pub question_bytes : Question → List ℕ
question_bytes question.List = 0 ∷ []
question_bytes question.ListAll = 1 ∷ []
question_bytes question.Vars = 2 ∷ []
question_bytes question.Methods = 3 ∷ []
question_bytes question.Types = 4 ∷ []
question_bytes question.Imports = 5 ∷ []
question_bytes question.Threads = 6 ∷ []
question_bytes question.Help = 7 ∷ []
question_bytes (question.Complete text) = 8 ∷ text_bytes text
question_bytes (question.Invalid line) = 9 ∷ text_bytes line

-- the byte that tells the act
unfoldable pub tag : Act → ℕ
tag act.Enter = 1
tag (act.Submit source) = 2
tag (act.Turn thread steps) = 3
tag (act.Collect run) = 4
tag (act.Expire run steps) = 5
tag (act.Stop run) = 6
tag (act.Drop what) = 7
tag (act.Ask what) = 8
tag act.Reset = 9
tag act.Leave = 10
tag act.Close = 11

-- what an act has besides: numbers have their highest byte first
unfoldable pub field_bytes : Act → List ℕ
field_bytes act.Enter = []
field_bytes (act.Submit source) = text_bytes source
field_bytes (act.Turn thread steps) = to_be_bytes w32 thread ++ to_be_bytes w16 steps
field_bytes (act.Collect run) = to_be_bytes w32 run
field_bytes (act.Expire run steps) = to_be_bytes w32 run ++ to_be_bytes w64 steps
field_bytes (act.Stop run) = to_be_bytes w32 run
field_bytes (act.Drop what) = target_bytes what
field_bytes (act.Ask what) = question_bytes what
field_bytes act.Reset = []
field_bytes act.Leave = []
field_bytes act.Close = []

-- an entry: its tag, its client in one byte, and its fields
unfoldable pub entry_bytes : Entry → List ℕ
entry_bytes entry = tag entry.act ∷ entry.client ∷ field_bytes entry.act

abbrev pub header : List ℕ
header = codes "jshj1" ++ 10 ∷ []

-- the header and these entries
unfoldable pub front_bytes : List Entry → List ℕ
front_bytes history = header ++ flat_map entry_bytes history

-- what stands behind the last entry: a byte that is no tag, and how many entries there are
unfoldable pub end_bytes : List Entry → List ℕ
end_bytes history = 255 ∷ to_be_bytes w32 (length history)

unfoldable pub journal_bytes : List Entry → List ℕ
journal_bytes history = front_bytes history ++ end_bytes history

-- a text that a journal has room for
abbrev pub IsText : List ℕ → Type 0
IsText text = IsUtf8 text × (length text ≤ most_source)

unfoldable pub IsTargetField : Target → Type 0
IsTargetField (target.Id id) = id < 2 ^ 32
IsTargetField (target.Named name) = IsText name

unfoldable pub IsQuestionField : Question → Type 0
IsQuestionField (question.Complete text) = IsText text
IsQuestionField (question.Invalid line) = IsText line
IsQuestionField _ = Unit {0}

-- each number of an act fits its field, and each text is one
unfoldable pub FitsFields : Act → Type 0
FitsFields (act.Submit source) = IsText source
FitsFields (act.Turn thread steps) = (thread < 2 ^ 32) × (steps < 2 ^ 16)
FitsFields (act.Collect run) = run < 2 ^ 32
FitsFields (act.Expire run steps) = (run < 2 ^ 32) × (steps < 2 ^ 64)
FitsFields (act.Stop run) = run < 2 ^ 32
FitsFields (act.Drop what) = IsTargetField what
FitsFields (act.Ask what) = IsQuestionField what
FitsFields _ = Unit {0}

-- the steps of a turn
abbrev pub turn_steps : Act → ℕ
turn_steps (act.Turn thread steps) = steps
turn_steps _ = 0

-- an entry that a journal has room for
pub record IsWritable (entry : Entry) : Type 0 where
  pub client : entry.client < 2 ^ 8
  pub fields : FitsFields entry.act

-- these entries can be those of a journal
pub record IsWritten (history : List Entry) : Type 0 where
  pub legal : IsLegal history
  pub writable : AllByRecursion IsWritable history

-- the bytes are the journal of this history, which is legal
pub record IsJournal (bytes : List ℕ) (history : List Entry) : Type 0 where
  pub written : IsWritten history
  pub bytes_are : bytes ≡ journal_bytes history

-- these bytes are the first ones
abbrev pub BeginsWith : List ℕ → List ℕ → Type 0
BeginsWith front bytes = (rest : List ℕ) × (bytes ≡ front ++ rest)

-- the bytes are this entry, which may come after a history, and a rest
pub record IsNext (history : List Entry) (bytes : List ℕ) (entry : Entry) (rest : List ℕ) : Type 0 where
  pub allowed : Allows history entry
  pub writable : IsWritable entry
  pub bytes_are : bytes ≡ entry_bytes entry ++ rest

-- the bytes begin with an entry that may come after a history
abbrev pub BeginsWithEntry : List Entry → List ℕ → Type 0
BeginsWithEntry history bytes = (entry : Entry) × (rest : List ℕ) × IsNext history bytes entry rest

-- The place of the first byte of the first item that no journal has there. Items are the header, the entries, and the end mark.
pub data IsBadPlace (bytes : List ℕ) (place : ℕ) : Type 0 where
  -- the header isn't there
  no_header : ¬ BeginsWith header bytes → place ≡ 0 → IsBadPlace bytes place
  -- behind the entries of a legal history comes neither an entry that it allows nor its end mark
  no_item : (history : List Entry) (rest : List ℕ) → IsWritten history → bytes ≡ front_bytes history ++ rest → ¬ BeginsWithEntry history rest →
      ¬ BeginsWith (end_bytes history) rest → place ≡ length (front_bytes history) → IsBadPlace bytes place
  -- something comes behind the end mark
  too_long : (history : List Entry) (byte : ℕ) (rest : List ℕ) → IsWritten history → bytes ≡ journal_bytes history ++ byte ∷ rest →
      place ≡ length (journal_bytes history) → IsBadPlace bytes place
