-- What a session does with the lines of an input, whatever its commands do (own).
use Rattle.std.specs.Prelude.{◌≡◌, ℕ, ◌*◌, ◌<◌, ◌≤◌, ◌⊎◌, All, Bool, true, false, List, [], ◌∷◌, ◌++◌, length}
use Rattle.std.specs.Prelude.{Option, Result, Ok, Err, IfSome, MatchResult, if◌then◌else◌}
use Rattle.std.specs.Io.KnownBytes.{Appends, Consumes, IsAtEnd}
use Rattle.pli_base.specs.Devices.{AppendsPrefix}
use Rattle.pli_commands.specs.Exchanges.{Exchange, exchange, Span}
use Rattle.pli_commands.specs.Lines.{complete_from, pending_from, complete_lines, input_lines}
use Rattle.pli_commands.specs.declared.serving.AfterCommand.{AfterCommand}
use Rattle.pli_commands.specs.declared.serving.AfterCommand.TheVariants.{Go, Quit, End}
use Rattle.pli_commands.specs.declared.serving.WriteFailed.{WriteFailed}
use Rattle.pli_commands.specs.declared.serving.ServeFault.{ServeFault}
use Rattle.pli_commands.specs.declared.serving.ServeFault.TheVariants as faults

-- how lines lead from a state over answers to another: one after another, to the end of them, or to the first
-- that quits
pub data Answers {S : Type 0} (Step : List ℕ → Exchange S → Type 0) (quits : List ℕ → Bool) : S
    → List (List ℕ) → List ℕ → S → AfterCommand → Type 0 where
  nothing : (s : S) → Answers Step quits s [] [] s End
  quitting : (s t : S) (line : List ℕ) (lines : List (List ℕ)) (answer : List ℕ) → quits line ≡ true
      → Step line (exchange s answer t) → Answers Step quits s (line ∷ lines) answer t Quit
  going : (s t u : S) (line : List ℕ) (lines : List (List ℕ)) (answer answers : List ℕ) (next : AfterCommand)
      → quits line ≡ false → Step line (exchange s answer t) → Answers Step quits t lines answers u next
      → Answers Step quits s (line ∷ lines) (answer ++ answers) u next

-- what a device holds, where it tells that
abbrev pub Bytes : Type 0
Bytes = Option (List ℕ)

-- the writer failed in the answer to one of the lines: those before it were answered, its own answer up to
-- some place, and the state is the one after it
pub record Broken {S : Type 0} (Step : List ℕ → Exchange S → Type 0) (quits : List ℕ → Bool)
    (lines : List (List ℕ)) (state : Span S) (writer : Span Bytes) : Type 0 where
  pub earlier : List (List ℕ)
  pub line : List ℕ
  pub later : List (List ℕ)
  pub lines_are : lines ≡ earlier ++ line ∷ later
  pub between : S
  pub answers : List ℕ
  pub answered : Answers Step quits state.before earlier answers between End
  pub answer : List ℕ
  pub step : Step line (exchange between answer state.after)
  pub put : List ℕ
  pub unput : List ℕ
  pub answer_is : answer ≡ put ++ unput
  pub written : Appends writer.before writer.after (answers ++ put)

-- the lines were answered, or the writer failed
abbrev pub Answered : {S : Type 0} → (Step : List ℕ → Exchange S → Type 0) → (quits : List ℕ → Bool)
    → List (List ℕ) → (state : Span S) → (writer : Span Bytes) → Result AfterCommand WriteFailed → Type 0
Answered Step quits lines state writer (Ok next) =
    (answers : List ℕ) × Answers Step quits state.before lines answers state.after next
    × Appends writer.before writer.after answers
Answered Step quits lines state writer (Err e) = Broken Step quits lines state writer

-- a line was answered, and it is told whether it quits; or the writer failed after some first bytes of the
-- answer
abbrev pub AnsweredOne : {S : Type 0} → (Step : List ℕ → Exchange S → Type 0) → (quits : List ℕ → Bool)
    → (line : List ℕ) → (state : Span S) → (writer : Span Bytes) → Result AfterCommand WriteFailed → Type 0
AnsweredOne Step quits line state writer (Ok next) =
    (answer : List ℕ) × Step line (exchange state.before answer state.after)
    × Appends writer.before writer.after answer × (next ≡ (if quits line then Quit else Go))
AnsweredOne Step quits line state writer (Err e) =
    (answer : List ℕ) × Step line (exchange state.before answer state.after)
    × AppendsPrefix writer.before writer.after answer

-- the bytes that a reader has left, where it tells them
abbrev pub IsInput : Bytes → List ℕ → Type 0
IsInput left input = IfSome left (λ bytes. bytes ≡ input)

-- a reader is served on a writer: the state, what the reader has left, what was written, and how often the
-- reader may be asked for bytes
pub record Service (S : Type 0) : Type 0 where
  pub state : Span S
  pub reader : Span Bytes
  pub writer : Span Bytes
  pub reads : ℕ

-- some first bytes of the input were taken: the lines that end among them were answered, and nothing else was
-- written
pub record Cut {S : Type 0} (Step : List ℕ → Exchange S → Type 0) (quits : List ℕ → Bool)
    (service : Service S) : Type 0 where
  pub taken : List ℕ
  pub consumed : Consumes service.reader.before service.reader.after taken
  pub answers : List ℕ
  pub answered :
      Answers Step quits service.state.before (complete_lines taken) answers service.state.after End
  pub written : Appends service.writer.before service.writer.after answers

-- the lines of the input were answered, up to the first that quits; or a device failed, or there were too
-- many reads for the bytes
abbrev pub Served : {S : Type 0} → (Step : List ℕ → Exchange S → Type 0) → (quits : List ℕ → Bool)
    → Service S → Result AfterCommand ServeFault → Type 0
Served Step quits service (Ok next) =
    (input : List ℕ) × IsInput service.reader.before input
    × Answered Step quits (input_lines input) service.state service.writer (Ok next)
Served Step quits service (Err faults.WriteFailed) =
    (input : List ℕ) × IsInput service.reader.before input
    × Broken Step quits (input_lines input) service.state service.writer
Served Step quits service (Err faults.ReadFailed) = Cut Step quits service
Served Step quits service (Err faults.TooManyReads) =
    (cut : Cut Step quits service) × (service.reads ≤ length cut.taken)

-- the most bytes that one read takes
abbrev pub piece_limit : ℕ
piece_limit = 4096

-- among these bytes, after lines that go on, a line ends that quits, and fewer bytes than so many stand
-- after it; the first of the lines has begun before
pub record QuitsWithin (quits : List ℕ → Bool) (limit : ℕ) (begun bytes : List ℕ) : Type 0 where
  pub front : List ℕ
  pub after : List ℕ
  pub bytes_are : bytes ≡ front ++ after
  pub few : length after < limit
  pub lines : List (List ℕ)
  pub line : List ℕ
  pub ended : complete_from begun front ≡ lines ++ line ∷ []
  pub fed : pending_from begun front ≡ []
  pub go_on : All (λ l. quits l ≡ false) lines
  pub quit : quits line ≡ true

-- where reading stopped: at the end nothing is left, and less than a piece was taken after the line that
-- quits, unless that was the last line and no line feed ended it
abbrev pub Stops : (quits : List ℕ → Bool) → (piece : ℕ) → (taken : List ℕ) → (left : Option (List ℕ))
    → Result AfterCommand ServeFault → Type 0
Stops quits piece taken left (Ok Go) = Unit {0}
Stops quits piece taken left (Ok Quit) = QuitsWithin quits piece [] taken ⊎ IsAtEnd left
Stops quits piece taken left (Ok End) = IsAtEnd left
Stops quits piece taken left (Err e) = Unit {0}

-- what was taken of the reader: at most so many pieces, and no more once it was known that the commands end
pub record Takes {S : Type 0} (quits : List ℕ → Bool) (piece : ℕ) (service : Service S)
    (result : Result AfterCommand ServeFault) : Type 0 where
  pub taken : List ℕ
  pub consumed : Consumes service.reader.before service.reader.after taken
  pub few : length taken ≤ service.reads * piece
  pub stops : Stops quits piece taken service.reader.after result

-- after what was answered the writer's mark is as it was, after a fault it is set
abbrev pub Marked : {A E : Type 0} → Bool → Bool → Result A E → Type 0
Marked old new result = MatchResult result (λ _. new ≡ old) (λ _. new ≡ true)

-- a fault of a device is told only where its mark is set; where the commands ended, the reader's is not
abbrev pub Blames : Result AfterCommand ServeFault → (reader writer : Bool) → Type 0
Blames (Ok next) reader writer = reader ≡ false
Blames (Err faults.ReadFailed) reader writer = reader ≡ true
Blames (Err faults.WriteFailed) reader writer = writer ≡ true
Blames (Err faults.TooManyReads) reader writer = Unit {0}
