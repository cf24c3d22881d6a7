-- What the status of the program says (own).
use Rattle.std.specs.Prelude.{◌≡◌, ℕ, Bool, false, List, Option, Result, Ok, Err}
use Rattle.std.specs.String.{string_bytes}
use Rattle.std.specs.Io.KnownBytes.{Keeps, Appends}
use Rattle.clap.specs.Words.{Text}
use Rattle.pli_base.specs.Devices.{AppendsPrefix}
use Rattle.pli_bench.specs.Session.{State, Step, quits, opened}
use Rattle.pli_commands.specs.Exchanges.{Span, span}
use Rattle.pli_commands.specs.Runs.{Bytes, Service, Served, Takes, Blames, piece_limit}
use Rattle.pli_commands.specs.declared.serving.AfterCommand.{AfterCommand}
use Rattle.pli_commands.specs.declared.serving.ServeFault.{ServeFault}
use Rattle.pli_bench.specs.CommandLine.{Refuses, faults}
use Rattle.pli_bench.specs.declared.arguments.ArgumentsError.{ArgumentsError}
use Rattle.pli_bench.specs.declared.arguments.ArgumentsError.TheVariants.{Usage, OutOfMemory}

-- the greatest number of reads
abbrev pub reads_limit : ℕ
reads_limit = 1000000000

-- the devices that a program serves: what the reader has left, what was written, and whether each has failed
-- after that
pub record Devices : Type 0 where
  pub reader : Span Bytes
  pub writer : Span Bytes
  pub reader_failed : Bool
  pub writer_failed : Bool

-- these
abbrev pub devices : (left left_after before after : Bytes) (reader_failed writer_failed : Bool) → Devices
devices left left_after before after reader_failed writer_failed =
    record {
      reader = span left left_after;
      writer = span before after;
      reader_failed = reader_failed;
      writer_failed = writer_failed;
    }

-- a new workbench serves a reader on a writer, and this is its last state
abbrev pub service_of : (steps reads : ℕ) → Devices → (last : State) → Service State
service_of steps reads d last =
    record { state = span (opened steps) last; reader = d.reader; writer = d.writer; reads = reads }

-- a new workbench, with so many steps for a bare RUN, served a reader to a writer with at most so many reads,
-- and this came of it
pub record Serves (steps reads : ℕ) (d : Devices) (result : Result AfterCommand ServeFault) : Type 0 where
  pub last : State
  pub served : Served Step quits (service_of steps reads d last) result
  pub few : Takes quits piece_limit (service_of steps reads d last) result
  pub blamed : Blames result d.reader_failed d.writer_failed

-- status 0: all commands were answered, up to the end of the input or the first QUIT
abbrev pub EndsServed : (steps reads : ℕ) → Devices → Type 0
EndsServed steps reads d = (next : AfterCommand) × Serves steps reads d (Ok next)

-- status 1: a device failed, whose mark is set, or there were too many reads
abbrev pub BreaksOff : (steps reads : ℕ) → Devices → Type 0
BreaksOff steps reads d = (fault : ServeFault) × Serves steps reads d (Err fault)

-- the status where the words say nothing
abbrev pub status_of : ArgumentsError → ℕ
status_of (Usage text) = 2
status_of OutOfMemory = 3

-- the text for the user was written, or some first bytes of it where the writer's mark is set after it;
-- nothing is written of refused memory
abbrev pub Tells : ArgumentsError → (before after : Option (List ℕ)) → (marked : Bool) → Type 0
Tells (Usage text) before after marked =
    AppendsPrefix before after (string_bytes text)
    × (marked ≡ false → Appends before after (string_bytes text))
Tells OutOfMemory before after marked = Keeps before after

-- the words say nothing, for this reason, which gives the status and is told
pub record Refused (words : List Text) (status : ℕ) (before after : Option (List ℕ)) (marked : Bool) : Type 0
  where
    pub reason : ArgumentsError
    pub refuses : Refuses (faults words) reason
    pub status_is : status ≡ status_of reason
    pub told : Tells reason before after marked
