-- How a call ends, what then holds of the store and the streams, and which line and status it owes.
use Rattle.std.specs.Prelude.{◌≡◌, ◌≢◌, ℕ, ◌⊎◌, List, [], ◌++◌, codes, decimal, Option, Some, None}
use Rattle.sim_io.specs.Outside.{Rose, extended, TookFront}
use Rattle.asm_text.specs.Fault.{fault_name as source_fault_name, fault_line as source_fault_line}
use Rattle.ihex_loader.specs.Fault.{fault_name, fault_line}
use Rattle.moves_text.specs.Fault.{fault_name as moves_fault_name, fault_line as moves_fault_line}
use Rattle.places_text.specs.Fault.{fault_name as places_fault_name, fault_line as places_fault_line}
use Rattle.scenario_file.specs.Faults.{fault_name as scenario_fault_name}
use Rattle.command_plans.specs.Plan.{Plan, Refusal, BadWords, BadScenario, BadImage, BadSource, BadState, BadMoves, BadPlaces}
use Rattle.command_plans.specs.Reading.{Files, Accepts, Refuses, IsNext, Verdict, Untold, Refused as RefusedVerdict, Accepted}
use Rattle.command_plans.specs.declared.trouble.ImageCause.{ImageCause}
use Rattle.command_plans.specs.declared.trouble.ImageCause.TheVariants as cause
use Rattle.command_plans.specs.declared.trouble.ScenarioCause.{ScenarioCause}
use Rattle.command_plans.specs.declared.trouble.ScenarioCause.TheVariants as scenario_cause
use Rattle.command_plans.specs.declared.trouble.SourceCause.{SourceCause}
use Rattle.command_plans.specs.declared.trouble.SourceCause.TheVariants as source_cause
use Rattle.command_plans.specs.declared.trouble.StateCause.{StateCause}
use Rattle.command_plans.specs.declared.trouble.StateCause.TheVariants as state_cause
use Rattle.command_plans.specs.declared.trouble.MovesCause.{MovesCause}
use Rattle.command_plans.specs.declared.trouble.MovesCause.TheVariants as moves_cause
use Rattle.command_plans.specs.declared.trouble.PlacesCause.{PlacesCause}
use Rattle.command_plans.specs.declared.trouble.PlacesCause.TheVariants as places_cause
use Rattle.state_text.specs.declared.fault.StateFault.TheVariants as state_fault
use Rattle.command_plans.specs.declared.status.Status.{Status}
use Rattle.command_plans.specs.declared.status.Status.TheVariants as status

-- a store at a moment: how many reads failed, and the name in the last that did
pub record Reads : Type 0 where
  pub faults : ℕ
  pub failed : List ℕ

abbrev pub reads : ℕ → List ℕ → Reads
reads faults failed = record { faults = faults; failed = failed }

-- a stream at a moment: what it took, where it tells, and how many writes failed
pub record Stream : Type 0 where
  pub taken : Option (List ℕ)
  pub faults : ℕ

abbrev pub stream : Option (List ℕ) → ℕ → Stream
stream taken faults = record { taken = taken; faults = faults }

-- the stream after it took all these bytes; no write failed
abbrev pub took : Stream → List ℕ → Stream
took s bytes = record { taken = extended s.taken bytes; faults = s.faults }

-- a write of these bytes failed, after a front of them
pub record FailedIn (old : Stream) (bytes : List ℕ) (new : Stream) : Type 0 where
  pub front : TookFront old.taken bytes new.taken
  pub rose : Rose old.faults new.faults

-- a read of this file failed
pub record FailedRead (old : Reads) (name : List ℕ) (new : Reads) : Type 0 where
  pub rose : Rose old.faults new.faults
  pub failed : new.failed ≡ name

-- how a call ends, before it says anything
pub data End : Type 0 where
  Done : End
  OutFailed : End
  NoMemory : End
  ReadFailed : (name : List ℕ) → End
  Refused : (refusal : Refusal) → End

-- the plan of a call gets the text that is to be written: `out` took nothing, or a front of it, and no write failed
abbrev pub HasFront : Files → Plan (List ℕ) → Stream → Stream → Type 0
HasFront files plan out out' =
    (out' ≡ out)
    ⊎ ((text : List ℕ) × Accepts files plan text × TookFront out.taken text out'.taken × (out'.faults ≡ out.faults))

-- what holds at each end, of the store and of `out`
abbrev pub Ends : Files → Plan (List ℕ) → Reads → Reads → Stream → Stream → End → Type 0
Ends files plan store store' out out' Done = (store' ≡ store) × ((text : List ℕ) × Accepts files plan text × (out' ≡ took out text))
Ends files plan store store' out out' OutFailed = (store' ≡ store) × ((text : List ℕ) × Accepts files plan text × FailedIn out text out')
Ends files plan store store' out out' NoMemory = (store' ≡ store) × HasFront files plan out out'
Ends files plan store store' out out' (ReadFailed name) = FailedRead store name store' × IsNext files plan name × (out' ≡ out)
Ends files plan store store' out out' (Refused refusal) = (store' ≡ store) × Refuses files plan refusal × (out' ≡ out)

-- where the fault of an image, a source, a state, moves or places is
unfoldable pub place_text : Option ℕ → List ℕ
place_text None = []
place_text (Some line) = codes ", line " ++ decimal line

unfoldable pub cause_text : ImageCause → List ℕ
cause_text cause.TooLong = codes "TooLong"
cause_text (cause.Faulty fault) = fault_name fault ++ place_text (fault_line fault)

unfoldable pub scenario_cause_text : ScenarioCause → List ℕ
scenario_cause_text scenario_cause.TooLong = codes "TooLong"
scenario_cause_text (scenario_cause.Faulty fault) = scenario_fault_name fault

unfoldable pub source_cause_text : SourceCause → List ℕ
source_cause_text source_cause.TooLong = codes "TooLong"
source_cause_text (source_cause.Faulty fault) = source_fault_name fault ++ place_text (source_fault_line fault)

unfoldable pub state_cause_text : StateCause → List ℕ
state_cause_text state_cause.TooLong = codes "TooLong"
state_cause_text (state_cause.Faulty (state_fault.NotAState line)) = codes "NotAState" ++ place_text (Some line)
state_cause_text (state_cause.Faulty (state_fault.OutOfBounds line)) = codes "OutOfBounds" ++ place_text (Some line)
state_cause_text (state_cause.Faulty state_fault.PastEnd) = codes "PastEnd"
state_cause_text (state_cause.Faulty state_fault.NoMemory) = codes "NoMemory"
state_cause_text state_cause.PastCycle = codes "PastCycle"
state_cause_text state_cause.TooMany = codes "TooMany"

unfoldable pub moves_cause_text : MovesCause → List ℕ
moves_cause_text moves_cause.TooLong = codes "TooLong"
moves_cause_text (moves_cause.Faulty fault) = moves_fault_name fault ++ place_text (moves_fault_line fault)

unfoldable pub places_cause_text : PlacesCause → List ℕ
places_cause_text places_cause.TooLong = codes "TooLong"
places_cause_text (places_cause.Faulty fault) = places_fault_name fault ++ place_text (places_fault_line fault)

-- the line on `err` that each end owes
unfoldable pub line_due : End → List ℕ
line_due Done = []
line_due OutFailed = codes "avrora: write failed\n"
line_due NoMemory = codes "avrora: out of memory\n"
line_due (ReadFailed name) = codes "avrora: cannot read " ++ name ++ codes "\n"
line_due (Refused BadWords) = codes "avrora: bad command line\n"
line_due (Refused (BadScenario name why)) = codes "avrora: " ++ name ++ (codes ": scenario refused: " ++ scenario_cause_text why ++ codes "\n")
line_due (Refused (BadImage name why)) = codes "avrora: " ++ name ++ (codes ": image refused: " ++ cause_text why ++ codes "\n")
line_due (Refused (BadSource name why)) = codes "avrora: " ++ name ++ (codes ": source refused: " ++ source_cause_text why ++ codes "\n")
line_due (Refused (BadState name why)) = codes "avrora: " ++ name ++ (codes ": state refused: " ++ state_cause_text why ++ codes "\n")
line_due (Refused (BadMoves name why)) = codes "avrora: " ++ name ++ (codes ": moves refused: " ++ moves_cause_text why ++ codes "\n")
line_due (Refused (BadPlaces name why)) = codes "avrora: " ++ name ++ (codes ": places refused: " ++ places_cause_text why ++ codes "\n")

abbrev pub refusal_status : Refusal → Status
refusal_status BadWords = status.BadWords
refusal_status (BadScenario name why) = status.BadScenario
refusal_status (BadImage name why) = status.BadImage
refusal_status (BadSource name why) = status.BadSource
refusal_status (BadState name why) = status.BadState
refusal_status (BadMoves name why) = status.BadState
refusal_status (BadPlaces name why) = status.BadState

abbrev pub status_due : End → Status
status_due Done = status.Done
status_due OutFailed = status.SinkFailed
status_due NoMemory = status.NoMemory
status_due (ReadFailed name) = status.ReadFailed
status_due (Refused refusal) = refusal_status refusal

-- a call ended so, and `err` took the line of that end
abbrev pub EndedSaying : Files → Plan (List ℕ) → Reads → Reads → Stream → Stream → Stream → Stream → End → Type 0
EndedSaying files plan store store' out out' err err' end = Ends files plan store store' out out' end × (err' ≡ took err (line_due end))

-- a call ended so, and `err` failed within the line of that end
abbrev pub EndedUnsaid : Files → Plan (List ℕ) → Reads → Reads → Stream → Stream → Stream → Stream → End → Type 0
EndedUnsaid files plan store store' out out' err err' end =
    (end ≢ Done) × Ends files plan store store' out out' end × FailedIn err (line_due end) err'

-- the answer is that of the verdict, where it is known
abbrev pub HasStatus : {A : Type 0} → Verdict A → Status → Type 0
HasStatus Untold answer = Unit {0}
HasStatus (RefusedVerdict refusal) answer = answer ≡ refusal_status refusal
HasStatus (Accepted got) answer = answer ≡ status.Done

-- the exit status of the program
unfoldable pub status_number : Status → ℕ
status_number status.Done = 0
status_number status.SinkFailed = 1
status_number status.BadWords = 2
status_number status.ReadFailed = 3
status_number status.BadScenario = 4
status_number status.BadImage = 5
status_number status.NoMemory = 6
status_number status.BadSource = 7
status_number status.BadState = 8
