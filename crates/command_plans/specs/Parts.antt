-- What the parts of a call owe to one another: how reading stops, how what is to be written ends, and that an end was
-- told. These are the contracts of the functions that a call is made of, and no part of what is said of the whole.
use Rattle.std.specs.Prelude.{◌≡◌, ℕ, List, Result, Ok, Err}
use Rattle.sim_io.specs.Outside.{TookFront}
use Rattle.command_plans.specs.Plan.{Plan, Give, Refuse, Refusal, BadWords, BadScenario, BadImage, BadSource, BadState, BadMoves, BadPlaces}
use Rattle.command_plans.specs.Reading.{Files, Reached, IsNext}
use Rattle.command_plans.specs.Ends.{Reads, Stream, took, FailedIn, FailedRead, End, Done, OutFailed, NoMemory, ReadFailed, Refused, line_due, status_due}
use Rattle.command_plans.specs.declared.trouble.Complaint.{Complaint}
use Rattle.command_plans.specs.declared.trouble.Complaint.TheVariants as complaint
use Rattle.command_plans.specs.declared.trouble.Trouble.{Trouble}
use Rattle.command_plans.specs.declared.trouble.Trouble.TheVariants as trouble
use Rattle.command_plans.specs.declared.status.Status.{Status}
use Rattle.command_plans.specs.declared.status.Status.TheVariants as status

-- the refusal and the end that the code's values stand for
abbrev pub refusal_of : Complaint → Refusal
refusal_of complaint.BadWords = BadWords
refusal_of (complaint.BadScenario name why) = BadScenario name.now why
refusal_of (complaint.BadImage name why) = BadImage name.now why
refusal_of (complaint.BadSource name why) = BadSource name.now why
refusal_of (complaint.BadState name why) = BadState name.now why
refusal_of (complaint.BadMoves name why) = BadMoves name.now why
refusal_of (complaint.BadPlaces name why) = BadPlaces name.now why

abbrev pub end_at : Trouble → End
end_at trouble.OutFailed = OutFailed
end_at trouble.NoMemory = NoMemory
end_at (trouble.ReadFailed name) = ReadFailed name.now
end_at (trouble.Refused c) = Refused (refusal_of c)

abbrev pub end_of : {A : Type 0} → Result A Trouble → End
end_of (Ok x) = Done
end_of (Err t) = end_at t

-- reading stopped with this end
abbrev pub StopsAt : {A : Type 0} → Files → Plan A → Reads → Reads → End → Type 0
StopsAt files plan store store' Done = ⊥
StopsAt files plan store store' OutFailed = ⊥
StopsAt files plan store store' NoMemory = store' ≡ store
StopsAt files plan store store' (ReadFailed name) = FailedRead store name store' × IsNext files plan name
StopsAt files plan store store' (Refused refusal) = (store' ≡ store) × Reached files plan (Refuse refusal)

-- a plan was read, and no read failed: this was got; or reading stopped
abbrev pub ReadAs : {X A : Type 0} → Files → Plan A → (X → A) → Reads → Reads → Result X Trouble → Type 0
ReadAs files plan value store store' (Ok x) = (store' ≡ store) × Reached files plan (Give (value x))
ReadAs files plan value store store' (Err t) = StopsAt files plan store store' (end_at t)

-- a text was written: a stream took the whole, or a write failed, or there was want of memory behind a front of it
abbrev pub Written : {A : Type 0} → List ℕ → Stream → Stream → Result A Trouble → Type 0
Written text out out' (Ok x) = out' ≡ took out text
Written text out out' (Err trouble.OutFailed) = FailedIn out text out'
Written text out out' (Err trouble.NoMemory) = TookFront out.taken text out'.taken × (out'.faults ≡ out.faults)
Written text out out' (Err (trouble.ReadFailed name)) = ⊥
Written text out out' (Err (trouble.Refused c)) = ⊥

-- a line was said: a stream took it, or failed in the midst of it
abbrev pub LineSaid : {A E : Type 0} → List ℕ → Stream → Stream → Result A E → Type 0
LineSaid line err err' (Ok x) = err' ≡ took err line
LineSaid line err err' (Err e) = FailedIn err line err'

-- an end was told: `err` took its line, or failed in the midst of it
pub data Told (end : End) (err err' : Stream) (answer : Status) : Type 0 where
  Said : answer ≡ status_due end → err' ≡ took err (line_due end) → Told end err err' answer
  Unsaid : answer ≡ status.SinkFailed → FailedIn err (line_due end) err' → Told end err err' answer

-- at the end of all work there is nothing to tell
abbrev pub Reported : End → Stream → Stream → Status → Type 0
Reported Done err err' answer = (answer ≡ status.Done) × (err' ≡ err)
Reported OutFailed err err' answer = Told OutFailed err err' answer
Reported NoMemory err err' answer = Told NoMemory err err' answer
Reported (ReadFailed name) err err' answer = Told (ReadFailed name) err err' answer
Reported (Refused refusal) err err' answer = Told (Refused refusal) err err' answer

-- the reading of a plan stopped in some way, and that was told
pub record Stopped {A : Type 0} (files : Files) (plan : Plan A) (store store' : Reads) (err err' : Stream) (answer : Status) : Type 0 where
  pub end : End
  pub stops : StopsAt files plan store store' end
  pub told : Told end err err' answer
