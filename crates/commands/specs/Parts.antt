-- What the parts of a call owe to one another: what a job writes, and what is known once it was read. These are the
-- contracts of functions inside this crate, and no part of what the top clause says.
use Rattle.std.specs.List.{All}
use Rattle.std.specs.Prelude.{◌≡◌, false, ◌≤◌, ◌<◌, ◌+◌, ◌-◌, ◌*◌, ℕ, min, true, is_some, length, List, Result, Ok, Err}
use Rattle.world_core.specs.Kept.{epoch}
use Rattle.node_runner.specs.Scenario.{ScenarioOf}
use Rattle.checkpoint_text.specs.Onward.{CanResume, SavedAt}
use Rattle.fleet_flight.specs.Shadows.{IsSpot}
use Rattle.moves_text.specs.Moves.{MoveOf}
use Rattle.state_text.specs.Text.{StateOf}
use Rattle.command_words.specs.Words.{asked_by}
use Rattle.command_plans.specs.Plan.{Plan, Give}
use Rattle.command_plans.specs.Reading.{Files, Reached}
use Rattle.command_plans.specs.Ends.{Reads, Stream}
use Rattle.command_plans.specs.Parts.{Stopped}
use Rattle.command_plans.specs.declared.status.Status.{Status}
use Rattle.ihex_loader.specs.Hex.{hex_of}
use Rattle.run_reports.specs.Frames.{frames_text}
use Rattle.run_reports.specs.Profiles.{profiles_text}
use Rattle.commands.specs.Listing.{listing}
use Rattle.commands.specs.Network.{size_line, trace_of}
use Rattle.commands.specs.Plan.{plan}
use Rattle.commands.specs.Sample.{sample_line}
use Rattle.commands.specs.Tails.{tails_text}
use Rattle.commands.specs.Texts.{head_on_text, head_text, look_on_text, look_text, resume_text, watch_on_text, watch_text}
use Rattle.commands.specs.TopClause.{TopClause}
use Rattle.commands.specs.declared.job.Job.{Job}
use Rattle.commands.specs.declared.job.Job.TheVariants as job
use Rattle.commands.specs.declared.watch.Tail.{Tail}
use Rattle.commands.specs.declared.watch.Tail.TheVariants as tail
use Rattle.commands.specs.declared.watch.Watch.{Watch}

-- the window of a network ends within its run
abbrev pub EndsWithin : ScenarioOf → Type 0
EndsWithin network = network.to ≤ network.topo.limit

-- an epoch of the network ends at this cycle
pub record EndsEpoch (network : ScenarioOf) (cycle : ℕ) : Type 0 where
  pub count : ℕ
  pub at : cycle ≡ min (count * epoch) network.topo.limit

-- an epoch of a run of the network that began in the cycle `start` ends at this cycle
pub record EndsFrom (network : ScenarioOf) (start cycle : ℕ) : Type 0 where
  pub count : ℕ
  pub at : cycle ≡ min (start + count * epoch) network.topo.limit

-- a plan that gets the network of a scenario was read, and nothing was said
pub record HasRead (files : Files) (plan : Plan ScenarioOf) (store store' : Reads) (err err' : Stream) (network : ScenarioOf) : Type 0 where
  pub reached : Reached files plan (Give network)
  pub same : store' ≡ store
  pub silent : err' ≡ err
  pub within : EndsWithin network

-- what a job writes to `out`
unfoldable pub output : Job → List ℕ
output (job.Trace network) = trace_of network
output (job.PlainTrace network) = trace_of network
output (job.Monitor network) = profiles_text network
output (job.Sniff network) = frames_text network
output (job.Check network) = size_line network
output (job.Disasm flash) = listing flash
output (job.Asm words) = hex_of words.items
output (job.Make number) = sample_line number
output (job.Head network epochs) = head_text network epochs
output (job.Save network cycle) = look_text network cycle
output (job.Resume network saved) = resume_text network saved.state
output (job.HeadOn network saved epochs) = head_on_text network saved.state epochs
output (job.SaveOn network saved) = look_on_text network saved.state saved.floor
output (job.Sweep network state moves tail) = tails_text tail network state moves.items
output (job.Watch network watch) = watch_text network watch.places.items watch.from watch.to
output (job.WatchOn network state watch) = watch_on_text network state watch.places.items watch.from watch.to

-- a saved state of this network, with which nothing was done yet
pub record IsFresh (network : ScenarioOf) (saved : SavedAt) : Type 0 where
  pub is : saved ≡ record { scenario = network; state = saved.state; floor = saved.state.cycle; failed = false }
  pub early : saved.state.cycle < network.topo.limit

-- and so many epochs from its cycle on end below the limit
pub record IsCutOn (network : ScenarioOf) (saved : SavedAt) (epochs : ℕ) : Type 0 where
  pub fresh : IsFresh network saved
  pub within : saved.state.cycle + epochs * epoch < network.topo.limit

-- and this cycle is one to which the run goes on from there
pub record IsLookOn (network : ScenarioOf) (saved : SavedAt) (cycle : ℕ) : Type 0 where
  pub fresh : IsFresh network saved
  pub from : saved.state.cycle ≤ cycle
  pub to : cycle ≤ network.topo.limit

-- a run of this network from a saved state, which has come to some cycle
pub record HasCome (network : ScenarioOf) (saved : SavedAt) : Type 0 where
  pub same : network ≡ saved.scenario
  pub sound : saved.failed ≡ false

-- a plan was read for this, and nothing was said
pub record HasGot {A : Type 0} (files : Files) (plan : Plan A) (store store' : Reads) (err err' : Stream) (got : A) : Type 0 where
  pub reached : Reached files plan (Give got)
  pub same : store' ≡ store
  pub silent : err' ≡ err

-- a state from which the network can go on, and moves at its nodes
pub record IsSweep (network : ScenarioOf) (state : StateOf) (moves : List MoveOf) : Type 0 where
  pub fit : CanResume network state
  pub known : All (λ (m : MoveOf). m.node < network.topo.nodes) moves

-- places of this network are watched within its run
pub record IsWatch (network : ScenarioOf) (w : Watch) : Type 0 where
  pub rises : w.from ≤ w.to
  pub within : w.to ≤ network.topo.limit
  pub spots : All (λ p. IsSpot p.spot) w.places.items

-- from a state on
pub record IsWatchOn (network : ScenarioOf) (state : StateOf) (w : Watch) : Type 0 where
  pub fit : CanResume network state
  pub begun : state.cycle ≤ w.from
  pub watch : IsWatch network w

-- and this can be written of runs from a state on
abbrev pub IsTail : ScenarioOf → StateOf → Tail → Type 0
IsTail network state tail.Trace = Unit {0}
IsTail network state (tail.Watch w) = IsWatchOn network state w

pub record IsTailed (network : ScenarioOf) (state : StateOf) (moves : List MoveOf) (what : Tail) : Type 0 where
  pub sweep : IsSweep network state moves
  pub tail : IsTail network state what

-- a program is no longer than the flash, a window that is watched ends within the run, a run is cut below its limit, and
-- is looked at no later
abbrev pub IsShort : Job → Type 0
IsShort (job.Trace network) = Unit {0}
IsShort (job.PlainTrace network) = Unit {0}
IsShort (job.Monitor network) = EndsWithin network
IsShort (job.Sniff network) = Unit {0}
IsShort (job.Check network) = Unit {0}
IsShort (job.Disasm flash) = Unit {0}
IsShort (job.Asm words) = length words.items ≤ 65536
IsShort (job.Make number) = Unit {0}
IsShort (job.Head network epochs) = epochs * epoch < network.topo.limit
IsShort (job.Save network cycle) = cycle ≤ network.topo.limit
IsShort (job.Resume network saved) = IsFresh network saved
IsShort (job.HeadOn network saved epochs) = IsCutOn network saved epochs
IsShort (job.SaveOn network saved) = HasCome network saved
IsShort (job.Sweep network state moves tail) = IsTailed network state moves.items tail
IsShort (job.Watch network watch) = IsWatch network watch
IsShort (job.WatchOn network state watch) = IsWatchOn network state watch

-- what a plan reads was read, this is left to do, and nothing was said
pub record Ready (files : Files) (plan : Plan (List ℕ)) (store store' : Reads) (err err' : Stream) (todo : Job) : Type 0 where
  pub reached : Reached files plan (Give (output todo))
  pub same : store' ≡ store
  pub silent : err' ≡ err
  pub short : IsShort todo

-- what a plan reads was read; or that stopped, and was told
abbrev pub JobRead : Files → Plan (List ℕ) → Reads → Reads → Stream → Stream → Result Job Status → Type 0
JobRead files plan store store' err err' (Ok todo) = Ready files plan store store' err err' todo
JobRead files plan store store' err err' (Err answer) = Stopped files plan store store' err err' answer

-- the words ask for something, and what it needs was read
pub record Prepared (files files' : Files) (words : List (List ℕ)) (store store' : Reads) (err err' : Stream) (todo : Job) : Type 0 where
  pub held : files' ≡ files
  pub asked : is_some (asked_by words) ≡ true
  pub ready : Ready files (plan words) store store' err err' todo

-- a call is prepared; or it ended before it wrote any output
abbrev pub Prepares : Files → Files → List (List ℕ) → Reads → Reads → Stream → Stream → Result Job Status → Type 0
Prepares files files' words store store' err err' (Ok todo) = Prepared files files' words store store' err err' todo
Prepares files files' words store store' err err' (Err answer) = (out : Stream) → TopClause files files' words store store' out out err err' answer
