-- A saved state that is read, and a network that is to go on from it.
use Rattle.std.proofs.Common.{◌≡◌, ◌≢◌, ℕ, List, Result, Ok, Err, refl, ◌∙◌, subst}
use Rattle.checkpoint_text.specs.Onward.{SavedAt}
use Rattle.checkpoint_text.specs.State.{state_in}
use Rattle.node_runner.specs.Scenario.{ScenarioOf}
use Rattle.state_text.specs.Text.{StateOf}
use Rattle.state_text.specs.Reading.{Fails}
use Rattle.state_text.specs.declared.fault.StateFault.{StateFault}
use Rattle.state_text.specs.declared.fault.StateFault.TheVariants as fault
use Rattle.command_plans.specs.Plan.{Plan, Give, Refuse, Read, BadState, and_then}
use Rattle.command_plans.specs.Reading.{Files, Reached, Here}
use Rattle.command_plans.specs.Ends.{End, Reads, Stream}
use Rattle.command_plans.specs.Parts.{Stopped, StopsAt, Told}
use Rattle.command_plans.specs.declared.status.Status.{Status}
use Rattle.command_plans.specs.declared.trouble.StateCause.TheVariants as cause
use Rattle.command_plans.proofs.Steps.{both, goes_on, opened, reached_moved, stops_behind, stops_moved, stops_on}
use Rattle.commands.specs.Texts.{resume_text}
use Rattle.commands.specs.Plan.{network_plan, state_or, state_plan}
use Rattle.commands.specs.Parts.{HasRead, IsFresh, Ready, output}
use Rattle.commands.specs.declared.job.Job.TheVariants as job
use Rattle.command_plans.specs.declared.files.TheConstants.{MOST_STATE_BYTES}

-- a fault that is no want of memory is that of the text
pub gave_fault : {A : Type 0} (e : StateFault) (read : Result A StateFault) → e ≢ fault.NoMemory → Fails e read → read ≡ Err e
gave_fault (fault.NotAState line) read other h = h
gave_fault (fault.OutOfBounds line) read other h = h
gave_fault fault.PastEnd read other h = h
gave_fault fault.NoMemory read other h = absurd (other refl)

module _ (files : Files) (network : ScenarioOf) (name bytes : List ℕ) (read : Reached files (Read name MOST_STATE_BYTES (BadState name cause.TooLong) Give) (Give bytes)) where
  pub state_accepted : (state : StateOf) → state_in network bytes ≡ Ok state → Reached files (state_plan network name) (Give state)
  state_accepted state e =
      opened files name MOST_STATE_BYTES (BadState name cause.TooLong) bytes (Give state) read (λ b. state_or name (state_in network b)) (rw e (Here (Give state)))

  pub state_refused : (fault : StateFault) → state_in network bytes ≡ Err fault → Reached files (state_plan network name) (Refuse (BadState name (cause.Faulty fault)))
  state_refused fault e =
      opened files name MOST_STATE_BYTES (BadState name cause.TooLong) bytes (Refuse (BadState name (cause.Faulty fault))) read (λ b. state_or name (state_in network b))
      (rw e (Here (Refuse (BadState name (cause.Faulty fault)))))

module _ (files files' : Files) (file name : List ℕ) (network : ScenarioOf) (store mid store' : Reads) (err err' : Stream)
    (read : HasRead files (network_plan file) store mid err err' network) (held : files' ≡ files) where
  abbrev Next : ScenarioOf → Plan (List ℕ)
  Next network = and_then (state_plan network name) (λ state. Give (resume_text network state))

  abbrev Whole : Plan (List ℕ)
  Whole = and_then (network_plan file) Next

  to_state : Reached files Whole (Next network)
  to_state = goes_on files (network_plan file) network Next read.reached

  -- a network and a state of it were read
  pub resume_ready : (saved : SavedAt) → (store' ≡ mid) × Reached files' (state_plan network name) (Give saved.state) → IsFresh network saved
      → Ready files Whole store store' err err' (job.Resume network saved)
  unfolding output
  resume_ready saved state fresh = record {
    reached =
        both files Whole (Next network) (Give (resume_text network saved.state)) to_state
        (goes_on files (state_plan network name) saved.state (λ state. Give (resume_text network state))
        (reached_moved files files' (state_plan network name) (Give saved.state) held state.1));
    same = state.0 ∙ read.same;
    silent = read.silent;
    short = fresh;
  }

  -- or the reading of the state stopped
  pub resume_stopped : (end : End) (said : Stream) (answer : Status) → StopsAt files' (state_plan network name) mid store' end → Told end err' said answer
      → Stopped files Whole store store' err said answer
  resume_stopped end said answer stops told = record {
    end = end;
    stops = stops_on files Whole (Next network) store store' end to_state
        (stops_behind files (state_plan network name) (λ state. Give (resume_text network state)) store store' end
        (stops_moved files files' (state_plan network name) store mid store' end held read.same stops));
    told = subst (λ e. Told end e said answer) read.silent told;
  }
