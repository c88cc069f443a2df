-- What the reader gives, in terms of what would be written.
use Rattle.std.proofs.Common.{◌≡◌, ℕ, List, Result, Ok, Err}
use Rattle.std.specs.Prelude.{IfOk}
use Rattle.world_core.specs.Topology.{IsTopology}
use Rattle.state_text.specs.declared.fault.StateFault.{StateFault}
use Rattle.state_text.specs.Text.{StateOf, state_text}
use Rattle.state_text.specs.Bounds.{Rules, IsState}
use Rattle.state_text.specs.Reading.{Gives, state_of}
use Rattle.state_text.proofs.Found.{state_found}

pub gives_found : (r : Rules) (text : List ℕ) (result : Result StateOf StateFault) → IsTopology r.topo → Gives (λ state. state) result (state_of r text) → IfOk result (λ state. IsState r state × (text ≡ state_text state))
gives_found r text (Ok st) lawful h = state_found r text st lawful h
gives_found r text (Err e) lawful h = tt
