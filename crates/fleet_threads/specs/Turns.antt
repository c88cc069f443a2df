-- How far one step takes a node that does not halt. Own to this simulator.
use Rattle.std.specs.Prelude.{◌≡◌, ℕ, ◌+◌, ◌-◌, ◌⊎◌, min, true, false}
use Rattle.node_runner.specs.declared.runner.Event.{Event}
use Rattle.node_runner.specs.declared.runner.Event.TheVariants.{Ask, Sent, Turn, Ended, NoMemory}
use Rattle.node_runner.specs.Event.{IsEvent}
use Rattle.node_runner.specs.Place.{Place}
use Rattle.fleet_threads.specs.declared.member.Sampling.{Sampling}
use Rattle.fleet_threads.specs.declared.member.Sampling.TheVariants.{Waits, Tries}

-- the cycles of a turn, at most
abbrev pub quantum : ℕ → Place → ℕ
quantum end p = min (end - p.cycle) 1024

-- what the node makes of an event: a send is noted as posted, and where memory ran out it does not go on
abbrev pub IsMade : Event → Place → Place → Type 0
IsMade (Sent x) mid new = new ≡ record mid { unnoted = false }
IsMade Ask mid new = new ≡ mid
IsMade (Turn c) mid new = new ≡ mid
IsMade Ended mid new = new ≡ mid
IsMade NoMemory mid new = ⊥

-- it took a turn, up to its next event
abbrev pub HasTurned : ℕ → Place → Place → Type 0
HasTurned end old new = (event : Event) × (mid : Place) × IsEvent old (quantum end old) event mid × IsMade event mid new

-- it was told what it hears, unless it only tries
abbrev pub HasSampled : Sampling → Place → Place → Type 0
HasSampled Waits old new = new ≡ record old { cycle = old.cycle + 1; asking = false }
HasSampled Tries old new = (new ≡ record old { cycle = old.cycle + 1; asking = false }) ⊎ (new ≡ old)

-- a step: at a sample it samples, and elsewhere it takes a turn
pub record HasGotOn (sampling : Sampling) (end : ℕ) (old new : Place) : Type 0 where
  pub sampled : old.asking ≡ true → HasSampled sampling old new
  pub turned : old.asking ≡ false → HasTurned end old new
