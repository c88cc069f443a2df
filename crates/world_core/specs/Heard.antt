-- What a node hears that samples the air in a cycle. Own to this simulator.
use Rattle.std.specs.Prelude.{ℕ, ◌-◌, ◌/◌, min, Bool, ◌&&◌, bit_or, List, [], ◌∷◌}
use Rattle.std.specs.List.{filter}
use Rattle.air_base.specs.declared.air.Send.{Send}
use Rattle.air_base.specs.declared.air.Heard.{Heard}
use Rattle.world_core.specs.Topology.{Topology, is_linked, is_open, is_in_time, latency_of}

-- node j hears the send x in cycle s: over a link that was open when it was sent, from the latency on, for the byte
-- time
abbrev pub is_audible : Topology → ℕ → ℕ → Send → Bool
is_audible t j s x = is_linked t x.node j && (is_open t x.node j x.cycle && is_in_time (latency_of t x.node j) t.byte_time s x.cycle)

-- for how long node j has heard it, in steps of 16 cycles
abbrev pub age_of : Topology → ℕ → ℕ → Send → ℕ
age_of t j s x = (s - x.cycle - latency_of t x.node j) / 16

-- the bytes that clash, one over another
abbrev pub or_of : List Send → ℕ
or_of [] = 0
or_of (x ∷ xs) = bit_or x.byte (or_of xs)

abbrev pub heard_as : ℕ → ℕ → ℕ → Heard
heard_as status byte age = record { status = status; byte = byte; age = age }

-- what the sends that are audible give: nothing, a byte with its age, or a clash
abbrev pub heard_from : (Send → ℕ) → List Send → Heard
heard_from age [] = heard_as 0 0 0
heard_from age (x ∷ []) = heard_as 1 x.byte (min 255 (age x))
heard_from age (x ∷ y ∷ xs) = heard_as 2 (or_of (x ∷ y ∷ xs)) 0

-- what node j hears in cycle s: a filter of the whole list of sends
unfoldable pub heard : Topology → List Send → ℕ → ℕ → Heard
heard t sends j s = heard_from (age_of t j s) (filter (is_audible t j s) sends)
