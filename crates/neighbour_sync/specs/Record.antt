-- The record of the air, as contracts see it: what always holds of it, and what each call makes of it. Own to this
-- simulator.
use Rattle.std.specs.Prelude.{◌≡◌, ℕ, ◌+◌, ◌<◌, ◌≤◌, nat_le, List, [], ◌∷◌, ◌++◌, slice_set, replicate}
use Rattle.std.specs.List.{All, filter}
use Rattle.atomic_table.specs.Seated.{TableId}
use Rattle.air_base.specs.declared.air.Send.{Send}
use Rattle.air_base.specs.declared.air.Ask.{Ask}
use Rattle.air_base.specs.declared.air.Heard.{Heard as HeardValue}
use Rattle.air_base.specs.declared.air.Sampled.{Sampled}
use Rattle.air_base.specs.declared.air.Sampled.TheVariants.{Heard, NotYet, NoMemory}
use Rattle.world_core.specs.declared.world.WorldFacts.{WorldFacts}
use Rattle.world_core.specs.Posted.{sent_of}
use Rattle.world_core.specs.Kept.{epoch, is_kept}
use Rattle.world_core.specs.Settled.{truth, IsRecorded}
use Rattle.world_core.specs.Lawful.{IsLawful}
use Rattle.neighbour_sync.specs.declared.answers.Posted.{Posted}
use Rattle.neighbour_sync.specs.declared.answers.Posted.TheVariants.{Added, There, Early}
use Rattle.neighbour_sync.specs.Loads.{IsBehind}
use Rattle.neighbour_sync.specs.Looks.{AreSeenPast}

-- The words that it goes by and the world, what its seat knows (how many sends of each node are posted, and the clocks
-- that it loaded), the cycle up to which it is cut, and the sends and samples in the order in which they were recorded.
pub record AirRecord : Type 0 where
  pub table : TableId
  pub world : WorldFacts
  pub sent : List ℕ
  pub loads : List (ℕ × ℕ)
  pub floor : ℕ
  pub sends : List Send
  pub samples : List (Ask × HeardValue)

-- Whenever the record is at rest: its sends are those of the posted ones that may still be heard, and each of its
-- samples is the true one and final.
pub record IsSound (r : AirRecord) : Type 0 where
  pub lawful : IsLawful r.world
  pub recorded : IsRecorded r.world r.floor r.sent r.sends r.samples
  pub early : All (λ x. x.cycle < r.floor + epoch) r.sends
  pub within : r.floor ≤ r.world.topo.limit

abbrev pub first_record : TableId → WorldFacts → List (ℕ × ℕ) → AirRecord
first_record z w loads = record { table = z; world = w; sent = replicate w.topo.nodes 0; loads = loads; floor = 0; sends = []; samples = [] }

-- the record, whose seat has loaded these clocks besides
abbrev pub with_loads : AirRecord → List (ℕ × ℕ) → AirRecord
with_loads r more = record r { loads = r.loads ++ more }

abbrev pub with_send : AirRecord → Send → AirRecord
with_send r x = record r { sent = slice_set r.sent x.node (sent_of r.sent x.node + 1); sends = r.sends ++ x ∷ [] }

abbrev pub with_sample : AirRecord → ℕ → ℕ → HeardValue → AirRecord
with_sample r j s h = record r { samples = r.samples ++ (record { node = j; cycle = s }, h) ∷ [] }

-- the sends that are over at the cycle f, which nobody can hear from there on, and the samples below it, are gone
abbrev pub cut_at : AirRecord → ℕ → AirRecord
cut_at r f = record r { floor = f; sends = filter (is_kept r.world.topo f) r.sends; samples = filter (λ x. nat_le f x.0.cycle) r.samples }

-- send number `number` of its node, counted from 0, was to be posted: it is the next one, it stands there already, or
-- others come before it
abbrev pub IsPost : AirRecord → Send → ℕ → Posted → AirRecord → Type 0
IsPost r x number Added new = (sent_of r.sent x.node ≡ number) × (new ≡ with_send r x)
IsPost r x number There new = (number < sent_of r.sent x.node) × (new ≡ r)
IsPost r x number (Early count) new = (sent_of r.sent x.node < number) × (count ≡ sent_of r.sent x.node) × (new ≡ r)

-- node j heard h in cycle s, and that is recorded: it is the true answer, and these clocks were loaded before, one of
-- each node that it may hear past the last cycle whose sends may be heard
pub record IsHeard (r : AirRecord) (j s : ℕ) (h : HeardValue) (more : List (ℕ × ℕ)) (new : AirRecord) : Type 0 where
  pub right : h ≡ truth r.world j s
  pub past : AreSeenPast r.world j s more
  pub recorded : new ≡ with_sample (with_loads r more) j s h

-- node j sampled in cycle s: the true answer is recorded; or the clock of a node that it may hear was loaded last, and
-- was not far enough
abbrev pub IsSample : AirRecord → ℕ → ℕ → Sampled → AirRecord → Type 0
IsSample r j s (Heard h) new = (more : List (ℕ × ℕ)) × IsHeard r j s h more new
IsSample r j s (NotYet k c) new = IsBehind r.world j s k c × ((more : List (ℕ × ℕ)) × (new ≡ with_loads r (more ++ (k, c) ∷ [])))
IsSample r j s NoMemory new = (more : List (ℕ × ℕ)) × (new ≡ with_loads r more)
