-- Each node's sends and samples, and how many sends lie below a cycle. Own to this simulator.
use Rattle.std.specs.Prelude.{◌≡◌, ℕ, ◌<◌, ◌==◌, nat_lt, List, length, slice_index_or}
use Rattle.std.specs.List.{filter}
use Rattle.air_base.specs.declared.air.Send.{Send}
use Rattle.air_base.specs.declared.air.Ask.{Ask}
use Rattle.world_core.specs.declared.world.WorldFacts.{WorldFacts}

-- the sends of node k, in order
abbrev pub sends_of : ℕ → List Send → List Send
sends_of k = filter (λ x. x.node == k)

-- the samples of node k, in order
abbrev pub asks_of : ℕ → List Ask → List Ask
asks_of k = filter (λ x. x.node == k)

-- how many sends of node k lie below the cycle c
unfoldable pub sends_below : List Send → ℕ → ℕ → ℕ
sends_below sends k c = length (filter (λ x. nat_lt x.cycle c) (sends_of k sends))

-- x is the world's send number `number` of its node, counted from 0
abbrev pub IsSendNumber : WorldFacts → ℕ → Send → Type 0
IsSendNumber w number x = (number < length (sends_of x.node w.sends)) × (slice_index_or (sends_of x.node w.sends) number x ≡ x)
