-- The kept part of a bounded record: which sends are still kept at a floor, and which are gone. Own to this simulator.
use Rattle.std.specs.Prelude.{◌≡◌, ℕ, ◌+◌, ◌*◌, ◌/◌, ◌≤◌, Bool, nat_le, nat_lt, List, length, take, drop}
use Rattle.std.specs.List.{All, filter}
use Rattle.air_base.specs.declared.air.Send.{Send}
use Rattle.world_core.specs.declared.kept.TheConstants.{EPOCH}
use Rattle.world_core.specs.declared.world.WorldFacts.{WorldFacts}
use Rattle.world_core.specs.Topology.{Topology, reach}
use Rattle.world_core.specs.Sends.{sends_of, sends_below}
use Rattle.world_core.specs.Posted.{sent_of}

-- The send is not over at the cycle f: over a link with the greatest latency it would be heard in f or later. What a
-- record keeps whose floor is f.
abbrev pub is_kept : Topology → ℕ → Send → Bool
is_kept t f x = nat_lt f (x.cycle + reach t + t.byte_time)

-- how many sends of node k are gone at the floor f
abbrev pub gone_of : WorldFacts → ℕ → ℕ → ℕ
gone_of w f k = length (filter (λ x. nat_le (x.cycle + reach w.topo + w.topo.byte_time) f) (sends_of k w.sends))

-- the sends xs are, of each node k and in order, those of the world's first sent[k] that are kept at the floor f
abbrev pub IsPosted : WorldFacts → ℕ → List ℕ → List Send → Type 0
IsPosted w f sent xs = (k : ℕ) → sends_of k xs ≡ filter (is_kept w.topo f) (take (sent_of sent k) (sends_of k w.sends))

-- all sends below the floor are posted
abbrev pub IsPostedTo : WorldFacts → ℕ → List ℕ → Type 0
IsPostedTo w f sent = (k : ℕ) → sends_below w.sends k f ≤ sent_of sent k

-- The posted sends by number: the record's sends of each node k are the world's from number gone[k] on and below number
-- sent[k], and each send below number gone[k] is over at the floor f.
pub record IsPart (w : WorldFacts) (f : ℕ) (gone : ℕ → ℕ) (sent : List ℕ) (xs : List Send) : Type 0 where
  pub part : (k : ℕ) → sends_of k xs ≡ drop (gone k) (take (sent_of sent k) (sends_of k w.sends))
  pub over : (k : ℕ) → All (λ x. x.cycle + reach w.topo + w.topo.byte_time ≤ f) (take (gone k) (sends_of k w.sends))

-- how many cycles an epoch has: a send is posted less than so many above the floor
abbrev pub epoch : ℕ
epoch = EPOCH

-- room for what a record can hold whose sends lie below its floor and so many cycles
abbrev pub kept_room_of : Topology → ℕ → ℕ
kept_room_of t span = t.nodes * ((reach t + t.byte_time + span) / t.byte_time + 1)
