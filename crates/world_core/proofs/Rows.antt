-- Worked rows of the definitions, computed.
use Rattle.std.proofs.Common.{◌≡◌, true, false, [], ◌∷◌, refl}
use Rattle.air_base.specs.declared.air.Send.{Send}
use Rattle.world_core.specs.Topology.{Topology, topology, is_needed, reach}
use Rattle.world_core.specs.Heard.{heard, heard_as}

abbrev two_own : Topology
two_own = topology 3 10000 3072 512 (record { from = 0; to = 2 } ∷ record { from = 1; to = 2 } ∷ []) (100 ∷ 300 ∷ []) []

abbrev first : Send
first = record { node = 0; cycle = 900; byte = 15 }

clash : heard two_own (first ∷ record { node = 1; cycle = 700; byte = 240 } ∷ []) 2 1000 ≡ heard_as 2 255 0
unfolding heard
clash = refl

alone : heard two_own (first ∷ record { node = 1; cycle = 701; byte = 240 } ∷ []) 2 1000 ≡ heard_as 1 15 0
unfolding heard
alone = refl

far : reach two_own ≡ 3072
far = refl

abbrev spanned : Topology
spanned = topology 2 10000 3072 512 (record { from = 0; to = 1 } ∷ []) [] (record { link = 0; from = 5000; until = 6000 } ∷ [])

closed : is_needed spanned 0 1 3072 ≡ false
closed = refl

opened : is_needed spanned 0 1 9000 ≡ true
opened = refl

first_cycle : is_needed spanned 0 1 8072 ≡ true
first_cycle = refl

before : is_needed spanned 0 1 8071 ≡ false
before = refl

last_cycle : is_needed spanned 0 1 9582 ≡ true
last_cycle = refl

after : is_needed spanned 0 1 9583 ≡ false
after = refl

end_of_span : heard spanned (record { node = 0; cycle = 5999; byte = 7 } ∷ []) 1 9071 ≡ heard_as 1 7 0
unfolding heard
end_of_span = refl

past_span : heard spanned (record { node = 0; cycle = 6000; byte = 7 } ∷ []) 1 9072 ≡ heard_as 0 0 0
unfolding heard
past_span = refl
