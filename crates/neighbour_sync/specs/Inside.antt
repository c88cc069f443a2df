-- How the fields of the words and of the seats agree with what the table and its seats are.
use Rattle.std.specs.Prelude.{◌≡◌, ℕ, ◌<◌, true, false, List, [], length}
use Rattle.atomic_table.specs.Table.{Me}
use Rattle.world_core.specs.declared.world.WorldFacts.{WorldFacts}
use Rattle.world_core.specs.Lawful.{IsLawful}
use Rattle.neighbour_sync.specs.declared.rule.View.{View}
use Rattle.neighbour_sync.specs.Layout.{word_count}

-- a table of so many words is one of the world w, which has so many nodes
pub record IsLaid (words nodes : ℕ) (w : WorldFacts) : Type 0 where
  pub nodes_is : nodes ≡ w.topo.nodes
  pub words_is : words ≡ word_count nodes

-- the air's seat of a table of so many words, with its numbers
pub record IsAirSeat (words : ℕ) (me : Me (Unit {0}) View) (sent : List ℕ) : Type 0 where
  pub words_is : words ≡ word_count me.0.world.topo.nodes
  pub lawful : IsLawful me.0.world
  pub is_air : me.0.is_air ≡ true
  pub sent_is : me.0.sent ≡ sent
  pub nodes : length sent ≡ me.0.world.topo.nodes
  pub bare : me.1 ≡ []

-- a node's seat of a table of so many words, with its numbers
pub record IsNodeSeat (words : ℕ) (me : Me (Unit {0}) View) (number clock told : ℕ) : Type 0 where
  pub words_is : words ≡ word_count me.0.world.topo.nodes
  pub below : number < me.0.world.topo.nodes
  pub is_node : me.0.is_air ≡ false
  pub number_is : me.0.number ≡ number
  pub clock_is : me.0.clock ≡ clock
  pub told_is : me.0.told ≡ told
  pub bare : me.1 ≡ []
