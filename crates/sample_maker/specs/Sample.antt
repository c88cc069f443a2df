-- The sample of a number: a network in a ring, each node of which sends and samples the air without end. Own to this
-- simulator.
use Rattle.std.specs.Prelude.{ℕ, ◌+◌, ◌*◌, ◌%◌, map}
use Rattle.std.specs.List.{range_with_len}
use Rattle.ihex_loader.specs.Flash.{Image, image_of_words}
use Rattle.scenario_file.specs.Scenario.{no_script}
use Rattle.node_runner.specs.Scenario.{ScenarioOf}
use Rattle.sample_maker.specs.Ring.{ring_words}
use Rattle.sample_maker.specs.Network.{ring_topology}

-- the first byte that node k gives its radio to send
abbrev pub first_byte : ℕ → ℕ → ℕ
first_byte number k = (number + 37 * k) % 256

-- for how many rounds it waits before its first loop
abbrev pub rounds : ℕ → ℕ → ℕ
rounds number k = 1 + (number + 7 * k) % 64

-- its program memory
abbrev pub image_of_node : ℕ → ℕ → Image
image_of_node number k = image_of_words (ring_words (first_byte number k) (rounds number k))

-- the sample of this number with so many nodes: no byte arrives from outside, and no instruction is traced
unfoldable pub sample : ℕ → ℕ → ScenarioOf
sample number nodes = record {
  topo = ring_topology number nodes;
  images = map (image_of_node number) (range_with_len 0 nodes);
  scripts = map (λ k. no_script) (range_with_len 0 nodes);
  from = 0;
  to = 0;
}
