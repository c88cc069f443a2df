-- The networks that no file describes are scenarios: that of `node`, and those of samples.
use Rattle.std.proofs.Common.{◌≡◌, ℕ, ◌≤◌, List, [], Some, refl, arith, lit≤}
use Rattle.ihex_loader.specs.Flash.{Image}
use Rattle.command_words.specs.Words.{Node, asked_by}
use Rattle.command_words.proofs.Forms.{form_of, in_limits}
use Rattle.world_core.specs.Topology.{HasRanges, topology}
use Rattle.node_runner.specs.Scenario.{IsScenario}
use Rattle.commands.specs.Network.{lone_node}
use Rattle.sample_maker.specs.Sample.{sample}
use Rattle.sample_maker.proofs.InRing.{lawful}
use Rattle.air_base.specs.declared.bounds.TheConstants.{LAST_SHORT_CYCLE}
use Rattle.scenario_file.specs.declared.defaults.TheConstants.{BYTE_TIME, LATENCY}

ranges : (cycles : ℕ) → 1 ≤ cycles → cycles ≤ LAST_SHORT_CYCLE → HasRanges (topology 1 cycles LATENCY BYTE_TIME [] [] [])
ranges cycles some few = record {
  nodes_from = lit≤ tt;
  nodes_to = lit≤ tt;
  limit_from = some;
  limit_to = omega (arith, few);
  latency_from = lit≤ tt;
  latency_to = lit≤ tt;
  byte_from = lit≤ tt;
  byte_to = lit≤ tt;
  ends = λ k d h. absurd (omega (arith, h));
  own_count = λ h. absurd (omega (arith, h));
  own_in = λ k d h. absurd (omega (arith, h));
  span_count = omega arith;
  spans_in = λ k d h. absurd (omega (arith, h));
  spans_apart = λ i j d h lt. absurd (omega (arith, h, lt));
}

pub alone : (words : List (List ℕ)) (file : List ℕ) (cycles : ℕ) (flash : Image) → asked_by words ≡ Some (Node file cycles) → IsScenario (lone_node flash cycles)
alone words file cycles flash e =
    let limits = in_limits words (Node file cycles) (form_of words (Node file cycles) e) in
    record {
      topo = record { ranges = ranges cycles limits.0 limits.1; links = λ k d h. absurd (omega (arith, h)) };
      images = refl;
      scripts = refl;
      window = omega arith;
    }

pub made : (number : ℕ) → IsScenario (sample number 8)
unfolding sample
made number = record {
  topo = lawful number 8 (lit≤ tt) (lit≤ tt);
  images = refl;
  scripts = refl;
  window = lit≤ tt;
}
