-- What `make` writes of a sample.
use Rattle.std.specs.Prelude.{ℕ, List, ◌++◌, codes, decimal}
use Rattle.world_core.specs.Order.{run_rows}
use Rattle.node_runner.specs.Scenario.{fleet_of}
use Rattle.sample_maker.specs.Sample.{sample}
use Rattle.sample_maker.specs.Counts.{counts_of}
use Rattle.sample_maker.specs.declared.counts.Counts.{Counts}

-- what came out of the sample of a number
abbrev pub counts_line : ℕ → Counts → List ℕ
counts_line number counts =
    codes "make " ++ decimal number ++ codes ": 8 nodes, 1000000 cycles, " ++ decimal counts.sent ++ codes " sent, " ++ decimal counts.quiet ++ codes " quiet, "
    ++ decimal counts.heard ++ codes " heard, " ++ decimal counts.clashes ++ codes " clashes\n"

-- the counts of all rows of the sample with 8 nodes, in the single global order of cycles
abbrev pub sample_line : ℕ → List ℕ
sample_line number = counts_line number (counts_of (run_rows (fleet_of (sample number 8))))
