-- How often the nodes of a run sent, and what they heard. Own to this simulator.
use Rattle.std.specs.Prelude.{ℕ, ◌==◌, Bool, true, false, List}
use Rattle.std.specs.List.{count_by}
use Rattle.node_core.specs.declared.row.Row.{Row}
use Rattle.node_core.specs.declared.row.Kind.TheVariants as kind
use Rattle.sample_maker.specs.declared.counts.Counts.{Counts}

abbrev pub is_sent : Row → Bool
is_sent r = elim r.kind [ kind.Sent byte ↦ true | _ ↦ false ]

-- a sample of this status
abbrev pub is_heard : ℕ → Row → Bool
is_heard status r = elim r.kind [ kind.Heard heard ↦ heard.status == status | _ ↦ false ]

-- statuses are 0 where nothing is heard, 1 where one byte is, 2 where several clash
abbrev pub counts_of : List Row → Counts
counts_of rows = record {
  sent = count_by is_sent rows;
  quiet = count_by (is_heard 0) rows;
  heard = count_by (is_heard 1) rows;
  clashes = count_by (is_heard 2) rows;
}
