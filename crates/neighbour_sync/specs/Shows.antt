-- The state of the machine of clocks, sends and samples that words and record show. Own to this simulator.
use Rattle.std.specs.Prelude.{◌≡◌, ℕ, ◌≤◌, ◌<◌, List, [], length, slice_index, replicate}
use Rattle.std.specs.List.{All}
use Rattle.atomic_table.specs.Table.{State, opening, stepped, keeps}
use Rattle.world_core.specs.declared.world.WorldFacts.{WorldFacts}
use Rattle.world_core.specs.Posted.{sent_of}
use Rattle.world_core.specs.Consistent.{AirState, clock_of}
use Rattle.neighbour_sync.specs.declared.rule.View.{View}
use Rattle.neighbour_sync.specs.Layout.{clock_at, sent_at, word_count}
use Rattle.neighbour_sync.specs.Rule.{KeepsRule, air_view}
use Rattle.neighbour_sync.specs.Record.{AirRecord, IsSound}

abbrev pub shown : AirRecord → List ℕ → AirState
shown r clocks = record { world = r.world; clocks = clocks; sent = r.sent; floor = r.floor; sends = r.sends; samples = r.samples }

-- no clock stands below what was loaded of it
abbrev pub AreRisen : List (ℕ × ℕ) → List ℕ → Type 0
AreRisen loads clocks = All (λ x. x.1 ≤ clock_of clocks x.0) loads

-- The words keep the rule, and the record is sound. The clocks are the clock words, the record's counts of posted sends
-- are the sent words, and no clock has fallen since the record's seat loaded it.
pub record AreShown (s : State (Unit {0}) View) (r : AirRecord) (clocks : List ℕ) : Type 0 where
  pub rule : KeepsRule r.world s
  pub sound : IsSound r
  pub nodes : length clocks ≡ r.world.topo.nodes
  pub clocks_are : (k : ℕ) → k < r.world.topo.nodes → slice_index clocks k ≡ slice_index s.words (clock_at k)
  pub counts_are : (k : ℕ) → k < r.world.topo.nodes → sent_of r.sent k ≡ slice_index s.words (sent_at r.world.topo.nodes k)
  pub risen : AreRisen r.loads clocks

-- the words of a world as they are laid: all of them 0, with the air's seat alone
abbrev pub first_words : WorldFacts → State (Unit {0}) View
first_words w = opening (replicate (word_count w.topo.nodes) 0) [] (air_view w 0)

-- the words after a step of seat `id`, which leaves c in the word i, and the seat knowing v
abbrev pub after_step : State (Unit {0}) View → ℕ → ℕ → ℕ → View → State (Unit {0}) View
after_step s i c id v = stepped s i c id [] v keeps

-- the clock words and the sent words of a world of n nodes are the same
abbrev pub AreAlike : ℕ → State (Unit {0}) View → State (Unit {0}) View → Type 0
AreAlike n s t = (k : ℕ) → k < n → (slice_index t.words (clock_at k) ≡ slice_index s.words (clock_at k)) × (slice_index t.words (sent_at n k) ≡ slice_index s.words (sent_at n k))
