-- What running threads do to words and record, step by step, and the moves of the machine that this is. Own to this
-- simulator.
use Rattle.std.specs.Prelude.{◌≡◌, ℕ, suc, ◌+◌, ◌≤◌, ◌<◌, List, [], ◌∷◌, ◌++◌, replicate, slice_index, slice_set}
use Rattle.std.specs.List.{Contains}
use mathlib.Core.Option.{some}
use lib.ListN.{get_elem?}
use Rattle.atomic_table.specs.Table.{State}
use Rattle.atomic_table.specs.Seated.{TableId}
use Rattle.air_base.specs.declared.air.Send.{Send}
use Rattle.air_base.specs.declared.air.Heard.{Heard as HeardValue}
use Rattle.world_core.specs.declared.world.WorldFacts.{WorldFacts}
use Rattle.world_core.specs.Sends.{sends_below, IsSendNumber}
use Rattle.world_core.specs.Posted.{sent_of}
use Rattle.world_core.specs.Kept.{epoch, IsPostedTo}
use Rattle.sync_core.specs.declared.steps.Step.TheVariants.{Raise, Post, Sample}
use Rattle.sync_core.specs.Moves.{Move, Take, Cut}
use Rattle.neighbour_sync.specs.declared.answers.Posted.TheVariants.{Added}
use Rattle.neighbour_sync.specs.declared.rule.View.{View}
use Rattle.neighbour_sync.specs.Layout.{clock_at, sent_at}
use Rattle.neighbour_sync.specs.Record.{AirRecord, IsHeard, IsPost, cut_at, first_record, with_loads}
use Rattle.neighbour_sync.specs.Rule.{KeepsRule}
use Rattle.neighbour_sync.specs.Shows.{AreAlike, after_step, first_words}
use Rattle.neighbour_sync.specs.Steps.{with_clock, with_load, with_sent}

-- the words, the record, and the clocks that the words show
pub record Running : Type 0 where
  pub words : State (Unit {0}) View
  pub air : AirRecord
  pub clocks : List ℕ

-- the words as they are laid, and the empty record
abbrev pub first_running : WorldFacts → TableId → Running
first_running w z = record { words = first_words w; air = first_record z w []; clocks = replicate w.topo.nodes 0 }

-- what one step is: the seat of node k raises its clock word to c; send number n of its node is recorded and counted;
-- the record's seat loads the clock of node k; node j hears h in cycle c, and the record's seat had loaded these clocks
-- for it; the record is cut at f, and its seat had loaded these clocks for that; any other step
pub data RunStep : Type 0 where
  Raises : (k c : ℕ) → RunStep
  Posts : (x : Send) → (n : ℕ) → RunStep
  Loads : (k : ℕ) → RunStep
  Hears : (j c : ℕ) → (h : HeardValue) → (more : List (ℕ × ℕ)) → RunStep
  Cuts : (f : ℕ) → (more : List (ℕ × ℕ)) → RunStep
  Other : RunStep

-- the step is taken in a, as the contracts of the calls let it, and leaves b
abbrev pub IsTaken : Running → RunStep → Running → Type 0
IsTaken a (Raises k c) b = (v : View) × (get_elem? a.words.views (suc k) ≡ some v) × (v.clock ≤ c) × (c ≤ a.air.world.topo.limit) × (sends_below a.air.world.sends k c ≤ v.told)
    × (b ≡ record { words = after_step a.words (clock_at k) c (suc k) (with_clock v c); air = a.air; clocks = slice_set a.clocks k c })
IsTaken a (Posts x n) b = (v : View) × (new : AirRecord) × (get_elem? a.words.views 0 ≡ some v) × IsSendNumber a.air.world n x × (x.cycle < a.air.floor + epoch) × IsPost a.air x n Added new
    × (b ≡ record { words = after_step a.words (sent_at a.air.world.topo.nodes x.node) (sent_of a.air.sent x.node + 1) 0 (with_sent v x.node); air = new; clocks = a.clocks })
IsTaken a (Loads k) b = (v : View) × (get_elem? a.words.views 0 ≡ some v) × (k < a.air.world.topo.nodes)
    × (b ≡ record { words = after_step a.words (clock_at k) (slice_index a.words.words (clock_at k)) 0 (with_load v k (slice_index a.words.words (clock_at k))); air = with_loads a.air ((k, slice_index a.words.words (clock_at k)) ∷ []); clocks = a.clocks })
IsTaken a (Hears j c h more) b = (r : AirRecord) × (a.air ≡ with_loads r more) × Contains r.world.asks record { node = j; cycle = c } × (r.floor ≤ c) × IsHeard r j c h more b.air × (b.words ≡ a.words) × (b.clocks ≡ a.clocks)
IsTaken a (Cuts f more) b = (r : AirRecord) × (a.air ≡ with_loads r more) × (r.floor ≤ f) × (f ≤ r.world.topo.limit) × IsPostedTo r.world f r.sent × (b ≡ record { words = a.words; air = cut_at (with_loads r more) f; clocks = a.clocks })
IsTaken a Other b = KeepsRule a.air.world b.words × AreAlike a.air.world.topo.nodes a.words b.words × (b.air ≡ a.air) × (b.clocks ≡ a.clocks)

-- these steps are taken, one after another, from a to b
abbrev pub AreTaken : Running → List RunStep → Running → Type 0
AreTaken a [] b = b ≡ a
AreTaken a (x ∷ xs) b = (m : Running) × IsTaken a x m × AreTaken m xs b

-- the moves of the machine that a step is: one, or none
abbrev pub moves_of : RunStep → List Move
moves_of (Raises k c) = Take (Raise k c) ∷ []
moves_of (Posts x n) = Take (Post x.node) ∷ []
moves_of (Loads k) = []
moves_of (Hears j c h more) = Take (Sample j c) ∷ []
moves_of (Cuts f more) = Cut f ∷ []
moves_of Other = []

abbrev pub all_moves : List RunStep → List Move
all_moves [] = []
all_moves (x ∷ xs) = moves_of x ++ all_moves xs
