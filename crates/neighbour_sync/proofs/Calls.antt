-- What each call owes to the table, from what the fields of the words and of the seat keep.
use Rattle.std.proofs.Common.{◌≡◌, ℕ, ◌+◌, ◌<◌, ◌≤◌, min, List, length, sym, subst, ◌∙◌, ap, arith}
use mathlib.Core.Option.{none}
use Rattle.atomic_table.specs.Table.{step, Allows}
use Rattle.atomic_table.specs.Seated.{TableId}
use Rattle.world_core.specs.declared.world.WorldFacts.{WorldFacts}
use Rattle.world_core.specs.Sends.{sends_of, sends_below}
use Rattle.world_core.specs.Posted.{sent_of}
use Rattle.neighbour_sync.specs.Layout.{clock_at, sent_at, want_at, halt_at}
use Rattle.neighbour_sync.specs.Rule.{KeepsRule}
use Rattle.neighbour_sync.specs.Steps.{clock_loaded, clock_peeked, clock_raised, sent_stored, sent_seen, want_left, halt_stored, halt_loaded}
use Rattle.neighbour_sync.specs.Inside.{IsLaid, IsAirSeat, IsNodeSeat}
use Rattle.neighbour_sync.specs.Asks.{MayLoad, MayStore, MayLower}
use Rattle.neighbour_sync.proofs.Views.{Seat}
use Rattle.neighbour_sync.proofs.NodeSteps.{peeks, raises, sees, wants, stops, asks}
use Rattle.neighbour_sync.proofs.AirSteps.{loads, counts}

words_same : (z mine : TableId) → mine ≡ z → mine.words ≡ z.words
words_same z mine same = ap (λ (y : TableId). y.words) same

pub may_load_clock : (w : WorldFacts) (z mine : TableId) (id nodes k i : ℕ) (me : Seat) (sent : List ℕ) → mine ≡ z → IsLaid z.words nodes w → IsAirSeat mine.words me sent → k < me.0.world.topo.nodes → i ≡ clock_at k
    → MayLoad w z mine id me i clock_loaded
may_load_clock w z mine id nodes k i me sent same laid seat lt at =
    let e = words_same z mine same in
    let n : me.0.world.topo.nodes ≡ w.topo.nodes = omega (arith, seat.words_is, laid.words_is, laid.nodes_is) in
    record { same = same; inside = omega (arith, laid.words_is, laid.nodes_is); allowed = subst (λ (m : ℕ). Allows (KeepsRule w) z.slots id me m (λ x. x) (clock_loaded (step z.slots m 0 0 none) me)) (sym at) (loads w z.slots id k me seat.is_air (omega arith)) }

pub may_store_sent : (w : WorldFacts) (z mine : TableId) (id nodes k i c : ℕ) (me : Seat) (sent : List ℕ) → mine ≡ z → IsLaid z.words nodes w → IsAirSeat mine.words me sent → k < me.0.world.topo.nodes
    → sent_of sent k < length (sends_of k me.0.world.sends) → i ≡ sent_at nodes k → c ≡ sent_of sent k + 1 → MayStore w z mine id me i c sent_stored
may_store_sent w z mine id nodes k i c me sent same laid seat lt further at is =
    let e = words_same z mine same in
    let n : me.0.world.topo.nodes ≡ w.topo.nodes = omega (arith, seat.words_is, laid.words_is, laid.nodes_is) in
    let at' : sent_at w.topo.nodes k ≡ i = let q = laid.nodes_is in omega arith in
    let is' : sent_of me.0.sent k + 1 ≡ c = ap (λ (l : List ℕ). sent_of l k + 1) seat.sent_is ∙ sym is in
    let F : ℕ → ℕ → Type 0 = λ m x. Allows (KeepsRule w) z.slots id me m (λ _. x) (λ _. sent_stored (step z.slots m x 0 none) me x) in record {
      same = same;
      inside = omega (arith, laid.words_is, laid.nodes_is);
      allowed = subst (F i) is' (subst (λ (m : ℕ). F m (sent_of me.0.sent k + 1)) at'
          (counts w z.slots id k me seat.is_air (omega arith) (subst (λ (l : List ℕ). sent_of l k < length (sends_of k me.0.world.sends)) (sym seat.sent_is) further)));
    }

-- the six steps of a node's seat
module _ (w : WorldFacts) (z mine : TableId) (id nodes number clock told : ℕ) (me : Seat) (same : mine ≡ z) (laid : IsLaid z.words nodes w) (seat : IsNodeSeat mine.words me number clock told) where
  nodes_same : me.0.world.topo.nodes ≡ w.topo.nodes
  nodes_same = let e = words_same z mine same in omega (arith, seat.words_is, laid.words_is, laid.nodes_is)

  pub may_peek : (k i : ℕ) → k < me.0.world.topo.nodes → i ≡ clock_at k → MayLoad w z mine id me i clock_peeked
  may_peek k i lt at =
      let n = nodes_same in
      record { same = same; inside = omega (arith, laid.words_is, laid.nodes_is); allowed = subst (λ (m : ℕ). Allows (KeepsRule w) z.slots id me m (λ x. x) (clock_peeked (step z.slots m 0 0 none) me)) (sym at) (peeks w z.slots id k me seat.is_node) }

  pub may_raise : (i c : ℕ) → i ≡ clock_at number → clock ≤ c → c ≤ me.0.world.topo.limit → sends_below me.0.world.sends number c ≤ told → MayStore w z mine id me i c clock_raised
  may_raise i c at rises le below =
      let n = nodes_same in
      let at' : clock_at me.0.number ≡ i = let q = seat.number_is in omega arith in
      let below' : sends_below me.0.world.sends me.0.number c ≤ me.0.told = rw (seat.number_is, seat.told_is) below in
      record { same = same; inside = omega (arith, laid.words_is, laid.nodes_is, seat.below); allowed = subst (λ (m : ℕ). Allows (KeepsRule w) z.slots id me m (λ _. c) (λ _. clock_raised (step z.slots m c 0 none) me c)) at' (raises w z.slots id c me seat.is_node (let q = seat.clock_is in omega arith) le below') }

  pub may_see : (i : ℕ) → i ≡ sent_at nodes number → MayLoad w z mine id me i sent_seen
  may_see i at =
      let n = nodes_same in
      let at' : sent_at w.topo.nodes me.0.number ≡ i = let q = seat.number_is in let r = laid.nodes_is in omega arith in
      record { same = same; inside = omega (arith, laid.words_is, laid.nodes_is, seat.below); allowed = subst (λ (m : ℕ). Allows (KeepsRule w) z.slots id me m (λ x. x) (sent_seen (step z.slots m 0 0 none) me)) at' (sees w z.slots id me seat.is_node) }

  -- a look at its own want word, with no seat
  pub may_look : (i : ℕ) → i ≡ want_at nodes number → i < z.words
  may_look i at = let n = nodes_same in omega (arith, laid.words_is, laid.nodes_is, seat.below)

  pub may_clear : (i c : ℕ) → i ≡ want_at nodes number → MayStore w z mine id me i c want_left
  may_clear i c at =
      let n = nodes_same in
      let at' : want_at w.topo.nodes number ≡ i = let r = laid.nodes_is in omega arith in
      let lt : number < w.topo.nodes = let q = seat.below in omega arith in
      record { same = same; inside = may_look i at; allowed = subst (λ (m : ℕ). Allows (KeepsRule w) z.slots id me m (λ _. c) (λ _. want_left (step z.slots m c 0 none) me c)) at' (wants w z.slots id number (λ _. c) me seat.is_node lt) }

  pub may_want : (k i c : ℕ) → k < w.topo.nodes → i ≡ want_at nodes k → MayLower w z mine id me i c want_left
  may_want k i c lt at =
      let at' : want_at w.topo.nodes k ≡ i = let r = laid.nodes_is in omega arith in
      record { same = same; inside = omega (arith, laid.words_is, laid.nodes_is); allowed = subst (λ (m : ℕ). Allows (KeepsRule w) z.slots id me m (λ x. min x c) (want_left (step z.slots m c 0 none) me)) at' (wants w z.slots id k (λ x. min x c) me seat.is_node lt) }

  pub may_halt : (i : ℕ) → i ≡ halt_at nodes → MayStore w z mine id me i 1 halt_stored
  may_halt i at =
      let at' : halt_at w.topo.nodes ≡ i = let r = laid.nodes_is in omega arith in
      record { same = same; inside = omega (arith, laid.words_is); allowed = subst (λ (m : ℕ). Allows (KeepsRule w) z.slots id me m (λ _. 1) (λ _. halt_stored (step z.slots m 1 0 none) me 1)) at' (stops w z.slots id me seat.is_node) }

  pub may_ask : (i : ℕ) → i ≡ halt_at nodes → MayLoad w z mine id me i halt_loaded
  may_ask i at =
      let at' : halt_at w.topo.nodes ≡ i = let r = laid.nodes_is in omega arith in
      record { same = same; inside = omega (arith, laid.words_is); allowed = subst (λ (m : ℕ). Allows (KeepsRule w) z.slots id me m (λ x. x) (halt_loaded (step z.slots m 0 0 none) me)) at' (asks w z.slots id me seat.is_node) }
