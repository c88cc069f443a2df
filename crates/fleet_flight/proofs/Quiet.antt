-- Places that are compared one behind another, and those among them at which nothing is seen in a cycle.
use Rattle.std.proofs.Common.{◌≡◌, ℕ, zero, suc, ◌+◌, ◌-◌, ◌<◌, ◌≤◌, false, Option, List, [], ◌++◌, length, refl, sym, subst, ◌∙◌, ap, arith, append-nil}
use Rattle.std.specs.Prelude.{slice_index, slice_index_or}
use Rattle.std.proofs.lemmas.Bool.Decides.{nat_tests}
use native.Mathlib.Decide.{ℕ_discrete}
use Rattle.data_space.specs.declared.regions.TheConstants.{SRAM_START}
use Rattle.node_core.specs.State.{NodeState}
use Rattle.node_places.specs.declared.Change.{Change}
use Rattle.node_places.specs.declared.Place.{Place}
use Rattle.node_places.specs.declared.Spot.{Spot}
use Rattle.node_places.specs.declared.Spot.TheVariants as spot
use Rattle.fleet_flight.specs.Shadows.{AreGrouped, Compared, IsInstruction, IsOfSram}
use Rattle.fleet_flight.specs.Watched.{byte_at, byte_of, is_at, no_place, seen_from}
use Rattle.fleet_flight.specs.declared.sights.Sights.{Sights}
use Rattle.fleet_flight.proofs.Following.{one_place, same_byte}

-- ---- a place at which nothing is seen
sram_byte : (at : ℕ) (u : NodeState) → SRAM_START ≤ at → byte_at at u ≡ slice_index u.sram (at - SRAM_START)
unfolding byte_at
sram_byte at u low = grind (arith, nat_tests, low)

sram_is : (x : Spot) (key : ℕ) (u : NodeState) → IsOfSram x key → byte_of x u ≡ slice_index u.sram key
sram_is x key u is =
    let there : SRAM_START + key - SRAM_START ≡ key = omega arith in
    ap (λ (y : Spot). byte_of y u) is.0 ∙ (sram_byte (SRAM_START + key) u (omega arith) ∙ ap (slice_index u.sram) there)

none_of_byte : (at t k was : ℕ) (begun : Option ℕ) (u : NodeState) → was ≡ byte_at at u → seen_from (spot.Byte at) t k was begun u ≡ []
none_of_byte at t k was begun u e = rw (same_byte (byte_at at u) was (sym e)) refl

none_of_sram : (x : Spot) (key t k was : ℕ) (begun : Option ℕ) (u : NodeState) → IsOfSram x key → was ≡ byte_of x u → seen_from x t k was begun u ≡ []
none_of_sram x key t k was begun u is e =
    ap (λ (y : Spot). seen_from y t k was begun u) is.0 ∙ none_of_byte (SRAM_START + key) t k was begun u (e ∙ ap (λ (y : Spot). byte_of y u) is.0)

none_begun : (at t k was : ℕ) (begun : Option ℕ) (u : NodeState) → is_at begun at ≡ false → seen_from (spot.At at) t k was begun u ≡ []
none_begun at t k was begun u e = rw e refl

none_of_instruction : (x : Spot) (at t k was : ℕ) (begun : Option ℕ) (u : NodeState) → IsInstruction x at → is_at begun at ≡ false → seen_from x t k was begun u ≡ []
none_of_instruction x at t k was begun u is e = ap (λ (y : Spot). seen_from y t k was begun u) is ∙ none_begun at t k was begun u e

module _ (ps : List Place) (xs : List ℕ) (begun : Option ℕ) (t : ℕ) (u : NodeState) (cs : List Change) where
  abbrev at_place : ℕ → Place
  at_place j = slice_index_or ps j no_place

  -- ---- none yet, and one more
  pub compared_none : length xs ≡ length ps → Compared ps xs begun t u cs 0 xs cs
  compared_none count = record {
    count = count;
    changes = sym (append-nil cs);
    done = λ j l. absurd (omega (arith, l));
    left = λ j l. refl;
  }

  module _ (ys : List ℕ) (ds : List Change) where
    quiet_next : (k : ℕ) → Compared ps xs begun t u cs k ys ds → seen_from (at_place k).spot t (at_place k).node (slice_index ys k) begun u ≡ [] → slice_index ys k ≡ byte_of (at_place k).spot u
        → Compared ps xs begun t u cs (k + 1) ys ds
    quiet_next k d none byte = record {
      count = d.count;
      changes = one_place ps xs begun t u k (slice_index ys k) cs ds ds (d.left k (omega arith)) d.changes (sym (ap (λ (l : List Change). ds ++ l) none ∙ append-nil ds));
      done = λ j l. by_case j l (ℕ_discrete j k);
      left = λ j l. d.left j (omega arith);
    }
      where
        by_case : (j : ℕ) → j < k + 1 → Dec (j ≡ k) → slice_index ys j ≡ byte_of (at_place j).spot u
        by_case j l (yes same) = ap (slice_index ys) same ∙ (byte ∙ ap (λ (i : ℕ). byte_of (at_place i).spot u) (sym same))
        by_case j l (no ne) = d.done j (omega arith)

    -- ---- a span of places at which nothing is seen
    quiet_more : (a n : ℕ) → ((j : ℕ) → a ≤ j → j < a + n → seen_from (at_place j).spot t (at_place j).node (slice_index ys j) begun u ≡ [])
        → ((j : ℕ) → a ≤ j → j < a + n → slice_index ys j ≡ byte_of (at_place j).spot u) → Compared ps xs begun t u cs a ys ds → Compared ps xs begun t u cs (a + n) ys ds
    quiet_more a zero none byte d = let e : a ≡ a + 0 = omega arith in subst (λ (k : ℕ). Compared ps xs begun t u cs k ys ds) e d
    quiet_more a (suc n) none byte d =
        let e : a + n + 1 ≡ a + suc n = omega arith in
        subst (λ (k : ℕ). Compared ps xs begun t u cs k ys ds) e
        (quiet_next (a + n) (quiet_more a n (λ j f l. none j f (omega arith)) (λ j f l. byte j f (omega arith)) d) (none (a + n) (omega arith) (omega arith)) (byte (a + n) (omega arith) (omega arith)))

    quiet_to : (a b : ℕ) → a ≤ b → ((j : ℕ) → a ≤ j → j < b → seen_from (at_place j).spot t (at_place j).node (slice_index ys j) begun u ≡ [])
        → ((j : ℕ) → a ≤ j → j < b → slice_index ys j ≡ byte_of (at_place j).spot u) → Compared ps xs begun t u cs a ys ds → Compared ps xs begun t u cs b ys ds
    quiet_to a b le none byte d =
        let e : a + (b - a) ≡ b = omega arith in
        subst (λ (k : ℕ). Compared ps xs begun t u cs k ys ds) e (quiet_more a (b - a) (λ j f l. none j f (omega arith)) (λ j f l. byte j f (omega arith)) d)

    -- bytes of the SRAM that are as they were
    pub still_compared : (g : Sights) → AreGrouped ps g → ((j : ℕ) → g.sram ≤ j → j < g.at → slice_index ys j ≡ slice_index u.sram (slice_index g.keys.items j))
        → Compared ps xs begun t u cs g.sram ys ds → Compared ps xs begun t u cs g.at ys ds
    still_compared g grouped same =
        let byte : (j : ℕ) → g.sram ≤ j → j < g.at → slice_index ys j ≡ byte_of (at_place j).spot u
        = λ j f l. same j f l ∙ sym (sram_is (at_place j).spot (slice_index g.keys.items j) u (grouped.bytes j f l)) in
        quiet_to g.sram g.at grouped.order
        (λ j f l. none_of_sram (at_place j).spot (slice_index g.keys.items j) t (at_place j).node (slice_index ys j) begun u (grouped.bytes j f l) (byte j f l)) byte

    -- instructions of which none begins
    pub none_compared : (g : Sights) → AreGrouped ps g → ((j : ℕ) → g.at ≤ j → j < length ps → slice_index ys j ≡ 0) → ((j : ℕ) → g.at ≤ j → j < length ps → is_at begun (slice_index g.keys.items j) ≡ false)
        → Compared ps xs begun t u cs g.at ys ds → Compared ps xs begun t u cs (length ps) ys ds
    none_compared g grouped zeros none =
        quiet_to g.at (length ps) grouped.within
        (λ j f l. none_of_instruction (at_place j).spot (slice_index g.keys.items j) t (at_place j).node (slice_index ys j) begun u (grouped.instructions j f l) (none j f l))
        (λ j f l. zeros j f l ∙ sym (ap (λ (x : Spot). byte_of x u) (grouped.instructions j f l)))
