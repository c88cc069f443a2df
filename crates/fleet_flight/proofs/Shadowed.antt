-- The shadows with which the nodes of a run are watched from the cycle on that they have reached.
use Rattle.std.proofs.Common.{◌≡◌, ℕ, ◌+◌, ◌<◌, ◌≤◌, List, [], ◌∷◌, ◌++◌, length, refl, sym, subst, ◌∙◌, ap, arith, append-nil}
use Rattle.std.specs.Prelude.{slice_index_or}
use Rattle.std.specs.List.{All}
use Rattle.std.proofs.lemmas.List.{map-append}
use Rattle.std.proofs.lemmas.List.Elements.{All-nil}
use Rattle.air_base.specs.NodeRun.{Timed}
use Rattle.air_base.specs.declared.air.Send.{Send}
use Rattle.node_core.specs.State.{NodeState}
use Rattle.node_core.specs.declared.row.Row.{Row}
use Rattle.node_places.specs.declared.Place.{Place}
use Rattle.world_core.proofs.Alone.{rows_none}
use Rattle.fleet_flight.specs.Origin.{Origin, flown}
use Rattle.fleet_flight.specs.Paused.{AtRest, IsPaused}
use Rattle.fleet_flight.specs.Shadows.{AreSized, IsBehind, IsNew, IsStill, group_of, groups_of}
use Rattle.fleet_flight.specs.Watched.{Group, group_with, groups_in, places_of}
use Rattle.fleet_flight.specs.declared.shadow.Shadow.{Shadow}
use Rattle.fleet_flight.proofs.EachNode.{one_more}
use Rattle.fleet_flight.proofs.Sizes.{sized_at}

-- ---- one shadow more
group_some : (k : ℕ) (ps : List Place) → 1 ≤ length ps → group_with k ps ≡ record { node = k; places = ps } ∷ []
group_some k [] l = absurd (omega (arith, l))
group_some k (p ∷ ps) l = refl

pub groups_same : (vs : List Shadow) (k : ℕ) (own ps : List Place) → own ≡ places_of k ps → own ≡ [] → groups_of vs ≡ groups_of vs ++ group_with k (places_of k ps)
groups_same vs k own ps is e = sym (ap (λ (l : List Place). groups_of vs ++ group_with k l) (sym is ∙ e) ∙ append-nil (groups_of vs))

pub groups_more : (vs ws : List Shadow) (v : Shadow) (k : ℕ) (own ps : List Place) → ws ≡ vs ++ v ∷ [] → group_of v ≡ record { node = k; places = own } → own ≡ places_of k ps → 1 ≤ length own
    → groups_of ws ≡ groups_of vs ++ group_with k (places_of k ps)
groups_more vs ws v k own ps e is same l =
    ap groups_of e ∙ (map-append group_of vs (v ∷ []) ∙ (ap (λ (g : Group). groups_of vs ++ g ∷ []) is
    ∙ (ap (λ (gs : List Group). groups_of vs ++ gs) (sym (group_some k own l)) ∙ ap (λ (l : List Place). groups_of vs ++ group_with k l) same)))

-- ---- the shadows of the first k nodes
pub record Shadowed (vs : List (Timed NodeState Row)) (ps : List Place) (k : ℕ) (ws : List Shadow) : Type 0 where
  pub groups : groups_of ws ≡ groups_in k ps
  pub each : All (IsNew vs) ws

pub shadowed_none : (vs : List (Timed NodeState Row)) (ps : List Place) (ws : List Shadow) → ws ≡ [] → Shadowed vs ps 0 ws
shadowed_none vs ps ws e = record { groups = ap groups_of e; each = subst (All (IsNew vs)) (sym e) (All-nil (IsNew vs)) }

pub shadowed_more : (vs : List (Timed NodeState Row)) (ps : List Place) (k : ℕ) (ws us : List Shadow) → Shadowed vs ps k ws → groups_of us ≡ groups_of ws ++ group_with k (places_of k ps) → All (IsNew vs) us
    → Shadowed vs ps (k + 1) us
shadowed_more vs ps k ws us so groups each = record {
  groups = groups
      ∙ (ap (λ (l : List Group). l ++ group_with k (places_of k ps)) so.groups
      ∙ sym (one_more k (λ j. group_with j (places_of j ps)) (λ j. group_with j (places_of j ps)) (λ j l. refl)));
  each = each;
}

-- ---- all nodes stand, so each shadow is behind its node
module _ (o : Origin) (c : ℕ) (vs : List (Timed NodeState Row)) (xs : List Send) (paused : IsPaused (flown o) c c vs xs) where
  at_rest : (k : ℕ) (d : Timed NodeState Row) → k < length vs → AtRest (flown o) c c k (slice_index_or vs k d)
  at_rest k d l = paused.nodes k d (let n = paused.count in omega arith)

  pub all_still : AreSized o → All IsStill vs
  all_still sized k d l =
      let r = at_rest k d l in
      let n = paused.count in
      record {
        calm = r.calm;
        rows = r.rows ∙ rows_none (flown o) k c;
        sram = ap (λ (s : NodeState). length s.sram) r.state ∙ sized_at o sized k c (omega arith) paused.begun;
      }

  behind : (w : Shadow) → IsNew vs w → IsBehind (flown o) c w
  behind w new =
      let r = subst (AtRest (flown o) c c w.number) (sym (new.node w.node)) (at_rest w.number w.node new.within) in
      let n = paused.count in
      let lt = new.within in
      record { shadow = new.shadow; has = r.has; state = r.state; number = omega arith }

  pub all_behind : (ws : List Shadow) → All (IsNew vs) ws → All (IsBehind (flown o) c) ws
  all_behind ws each k d l = behind (slice_index_or ws k d) (each k d l)
