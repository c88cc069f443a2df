-- Shadows of a run's nodes: they hear what the nodes heard, so they go the same way, and what is seen of them is what is
-- seen of the nodes.
use Rattle.std.proofs.Common.{◌≡◌, ℕ, suc, ◌+◌, ◌-◌, ◌<◌, ◌≤◌, ◌==◌, Bool, true, false, List, [], ◌++◌, length, set, refl, sym, subst, ◌∙◌, ap, arith, length-set}
use Rattle.std.specs.Prelude.{slice_index_or}
use Rattle.std.specs.List.{All, filter}
use Rattle.std.specs.List.Sorted.{IsNonDecreasingBy, IsStableByKey}
use Rattle.std.specs.Ordering.{nat_cmp}
use Rattle.std.proofs.lemmas.List.Elements.{All-cons, All-nil}
use Rattle.std.proofs.lemmas.List.{length-map, get_or-map, get_or-set_other, get_or-set_same, get_or_default}
use Rattle.std.proofs.Math.Seq.{map-set_same}
use native.Mathlib.Decide.{ℕ_discrete}
use Rattle.fleet_flight.proofs.EachNode.{one_more}
use Rattle.air_base.specs.Each.{each_below}
use Rattle.air_base.specs.declared.air.Send.{Send}
use Rattle.air_base.proofs.Each.{All_each, each_same}
use Rattle.world_core.specs.Heard.{age_of, heard, heard_from}
use Rattle.world_core.specs.Order.{Fleet, hears, node_at, world_at}
use Rattle.world_core.specs.Topology.{latency_of}
use Rattle.world_core.proofs.Sorted.{merged}
use Rattle.send_order.proofs.KeptSends.{agree_by}
use Rattle.node_core.specs.Cycle.{begun_at, node_kind}
use Rattle.node_core.specs.State.{NodeState}
use Rattle.node_core.specs.declared.row.Row.{Row}
use Rattle.node_places.specs.declared.Change.{Change}
use Rattle.node_places.specs.declared.Place.{Place}
use Rattle.node_places.specs.declared.Seen.{Seen}
use Rattle.node_places.specs.declared.Spot.{Spot}
use Rattle.node_places.specs.declared.Spot.TheVariants as spot
use Rattle.fleet_flight.specs.Alone.{alone}
use Rattle.fleet_flight.specs.Paused.{HasRun, IsHeld}
use Rattle.fleet_flight.specs.Shadows.{Goes, IsBehind, IsShadow, ear_of, group_of, groups_of}
use Rattle.fleet_flight.specs.Watched.{Group, byte_of, no_group, no_place, seen_at, seen_by, seen_from, seen_if, seen_in, watched}
use Rattle.fleet_flight.specs.Origin.{Origin, flown}
use Rattle.fleet_flight.specs.declared.shadow.Shadow.{Shadow}
use Rattle.fleet_flight.proofs.Hearing.{audible_before, kept_heard}
use Rattle.fleet_flight.proofs.Ordered.{along}

-- what a node hears in a cycle before the end, by a record of which nothing is gone that it could hear
pub heard_behind : {S R : Type 0} (f : Fleet S R) (floor end k c : ℕ) (xs : List Send) → IsHeld f floor end xs → f.start ≤ floor → floor ≤ c → c < end
    → All (λ l. 1 ≤ latency_of f.topo l.from l.to) f.topo.links → hears f c (world_at f c) k ≡ heard f.topo xs k c
unfolding heard
heard_behind f floor end k c xs held start from lt each =
    let same = audible_before f k c c end 1 (omega arith) (omega arith) (omega arith) each in
    sym (kept_heard f.topo floor c k xs (world_at f end).sends from held ∙ ap (heard_from (age_of f.topo k c)) same)

-- the rows of a cycle bear its number
if_bears : (b : Bool) (t k : ℕ) (x : Seen) → All (λ c. c.cycle ≡ t) (seen_if b t k x)
if_bears true t k x = All-cons (λ (c : Change). c.cycle ≡ t) (record { cycle = t; node = k; seen = x }) [] refl (All-nil (λ (c : Change). c.cycle ≡ t))
if_bears false t k x = All-nil (λ (c : Change). c.cycle ≡ t)

module _ (o : Origin) where
  abbrev f : Fleet NodeState Row
  f = flown o

  seen_bears : (g : Group) (t : ℕ) → All (λ c. c.cycle ≡ t) (seen_in f g t)
  seen_bears g t =
      All_each (λ (c : Change). c.cycle ≡ t) (length g.places) (λ j. seen_at (slice_index_or g.places j no_place) t (node_at f g.node t) (node_at f g.node (t + 1)))
      (λ j l. one (slice_index_or g.places j no_place) (node_at f g.node t) (node_at f g.node (t + 1)))
    where
      one_of : (x : Spot) (k : ℕ) (s u : NodeState) → All (λ c. c.cycle ≡ t) (seen_from x t k (byte_of x s) (begun_at s) u)
      one_of (spot.Byte at) k s u = if_bears _ t k _
      one_of (spot.At at) k s u = if_bears _ t k _

      one : (p : Place) (s u : NodeState) → All (λ c. c.cycle ≡ t) (seen_at p t s u)
      one p s u = one_of p.spot p.node s u

  pub in_order : (gs : List Group) (floor end : ℕ) (xs ys : List Change) → xs ≡ each_below (length gs) (λ g. each_below (end - floor) (λ i. seen_in f (slice_index_or gs g no_group) (floor + i)))
      → IsNonDecreasingBy (λ c. c.cycle) ys → IsStableByKey (λ c. c.cycle) nat_cmp xs ys → ys ≡ watched f gs floor end
  in_order gs floor end xs ys all up stable =
      merged (λ (c : Change). c.cycle) floor (λ g i. seen_in f (slice_index_or gs g no_group) (floor + i)) (λ g i. seen_bears (slice_index_or gs g no_group) (floor + i)) (length gs) (end - floor) ys up
      (λ z. agree_by (λ (c : Change). c.cycle) xs ys stable z ∙ ap (λ (l : List Change). filter_of z l) all)
    where
      filter_of : Change → List Change → List Change
      filter_of z l = filter (λ (c : Change). c.cycle == z.cycle) l

  -- so many of all shadows came from the cycle `floor` to the cycle `end`
  pub record Followed (floor end : ℕ) (vs : List Shadow) (k : ℕ) (items : List Shadow) (cs : List Change) : Type 0 where
    pub count : length items ≡ length vs
    pub changes : cs ≡ each_below k (λ g. each_below (end - floor) (λ i. seen_in f (slice_index_or (groups_of vs) g no_group) (floor + i)))
    pub done : (j : ℕ) (d : Shadow) → j < k → IsBehind f end (slice_index_or items j d)
    pub left : (j : ℕ) (d : Shadow) → k ≤ j → slice_index_or items j d ≡ slice_index_or vs j d
    pub groups : groups_of items ≡ groups_of vs

  pub followed_none : (floor end : ℕ) (vs : List Shadow) (cs : List Change) → cs ≡ [] → Followed floor end vs 0 vs cs
  followed_none floor end vs cs e = record {
    count = refl;
    changes = e;
    done = (λ j d l. absurd (omega arith));
    left = (λ j d l. refl);
    groups = refl;
  }

  pub followed_all : (floor end : ℕ) (vs : List Shadow) (k : ℕ) (items : List Shadow) (cs : List Change) → Followed floor end vs k items cs → length vs ≤ k → All (IsBehind f end) items
  followed_all floor end vs k items cs so low j d l = so.done j d (let c = so.count in omega arith)

  pub followed_seen : (floor end : ℕ) (vs : List Shadow) (k : ℕ) (items : List Shadow) (cs : List Change) → Followed floor end vs k items cs → k ≡ length vs
      → cs ≡ each_below (length (groups_of vs)) (λ g. each_below (end - floor) (λ i. seen_in f (slice_index_or (groups_of vs) g no_group) (floor + i)))
  followed_seen floor end vs k items cs so e =
      so.changes ∙ ap (λ (n : ℕ). each_below n (λ g. each_below (end - floor) (λ i. seen_in f (slice_index_or (groups_of vs) g no_group) (floor + i)))) (e ∙ sym (length-map vs group_of))

  -- ---- one shadow
  module _ (floor end : ℕ) (xs : List Send) (held : IsHeld f floor end xs) (start : o.cycle ≤ floor) (more : floor ≤ end) (each : All (λ l. 1 ≤ latency_of o.topo l.from l.to) o.topo.links) where
    hearing : (k : ℕ) (n : ℕ) → n ≤ end - floor → (i : ℕ) → i < n → hears f (floor + i) (world_at f (floor + i)) k ≡ ear_of o.topo xs k (floor + i)
    hearing k n le i l = heard_behind f floor end k (floor + i) xs held start (omega arith) (omega arith) each

    module _ (v w : Shadow) (cs ds : List Change) (was : IsBehind f floor v) (goes : Goes (ear_of o.topo xs v.number) floor (end - floor) v cs w ds) where
      there : (n : ℕ) → n ≤ end - floor → alone node_kind (ear_of o.topo xs v.number) floor n v.node.state ≡ node_at f v.number (floor + n)
      there n le =
          ap (alone node_kind (ear_of o.topo xs v.number) floor n) was.state ∙ sym (along f v.number floor (ear_of o.topo xs v.number) start n (hearing v.number n le))

      pub behind_on : IsShadow w → HasRun node_kind end w.node → IsBehind f end w
      behind_on shadow has =
          let e : floor + (end - floor) ≡ end = omega arith in
          record {
            shadow = shadow;
            has = has;
            state = goes.state ∙ (there (end - floor) (omega arith) ∙ (λ i. node_at f (sym goes.number i) (e i)));
            number = subst (λ (k : ℕ). k < o.topo.nodes) (sym goes.number) was.number;
          }

      pub seen_on : ds ≡ cs ++ each_below (end - floor) (λ i. seen_in f (group_of v) (floor + i))
      seen_on =
          goes.changes
          ∙ ap (λ (l : List Change). cs ++ l)
          (each_same (end - floor)
          (λ i. seen_by v.places.items (floor + i) (alone node_kind (ear_of o.topo xs v.number) floor i v.node.state) (alone node_kind (ear_of o.topo xs v.number) floor (suc i) v.node.state))
          (λ i. seen_in f (group_of v) (floor + i))
          (λ i l.
          let e : floor + suc i ≡ floor + i + 1 = omega arith in
          (λ x. seen_by v.places.items (floor + i) (there i (omega arith) x) ((there (suc i) (omega arith) ∙ ap (node_at f v.number) e) x))))

      pub same_group : group_of w ≡ group_of v
      same_group = (λ i. record { node = goes.number i; places = (goes.places i).items })

    -- ---- one shadow more
    module _ (vs : List Shadow) (all : All (IsBehind f floor) vs) (k : ℕ) (items : List Shadow) (cs ds : List Change) (so : Followed floor end vs k items cs) (lt : k < length vs) (v w : Shadow) (own : v ≡ slice_index_or items k v) where
      own_first : (d : Shadow) → v ≡ slice_index_or vs k d
      own_first d = own ∙ (so.left k v (omega arith) ∙ get_or_default vs k v d lt)

      pub was_behind : IsBehind f floor v
      was_behind = subst (IsBehind f floor) (sym (own_first v)) (all k v lt)

      module _ (goes : Goes (ear_of o.topo xs v.number) floor (end - floor) v cs w ds) (shadow : IsShadow w) (has : HasRun node_kind end w.node) where
        abbrev piece : ℕ → List Change
        piece g = each_below (end - floor) (λ i. seen_in f (slice_index_or (groups_of vs) g no_group) (floor + i))

        mine : group_of v ≡ slice_index_or (groups_of vs) k no_group
        mine = ap group_of (own_first v) ∙ sym (get_or-map group_of vs k v no_group lt)

        done_case : (j : ℕ) (d : Shadow) → Dec (j ≡ k) → j < k + 1 → IsBehind f end (slice_index_or (set items k w) j d)
        done_case j d (yes e) l =
            subst (λ (i : ℕ). IsBehind f end (slice_index_or (set items k w) i d)) (sym e)
            (subst (IsBehind f end) (sym (get_or-set_same items k w d (let c = so.count in omega arith))) (behind_on v w cs ds was_behind goes shadow has))
        done_case j d (no ne) l = subst (IsBehind f end) (sym (get_or-set_other items k j w d ne)) (so.done j d (omega arith))

        pub followed_more : Followed floor end vs (k + 1) (set items k w) ds
        followed_more = record {
          count = length-set items k w ∙ so.count;
          changes = seen_on v w cs ds was_behind goes
              ∙ ((λ i. so.changes i ++ each_below (end - floor) (λ n. seen_in f (mine i) (floor + n))) ∙ sym (one_more k piece piece (λ j l. refl)));
          done = (λ j d l. done_case j d (ℕ_discrete j k) l);
          left = (λ j d l. get_or-set_other items k j w d (λ e. absurd (omega arith)) ∙ so.left j d (omega arith));
          groups = map-set_same group_of items k w v (same_group v w cs ds was_behind goes ∙ ap group_of own) ∙ so.groups;
        }
