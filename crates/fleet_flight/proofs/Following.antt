-- One node that runs by itself, cycle by cycle, and what is seen of it.
use Rattle.std.proofs.Common.{◌≡◌, ℕ, zero, suc, ◌+◌, ◌-◌, ◌<◌, ◌≤◌, true, false, ◌==◌, Option, None, is_some, not, List, [], ◌∷◌, ◌++◌, length, refl, sym, subst, ◌∙◌, ap, arith, append-nil, append_assoc}
use Rattle.std.specs.Prelude.{slice_index, slice_index_or, slice_set}
use Rattle.std.proofs.lemmas.List.{get_or-set_other, get_or-set_same}
use native.Mathlib.Decide.{ℕ_discrete}
use Rattle.fleet_flight.proofs.EachNode.{one_more}
use Rattle.std.proofs.lemmas.Bool.{false≢true}
use Rattle.std.proofs.lemmas.Bool.Decides.{nat_tests}
use Rattle.air_base.specs.NodeKind.{NodeKind, ticked}
use Rattle.air_base.specs.NodeRun.{Timed, AllQuiet, Asks, Rests, Sends, Stops, answered, passed}
use Rattle.air_base.specs.declared.air.Heard.{Heard}
use Rattle.air_base.specs.declared.air.Send.{Send}
use Rattle.air_base.proofs.Each.{each_none, each_same}
use Rattle.board_io.specs.Cycle.{timers_leap}
use Rattle.node_core.specs.Cycle.{begins, begun_at, node_kind}
use Rattle.node_core.specs.Pace.Midway.{OnlyRests, rested}
use Rattle.node_core.specs.State.{NodeState}
use Rattle.node_core.specs.declared.row.Row.{Row}
use Rattle.node_core.proofs.Steady.{steady}
use Rattle.node_places.specs.declared.Change.{Change}
use Rattle.node_places.specs.declared.Place.{Place}
use Rattle.node_places.specs.declared.Spot.{Spot}
use Rattle.node_places.specs.declared.Spot.TheVariants as spot
use Rattle.fleet_flight.specs.Alone.{alone}
use Rattle.fleet_flight.specs.Shadows.{AreBytes, AreGrouped, Goes, IsShadow, IsSpot, Ticks, seen_along, seen_first, seen_of_all}
use Rattle.fleet_flight.specs.declared.shadow.Shadow.{Shadow}
use Rattle.std.specs.List.{All}
use Rattle.fleet_flight.specs.Watched.{byte_at, byte_of, no_place, seen_at, seen_by, seen_from}
use Rattle.fleet_flight.proofs.Alone.{GoesAlone}
use Rattle.fleet_flight.proofs.Trails.{alone_add, asks_alone, comes_alone, each_add, passes, sends_alone, stopped_alone}

module _ {S R : Type 0} (m : NodeKind S R) (h : ℕ → Heard) where
  pub alone_none : (t : ℕ) (s : S) → alone m h t 0 s ≡ s
  unfolding alone
  alone_none t s = refl

  passed_none : (t : ℕ) (s : S) → passed m t 0 s ≡ s
  unfolding passed
  passed_none t s = refl

  pub alone_one : (t : ℕ) (s : S) → alone m h t 1 s ≡ ticked m t s (h t)
  unfolding alone
  alone_one t s = let e : t + 0 ≡ t = omega arith in (λ i. ticked m (e i) s (h (e i)))

  pub alone_next : (t n : ℕ) (s : S) → alone m h t (suc n) s ≡ alone m h (t + n) 1 (alone m h t n s)
  alone_next t n s = let e : suc n ≡ n + 1 = omega arith in ap (λ (l : ℕ). alone m h t l s) e ∙ alone_add m h t n 1 s

  -- ---- one cycle
  module _ (v w : Timed S R) where
    one_alone : (k : ℕ) (ys : List Send) → GoesAlone m h k v [] w ys → w.cycle ≡ v.cycle + 1 → w.state ≡ ticked m v.cycle v.state (h v.cycle)
    one_alone k ys g at =
        let one : g.count ≡ 1 = (let a = g.cycle in omega arith) in
        g.state ∙ (ap (λ (n : ℕ). alone m h v.cycle n v.state) one ∙ alone_one v.cycle v.state)

    pub one_rests : Rests m v (v.cycle + 1) w → w.state ≡ ticked m v.cycle v.state (h v.cycle)
    one_rests r = one_alone 0 [] (comes_alone m h 0 (v.cycle + 1) v w [] r) r.cycle

    pub one_sends : (c b : ℕ) → c < v.cycle + 1 → Sends m v c b w → (w.cycle ≡ v.cycle + 1) × (w.state ≡ ticked m v.cycle v.state (h v.cycle))
    one_sends c b lt r =
        let from = r.comes.later in
        let at : w.cycle ≡ c + 1 = ap (λ (z : Timed S R). z.cycle) r.after in
        let here : w.cycle ≡ v.cycle + 1 = omega arith in
        (here, one_alone 0 (record { node = 0; cycle = c; byte = b } ∷ []) (sends_alone m h 0 c b v w [] (record { node = 0; cycle = c; byte = b } ∷ []) r refl) here)

    pub asks_there : (c : ℕ) → c < v.cycle + 1 → Asks m v c w → w.cycle ≡ v.cycle
    asks_there c lt r = let from = r.comes.later in let at : w.cycle ≡ c = ap (λ (z : Timed S R). z.cycle) r.after in omega arith

    pub one_asks : ((c : ℕ) (s : S) → m.asks c s ≡ true → m.sends c s ≡ None) → (c : ℕ) → c < v.cycle + 1 → Asks m v c w
        → (m.finished w.cycle w.state (h v.cycle)) ≡ ticked m v.cycle v.state (h v.cycle)
    one_asks apart c lt r =
        let from = r.comes.later in
        let e : v.cycle ≡ c = omega arith in
        let at : w.cycle ≡ c = ap (λ (z : Timed S R). z.cycle) r.after in
        let u : Timed S R = answered m w (h v.cycle) in
        answers u refl (ap h e) (let there : w.cycle + 1 ≡ v.cycle + 1 = omega arith in there)
      where
        answers : (u : Timed S R) → u ≡ answered m w (h v.cycle) → h v.cycle ≡ h c → u.cycle ≡ v.cycle + 1 → u.state ≡ ticked m v.cycle v.state (h v.cycle)
        answers u after same there =
            let g = asks_alone m h 0 c v w u [] (h v.cycle) (λ s. apart c s) r same after in
            let one : g.count ≡ 1 = (let a = g.cycle in omega arith) in
            g.state ∙ (ap (λ (n : ℕ). alone m h v.cycle n v.state) one ∙ alone_one v.cycle v.state)

    pub one_stops : m.is_stopped v.state ≡ false → w.cycle ≤ v.cycle + 1 → Stops m v w → Rests m v (v.cycle + 1) w
    one_stops going lim r =
        let from = r.rests.comes.later in
        by_case (w.cycle - v.cycle) refl
      where
        by_case : (n : ℕ) → n ≡ w.cycle - v.cycle → Rests m v (v.cycle + 1) w
        by_case zero e =
            let same : w.state ≡ v.state = r.rests.comes.state ∙ (ap (λ (n : ℕ). passed m v.cycle n v.state) (sym e) ∙ passed_none v.cycle v.state) in
            absurd (false≢true (sym going ∙ (ap m.is_stopped (sym same) ∙ r.stopped)))
        by_case (suc n) e =
            let from = r.rests.comes.later in
            let at : w.cycle ≡ v.cycle + 1 = omega arith in
            subst (λ (c : ℕ). Rests m v c w) at r.rests

-- ---- a cycle of this kind of node, by how a run up to its end answers
module _ (h : ℕ → Heard) (v w : Timed NodeState Row) (going : is_some v.state.stop ≡ false) (to : ℕ) (next : to ≡ v.cycle + 1) where
  pub ticks_rests : Rests node_kind v to w → Ticks v (h v.cycle) w
  ticks_rests r =
      let here = subst (λ (c : ℕ). Rests node_kind v c w) next r in
      record { cycle = here.cycle; calm = here.asking; state = one_rests node_kind h v w here }

  pub ticks_stops : w.cycle ≤ to → Stops node_kind v w → Ticks v (h v.cycle) w
  ticks_stops lim r = ticks_rests (subst (λ (c : ℕ). Rests node_kind v c w) (sym next) (one_stops node_kind h v w going (omega arith) r))

  pub ticks_sends : (c b : ℕ) → c < to → Sends node_kind v c b w → Ticks v (h v.cycle) w
  ticks_sends c b lt r =
      let both = one_sends node_kind h v w c b (omega arith) r in
      record { cycle = both.0; calm = ap (λ (z : Timed NodeState Row). z.asking) r.after; state = both.1 }

  pub ticks_asks : (c : ℕ) → c < to → Asks node_kind v c w → (x : Heard) → x ≡ h v.cycle → (u : Timed NodeState Row) → u ≡ answered node_kind w x → Ticks v (h v.cycle) u
  ticks_asks c lt r x same u after =
      let there = asks_there node_kind h v w c (omega arith) r in
      let at : u.cycle ≡ w.cycle + 1 = ap (λ (z : Timed NodeState Row). z.cycle) after in
      record {
        cycle = omega arith;
        calm = ap (λ (z : Timed NodeState Row). z.asking) after;
        state = ap (λ (z : Timed NodeState Row). z.state) after ∙ (ap (node_kind.finished w.cycle w.state) same ∙ one_asks node_kind h v w steady.apart c (omega arith) r);
      }

-- ---- what is seen
module _ (h : ℕ → Heard) (ps : List Place) where
  pub along_none : (t : ℕ) (s : NodeState) → seen_along h ps t 0 s ≡ []
  along_none t s = refl

  pub along_one : (t : ℕ) (s : NodeState) → seen_along h ps t 1 s ≡ seen_by ps t s (alone node_kind h t 1 s)
  along_one t s = let e : t + 0 ≡ t = omega arith in (λ i. seen_by ps (e i) (alone_none node_kind h t s i) (alone node_kind h t 1 s))

  pub along_add : (t n j : ℕ) (s : NodeState) → seen_along h ps t (n + j) s ≡ seen_along h ps t n s ++ seen_along h ps (t + n) j (alone node_kind h t n s)
  along_add t n j s =
      each_add n j (λ i. seen_by ps (t + i) (alone node_kind h t i s) (alone node_kind h t (suc i) s))
      ∙ ap (λ (l : List Change). seen_along h ps t n s ++ l)
      (each_same j (λ i. seen_by ps (t + (n + i)) (alone node_kind h t (n + i) s) (alone node_kind h t (suc (n + i)) s))
      (λ i. seen_by ps (t + n + i) (alone node_kind h (t + n) i (alone node_kind h t n s)) (alone node_kind h (t + n) (suc i) (alone node_kind h t n s)))
      (λ i l.
      let q : t + (n + i) ≡ t + n + i = omega arith in
      let e : suc (n + i) ≡ n + suc i = omega arith in
      let next : alone node_kind h t (suc (n + i)) s ≡ alone node_kind h (t + n) (suc i) (alone node_kind h t n s) =
      ap (λ (x : ℕ). alone node_kind h t x s) e ∙ alone_add node_kind h t n (suc i) s in
      (λ x. seen_by ps (q x) (alone_add node_kind h t n i s x) (next x))))

-- what a cycle shows of a byte that it leaves, and of an instruction that does not begin
pub same_byte : (a b : ℕ) → a ≡ b → not (a == b) ≡ false
same_byte a b e = grind (arith, nat_tests)

none_seen : (x : Spot) (t k : ℕ) (s u : NodeState) → ((at : ℕ) → byte_at at u ≡ byte_at at s) → begins s ≡ false → seen_from x t k (byte_of x s) (begun_at s) u ≡ []
none_seen (spot.Byte at) t k s u same none = rw (same_byte (byte_at at u) (byte_at at s) (same at)) refl
none_seen (spot.At at) t k s u same none = rw none refl

pub nothing_seen : (ps : List Place) (t : ℕ) (s u : NodeState) → ((at : ℕ) → byte_at at u ≡ byte_at at s) → begins s ≡ false → seen_by ps t s u ≡ []
nothing_seen ps t s u same none =
    each_none (length ps) (λ j. seen_at (slice_index_or ps j no_place) t s u)
    (λ j l. none_seen (slice_index_or ps j no_place).spot t (slice_index_or ps j no_place).node s u same none)

-- the cycles that a node only rests
rests_byte : (at t i : ℕ) (s : NodeState) → byte_at at (rested t i s) ≡ byte_at at s
unfolding byte_at timers_leap
rests_byte at t i s = refl

pub rests_bytes : (ps : List Place) (t i : ℕ) (s : NodeState) (xs : List ℕ) → AreBytes ps s xs → AreBytes ps (rested t i s) xs
rests_bytes ps t i s xs a = record { count = a.count; each = λ j l. a.each j l ∙ one (slice_index_or ps j no_place).spot }
  where
    one : (x : Spot) → byte_of x s ≡ byte_of x (rested t i s)
    one (spot.Byte at) = sym (rests_byte at t i s)
    one (spot.At at) = refl

module _ (h : ℕ → Heard) (ps : List Place) (t n : ℕ) (s : NodeState) (quiet : AllQuiet node_kind t n s) (only : OnlyRests t n s) where
  pub rests_alone : (i : ℕ) → i ≤ n → alone node_kind h t i s ≡ rested t i s
  rests_alone i l = sym (passes node_kind h t i s (λ j o. quiet j (omega arith))) ∙ only.still i l

  pub rests_seen : seen_along h ps t n s ≡ []
  rests_seen =
      each_none n (λ i. seen_by ps (t + i) (alone node_kind h t i s) (alone node_kind h t (suc i) s))
      (λ i l.
      (λ x. seen_by ps (t + i) (rests_alone i (omega arith) x) (rests_alone (suc i) (omega arith) x))
      ∙ nothing_seen ps (t + i) (rested t i s) (rested t (suc i) s) (λ at. rests_byte at t (suc i) s ∙ sym (rests_byte at t i s)) (only.none i l))

-- a node that stopped
stopped_begins : (s : NodeState) → is_some s.stop ≡ true → begins s ≡ false
stopped_begins s e = rw e refl

module _ (h : ℕ → Heard) (ps : List Place) (t n : ℕ) (s : NodeState) (stop : is_some s.stop ≡ true) where
  pub stops_seen : seen_along h ps t n s ≡ []
  stops_seen =
      each_none n (λ i. seen_by ps (t + i) (alone node_kind h t i s) (alone node_kind h t (suc i) s))
      (λ i l.
      (λ x. seen_by ps (t + i) (stopped_alone node_kind h steady t i s stop x) (stopped_alone node_kind h steady t (suc i) s stop x))
      ∙ nothing_seen ps (t + i) s s (λ at. refl) (stopped_begins s stop))

-- what was looked at before the cycle decides what is seen in it
pub seen_all : (ps : List Place) (xs : List ℕ) (begun : Option ℕ) (t : ℕ) (s u : NodeState) → AreBytes ps s xs → begun ≡ begun_at s → seen_of_all ps xs begun t u ≡ seen_by ps t s u
seen_all ps xs begun t s u a b =
    each_same (length ps) (λ j. seen_from (slice_index_or ps j no_place).spot t (slice_index_or ps j no_place).node (slice_index xs j) begun u) (λ j. seen_at (slice_index_or ps j no_place) t s u)
    (λ j l. (λ i. seen_from (slice_index_or ps j no_place).spot t (slice_index_or ps j no_place).node (a.each j l i) (b i) u))

-- ---- a shadow goes on
module _ (h : ℕ → Heard) where
  pub goes_none : (t : ℕ) (v : Shadow) (cs : List Change) → Goes h t 0 v cs v cs
  goes_none t v cs = record {
    state = sym (alone_none node_kind h t v.node.state);
    changes = sym (append-nil cs);
    number = refl;
    places = refl;
  }

  pub goes_add : (t n j : ℕ) (v w u : Shadow) (cs ds es : List Change) → Goes h t n v cs w ds → Goes h (t + n) j w ds u es → Goes h t (n + j) v cs u es
  goes_add t n j v w u cs ds es a b =
      let s : NodeState = v.node.state in
      let ps : List Place = v.places.items in
      record {
        state = b.state ∙ (ap (alone node_kind h (t + n) j) a.state ∙ sym (alone_add node_kind h t n j s));
        changes = b.changes
            ∙ ((λ i. a.changes i ++ seen_along h (a.places i).items (t + n) j (a.state i))
            ∙ (append_assoc cs (seen_along h ps t n s) (seen_along h ps (t + n) j (alone node_kind h t n s)) ∙ ap (λ (l : List Change). cs ++ l) (sym (along_add h ps t n j s))));
        number = b.number ∙ a.number;
        places = b.places ∙ a.places;
      }

  -- by a rest
  module _ (v w : Shadow) (cs : List Change) (shadow : IsShadow v) (rests : Rests node_kind v.node w.node.cycle w.node) (only : OnlyRests v.node.cycle (w.node.cycle - v.node.cycle) v.node.state) (number : w.number ≡ v.number) (places : w.places ≡ v.places) where
    abbrev n : ℕ
    n = w.node.cycle - v.node.cycle

    state_there : w.node.state ≡ rested v.node.cycle n v.node.state
    state_there = rests.comes.state ∙ only.still n (omega arith)

    pub goes_rest : Goes h v.node.cycle (w.node.cycle - v.node.cycle) v cs w cs
    goes_rest = record {
      state = state_there ∙ sym (rests_alone h v.places.items v.node.cycle n v.node.state rests.comes.quiet only n (omega arith));
      changes = sym (ap (λ (l : List Change). cs ++ l) (rests_seen h v.places.items v.node.cycle n v.node.state rests.comes.quiet only) ∙ append-nil cs);
      number = number;
      places = places;
    }

    pub rest_shadow : w.node.rows ≡ v.node.rows → w.last ≡ v.last → w.sights ≡ v.sights → IsShadow w
    rest_shadow rows last sights =
        let bytes = rests_bytes v.places.items v.node.cycle n v.node.state v.last.items shadow.bytes in
        let moved = subst (λ (s : NodeState). AreBytes v.places.items s v.last.items) (sym state_there) bytes in
        record {
          calm = rests.asking;
          rows = rows ∙ shadow.rows;
          bytes = subst (λ (l : List ℕ). AreBytes w.places.items w.node.state l) (sym (ap (λ x. x.items) last))
              (subst (λ (l : List Place). AreBytes l w.node.state v.last.items) (sym (ap (λ x. x.items) places)) moved);
          grouped = (let there = subst (λ (l : List Place). AreGrouped l v.sights) (sym (ap (λ x. x.items) places)) shadow.grouped in subst (AreGrouped w.places.items) (sym sights) there);
          spots = subst (λ (l : List Place). All (λ p. IsSpot p.spot) l) (sym (ap (λ x. x.items) places)) shadow.spots;
        }

  -- a node that stopped does nothing more
  pub goes_stopped : (t n m : ℕ) (v w : Shadow) (cs ds : List Change) → Goes h t n v cs w ds → is_some w.node.state.stop ≡ true → n ≤ m → Goes h t m v cs w ds
  goes_stopped t n m v w cs ds g stop le =
      let j : ℕ = m - n in
      let e : n + j ≡ m = omega arith in
      let more : Goes h (t + n) j w ds w ds = record {
        state = sym (stopped_alone node_kind h steady (t + n) j w.node.state stop);
        changes = sym (ap (λ (l : List Change). ds ++ l) (stops_seen h w.places.items (t + n) j w.node.state stop) ∙ append-nil ds);
        number = refl;
        places = refl;
      } in
      subst (λ (l : ℕ). Goes h t l v cs w ds) e (goes_add t n j v w w cs ds ds g more)

  -- by a cycle
  pub goes_one : (v w : Shadow) (cs ds : List Change) → w.node.state ≡ ticked node_kind v.node.cycle v.node.state (h v.node.cycle) → ds ≡ cs ++ seen_by v.places.items v.node.cycle v.node.state w.node.state
      → w.number ≡ v.number → w.places ≡ v.places → Goes h v.node.cycle 1 v cs w ds
  goes_one v w cs ds state changes number places =
      let t : ℕ = v.node.cycle in
      let s : NodeState = v.node.state in
      let there : w.node.state ≡ alone node_kind h t 1 s = state ∙ sym (alone_one node_kind h t s) in
      record {
        state = there;
        changes = changes ∙ ap (λ (l : List Change). cs ++ l) (ap (seen_by v.places.items t s) there ∙ sym (along_one h v.places.items t s));
        number = number;
        places = places;
      }

  -- by a rest, and a cycle behind it
  pub turn_goes : (v w u : Shadow) (cs ds : List Change) → IsShadow v → Rests node_kind v.node w.node.cycle w.node → OnlyRests v.node.cycle (w.node.cycle - v.node.cycle) v.node.state → w.number ≡ v.number → w.places ≡ v.places
      → u.node.cycle ≡ w.node.cycle + 1 → Goes h w.node.cycle 1 w cs u ds → Goes h v.node.cycle (u.node.cycle - v.node.cycle) v cs u ds
  turn_goes v w u cs ds shadow rests only number places after step =
      let n : ℕ = w.node.cycle - v.node.cycle in
      let from = rests.comes.later in
      let at : w.node.cycle ≡ v.node.cycle + n = omega arith in
      let e : n + 1 ≡ u.node.cycle - v.node.cycle = omega arith in
      subst (λ (l : ℕ). Goes h v.node.cycle l v cs u ds) e
      (goes_add v.node.cycle n 1 v w u cs cs ds (goes_rest v w cs shadow rests only number places) (subst (λ (c : ℕ). Goes h c 1 w cs u ds) at step))

  -- turn by turn
  pub follow_goes : (floor : ℕ) (v w u : Shadow) (cs ds es : List Change) → Goes h floor (w.node.cycle - floor) v cs w ds → floor ≤ w.node.cycle → w.node.cycle ≤ u.node.cycle
      → Goes h w.node.cycle (u.node.cycle - w.node.cycle) w ds u es → Goes h floor (u.node.cycle - floor) v cs u es
  follow_goes floor v w u cs ds es a from up b =
      let n : ℕ = w.node.cycle - floor in
      let j : ℕ = u.node.cycle - w.node.cycle in
      let at : w.node.cycle ≡ floor + n = omega arith in
      let e : n + j ≡ u.node.cycle - floor = omega arith in
      subst (λ (l : ℕ). Goes h floor l v cs u es) e (goes_add floor n j v w u cs ds es a (subst (λ (c : ℕ). Goes h c j w ds u es) at b))

-- ---- place by place
module _ (ps : List Place) (xs : List ℕ) (begun : Option ℕ) (t : ℕ) (u : NodeState) where
  abbrev here : ℕ → List Change
  here j = seen_from (slice_index_or ps j no_place).spot t (slice_index_or ps j no_place).node (slice_index xs j) begun u

  pub one_place : (k was : ℕ) (olds mids news : List Change) → was ≡ slice_index xs k → mids ≡ olds ++ seen_first k ps xs begun t u
      → news ≡ mids ++ seen_from (slice_index_or ps k no_place).spot t (slice_index_or ps k no_place).node was begun u → news ≡ olds ++ seen_first (k + 1) ps xs begun t u
  one_place k was olds mids news same before more =
      more
      ∙ ((λ i. before i ++ seen_from (slice_index_or ps k no_place).spot t (slice_index_or ps k no_place).node (same i) begun u)
      ∙ (append_assoc olds (seen_first k ps xs begun t u) (here k) ∙ ap (λ (l : List Change). olds ++ l) (sym (one_more k here here (λ j l. refl)))))

-- one byte more of a list is as it is to be, and the others are as they were
pub byte_done : (ps : List Place) (u : NodeState) (xs : List ℕ) (k x : ℕ) → k < length xs → x ≡ byte_of (slice_index_or ps k no_place).spot u → ((j : ℕ) → j < k → slice_index xs j ≡ byte_of (slice_index_or ps j no_place).spot u)
    → (j : ℕ) → j < k + 1 → slice_index (slice_set xs k x) j ≡ byte_of (slice_index_or ps j no_place).spot u
byte_done ps u xs k x lt e before j l = by_case (ℕ_discrete j k)
  where
    by_case : Dec (j ≡ k) → slice_index (slice_set xs k x) j ≡ byte_of (slice_index_or ps j no_place).spot u
    by_case (yes same) = ap (slice_index (slice_set xs k x)) same ∙ (get_or-set_same xs k x 0 lt ∙ (e ∙ ap (λ (i : ℕ). byte_of (slice_index_or ps i no_place).spot u) (sym same)))
    by_case (no ne) = get_or-set_other xs k j x 0 ne ∙ before j (omega arith)

pub byte_left : (xs ys : List ℕ) (k x : ℕ) → ((j : ℕ) → k ≤ j → slice_index xs j ≡ slice_index ys j) → (j : ℕ) → k + 1 ≤ j → slice_index (slice_set xs k x) j ≡ slice_index ys j
byte_left xs ys k x before j l = get_or-set_other xs k j x 0 (λ e. absurd (omega arith)) ∙ before j (omega arith)
