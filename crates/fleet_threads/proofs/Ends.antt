-- The rows of an epoch, when all nodes have come to its end.
use Rattle.std.specs.Prelude.{is_some}
use Rattle.std.proofs.lemmas.Bool.Decides.{nat_tests}
use Rattle.std.proofs.Common.{◌≡◌, ℕ, ◌+◌, ◌<◌, ◌≤◌, inl, inr, ⊎_elim, Bool, true, false, cond, ◌==◌, List, [], ◌∷◌, ◌++◌, map, length, take, drop, get_or, set, min, refl, sym, subst, ◌∙◌, ap, arith, append-nil, append_assoc, length-take}
use Rattle.std.specs.List.{All, flat_map}
use Rattle.std.specs.List.Sorted.{IsNonDecreasingBy, IsStableByKey}
use Rattle.std.specs.Ordering.{nat_cmp}
use Rattle.std.proofs.lemmas.List.{length-map, get_or-map, get_or_at, set_at, drop_more, take_more, take_all, drop_all, map_push}
use Rattle.std.proofs.lemmas.List.Elements.{All-push}
use Rattle.std.proofs.lemmas.List.Concat.{flat_map-append}
use Rattle.neighbour_sync.specs.Seats.{first_node}
use Rattle.node_core.specs.declared.row.Row.{Row}
use Rattle.node_runner.specs.Scenario.{ScenarioOf, IsScenario, fleet_of}
use Rattle.node_runner.specs.Place.{Place, is_live, state_at, rows_of}
use Rattle.neighbour_sync.specs.NoSession.{no_table, no_world}
use Rattle.node_runner.specs.Flight.{place_at, IsAt, IsTaken}
use Rattle.node_runner.specs.Gather.{start_of, end_row_of}
use Rattle.fleet_flight.specs.Rows.{rows_upto}
use Rattle.node_runner.proofs.Places.{still_calm, still_over}
use Rattle.fleet_threads.proofs.NextRows.{next_rows as place_rows}
use Rattle.fleet_threads.specs.declared.member.Member.{Member}
use Rattle.fleet_threads.specs.Member.{IsPlaced, AreAtEnd}
use Rattle.fleet_threads.specs.Ending.{rows_at, end_row_at, taken_at, HasEndedAt, IsCalm}

abbrev place_of : Member → Place
place_of m = m.runner

some_node : ScenarioOf → Member
some_node sc = record { runner = start_of sc 0; air = first_node no_table no_world 0; turn = 0; gap = 0; halted = false }

flat_places : (ms : List Member) → flat_map rows_at ms ≡ flat_map rows_of (map place_of ms)
flat_places [] = refl
flat_places (m ∷ ms) = ap (λ (l : List Row). rows_of m.runner ++ l) (flat_places ms)

end_places : (ms : List Member) → map end_row_at ms ≡ map end_row_of (map place_of ms)
end_places [] = refl
end_places (m ∷ ms) = ap (λ (l : List Row). end_row_of m.runner ∷ l) (end_places ms)

-- the last row of a node whose rows are taken is the one that it had
taken_ends : (ms : List Member) → map end_row_at (map taken_at ms) ≡ map end_row_at ms
taken_ends [] = refl
taken_ends (m ∷ ms) = ap (λ (l : List Row). end_row_at m ∷ l) (taken_ends ms)

module _ (sc : ScenarioOf) (floor end : ℕ) (ms : List Member) (a : AreAtEnd sc floor end ms) where
  abbrev ps : List Place
  ps = map place_of ms

  count : length (map place_of ms) ≡ sc.topo.nodes
  count = length-map ms place_of ∙ a.order.count

  nth : (k : ℕ) (d : Place) → k < sc.topo.nodes → place_at (map place_of ms) k d ≡ (get_or ms k (some_node sc)).runner
  nth k d lt = let c = a.order.count in get_or-map place_of ms k (some_node sc) d (omega arith)

  number : (k : ℕ) → k < sc.topo.nodes → (get_or ms k (some_node sc)).runner.number ≡ k
  number k lt = a.order.each k (some_node sc) lt

  here : (k : ℕ) → k < sc.topo.nodes → IsPlaced sc floor end (get_or ms k (some_node sc)).runner
  here k lt = let c = a.order.count in a.placed k (some_node sc) (omega arith)

  at : (k : ℕ) (d : Place) → k < sc.topo.nodes → IsAt sc end k (place_at (map place_of ms) k d)
  at k d lt = subst (IsAt sc end k) (sym (nth k d lt)) (subst (λ (j : ℕ). IsAt sc end j (get_or ms k (some_node sc)).runner) (number k lt) (here k lt).at)

  took : (k : ℕ) (d : Place) → k < sc.topo.nodes → IsTaken sc floor k (place_at (map place_of ms) k d)
  took k d lt = subst (IsTaken sc floor k) (sym (nth k d lt)) (subst (λ (j : ℕ). IsTaken sc floor j (get_or ms k (some_node sc)).runner) (number k lt) (here k lt).taken)

  still : (k : ℕ) (d : Place) → k < length (map place_of ms) → is_live end (place_at (map place_of ms) k d) ≡ false
  still k d lt = let c = count in let n = a.order.count in subst (λ (p : Place). is_live end p ≡ false) (sym (nth k d (omega arith))) (a.still k (some_node sc) (omega arith))

  pub all_calm : All IsCalm ms
  all_calm k d lt = still_calm end (get_or ms k d).runner (a.still k d lt)

  pub all_ended : end ≡ sc.topo.limit → All HasEndedAt ms
  all_ended e k d lt =
      let p : Place = (get_or ms k d).runner in
      let is = a.placed k d lt in
      record {
        calm = all_calm k d lt;
        noted = is.at.noted;
        over = ⊎_elim (λ (stop : is_some (state_at p).stop ≡ true). inl stop)
            (λ (past : end ≤ p.cycle). inr ((let w = is.at.within in let x : p.cycle ≡ sc.topo.limit = omega arith in x) ∙ ap (λ (z : ScenarioOf). z.topo.limit) (sym is.at.scenario)))
            (still_over end p (a.still k d lt));
      }

  next_rows : (ys last zs : List Row) → IsScenario sc → end ≤ sc.topo.limit → floor < end → IsNonDecreasingBy (λ r. r.cycle) ys → IsStableByKey (λ r. r.cycle) nat_cmp (flat_map rows_at ms) ys
      → last ≡ cond (end == sc.topo.limit) (map end_row_at ms) [] → zs ≡ ys ++ last → rows_upto (fleet_of sc) end ≡ rows_upto (fleet_of sc) floor ++ zs
  next_rows ys last zs ok lim more up stable l e =
      place_rows sc floor end (map place_of ms) ok lim count at took still (omega arith) ys last zs (omega arith) up (subst (λ (r : List Row). IsStableByKey (λ r. r.cycle) nat_cmp r ys) (flat_places ms) stable)
      (l ∙ ap (λ (r : List Row). cond (end == sc.topo.limit) r []) (end_places ms)) e

  module _ (ys zs : List Row) (ok : IsScenario sc) (lim : end ≤ sc.topo.limit) (more : floor < end) (up : IsNonDecreasingBy (λ r. r.cycle) ys) (stable : IsStableByKey (λ r. r.cycle) nat_cmp (flat_map rows_at ms) ys) where
    -- the end is the limit, and the last rows stand behind the others
    pub last_rows : end ≡ sc.topo.limit → zs ≡ ys ++ map end_row_at (map taken_at ms) → rows_upto (fleet_of sc) end ≡ rows_upto (fleet_of sc) floor ++ zs
    last_rows e is =
        let over : (end == sc.topo.limit) ≡ true = grind (arith, nat_tests) in
        next_rows ys (map end_row_at ms) zs ok lim more up stable (ap (λ (b : Bool). cond b (map end_row_at ms) []) (sym over)) (is ∙ ap (λ (l : List Row). ys ++ l) (taken_ends ms))

    -- it is not
    pub first_rows : (end ≡ sc.topo.limit → ⊥) → zs ≡ ys → rows_upto (fleet_of sc) end ≡ rows_upto (fleet_of sc) floor ++ zs
    first_rows e is =
        let over : (end == sc.topo.limit) ≡ false = grind (arith, nat_tests) in
        next_rows ys [] zs ok lim more up stable (ap (λ (b : Bool). cond b (map end_row_at ms) []) (sym over)) (is ∙ sym (append-nil ys))

-- the node with another place
abbrev pub with_runner : Member → Place → Member
with_runner m p = record m { runner = p }

-- one turn of the loop that takes the rows
pub record GathersOn (old items : List Member) (i : ℕ) (m n : Member) : Type 0 where
  pub left : set items i n ≡ map taken_at (take (i + 1) old) ++ drop (i + 1) old
  pub rows : flat_map rows_at (take (i + 1) old) ≡ flat_map rows_at (take i old) ++ rows_at m
  pub same : m ≡ get_or old i m

pub gathers_on : (old items : List Member) (i : ℕ) (m n : Member) → i < length old → items ≡ map taken_at (take i old) ++ drop i old → m ≡ get_or items i m → n ≡ taken_at m → GathersOn old items i m n
gathers_on old items i p q h e g r =
    let m : List Member = map taken_at (take i old) in
    let o : Member = get_or old i p in
    let d : List Member = drop (i + 1) old in
    let long : length m ≡ i = length-map (take i old) taken_at ∙ length-take i old ∙ (let x : min i (length old) ≡ i = omega arith in x) in
    let parts : items ≡ m ++ o ∷ d = e ∙ ap (λ (l : List Member). m ++ l) (drop_more old i p h) in
    let same : p ≡ o = g ∙ ap (λ (l : List Member). get_or l i p) parts ∙ get_or_at m o d p i long in
    let more : take (i + 1) old ≡ take i old ++ o ∷ [] = take_more old i p h in
    record {
      left = ap (λ (l : List Member). set l i q) parts ∙ set_at m o d q i long ∙ ap (λ (x : Member). m ++ x ∷ d) (r ∙ ap taken_at same)
          ∙ sym (append_assoc m (taken_at o ∷ []) d) ∙ ap (λ (l : List Member). l ++ d) (sym (map_push taken_at (take i old) o) ∙ ap (map taken_at) (sym more));
      rows = ap (flat_map rows_at) more ∙ flat_map-append rows_at (take i old) (o ∷ []) ∙ ap (λ (l : List Row). flat_map rows_at (take i old) ++ l) (append-nil (rows_at o) ∙ ap rows_at (sym same));
      same = same;
    }

-- one turn of the loop that adds the last rows
pub ends_on : (ms : List Member) (i : ℕ) (m : Member) (r : Row) (old rows new : List Row) → i < length ms → m ≡ get_or ms i m → rows ≡ old ++ map end_row_at (take i ms) → r ≡ end_row_at m → new ≡ rows ++ r ∷ [] → new ≡ old ++ map end_row_at (take (i + 1) ms)
ends_on ms i m r old rows new h is e last f =
    let here : r ≡ end_row_at (get_or ms i m) = last ∙ ap end_row_at is in
    f ∙ (λ j. e j ++ here j ∷ []) ∙ append_assoc old (map end_row_at (take i ms)) (end_row_at (get_or ms i m) ∷ [])
    ∙ ap (λ (l : List Row). old ++ l) (sym (map_push end_row_at (take i ms) (get_or ms i m)) ∙ ap (map end_row_at) (sym (take_more ms i m h)))

-- and it has ended as it had
pub taken_ended : (ms : List Member) → All HasEndedAt ms → All HasEndedAt (map taken_at ms)
taken_ended ms all k d lt =
    let n = length-map ms taken_at in
    let h = all k d (omega arith) in
    subst HasEndedAt (sym (get_or-map taken_at ms k d d (omega arith))) (record { calm = h.calm; noted = h.noted; over = h.over })

-- the loop has come to the end
pub all_taken : (old items : List Member) (i : ℕ) → length old ≤ i → items ≡ map taken_at (take i old) ++ drop i old → items ≡ map taken_at old
all_taken old items i h e = e ∙ (λ j. map taken_at (take_all i old h j) ++ drop_all i old h j) ∙ append-nil (map taken_at old)

-- one more node goes on
pub one_more_goes : (ms : List Member) (i : ℕ) (m : Member) → i < length ms → m ≡ get_or ms i m → m.halted ≡ false → All (λ x. x.halted ≡ false) (take i ms) → All (λ x. x.halted ≡ false) (take (i + 1) ms)
one_more_goes ms i m lt is goes all =
    subst (All (λ (x : Member). x.halted ≡ false)) (sym (take_more ms i m lt))
    (All-push (λ (x : Member). x.halted ≡ false) (take i ms) (get_or ms i m) all (ap (λ (x : Member). x.halted) (sym is) ∙ goes))
