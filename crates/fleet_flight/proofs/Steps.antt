-- One step of all nodes in flight: a sample is answered as the order of all nodes answers it, and a step keeps all.
use Rattle.std.proofs.Common.{◌≡◌, ◌≢◌, ℕ, ◌+◌, ◌-◌, ◌*◌, ◌<◌, ◌≤◌, ◌⊎◌, inl, inr, ⊎_elim, Bool, true, false, cond, not, ◌&&◌, ◌||◌, ◌==◌, List, [], ◌∷◌, ◌++◌, length, set, refl, sym, subst, ◌∙◌, ap, arith, append-nil, length-set}
use Rattle.std.specs.Prelude.{nat_lt}
use Rattle.std.specs.List.{All, filter, sum_by}
use Rattle.std.proofs.lemmas.List.Elements.{All-cons, All-filter, All-nil, All-push, All-weaker}
use Rattle.std.proofs.lemmas.List.Kept.{AllPairs-filter}
use Rattle.std.proofs.lemmas.List.Sums.{sum_by-set}
use Rattle.std.proofs.lemmas.Bool.{false≢true}
use Rattle.std.proofs.lemmas.Bool.Decides.{nat_tests}
use native.Mathlib.Decide.{dec_le, ℕ_discrete}
use Rattle.air_base.specs.declared.air.Send.{Send}
use Rattle.air_base.specs.NodeKind.{IsSteady, NodeKind}
use Rattle.air_base.specs.NodeRun.{Timed, Asks, Comes, Rests, Sends, Stops, answered, passed, passed_rows}
use Rattle.air_base.proofs.Each.{filter_none, filter_whole}
use Rattle.world_core.specs.Chain.{Rises}
use Rattle.world_core.specs.Heard.{age_of, heard, is_audible}
use Rattle.world_core.specs.Kept.{is_kept}
use Rattle.world_core.specs.Order.{Fleet, hears, node_at, rows_between, world_at}
use Rattle.world_core.specs.Sends.{sends_of}
use Rattle.world_core.specs.Topology.{Topology, latency_of}
use Rattle.world_core.proofs.Final.{through}
use Rattle.world_core.proofs.Order.{heard_same}
use Rattle.fleet_flight.specs.Paused.{AtRest, CanPost, node_in}
use Rattle.fleet_flight.specs.Turns.{Grows, IsLow, Takes, is_live}
use Rattle.fleet_flight.proofs.Alone.{GoesAlone, bool_cases}
use Rattle.fleet_flight.proofs.EachNode.{at_other, at_own}
use Rattle.fleet_flight.proofs.Hearing.{audible_before, heard_in}
use Rattle.fleet_flight.proofs.Flights.{AtSample, Between, Flies, InFlight, Known, Went, ear, kept_split, known_cut, known_on, live_case, other_node, over_later, own_all, settled, went}
use Rattle.fleet_flight.proofs.Records.{pairs_push}
use Rattle.fleet_flight.proofs.Trails.{asks_alone, comes_alone, sends_alone, stands_at}
use Rattle.air_base.specs.declared.bounds.TheConstants.{MOST_NODES}

-- a node at the beginning of a cycle has come there
comes_here : {S R : Type 0} (m : NodeKind S R) (c : ℕ) (s : S) (l : List R) → Comes m (record { cycle = c; asking = false; state = s; rows = l }) c s l
unfolding passed
comes_here m c s l =
    let e : c - c ≡ 0 = omega arith in
    record {
      later = omega arith;
      quiet = (λ i lt. absurd (omega arith));
      state = sym (ap (λ (n : ℕ). passed m c n s) e);
      rows = sym (append-nil l) ∙ ap (λ (n : ℕ). l ++ passed_rows m c n s) (sym e);
    }

-- ---- bits of a rank
bit_most : (b : Bool) → cond b 1 0 ≤ 1
bit_most true = omega arith
bit_most false = omega arith

off_most : (b : Bool) → cond b 0 1 ≤ 1
off_most true = omega arith
off_most false = omega arith

bit_none : (b : Bool) → b ≡ false → cond b 1 0 ≤ 0
bit_none true e = absurd (false≢true (sym e))
bit_none false e = omega arith

off_none : (b : Bool) → b ≡ true → cond b 0 1 ≤ 0
off_none true e = omega arith
off_none false e = absurd (false≢true e)

-- the number that falls with each step
abbrev pub rank : {S R : Type 0} → NodeKind S R → ℕ → Timed S R → ℕ
rank m end v = 3 * (end - v.cycle) + cond v.asking 0 1 + cond (is_live m end v) 1 0

module _ {S R : Type 0} (f : Fleet S R) (steady : IsSteady f.kind) (since end : ℕ) where
  -- ---- the record gives what the order gives
  -- of node m the record has what can be heard in cycle s
  record Near (floor : ℕ) (xs : List Send) (s ahead m : ℕ) : Type 0 where
    c : ℕ
    from : f.start ≤ c
    known : Known f since end floor xs m c
    near : s < c + ahead

  module _ (floor : ℕ) (xs : List Send) (k s ahead : ℕ) (each : All (λ l. ahead ≤ latency_of f.topo l.from l.to) f.topo.links) (some : 1 ≤ ahead) (start : f.start ≤ s) (late : floor ≤ s) where
    abbrev audible : List Send → List Send
    audible = filter (is_audible f.topo k s)

    till : (c : ℕ) → f.start ≤ c → s < c + ahead → Dec (c ≤ s) → audible (world_at f c).sends ≡ audible (world_at f s).sends
    till c from near (yes le) = sym (audible_before f k s c s ahead from le near each)
    till c from near (no more) = audible_before f k s s c ahead start (omega arith) (omega arith) each

    one_ear : (m : ℕ) → Near floor xs s ahead m → sends_of m (audible xs) ≡ sends_of m (audible (world_at f s).sends)
    one_ear m a =
        heard_in f.topo floor s k late xs m ∙ ap audible a.known.kept ∙ sym (heard_in f.topo floor s k late (world_at f a.c).sends m)
        ∙ ap (sends_of m) (till a.c a.from a.near (dec_le a.c s))

    all_ears : ((m : ℕ) → Near floor xs s ahead m) → heard f.topo xs k s ≡ hears f s (world_at f s) k
    unfolding heard
    all_ears near = heard_same (age_of f.topo k s) (audible xs) (audible (world_at f s).sends) (λ m. one_ear m (near m))

  module _ (hold : ℕ) (vs : List (Timed S R)) (xs : List Send) (fl : InFlight f since end hold vs xs) where
    -- how far a node has come
    reached_case : (j low : ℕ) (v : Timed S R) (a : Flies f since end fl.floor xs j v) → Between f since end a.come j v ⊎ AtSample f since end a.come j v → (is_live f.kind end v ≡ true → low ≤ v.cycle) → low ≤ end → low ≤ a.come
    reached_case j low v a (inr t) lowest lim =
        let at = t.cycle in
        let on : is_live f.kind end v ≡ true = ap (λ (b : Bool). b || (not (f.kind.is_stopped v.state) && nat_lt v.cycle end)) t.asking in
        let le = lowest on in
        omega arith
    reached_case j low v a (inl b) lowest lim =
        ⊎_elim
        (λ (on : is_live f.kind end v ≡ true). let le = lowest on in let w = b.rest.has.within in omega arith)
        (λ (off : is_live f.kind end v ≡ false).
        ⊎_elim (λ (stop : f.kind.is_stopped v.state ≡ true). let e = b.over stop in omega arith)
        (λ (at : v.cycle ≡ a.come).
        ⊎_elim (λ (stop : f.kind.is_stopped v.state ≡ true). let e = b.over stop in omega arith)
        (λ (runs : f.kind.is_stopped v.state ≡ false). let past = off_case v.asking (f.kind.is_stopped v.state) v.cycle b.rest.calm runs off in omega arith)
        (bool_cases (f.kind.is_stopped v.state)))
        b.rest.has.over)
        (bool_cases (is_live f.kind end v))
      where
        off_case : (asking stopped : Bool) (c : ℕ) → asking ≡ false → stopped ≡ false → (asking || (not stopped && nat_lt c end)) ≡ false → end ≤ c
        off_case true stopped c calm runs e = absurd (false≢true (sym calm))
        off_case false true c calm runs e = absurd (false≢true (sym runs))
        off_case false false c calm runs e = not_less c e
          where
            not_less : (c : ℕ) → nat_lt c end ≡ false → end ≤ c
            not_less c e = grind (arith, nat_tests)

    reached : (low : ℕ) → IsLow f.kind end low vs → low ≤ end → (j : ℕ) (d : Timed S R) (l : j < f.topo.nodes) → low ≤ (fl.nodes j d l).come
    reached low lowest lim j d l = let a = fl.nodes j d l in reached_case j low (node_in vs j d) a a.stands (λ on. lowest j d (let n = fl.count in omega arith) on) lim

    module _ (k : ℕ) (v : Timed S R) (low : ℕ) (l : k < f.topo.nodes) (own : v ≡ node_in vs k v) (live : is_live f.kind end v ≡ true) (lowest : IsLow f.kind end low vs) where
      abbrev mine : Flies f since end fl.floor xs k v
      mine = subst (Flies f since end fl.floor xs k) (sym own) (fl.nodes k v l)

      -- where it stands
      here_case : (a : Flies f since end fl.floor xs k v) → Between f since end a.come k v ⊎ AtSample f since end a.come k v → (v.cycle ≡ a.come) × (v.cycle < end)
      here_case a (inr t) = (t.cycle, (let at = t.cycle in let e = t.early in omega arith))
      here_case a (inl b) =
          let on = live_case v.asking (f.kind.is_stopped v.state) v.cycle end b.rest.calm live in
          (⊎_elim (λ (stop : f.kind.is_stopped v.state ≡ true). absurd (false≢true (sym on.0 ∙ stop))) (λ (at : v.cycle ≡ a.come). at) b.rest.has.over, on.1)

      pub here : (v.cycle ≡ mine.come) × (v.cycle < end)
      here = here_case mine mine.stands

      low_end : low ≤ end
      low_end =
          let n = fl.count in
          let on : is_live f.kind end (node_in vs k v) ≡ true = ap (is_live f.kind end) (sym own) ∙ live in
          let le : low ≤ (node_in vs k v).cycle = lowest k v (omega arith) on in
          let same : (node_in vs k v).cycle ≡ v.cycle = ap (λ (w : Timed S R). w.cycle) (sym own) in
          let at = here.1 in
          omega arith

      near_case : (ahead : ℕ) → v.cycle < low + ahead → (m : ℕ) → Dec (f.topo.nodes ≤ m) → Near fl.floor xs v.cycle ahead m
      near_case ahead near m (yes past) = record {
        c = end;
        from = (let a = fl.begun in let b = fl.later in omega arith);
        known = fl.past m past;
        near = (let a = here.1 in omega arith);
      }
      near_case ahead near m (no d) =
          let q : m < f.topo.nodes = omega arith in
          let a = fl.nodes m v q in
          let far = reached low lowest low_end m v q in
          record {
            c = a.come;
            from = (let b = fl.begun in let c = a.later in omega arith);
            known = a.known;
            near = omega arith;
          }

      pub hears_right : (ahead : ℕ) → 1 ≤ ahead → All (λ l. ahead ≤ latency_of f.topo l.from l.to) f.topo.links → v.cycle < low + ahead → heard f.topo xs k v.cycle ≡ hears f v.cycle (world_at f v.cycle) k
      hears_right ahead some each near =
          let at = here.0 in
          all_ears fl.floor xs k v.cycle ahead each some (let a = fl.begun in let b = mine.later in omega arith) (let a = mine.known.from in omega arith)
          (λ m. near_case ahead near m (dec_le f.topo.nodes m))

      -- ---- its step
      known_here : Known f since end fl.floor xs k v.cycle
      known_here = subst (Known f since end fl.floor xs k) (sym here.0) mine.known

      since_here : since ≤ v.cycle
      since_here = let a = mine.later in let b = here.0 in omega arith

      start_here : f.start ≤ v.cycle
      start_here = let a = fl.begun in let b = since_here in omega arith

      calm_case : (c : ℕ) → Between f since end c k v ⊎ AtSample f since end c k v → v.asking ≡ false → AtRest f since c k v
      calm_case c (inl b) calm = b.rest
      calm_case c (inr t) calm = absurd (false≢true (sym calm ∙ t.asking))

      sample_case : (c : ℕ) → Between f since end c k v ⊎ AtSample f since end c k v → v.asking ≡ true → AtSample f since end c k v
      sample_case c (inl b) on = absurd (false≢true (sym b.rest.calm ∙ on))
      sample_case c (inr t) on = t

      rest_here : v.asking ≡ false → AtRest f since v.cycle k v
      rest_here calm = subst (λ (c : ℕ). AtRest f since c k v) (sym here.0) (calm_case mine.come mine.stands calm)

      sample_here : v.asking ≡ true → AtSample f since end v.cycle k v
      sample_here on = subst (λ (c : ℕ). AtSample f since end c k v) (sym here.0) (sample_case mine.come mine.stands on)

      goes : (w : Timed S R) (sent : List Send) → v.asking ≡ false → GoesAlone f.kind (ear f since end k) k v [] w sent → Went f since end k v.cycle w sent
      goes w sent calm g = let at = rest_here calm in went f since end k v.cycle v w sent start_here since_here refl at.state at.rows g

      low_on : (c e : ℕ) → c ≤ e → (zs : List Send) → All (λ x. x.node ≡ k → x.cycle < c) zs → All (λ x. x.node ≡ k → x.cycle < e) zs
      low_on c e le zs = All-weaker (λ (x : Send). x.node ≡ k → x.cycle < c) (λ (x : Send). x.node ≡ k → x.cycle < e) (λ x h same. let a = h same in omega arith) zs

      quiet_known : (w : Timed S R) → w.cycle ≤ end → Went f since end k v.cycle w [] → Known f since end fl.floor xs k w.cycle
      quiet_known w lim g =
          known_on f since end fl.floor xs xs k v.cycle w.cycle [] start_here g.later lim (own_all f since end v.cycle (w.cycle - v.cycle) k l ∙ g.posts)
          (sym (append-nil (sends_of k (filter (is_kept f.topo fl.floor) xs)))) (low_on v.cycle w.cycle g.later xs known_here.below) known_here

      rests_on : (w : Timed S R) (sent ys : List Send) → Went f since end k v.cycle w sent → Known f since end fl.floor ys k w.cycle → Flies f since end fl.floor ys k w
      rests_on w sent ys g known =
          settled f since end steady fl.floor ys k w.cycle w l fl.begun (let a = g.later in let b = since_here in omega arith) known
          (record { calm = g.calm; has = record { within = omega arith; over = inr refl }; state = g.state; rows = g.rows })

      passes_on : (w : Timed S R) → v.asking ≡ false → Rests f.kind v end w ⊎ ((w.cycle ≤ end) × Stops f.kind v w) → Flies f since end fl.floor xs k w
      passes_on w calm (inl r) =
          let g = goes w [] calm (comes_alone f.kind (ear f since end k) k end v w [] r) in
          rests_on w [] xs g (quiet_known w (let a = r.cycle in omega arith) g)
      passes_on w calm (inr r) =
          let g = goes w [] calm (comes_alone f.kind (ear f since end k) k w.cycle v w [] r.1.rests) in
          rests_on w [] xs g (quiet_known w r.0 g)

      samples_on : (c : ℕ) (w : Timed S R) → v.asking ≡ false → c < end → Asks f.kind v c w → Flies f since end fl.floor xs k w
      samples_on c w calm early r =
          let there : Timed S R = record { cycle = c; asking = false; state = r.state; rows = r.rows } in
          let g = goes there [] calm (comes_alone f.kind (ear f since end k) k c v there [] (stands_at f.kind (ear f since end k) c v r.state r.rows r.comes)) in
          let state : r.state ≡ node_at f k c = g.state in
          let rows : r.rows ≡ rows_between f k since c = g.rows in
          record {
            come = c;
            later = (let a = g.later in let b = since_here in omega arith);
            known = quiet_known there (omega arith) g;
            stands = inr (record {
              asking = ap (λ (z : Timed S R). z.asking) r.after;
              cycle = ap (λ (z : Timed S R). z.cycle) r.after;
              early = early;
              asks = ap (f.kind.asks c) (sym state) ∙ r.asks;
              state = ap (λ (z : Timed S R). z.state) r.after ∙ ap (f.kind.begun c) state;
              rows = ap (λ (z : Timed S R). z.rows) r.after ∙ (λ i. rows i ++ f.kind.begun_rows c (state i));
            });
          }

      answers_on : (w : Timed S R) → v.asking ≡ true → heard f.topo xs k v.cycle ≡ hears f v.cycle (world_at f v.cycle) k → w ≡ answered f.kind v (heard f.topo xs k v.cycle) → Flies f since end fl.floor xs k w
      answers_on w on right after =
          let c : ℕ = v.cycle in
          let t = sample_here on in
          let v0 : Timed S R = record { cycle = c; asking = false; state = node_at f k c; rows = rows_between f k since c } in
          let asked : Asks f.kind v0 c v = record {
            state = node_at f k c;
            rows = rows_between f k since c;
            comes = comes_here f.kind c (node_at f k c) (rows_between f k since c);
            asks = t.asks;
            after = (λ i. record { cycle = c; asking = on i; state = t.state i; rows = t.rows i });
          } in
          let g = went f since end k c v0 w [] start_here since_here refl refl refl
          (asks_alone f.kind (ear f since end k) k c v0 v w [] (heard f.topo xs k c) (λ s q. steady.apart c s q) asked right after) in
          let at : w.cycle ≡ c + 1 = ap (λ (z : Timed S R). z.cycle) after in
          rests_on w [] xs g (quiet_known w (let e = here.1 in omega arith) g)

      posts_on : (c b : ℕ) (w : Timed S R) → v.asking ≡ false → c < end → Sends f.kind v c b w → Flies f since end fl.floor (xs ++ record { node = k; cycle = c; byte = b } ∷ []) k w
      posts_on c b w calm early r =
          let x : Send = record { node = k; cycle = c; byte = b } in
          let g = goes w (x ∷ []) calm (sends_alone f.kind (ear f since end k) k c b v w [] (x ∷ []) r refl) in
          let at : w.cycle ≡ c + 1 = ap (λ (z : Timed S R). z.cycle) r.after in
          let whole : sends_of k (x ∷ []) ≡ x ∷ [] = own_send c b in
          let more : sends_of k (filter (is_kept f.topo fl.floor) (xs ++ x ∷ [])) ≡ sends_of k (filter (is_kept f.topo fl.floor) xs) ++ filter (is_kept f.topo fl.floor) (x ∷ []) =
          kept_split f.topo fl.floor k xs (x ∷ []) ∙ ap (λ (z : List Send). sends_of k (filter (is_kept f.topo fl.floor) xs) ++ filter (is_kept f.topo fl.floor) z) whole in
          let low : All (λ y. y.node ≡ k → y.cycle < w.cycle) (xs ++ x ∷ []) = All-push (λ (y : Send). y.node ≡ k → y.cycle < w.cycle) xs x (low_on v.cycle w.cycle g.later xs known_here.below) (λ same. omega arith) in
          rests_on w (x ∷ []) (xs ++ x ∷ []) g
          (known_on f since end fl.floor xs (xs ++ x ∷ []) k v.cycle w.cycle (x ∷ []) start_here g.later (omega arith) (own_all f since end v.cycle (w.cycle - v.cycle) k l ∙ g.posts) more low known_here)
        where
          same : (n : ℕ) → (n == n) ≡ true
          same n = grind (arith, nat_tests)

          own_send : (c b : ℕ) → sends_of k (record { node = k; cycle = c; byte = b } ∷ []) ≡ record { node = k; cycle = c; byte = b } ∷ []
          own_send c b =
              filter_whole (λ (y : Send). y.node == k) (record { node = k; cycle = c; byte = b } ∷ [])
              (All-cons (λ (y : Send). (y.node == k) ≡ true) (record { node = k; cycle = c; byte = b }) [] (same k) (All-nil (λ (y : Send). (y.node == k) ≡ true)))

      -- ---- all nodes with it
      in_case : (w : Timed S R) (ys : List Send) → Flies f since end fl.floor ys k w → ((j : ℕ) → j ≢ k → (c : ℕ) → Known f since end fl.floor xs j c → Known f since end fl.floor ys j c)
          → (j : ℕ) (d : Timed S R) → Dec (j ≡ k) → j < f.topo.nodes → Flies f since end fl.floor ys j (node_in (set vs k w) j d)
      in_case w ys own_flies others j d (yes e) q =
          let n = fl.count in
          subst (λ (m : ℕ). Flies f since end fl.floor ys m (node_in (set vs k w) m d)) (sym e) (subst (Flies f since end fl.floor ys k) (sym (at_own vs k w d (omega arith))) own_flies)
      in_case w ys own_flies others j d (no ne) q =
          let a = fl.nodes j d q in
          subst (Flies f since end fl.floor ys j) (sym (at_other vs k j w d ne)) (record { come = a.come; later = a.later; known = others j ne a.come a.known; stands = a.stands })

      with_node : (w : Timed S R) (ys : List Send) → Flies f since end fl.floor ys k w → ((j : ℕ) → j ≢ k → (c : ℕ) → Known f since end fl.floor xs j c → Known f since end fl.floor ys j c)
          → All (λ x. (x.node < f.topo.nodes) × (x.cycle < end)) ys → Rises ys → InFlight f since end hold (set vs k w) ys
      with_node w ys own_flies others within up = record {
        begun = fl.begun;
        later = fl.later;
        count = length-set vs k w ∙ fl.count;
        floor = fl.floor;
        held = fl.held;
        nodes = (λ j d q. in_case w ys own_flies others j d (ℕ_discrete j k) q);
        past = (λ j q. others j (λ e. absurd (omega arith)) end (fl.past j q));
        inside = within;
        rises = up;
      }

      quiet_step : (w : Timed S R) (ys : List Send) → ys ≡ xs → Flies f since end fl.floor xs k w → InFlight f since end hold (set vs k w) ys
      quiet_step w ys e flies = subst (InFlight f since end hold (set vs k w)) (sym e) (with_node w xs flies (λ j ne c known. known) fl.inside fl.rises)

      other_known : (c b : ℕ) (j : ℕ) → j ≢ k → (e : ℕ) → Known f since end fl.floor xs j e → Known f since end fl.floor (xs ++ record { node = k; cycle = c; byte = b } ∷ []) j e
      other_known c b j ne e known =
          let x : Send = record { node = k; cycle = c; byte = b } in
          let K : List Send → List Send = filter (is_kept f.topo fl.floor) in
          let none : sends_of j (x ∷ []) ≡ [] =
          filter_none (λ (y : Send). y.node == j) (x ∷ []) (All-cons (λ (y : Send). (y.node == j) ≡ false) x [] (other_node k j (λ q. ne (sym q))) (All-nil (λ (y : Send). (y.node == j) ≡ false))) in
          record {
            from = known.from;
            within = known.within;
            kept = kept_split f.topo fl.floor j xs (x ∷ []) ∙ ap (λ (z : List Send). sends_of j (K xs) ++ K z) none ∙ append-nil (sends_of j (K xs)) ∙ known.kept;
            below = All-push (λ (y : Send). y.node ≡ j → y.cycle < e) xs x known.below (λ same. absurd (ne (sym same)));
          }

      pub post_step : (c b : ℕ) (w : Timed S R) → v.asking ≡ false → c < end → Sends f.kind v c b w → InFlight f since end hold (set vs k w) (xs ++ record { node = k; cycle = c; byte = b } ∷ [])
      post_step c b w calm early r =
          let x : Send = record { node = k; cycle = c; byte = b } in
          let Q : Send → Send → Type 0 = λ y z. y.node ≡ z.node → y.cycle < z.cycle in
          let from = r.comes.later in
          with_node w (xs ++ x ∷ []) (posts_on c b w calm early r) (other_known c b)
          (All-push (λ (y : Send). (y.node < f.topo.nodes) × (y.cycle < end)) xs x fl.inside (l, early))
          (pairs_push Q xs x fl.rises (All-weaker (λ (y : Send). y.node ≡ k → y.cycle < v.cycle) (λ (y : Send). Q y x) (λ y h same. let a = h same in omega arith) xs known_here.below))

      pub can_post : f.topo.nodes ≤ MOST_NODES → CanPost k v.cycle xs
      can_post few = record {
        nodes = All-weaker (λ (y : Send). (y.node < f.topo.nodes) × (y.cycle < end)) (λ (y : Send). y.node < MOST_NODES) (λ y h. let a = h.0 in omega arith) xs fl.inside;
        rises = fl.rises;
        behind = known_here.below;
      }

    -- ---- the record is cut
    cut_high : (high low : ℕ) → high ≤ hold → fl.floor ≤ high → low ≤ high → ((j : ℕ) (d : Timed S R) (l : j < f.topo.nodes) → high ≤ (fl.nodes j d l).come) → high ≤ end → InFlight f since end hold vs (filter (is_kept f.topo low) xs)
    cut_high high low held up over reach lim =
        let p : Send → Bool = is_kept f.topo low in
        let ys : List Send = filter p xs in
        let same : (m : ℕ) → sends_of m (filter (is_kept f.topo high) ys) ≡ sends_of m (filter (is_kept f.topo high) xs) = λ m. ap (sends_of m) (through (is_kept f.topo high) p (over_later f.topo low high over) xs) in
        record {
          begun = fl.begun;
          later = fl.later;
          count = fl.count;
          floor = high;
          held = held;
          nodes = (λ j d l.
              let a = fl.nodes j d l in
              record {
                come = a.come;
                later = a.later;
                known = known_cut f since end fl.floor high xs ys j a.come up (reach j d l) (same j) (All-filter p (λ (y : Send). y.node ≡ j → y.cycle < a.come) xs a.known.below) a.known;
                stands = a.stands;
              });
          past = (λ j l. let a = fl.past j l in known_cut f since end fl.floor high xs ys j end up lim (same j) (All-filter p (λ (y : Send). y.node ≡ j → y.cycle < end) xs a.below) a);
          inside = All-filter p (λ (y : Send). (y.node < f.topo.nodes) × (y.cycle < end)) xs fl.inside;
          rises = AllPairs-filter (λ (y : Send) (z : Send). y.node ≡ z.node → y.cycle < z.cycle) p xs fl.rises;
        }

    cut_case : (low : ℕ) → low ≤ hold → IsLow f.kind end low vs → low ≤ end → Dec (low ≤ fl.floor) → InFlight f since end hold vs (filter (is_kept f.topo low) xs)
    cut_case low held lowest lim (yes le) = cut_high fl.floor low fl.held (omega arith) le (λ j d l. (fl.nodes j d l).known.from) ((fl.past f.topo.nodes (omega arith)).from)
    cut_case low held lowest lim (no more) = cut_high low low held (omega arith) (omega arith) (reached low lowest lim) lim

    pub cut : (low : ℕ) → low ≤ hold → IsLow f.kind end low vs → low ≤ end → InFlight f since end hold vs (filter (is_kept f.topo low) xs)
    cut low held lowest lim = cut_case low held lowest lim (dec_le low fl.floor)

  -- ---- a step of the node whose turn it is
  module _ (hold : ℕ) (vs : List (Timed S R)) (xs : List Send) (fl : InFlight f since end hold vs xs) (k : ℕ) (v : Timed S R) (low ahead : ℕ) (l : k < f.topo.nodes) (own : v ≡ node_in vs k v) (live : is_live f.kind end v ≡ true) (lowest : IsLow f.kind end low vs)
      (some : 1 ≤ ahead) (each : All (λ l. ahead ≤ latency_of f.topo l.from l.to) f.topo.links) (near : v.cycle < low + ahead) (drop : ℕ) (before : drop ≤ low) (held : drop ≤ hold) (w : Timed S R) (ys : List Send) where
    grows_on : (c b : ℕ) → v.asking ≡ false → c < end → Sends f.kind v c b w → Grows f.topo drop xs (record { node = k; cycle = c; byte = b }) ys → InFlight f since end hold (set vs k w) ys
    grows_on c b calm early r (inl e) = subst (InFlight f since end hold (set vs k w)) (sym e) (post_step hold vs xs fl k v low l own live lowest c b w calm early r)
    grows_on c b calm early r (inr e) =
        let less = cut hold vs xs fl drop held (λ j d q on. let le = lowest j d q on in omega arith) (let lim = low_end hold vs xs fl k v low l own live lowest in omega arith) in
        subst (InFlight f since end hold (set vs k w)) (sym e) (post_step hold vs (filter (is_kept f.topo drop) xs) less k v low l own live lowest c b w calm early r)

    pub flight_on : Takes f.kind f.topo k drop end v xs w ys → InFlight f since end hold (set vs k w) ys
    flight_on (inl a) = quiet_step hold vs xs fl k v low l own live lowest w ys a.sends (answers_on hold vs xs fl k v low l own live lowest w a.asking (hears_right hold vs xs fl k v low l own live lowest ahead some each near) a.node)
    flight_on (inr (inl a)) = quiet_step hold vs xs fl k v low l own live lowest w ys a.sends (passes_on hold vs xs fl k v low l own live lowest w a.calm a.rests)
    flight_on (inr (inr (inl a))) = quiet_step hold vs xs fl k v low l own live lowest w ys a.sends (samples_on hold vs xs fl k v low l own live lowest a.cycle w a.calm a.early a.asks)
    flight_on (inr (inr (inr a))) = grows_on a.cycle a.byte a.calm a.early a.sends a.grows

-- ---- it moves on
module _ {S R : Type 0} (m : NodeKind S R) (end : ℕ) (v w : Timed S R) (live : is_live m end v ≡ true) (early : v.cycle < end) where
  was : v.asking ≡ false → rank m end v ≡ 3 * (end - v.cycle) + 1 + 1
  was calm = (λ i. 3 * (end - v.cycle) + cond (calm i) 0 1 + cond (live i) 1 0)

  abbrev Moves : Type 0
  Moves = (v.cycle ≤ w.cycle) × (rank m end w < rank m end v)

  farther : v.asking ≡ false → v.cycle < w.cycle → w.cycle ≤ end → Moves
  farther calm more lim =
      let a = off_most w.asking in
      let b = bit_most (is_live m end w) in
      let e = was calm in
      (omega arith, omega arith)

  halted : v.asking ≡ false → v.cycle ≤ w.cycle → w.asking ≡ false → m.is_stopped w.state ≡ true → Moves
  halted calm le now stop =
      let dead : is_live m end w ≡ false = (λ i. now i || (not (stop i) && nat_lt w.cycle end)) in
      let a = off_most w.asking in
      let b = bit_none (is_live m end w) dead in
      let e = was calm in
      (le, omega arith)

  sampled : v.asking ≡ false → v.cycle ≤ w.cycle → w.asking ≡ true → Moves
  sampled calm le now =
      let a = off_none w.asking now in
      let b = bit_most (is_live m end w) in
      let e = was calm in
      (le, omega arith)

  rests_moves : v.asking ≡ false → Rests m v end w ⊎ ((w.cycle ≤ end) × Stops m v w) → Moves
  rests_moves calm (inl r) = let at = r.cycle in farther calm (omega arith) (omega arith)
  rests_moves calm (inr r) = halted calm r.1.rests.comes.later r.1.rests.asking r.1.stopped

  pub moves : (t : Topology) (k low : ℕ) (xs ys : List Send) → Takes m t k low end v xs w ys → (v.cycle ≤ w.cycle) × (rank m end w < rank m end v)
  moves t k low xs ys (inl a) =
      let at : w.cycle ≡ v.cycle + 1 = ap (λ (z : Timed S R). z.cycle) a.node in
      let p = off_most w.asking in
      let q = bit_most (is_live m end w) in
      let e : rank m end v ≡ 3 * (end - v.cycle) + 0 + 1 = (λ i. 3 * (end - v.cycle) + cond (a.asking i) 0 1 + cond (live i) 1 0) in
      (omega arith, omega arith)
  moves t k low xs ys (inr (inl a)) = rests_moves a.calm a.rests
  moves t k low xs ys (inr (inr (inl a))) =
      let at : w.cycle ≡ a.cycle = ap (λ (z : Timed S R). z.cycle) a.asks.after in
      let from = a.asks.comes.later in
      sampled a.calm (omega arith) (ap (λ (z : Timed S R). z.asking) a.asks.after)
  moves t k low xs ys (inr (inr (inr a))) =
      let at : w.cycle ≡ a.cycle + 1 = ap (λ (z : Timed S R). z.cycle) a.sends.after in
      let from = a.sends.comes.later in
      let lim = a.early in
      farther a.calm (omega arith) (omega arith)

-- ---- the others stay where they are
module _ {S R : Type 0} (m : NodeKind S R) (end low : ℕ) (vs : List (Timed S R)) (k : ℕ) (v w : Timed S R) (lt : k < length vs) (own : v ≡ node_in vs k v) (live : is_live m end v ≡ true) (later : v.cycle ≤ w.cycle) (lowest : IsLow m end low vs) where
  low_case : (j : ℕ) (d : Timed S R) → Dec (j ≡ k) → j < length vs → is_live m end (node_in (set vs k w) j d) ≡ true → low ≤ (node_in (set vs k w) j d).cycle
  low_case j d (yes e) q on =
      let was_live : is_live m end (node_in vs k v) ≡ true = ap (is_live m end) (sym own) ∙ live in
      let le : low ≤ (node_in vs k v).cycle = lowest k v lt was_live in
      let same : (node_in vs k v).cycle ≡ v.cycle = ap (λ (z : Timed S R). z.cycle) (sym own) in
      subst (λ (n : ℕ). low ≤ (node_in (set vs k w) n d).cycle) (sym e) (subst (λ (z : Timed S R). low ≤ z.cycle) (sym (at_own vs k w d lt)) (omega arith))
  low_case j d (no ne) q on =
      let other = at_other vs k j w d ne in
      subst (λ (z : Timed S R). low ≤ z.cycle) (sym other) (lowest j d q (ap (is_live m end) (sym other) ∙ on))

  pub still_low : IsLow m end low (set vs k w)
  still_low j d q on = low_case j d (ℕ_discrete j k) (let same = length-set vs k w in omega arith) on

pub rank_falls : {S R : Type 0} (m : NodeKind S R) (end : ℕ) (vs : List (Timed S R)) (k : ℕ) (v w : Timed S R) → k < length vs → v ≡ node_in vs k v → rank m end w < rank m end v → sum_by (rank m end) (set vs k w) < sum_by (rank m end) vs
rank_falls m end vs k v w lt own less =
    let e = sum_by-set (rank m end) vs k w v lt in
    let same : rank m end (node_in vs k v) ≡ rank m end v = ap (rank m end) (sym own) in
    omega arith
