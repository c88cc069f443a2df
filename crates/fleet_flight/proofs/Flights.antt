-- All nodes at cycles of their own, between two steps of one of them: how they take off from a pause, and land in one.
use Rattle.std.proofs.Common.{◌≡◌, ◌≢◌, ℕ, ◌+◌, ◌-◌, ◌<◌, ◌≤◌, ◌⊎◌, inl, inr, Bool, true, false, not, ◌&&◌, ◌||◌, ◌==◌, List, [], ◌++◌, length, refl, sym, subst, ◌∙◌, ap, arith, append-nil}
use Rattle.std.specs.Prelude.{nat_lt}
use Rattle.std.specs.List.{All, filter}
use Rattle.std.proofs.lemmas.List.Elements.{filter-append, All-weaker}
use Rattle.std.proofs.lemmas.Bool.{false≢true}
use Rattle.std.proofs.lemmas.Bool.Decides.{nat_tests}
use native.Mathlib.Decide.{dec_le}
use Rattle.air_base.specs.declared.air.Heard.{Heard}
use Rattle.air_base.specs.declared.air.Send.{Send}
use Rattle.air_base.specs.Each.{each_below}
use Rattle.air_base.specs.NodeKind.{IsSteady}
use Rattle.air_base.specs.NodeRun.{Timed}
use Rattle.air_base.proofs.Each.{each_one, each_same, filter_each, filter_none, filter_whole}
use Rattle.world_core.specs.Chain.{Rises}
use Rattle.world_core.specs.Kept.{is_kept}
use Rattle.world_core.specs.Order.{Fleet, hears, node_at, rows_between, rows_in, world_at}
use Rattle.world_core.specs.Sends.{sends_of}
use Rattle.world_core.specs.Topology.{Topology, reach}
use Rattle.world_core.proofs.Alone.{rows_join}
use Rattle.world_core.proofs.Final.{filter_swap, through}
use Rattle.fleet_flight.specs.Paused.{IsHeld, AtRest, IsPaused, node_in}
use Rattle.fleet_flight.specs.Turns.{is_live}
use Rattle.fleet_flight.specs.Alone.{alone}
use Rattle.fleet_flight.proofs.Alone.{GoesAlone, alone_rows, alone_sends, bool_cases}
use Rattle.fleet_flight.proofs.Ordered.{along, of_one, rows_along, sends_along, sends_from, sent_all, sent_in}
use Rattle.fleet_flight.proofs.Trails.{stopped_alone, stopped_rows, stopped_sends}

over_on : (c e until : ℕ) → c ≤ e → nat_lt c until ≡ false → nat_lt e until ≡ false
over_on c e until le h = grind (arith, nat_tests)

pub over_later : (t : Topology) (c e : ℕ) → c ≤ e → (x : Send) → is_kept t c x ≡ false → is_kept t e x ≡ false
over_later t c e le x h = over_on c e (x.cycle + reach t + t.byte_time) le h

-- what is kept at cycle e is kept of what is kept at cycle c
pub kept_twice : (t : Topology) (c e : ℕ) → c ≤ e → (m : ℕ) (xs : List Send) → sends_of m (filter (is_kept t e) xs) ≡ filter (is_kept t e) (sends_of m (filter (is_kept t c) xs))
kept_twice t c e le m xs =
    ap (sends_of m) (sym (through (is_kept t e) (is_kept t c) (over_later t c e le) xs))
    ∙ filter_swap (λ (x : Send). x.node == m) (is_kept t e) (filter (is_kept t c) xs)

same_node : (a b : ℕ) → a ≡ b → (a == b) ≡ true
same_node a b e = grind (arith, nat_tests)

pub other_node : (a b : ℕ) → a ≢ b → (a == b) ≡ false
other_node a b e = grind (arith, nat_tests)

-- of the sends of two lists that are kept, those of one node
pub kept_split : (t : Topology) (floor m : ℕ) (ys zs : List Send) → sends_of m (filter (is_kept t floor) (ys ++ zs)) ≡ sends_of m (filter (is_kept t floor) ys) ++ filter (is_kept t floor) (sends_of m zs)
kept_split t floor m ys zs =
    ap (sends_of m) (filter-append (is_kept t floor) ys zs)
    ∙ filter-append (λ (x : Send). x.node == m) (filter (is_kept t floor) ys) (filter (is_kept t floor) zs)
    ∙ ap (λ (l : List Send). sends_of m (filter (is_kept t floor) ys) ++ l) (filter_swap (λ (x : Send). x.node == m) (is_kept t floor) zs)

-- what is not live: it stopped, or came to the end; what is live and does not wait is neither
still_case : (a stopped : Bool) (c end : ℕ) → (a || (not stopped && nat_lt c end)) ≡ false → (a ≡ false) × ((stopped ≡ true) ⊎ (end ≤ c))
still_case true stopped c end e = absurd (false≢true (sym e))
still_case false true c end e = (refl, inl refl)
still_case false false c end e = (refl, inr (let h : end ≤ c = grind (arith, nat_tests) in h))

pub live_case : (a stopped : Bool) (c end : ℕ) → a ≡ false → (a || (not stopped && nat_lt c end)) ≡ true → (stopped ≡ false) × (c < end)
live_case true stopped c end calm e = absurd (false≢true (sym calm))
live_case false true c end calm e = absurd (false≢true e)
live_case false false c end calm e = (refl, (let h : c < end = grind (arith, nat_tests) in h))

module _ {S R : Type 0} (f : Fleet S R) (since end : ℕ) where
  -- of node k the record has in order the sends below cycle c that are kept, and no others
  pub record Known (floor : ℕ) (xs : List Send) (k c : ℕ) : Type 0 where
    pub from : floor ≤ c
    pub within : c ≤ end
    pub kept : sends_of k (filter (is_kept f.topo floor) xs) ≡ sends_of k (filter (is_kept f.topo floor) (world_at f c).sends)
    pub below : All (λ x. x.node ≡ k → x.cycle < c) xs

  -- node k waits at the sample of cycle c
  pub record AtSample (c k : ℕ) (v : Timed S R) : Type 0 where
    pub asking : v.asking ≡ true
    pub cycle : v.cycle ≡ c
    pub early : c < end
    pub asks : f.kind.asks c (node_at f k c) ≡ true
    pub state : v.state ≡ f.kind.begun c (node_at f k c)
    pub rows : v.rows ≡ rows_between f k since c ++ f.kind.begun_rows c (node_at f k c)

  -- it stands at the beginning of cycle c, or has stopped, and then what it does is known up to the end
  pub record Between (c k : ℕ) (v : Timed S R) : Type 0 where
    pub rest : AtRest f since c k v
    pub over : f.kind.is_stopped v.state ≡ true → c ≡ end

  pub record Flies (floor : ℕ) (xs : List Send) (k : ℕ) (v : Timed S R) : Type 0 where
    pub come : ℕ
    pub later : since ≤ come
    pub known : Known floor xs k come
    pub stands : Between come k v ⊎ AtSample come k v

  -- so do all nodes. Of the record nothing is gone that is not over at the cycle `hold`
  pub record InFlight (hold : ℕ) (vs : List (Timed S R)) (xs : List Send) : Type 0 where
    pub begun : f.start ≤ since
    pub later : since ≤ end
    pub count : length vs ≡ f.topo.nodes
    pub floor : ℕ
    pub held : floor ≤ hold
    pub nodes : (k : ℕ) (d : Timed S R) → k < f.topo.nodes → Flies floor xs k (node_in vs k d)
    pub past : (k : ℕ) → f.topo.nodes ≤ k → Known floor xs k end
    pub inside : All (λ x. (x.node < f.topo.nodes) × (x.cycle < end)) xs
    pub rises : Rises xs

  -- what node k hears in cycle t
  abbrev pub ear : ℕ → ℕ → Heard
  ear k t = hears f t (world_at f t) k

  abbrev made : ℕ → ℕ → List Send
  made c n = each_below n (λ i. each_below f.topo.nodes (sent_in f (c + i)))

  -- ---- what one node sends
  own_one : (t k : ℕ) → k < f.topo.nodes → sends_of k (each_below f.topo.nodes (sent_in f t)) ≡ sent_in f t k
  own_one t k l =
      let is : Send → Bool = λ x. x.node == k in
      filter_each is f.topo.nodes (sent_in f t)
      ∙ each_one f.topo.nodes k (λ j. filter is (sent_in f t j)) l
      (λ j m ne. filter_none is (sent_in f t j) (of_one (λ x. is x ≡ false) t j (f.kind.sends t (node_at f j t)) (λ b. other_node j k ne)))
      ∙ filter_whole is (sent_in f t k) (of_one (λ x. is x ≡ true) t k (f.kind.sends t (node_at f k t)) (λ b. same_node k k refl))

  pub own_all : (c n k : ℕ) → k < f.topo.nodes → sends_of k (made c n) ≡ each_below n (λ i. sent_in f (c + i) k)
  own_all c n k l =
      filter_each (λ (x : Send). x.node == k) n (λ i. each_below f.topo.nodes (sent_in f (c + i)))
      ∙ each_same n (λ i. sends_of k (each_below f.topo.nodes (sent_in f (c + i)))) (λ i. sent_in f (c + i) k) (λ i m. own_one (c + i) k l)

  none_past : (c n k : ℕ) → f.topo.nodes ≤ k → sends_of k (made c n) ≡ []
  none_past c n k l = filter_none (λ (x : Send). x.node == k) (made c n) (sent_all f (λ x. (x.node == k) ≡ false) c n (λ x low high node. other_node x.node k (λ e. absurd (omega arith))))

  kept_grown : (floor c e k : ℕ) (sent : List Send) → f.start ≤ c → c ≤ e → sends_of k (made c (e - c)) ≡ sent
      → sends_of k (filter (is_kept f.topo floor) (world_at f e).sends) ≡ sends_of k (filter (is_kept f.topo floor) (world_at f c).sends) ++ filter (is_kept f.topo floor) sent
  kept_grown floor c e k sent from le own =
      let K : List Send → List Send = filter (is_kept f.topo floor) in
      let at : e ≡ c + (e - c) = omega arith in
      let grown : (world_at f e).sends ≡ (world_at f c).sends ++ made c (e - c) = ap (λ (t : ℕ). (world_at f t).sends) at ∙ sends_from f c (e - c) from in
      ap (λ (l : List Send). sends_of k (K l)) grown ∙ kept_split f.topo floor k (world_at f c).sends (made c (e - c))
      ∙ ap (λ (l : List Send). sends_of k (K (world_at f c).sends) ++ K l) own

  -- a node goes on, and the record with it
  pub known_on : (floor : ℕ) (xs ys : List Send) (k c e : ℕ) (sent : List Send) → f.start ≤ c → c ≤ e → e ≤ end → sends_of k (made c (e - c)) ≡ sent
      → sends_of k (filter (is_kept f.topo floor) ys) ≡ sends_of k (filter (is_kept f.topo floor) xs) ++ filter (is_kept f.topo floor) sent → All (λ x. x.node ≡ k → x.cycle < e) ys
      → Known floor xs k c → Known floor ys k e
  known_on floor xs ys k c e sent from le lim own more low known = record {
    from = (let a = known.from in omega arith);
    within = lim;
    kept = more ∙ ap (λ (l : List Send). l ++ filter (is_kept f.topo floor) sent) known.kept ∙ sym (kept_grown floor c e k sent from le own);
    below = low;
  }

  pub known_quiet : (floor : ℕ) (xs : List Send) (k c e : ℕ) → f.start ≤ c → c ≤ e → e ≤ end → sends_of k (made c (e - c)) ≡ [] → Known floor xs k c → Known floor xs k e
  known_quiet floor xs k c e from le lim own known =
      known_on floor xs xs k c e [] from le lim own (sym (append-nil (sends_of k (filter (is_kept f.topo floor) xs))))
      (All-weaker (λ (x : Send). x.node ≡ k → x.cycle < c) (λ (x : Send). x.node ≡ k → x.cycle < e) (λ x h same. let a = h same in omega arith) xs known.below) known

  -- the record is cut at a cycle that all have reached
  pub known_cut : (floor high : ℕ) (xs ys : List Send) (k c : ℕ) → floor ≤ high → high ≤ c → sends_of k (filter (is_kept f.topo high) ys) ≡ sends_of k (filter (is_kept f.topo high) xs)
      → All (λ x. x.node ≡ k → x.cycle < c) ys → Known floor xs k c → Known high ys k c
  known_cut floor high xs ys k c up le same low known = record {
    from = le;
    within = known.within;
    kept = same ∙ kept_twice f.topo floor high up k xs ∙ ap (filter (is_kept f.topo high)) known.kept ∙ sym (kept_twice f.topo floor high up k (world_at f c).sends);
    below = low;
  }

  -- ---- where node k goes by itself
  pub record Went (k c : ℕ) (w : Timed S R) (sent : List Send) : Type 0 where
    pub later : c ≤ w.cycle
    pub calm : w.asking ≡ false
    pub state : w.state ≡ node_at f k w.cycle
    pub rows : w.rows ≡ rows_between f k since w.cycle
    pub posts : each_below (w.cycle - c) (λ i. sent_in f (c + i) k) ≡ sent

  pub went : (k c : ℕ) (v w : Timed S R) (sent : List Send) → f.start ≤ c → since ≤ c → v.cycle ≡ c → v.state ≡ node_at f k c → v.rows ≡ rows_between f k since c → GoesAlone f.kind (ear k) k v [] w sent → Went k c w sent
  went k c v w sent from taken at state rows g =
      let n : ℕ = g.count in
      let q : w.cycle ≡ c + n = (let a = g.cycle in omega arith) in
      let len : w.cycle - c ≡ n = omega arith in
      let le : c ≤ w.cycle = omega arith in
      let here : each_below n (λ i. rows_in f k (c + i)) ≡ rows_between f k c w.cycle = ap (λ (j : ℕ). each_below j (λ i. rows_in f k (c + i))) (sym len) in
      record {
        later = le;
        calm = g.calm;
        state = g.state ∙ (λ i. alone f.kind (ear k) (at i) n (state i)) ∙ sym (along f k c (ear k) from n (λ i l. refl)) ∙ ap (node_at f k) (sym q);
        rows = g.rows ∙ (λ i. rows i ++ alone_rows f.kind (ear k) (at i) n (state i))
            ∙ ap (λ (l : List R). rows_between f k since c ++ l) (sym (rows_along f k c (ear k) from n (λ i l. refl)) ∙ here) ∙ sym (rows_join f k since c w.cycle taken le);
        posts = ap (λ (j : ℕ). each_below j (λ i. sent_in f (c + i) k)) len ∙ sends_along f k c (ear k) from n (λ i l. refl)
            ∙ sym (g.sends ∙ (λ i. alone_sends f.kind (ear k) k (at i) n (state i)));
      }

  module _ (steady : IsSteady f.kind) where
    -- a node at the beginning of a cycle, stopped or not
    settled_case : (floor : ℕ) (xs : List Send) (k c : ℕ) (v : Timed S R) → k < f.topo.nodes → f.start ≤ since → since ≤ c → Known floor xs k c → AtRest f since c k v
        → (f.kind.is_stopped v.state ≡ true) ⊎ (f.kind.is_stopped v.state ≡ false) → Flies floor xs k v
    settled_case floor xs k c v l start later known at (inl stop) =
        let lim = known.within in
        let n : ℕ = end - c in
        let to : end ≡ c + n = omega arith in
        let from : f.start ≤ c = omega arith in
        let here : f.kind.is_stopped (node_at f k c) ≡ true = ap f.kind.is_stopped (sym at.state) ∙ stop in
        let still : node_at f k end ≡ node_at f k c = ap (node_at f k) to ∙ along f k c (ear k) from n (λ i m. refl) ∙ stopped_alone f.kind (ear k) steady c n (node_at f k c) here in
        let mute : rows_between f k c end ≡ [] = rows_along f k c (ear k) from n (λ i m. refl) ∙ stopped_rows f.kind (ear k) steady c n (node_at f k c) here in
        let silent : each_below n (λ i. sent_in f (c + i) k) ≡ [] = sends_along f k c (ear k) from n (λ i m. refl) ∙ stopped_sends f.kind (ear k) steady k c n (node_at f k c) here in
        record {
          come = end;
          later = omega arith;
          known = known_quiet floor xs k c end from lim (omega arith) (own_all c n k l ∙ silent) known;
          stands = inl (record {
            rest = record {
              calm = at.calm;
              has = record { within = (let h = at.has.within in omega arith); over = inl stop };
              state = at.state ∙ sym still;
              rows = at.rows ∙ sym (append-nil (rows_between f k since c)) ∙ ap (λ (m : List R). rows_between f k since c ++ m) (sym mute) ∙ sym (rows_join f k since c end later lim);
            };
            over = (λ e. refl);
          });
        }
    settled_case floor xs k c v l start later known at (inr runs) = record {
      come = c;
      later = later;
      known = known;
      stands = inl (record { rest = at; over = (λ stop. absurd (false≢true (sym runs ∙ stop))) });
    }

    pub settled : (floor : ℕ) (xs : List Send) (k c : ℕ) (v : Timed S R) → k < f.topo.nodes → f.start ≤ since → since ≤ c → Known floor xs k c → AtRest f since c k v → Flies floor xs k v
    settled floor xs k c v l start later known at = settled_case floor xs k c v l start later known at (bool_cases (f.kind.is_stopped v.state))

    -- ---- from a pause
    pub take_off : (hold : ℕ) (vs : List (Timed S R)) (xs : List Send) → IsPaused f since since vs xs → since ≤ end → since ≤ hold → InFlight hold vs xs
    take_off hold vs xs paused more held =
        let K : List Send → List Send = filter (is_kept f.topo since) in
        let low : (k c : ℕ) → since ≤ c → All (λ x. x.node ≡ k → x.cycle < c) xs =
        λ k c le. All-weaker (λ (x : Send). (x.node < f.topo.nodes) × (x.cycle < since)) (λ (x : Send). x.node ≡ k → x.cycle < c) (λ x h same. let a = h.1 in omega arith) xs paused.inside in
        record {
          begun = paused.begun;
          later = more;
          count = paused.count;
          floor = since;
          held = held;
          nodes = (λ k d l.
              settled since xs k since (node_in vs k d) l paused.begun (omega arith)
              (record { from = omega arith; within = more; kept = paused.kept k; below = low k since (omega arith) }) (paused.nodes k d l));
          past = (λ k l.
              known_quiet since xs k since end paused.begun more (omega arith) (none_past since (end - since) k l)
              (record { from = omega arith; within = more; kept = paused.kept k; below = low k since (omega arith) }));
          inside = All-weaker (λ (x : Send). (x.node < f.topo.nodes) × (x.cycle < since)) (λ (x : Send). (x.node < f.topo.nodes) × (x.cycle < end)) (λ x h. (h.0, (let a = h.1 in omega arith))) xs paused.inside;
          rises = paused.rises;
        }

  -- ---- into a pause
  module _ (hold : ℕ) (vs : List (Timed S R)) (xs : List Send) (fl : InFlight hold vs xs) (still : All (λ v. is_live f.kind end v ≡ false) vs) where
    at_end : (k : ℕ) (d : Timed S R) → k < f.topo.nodes → (c : ℕ) → c ≤ end → Between c k (node_in vs k d) ⊎ AtSample c k (node_in vs k d) → (c ≡ end) × AtRest f since end k (node_in vs k d)
    at_end k d l c lim stands =
        let v = node_in vs k d in
        let n = fl.count in
        let dead = still_case v.asking (f.kind.is_stopped v.state) v.cycle end (still k d (omega arith)) in
        ends_case k v c lim dead.0 dead.1 stands
      where
        ends_case : (k : ℕ) (v : Timed S R) (c : ℕ) → c ≤ end → v.asking ≡ false → (f.kind.is_stopped v.state ≡ true) ⊎ (end ≤ v.cycle) → Between c k v ⊎ AtSample c k v → (c ≡ end) × AtRest f since end k v
        ends_case k v c lim calm why (inr s) = absurd (false≢true (sym calm ∙ s.asking))
        ends_case k v c lim calm (inl stop) (inl b) = (b.over stop, subst (λ (e : ℕ). AtRest f since e k v) (b.over stop) b.rest)
        ends_case k v c lim calm (inr past) (inl b) =
            let e : c ≡ end = (let w = b.rest.has.within in omega arith) in
            (e, subst (λ (e : ℕ). AtRest f since e k v) e b.rest)

    ends : (k : ℕ) (d : Timed S R) (l : k < f.topo.nodes) → ((fl.nodes k d l).come ≡ end) × AtRest f since end k (node_in vs k d)
    ends k d l = let a = fl.nodes k d l in at_end k d l a.come a.known.within a.stands

    known_end : (d : Timed S R) (k : ℕ) → Dec (f.topo.nodes ≤ k) → Known fl.floor xs k end
    known_end d k (yes past) = fl.past k past
    known_end d k (no here) =
        let l : k < f.topo.nodes = omega arith in
        subst (λ (c : ℕ). Known fl.floor xs k c) (ends k d l).0 (fl.nodes k d l).known

    kept_from : (floor : ℕ) (d : Timed S R) → fl.floor ≤ floor → (k : ℕ) → sends_of k (filter (is_kept f.topo floor) xs) ≡ sends_of k (filter (is_kept f.topo floor) (world_at f end).sends)
    kept_from floor d up k =
        let known = known_end d k (dec_le f.topo.nodes k) in
        kept_twice f.topo fl.floor floor up k xs ∙ ap (filter (is_kept f.topo floor)) known.kept ∙ sym (kept_twice f.topo fl.floor floor up k (world_at f end).sends)

    -- the record has all that is not over at the cycle `hold`
    pub whole : Timed S R → IsHeld f hold end xs
    whole d = kept_from hold d fl.held

    pub land : Timed S R → IsPaused f since end vs xs
    land d = record {
      begun = fl.begun;
      later = fl.later;
      count = fl.count;
      nodes = (λ k e l. (ends k e l).1);
      kept = kept_from end d ((fl.past f.topo.nodes (omega arith)).from);
      inside = fl.inside;
      rises = fl.rises;
    }
