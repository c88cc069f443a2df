-- What a node's runs and answers are in the global order.
use Rattle.std.proofs.Common.{◌≡◌, ℕ, zero, suc, ◌+◌, ◌-◌, ◌<◌, ◌≤◌, Bool, true, false, Option, Some, List, [], ◌∷◌, ◌++◌, length, get_or, sym, subst, ◌∙◌, ap, arith, append-nil, append_assoc, add-one, length-append}
use Rattle.std.specs.List.{Contains}
use Rattle.std.proofs.lemmas.List.{get_or_at, length_push}
use Rattle.std.proofs.lemmas.List.Elements.{Contains-append_left, Contains-append_right, Contains-push}
use Rattle.std.proofs.lemmas.Bool.{false≢true}
use Rattle.air_base.specs.declared.air.Send.{Send}
use Rattle.air_base.specs.declared.air.Ask.{Ask}
use Rattle.air_base.specs.declared.air.Heard.{Heard}
use Rattle.world_core.specs.Sends.{sends_of, sends_below, IsSendNumber}
use Rattle.world_core.specs.Settled.{truth}
use Rattle.air_base.specs.Each.{each_below}
use Rattle.air_base.specs.NodeRun.{passed, passed_rows, IsQuiet, AllQuiet, Timed, Comes, Rests, Sends, Asks, answered}
use Rattle.world_core.specs.Order.{Fleet, send_of, ask_of, world_at, facts_of, node_at, rows_between}
use Rattle.world_core.specs.Sound.{IsSound}
use Rattle.world_core.specs.Stands.{Stands, QuietBetween}
use Rattle.air_base.proofs.Each.{each_contains}
use Rattle.world_core.proofs.Sends.{sends_next, next_asks, sends_front, count_is}
use Rattle.world_core.proofs.Alone.{passes, rows_quiet, rows_join, rows_one, rows_begun, rows_finished, node_begun, node_finished, cond_true, cond_false}

module _ {S R : Type 0} (f : Fleet S R) (ok : IsSound f) where
  pub plain_state : (k since : ℕ) (v : Timed S R) → Stands f k since v → v.asking ≡ false → v.state ≡ node_at f k v.cycle
  plain_state k since v s e = s.state ∙ cond_false v.asking (f.kind.begun v.cycle (node_at f k v.cycle)) (node_at f k v.cycle) e

  pub plain_rows : (k since : ℕ) (v : Timed S R) → Stands f k since v → v.asking ≡ false → v.rows ≡ rows_between f k since v.cycle
  plain_rows k since v s e =
      s.rows ∙ ap (λ (l : List R). rows_between f k since v.cycle ++ l) (cond_false v.asking (f.kind.begun_rows v.cycle (node_at f k v.cycle)) [] e)
      ∙ append-nil (rows_between f k since v.cycle)

  -- where a node stands between two cycles
  pub stands_plain : (k since c : ℕ) (s : S) (l : List R) → f.start ≤ since → since ≤ c → c ≤ f.topo.limit → s ≡ node_at f k c → l ≡ rows_between f k since c
      → Stands f k since (record { cycle = c; asking = false; state = s; rows = l })
  stands_plain k since c s l g h m e r = record { begun = g; taken = h; within = m; asks = (λ q. absurd (false≢true q)); state = e; rows = r ∙ sym (append-nil (rows_between f k since c)) }

  -- a run through quiet cycles is the world's
  module _ (k since : ℕ) (v : Timed S R) (stands : Stands f k since v) (calm : v.asking ≡ false) (c : ℕ) (s : S) (l : List R) (comes : Comes f.kind v c s l) where
    from_start : f.start ≤ v.cycle
    from_start = let a = stands.begun in let b = stands.taken in omega arith

    quiet_here : AllQuiet f.kind v.cycle (c - v.cycle) (node_at f k v.cycle)
    quiet_here = subst (AllQuiet f.kind v.cycle (c - v.cycle)) (plain_state k since v stands calm) comes.quiet

    at_end : v.cycle + (c - v.cycle) ≡ c
    at_end = let h = comes.later in omega arith

    pub come_state : s ≡ node_at f k c
    come_state =
        comes.state ∙ ap (passed f.kind v.cycle (c - v.cycle)) (plain_state k since v stands calm)
        ∙ sym (passes f ok k v.cycle (c - v.cycle) from_start quiet_here) ∙ ap (node_at f k) at_end

    pub come_rows : l ≡ rows_between f k since c
    come_rows =
        comes.rows ∙ ap (λ (n : List R). n ++ passed_rows f.kind v.cycle (c - v.cycle) v.state) (plain_rows k since v stands calm)
        ∙ ap (λ (u : S). rows_between f k since v.cycle ++ passed_rows f.kind v.cycle (c - v.cycle) u) (plain_state k since v stands calm)
        ∙ ap (λ (n : List R). rows_between f k since v.cycle ++ n) (sym (rows_quiet f ok k v.cycle (c - v.cycle) from_start quiet_here))
        ∙ sym (rows_join f k since v.cycle c stands.taken comes.later)

    pub come_quiet : QuietBetween f k v.cycle c
    come_quiet t h m =
        let n : ℕ = t - v.cycle in
        let e : v.cycle + n ≡ t = omega arith in
        let q = quiet_here n (omega arith) in
        let p = passes f ok k v.cycle n from_start (λ i j. quiet_here i (omega arith)) in
        subst (λ (u : ℕ). IsQuiet f.kind u (node_at f k u)) e
        (subst (IsQuiet f.kind (v.cycle + n)) (sym p) q)

  -- quiet cycles send nothing
  same_sends : (k c n : ℕ) → f.start ≤ c → k < f.topo.nodes → QuietBetween f k c (c + n) → sends_of k (world_at f (c + n)).sends ≡ sends_of k (world_at f c).sends
  same_sends k c zero g h q = let e : c + 0 ≡ c = omega arith in ap (λ (t : ℕ). sends_of k (world_at f t).sends) e
  same_sends k c (suc n) g h q =
      let e : c + suc n ≡ suc (c + n) = omega arith in
      ap (λ (t : ℕ). sends_of k (world_at f t).sends) e ∙ sends_next f ok (c + n) k (omega arith) h
      ∙ ap (λ (o : Option ℕ). sends_of k (world_at f (c + n)).sends ++ send_of (c + n) k o) (q (c + n) (omega arith) (omega arith)).1
      ∙ append-nil (sends_of k (world_at f (c + n)).sends) ∙ same_sends k c n g h (λ t l m. q t l (omega arith))

  pub count_quiet : (k a b : ℕ) → f.start ≤ a → k < f.topo.nodes → a ≤ b → b ≤ f.topo.limit → QuietBetween f k a b → sends_below (facts_of f).sends k b ≡ sends_below (facts_of f).sends k a
  count_quiet k a b g h l m q =
      let e : a + (b - a) ≡ b = omega arith in
      count_is f ok k b (omega arith) m ∙ ap (λ (t : ℕ). length (sends_of k (world_at f t).sends)) (sym e)
      ∙ ap length (same_sends k a (b - a) g h (λ t n o. q t n (omega arith))) ∙ sym (count_is f ok k a g (omega arith))

  pub sends_quiet : (k a b : ℕ) → f.start ≤ a → k < f.topo.nodes → a ≤ b → QuietBetween f k a b → sends_of k (world_at f b).sends ≡ sends_of k (world_at f a).sends
  sends_quiet k a b g h l q =
      let e : a + (b - a) ≡ b = omega arith in
      ap (λ (t : ℕ). sends_of k (world_at f t).sends) (sym e) ∙ same_sends k a (b - a) g h (λ t n o. q t n (omega arith))

  pub sends_sent : (k c b : ℕ) → f.start ≤ c → k < f.topo.nodes → f.kind.sends c (node_at f k c) ≡ Some b → sends_of k (world_at f (c + 1)).sends ≡ sends_of k (world_at f c).sends ++ record { node = k; cycle = c; byte = b } ∷ []
  sends_sent k c b g h e = ap (λ (t : ℕ). sends_of k (world_at f t).sends) (add-one c) ∙ sends_next f ok c k g h ∙ ap (λ (o : Option ℕ). sends_of k (world_at f c).sends ++ send_of c k o) e

  pub sends_answered : (k c : ℕ) → f.start ≤ c → k < f.topo.nodes → f.kind.asks c (node_at f k c) ≡ true → sends_of k (world_at f (c + 1)).sends ≡ sends_of k (world_at f c).sends
  sends_answered k c g h e =
      ap (λ (t : ℕ). sends_of k (world_at f t).sends) (add-one c) ∙ sends_next f ok c k g h
      ∙ ap (λ (o : Option ℕ). sends_of k (world_at f c).sends ++ send_of c k o) (ok.kind.apart c (node_at f k c) e) ∙ append-nil (sends_of k (world_at f c).sends)

  -- a cycle that sends
  pub count_sent : (k c b : ℕ) → f.start ≤ c → k < f.topo.nodes → c < f.topo.limit → f.kind.sends c (node_at f k c) ≡ Some b → sends_below (facts_of f).sends k (c + 1) ≡ sends_below (facts_of f).sends k c + 1
  count_sent k c b g h l e =
      let x : Send = record { node = k; cycle = c; byte = b } in
      let next : sends_of k (world_at f (suc c)).sends ≡ sends_of k (world_at f c).sends ++ x ∷ [] = sends_next f ok c k g h ∙ ap (λ (o : Option ℕ). sends_of k (world_at f c).sends ++ send_of c k o) e in
      ap (sends_below (facts_of f).sends k) (add-one c) ∙ count_is f ok k (suc c) (omega arith) (omega arith) ∙ ap length next
      ∙ length_push (sends_of k (world_at f c).sends) x ∙ ap (λ (n : ℕ). n + 1) (sym (count_is f ok k c g (omega arith)))

  number_of : (all before rest : List Send) (x : Send) (n : ℕ) → all ≡ (before ++ x ∷ []) ++ rest → length before ≡ n → (n < length all) × (get_or all n x ≡ x)
  number_of all before rest x n e l =
      let j : all ≡ before ++ (x ∷ rest) = e ∙ append_assoc before (x ∷ []) rest in
      (let k = ap length j in let m = length-append before (x ∷ rest) in omega arith, ap (λ (y : List Send). get_or y n x) j ∙ get_or_at before x rest x n l)

  pub sent_number : (k c b : ℕ) → f.start ≤ c → k < f.topo.nodes → c < f.topo.limit → f.kind.sends c (node_at f k c) ≡ Some b
      → IsSendNumber (facts_of f) (sends_below (facts_of f).sends k c) (record { node = k; cycle = c; byte = b })
  sent_number k c b g h l e =
      let x : Send = record { node = k; cycle = c; byte = b } in
      let next : sends_of k (world_at f (suc c)).sends ≡ sends_of k (world_at f c).sends ++ x ∷ [] = sends_next f ok c k g h ∙ ap (λ (o : Option ℕ). sends_of k (world_at f c).sends ++ send_of c k o) e in
      let front = sends_front f ok k (suc c) f.topo.limit (omega arith) (omega arith) in
      number_of (sends_of k (facts_of f).sends) (sends_of k (world_at f c).sends) front.0 x (sends_below (facts_of f).sends k c)
      (front.1 ∙ ap (λ (y : List Send). y ++ front.0) next) (sym (count_is f ok k c g (omega arith)))

  -- a cycle that samples
  asks_front : (s n : ℕ) (x : Ask) → f.start ≤ s → Contains (world_at f s).asks x → Contains (world_at f (s + n)).asks x
  asks_front s zero x g h = let e : s ≡ s + 0 = omega arith in subst (λ (t : ℕ). Contains (world_at f t).asks x) e h
  asks_front s (suc n) x g h =
      let e : suc (s + n) ≡ s + suc n = omega arith in
      subst (λ (t : ℕ). Contains (world_at f t).asks x) e
      (subst (λ (l : List Ask). Contains l x) (sym (next_asks f ok (s + n) (omega arith)))
      (Contains-append_left (world_at f (s + n)).asks (each_below f.topo.nodes (λ j. ask_of (s + n) j (f.kind.asks (s + n) (node_at f j (s + n))))) x (asks_front s n x g h)))

  pub asked : (k c : ℕ) → f.start ≤ c → k < f.topo.nodes → c < f.topo.limit → f.kind.asks c (node_at f k c) ≡ true → Contains (facts_of f).asks (record { node = k; cycle = c })
  asked k c g h l e =
      let x : Ask = record { node = k; cycle = c } in
      let made : ℕ → List Ask = λ j. ask_of c j (f.kind.asks c (node_at f j c)) in
      let here : Contains (made k) x = subst (λ (b : Bool). Contains (ask_of c k b) x) (sym e) (Contains-push [] x) in
      let now : Contains (world_at f (suc c)).asks x = subst (λ (l : List Ask). Contains l x) (sym (next_asks f ok c g)) (Contains-append_right (world_at f c).asks (each_below f.topo.nodes made) x (each_contains f.topo.nodes k made x h here)) in
      let q : suc c + (f.topo.limit - suc c) ≡ f.topo.limit = omega arith in
      subst (λ (t : ℕ). Contains (world_at f t).asks x) q (asks_front (suc c) (f.topo.limit - suc c) x (omega arith) now)

  pub count_answered : (k c : ℕ) → f.start ≤ c → k < f.topo.nodes → c < f.topo.limit → f.kind.asks c (node_at f k c) ≡ true → sends_below (facts_of f).sends k (c + 1) ≡ sends_below (facts_of f).sends k c
  count_answered k c g h l e =
      ap (sends_below (facts_of f).sends k) (add-one c) ∙ count_is f ok k (suc c) (omega arith) (omega arith)
      ∙ ap length (sends_next f ok c k g h ∙ ap (λ (o : Option ℕ). sends_of k (world_at f c).sends ++ send_of c k o) (ok.kind.apart c (node_at f k c) e) ∙ append-nil (sends_of k (world_at f c).sends))
      ∙ sym (count_is f ok k c g (omega arith))

  -- where the node stands after each answer of its run
  pub rests_stands : (k since c : ℕ) (v new : Timed S R) → Stands f k since v → v.asking ≡ false → Rests f.kind v c new → c ≤ f.topo.limit → Stands f k since new
  rests_stands k since c v new stands calm r h =
      let st = come_state k since v stands calm c new.state new.rows r.comes in
      let rs = come_rows k since v stands calm c new.state new.rows r.comes in
      let a = stands_plain k since c new.state new.rows stands.begun (let x = stands.taken in let y = r.comes.later in omega arith) h st rs in
      let e : record { cycle = c; asking = false; state = new.state; rows = new.rows } ≡ new = (λ i. record { cycle = sym r.cycle i; asking = sym r.asking i; state = new.state; rows = new.rows }) in
      subst (Stands f k since) e a

  pub sends_stands : (k since c b : ℕ) (v new : Timed S R) → Stands f k since v → v.asking ≡ false → Sends f.kind v c b new → c < f.topo.limit
      → Stands f k since new × (f.kind.sends c (node_at f k c) ≡ Some b)
  sends_stands k since c b v new stands calm r h =
      let st = come_state k since v stands calm c r.state r.rows r.comes in
      let rs = come_rows k since v stands calm c r.state r.rows r.comes in
      let quiet : f.kind.asks c (node_at f k c) ≡ false = ap (f.kind.asks c) (sym st) ∙ r.asks in
      let le : since ≤ c = (let x = stands.taken in let y = r.comes.later in omega arith) in
      let g : f.start ≤ c = (let x = stands.begun in omega arith) in
      let next : f.kind.begun c r.state ≡ node_at f k (c + 1) = ap (f.kind.begun c) st ∙ sym (node_begun f ok k c g quiet) ∙ ap (node_at f k) (sym (add-one c)) in
      let made : r.rows ++ f.kind.begun_rows c r.state ≡ rows_between f k since (c + 1) =
      (λ i. rs i ++ f.kind.begun_rows c (st i)) ∙ ap (λ (l : List R). rows_between f k since c ++ l) (sym (rows_begun f ok k c quiet) ∙ sym (rows_one f k c))
      ∙ sym (rows_join f k since c (suc c) le (omega arith)) ∙ ap (rows_between f k since) (sym (add-one c)) in (
        subst (Stands f k since) (sym r.after) (stands_plain k since (c + 1) (f.kind.begun c r.state) (r.rows ++ f.kind.begun_rows c r.state) stands.begun (omega arith) (omega arith) next made),
        ap (f.kind.sends c) (sym st) ∙ r.sends,
      )

  pub asks_stands : (k since c : ℕ) (v new : Timed S R) → Stands f k since v → v.asking ≡ false → Asks f.kind v c new → c < f.topo.limit → Stands f k since new
  asks_stands k since c v new stands calm r h =
      let st = come_state k since v stands calm c r.state r.rows r.comes in
      let rs = come_rows k since v stands calm c r.state r.rows r.comes in
      let on : f.kind.asks c (node_at f k c) ≡ true = ap (f.kind.asks c) (sym st) ∙ r.asks in
      let le : since ≤ c = (let x = stands.taken in let y = r.comes.later in omega arith) in
      subst (Stands f k since) (sym r.after)
      (record { begun = stands.begun; taken = le; within = omega arith; asks = (λ q. (h, on)); state = ap (f.kind.begun c) st; rows = (λ i. rs i ++ f.kind.begun_rows c (st i)) })

  pub answered_stands : (k since : ℕ) (v : Timed S R) (h : Heard) → Stands f k since v → v.asking ≡ true → h ≡ truth (facts_of f) k v.cycle → Stands f k since (answered f.kind v h)
  answered_stands k since v h stands on true_h =
      let c : ℕ = v.cycle in
      let here = stands.asks on in
      let st : v.state ≡ f.kind.begun c (node_at f k c) = stands.state ∙ cond_true v.asking (f.kind.begun c (node_at f k c)) (node_at f k c) on in
      let rs : v.rows ≡ rows_between f k since c ++ f.kind.begun_rows c (node_at f k c) =
      stands.rows ∙ ap (λ (l : List R). rows_between f k since c ++ l) (cond_true v.asking (f.kind.begun_rows c (node_at f k c)) [] on) in
      let lim : c ≤ f.topo.limit = stands.within in
      let g : f.start ≤ c = (let x = stands.begun in let y = stands.taken in omega arith) in
      let next : f.kind.finished c v.state h ≡ node_at f k (c + 1) =
      (λ i. f.kind.finished c (st i) (true_h i)) ∙ sym (node_finished f ok k c g lim here.1) ∙ ap (node_at f k) (sym (add-one c)) in
      let made : v.rows ++ f.kind.finished_rows c v.state h ≡ rows_between f k since (c + 1) =
      (λ i. rs i ++ f.kind.finished_rows c (st i) (true_h i))
      ∙ append_assoc (rows_between f k since c) (f.kind.begun_rows c (node_at f k c)) (f.kind.finished_rows c (f.kind.begun c (node_at f k c)) (truth (facts_of f) k c))
      ∙ ap (λ (l : List R). rows_between f k since c ++ l) (sym (rows_finished f ok k c g lim here.1) ∙ sym (rows_one f k c))
      ∙ sym (rows_join f k since c (suc c) stands.taken (omega arith)) ∙ ap (rows_between f k since) (sym (add-one c)) in
      let le : since ≤ c + 1 = (let x = stands.taken in omega arith) in
      stands_plain k since (c + 1) (f.kind.finished c v.state h) (v.rows ++ f.kind.finished_rows c v.state h) stands.begun le (let x = here.0 in omega arith) next made
