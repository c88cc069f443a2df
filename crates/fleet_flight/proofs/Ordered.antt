-- The single global order of cycles, of nodes in any state at all: what each makes in a stretch of cycles in which what
-- it hears is known.
use Rattle.std.proofs.Common.{◌≡◌, ℕ, zero, suc, ◌+◌, ◌<◌, ◌≤◌, List, [], ◌++◌, sym, ◌∙◌, ap, arith, append-nil, append_assoc, add-zero}
use Rattle.std.specs.List.{All}
use Rattle.std.proofs.lemmas.List.Elements.{All-nil, All-cons}
use Rattle.air_base.specs.declared.air.Heard.{Heard}
use Rattle.air_base.specs.declared.air.Send.{Send}
use Rattle.std.specs.declared.option.Option.{Option}
use Rattle.std.specs.Prelude.{Some, None}
use Rattle.air_base.specs.Each.{each_below}
use Rattle.air_base.specs.NodeKind.{ticked, ticked_rows}
use Rattle.world_core.specs.Order.{Fleet, Moment, hears, node_at, rows_in, send_of, world_at}
use Rattle.air_base.proofs.Each.{All_each, each_same}
use Rattle.world_core.proofs.Sends.{next}
use Rattle.fleet_flight.specs.Alone.{alone}
use Rattle.fleet_flight.proofs.Alone.{alone_rows, alone_sends}

-- a send of node k in cycle t
pub of_one : (P : Send → Type 0) (t k : ℕ) (o : Option ℕ) → ((b : ℕ) → P (record { node = k; cycle = t; byte = b })) → All P (send_of t k o)
of_one P t k None h = All-nil P
of_one P t k (Some b) h = All-cons P (record { node = k; cycle = t; byte = b }) [] (h b) (All-nil P)

module _ {S R : Type 0} (f : Fleet S R) where
  pub node_next : (k t : ℕ) → f.start ≤ t → node_at f k (suc t) ≡ ticked f.kind t (node_at f k t) (hears f t (world_at f t) k)
  node_next k t g = ap (λ (w : Moment S R). w.state k) (next f t g)

  -- ---- what all nodes send, cycle by cycle
  abbrev pub sent_in : ℕ → ℕ → List Send
  sent_in t k = send_of t k (f.kind.sends t (node_at f k t))

  pub sends_from : (a n : ℕ) → f.start ≤ a → (world_at f (a + n)).sends ≡ (world_at f a).sends ++ each_below n (λ i. each_below f.topo.nodes (sent_in (a + i)))
  sends_from a zero g = let e : a + 0 ≡ a = omega arith in ap (λ (t : ℕ). (world_at f t).sends) e ∙ sym (append-nil (world_at f a).sends)
  sends_from a (suc n) g =
      let e : a + suc n ≡ suc (a + n) = omega arith in
      let made = each_below f.topo.nodes (sent_in (a + n)) in
      ap (λ (t : ℕ). (world_at f t).sends) e ∙ ap (λ (w : Moment S R). w.sends) (next f (a + n) (omega arith)) ∙ ap (λ (l : List Send). l ++ made) (sends_from a n g)
      ∙ append_assoc (world_at f a).sends (each_below n (λ i. each_below f.topo.nodes (sent_in (a + i)))) made

  -- the sends of these cycles
  pub sent_all : (P : Send → Type 0) (a n : ℕ) → ((x : Send) → a ≤ x.cycle → x.cycle < a + n → x.node < f.topo.nodes → P x) → All P (each_below n (λ i. each_below f.topo.nodes (sent_in (a + i))))
  sent_all P a n h =
      All_each P n (λ i. each_below f.topo.nodes (sent_in (a + i)))
      (λ i l. All_each P f.topo.nodes (sent_in (a + i))
      (λ k m. of_one P (a + i) k (f.kind.sends (a + i) (node_at f k (a + i))) (λ b. h (record { node = k; cycle = a + i; byte = b }) (omega arith) (omega arith) m)))

  -- ---- one node, where what it hears in n cycles from cycle c on is known
  module _ (k c : ℕ) (h : ℕ → Heard) (from : f.start ≤ c) where
    abbrev Hears : ℕ → Type 0
    Hears n = (i : ℕ) → i < n → hears f (c + i) (world_at f (c + i)) k ≡ h (c + i)

    pub along : (n : ℕ) → ((i : ℕ) → i < n → hears f (c + i) (world_at f (c + i)) k ≡ h (c + i)) → node_at f k (c + n) ≡ alone f.kind h c n (node_at f k c)
    unfolding alone
    along zero e = ap (node_at f k) (add-zero c)
    along (suc n) e =
        let q : c + suc n ≡ suc (c + n) = omega arith in
        let so_far = along n (λ i l. e i (omega arith)) in
        let now = e n (omega arith) in
        ap (node_at f k) q ∙ node_next k (c + n) (omega arith) ∙ (λ i. ticked f.kind (c + n) (so_far i) (now i))

    pub rows_along : (n : ℕ) → ((i : ℕ) → i < n → hears f (c + i) (world_at f (c + i)) k ≡ h (c + i)) → each_below n (λ i. rows_in f k (c + i)) ≡ alone_rows f.kind h c n (node_at f k c)
    rows_along n e =
        each_same n (λ i. rows_in f k (c + i)) (λ i. ticked_rows f.kind (c + i) (alone f.kind h c i (node_at f k c)) (h (c + i)))
        (λ i l.
        let so_far = along i (λ j m. e j (omega arith)) in
        let now = e i l in
        (λ x. ticked_rows f.kind (c + i) (so_far x) (now x)))

    pub sends_along : (n : ℕ) → ((i : ℕ) → i < n → hears f (c + i) (world_at f (c + i)) k ≡ h (c + i)) → each_below n (λ i. sent_in (c + i) k) ≡ alone_sends f.kind h k c n (node_at f k c)
    sends_along n e =
        each_same n (λ i. sent_in (c + i) k) (λ i. send_of (c + i) k (f.kind.sends (c + i) (alone f.kind h c i (node_at f k c))))
        (λ i l. ap (λ (s : S). send_of (c + i) k (f.kind.sends (c + i) s)) (along i (λ j m. e j (omega arith))))
