-- A run that begins again in a moment of the world goes on as the world does.
use Rattle.std.proofs.Common.{◌≡◌, ℕ, zero, suc, ◌+◌, ◌++◌, [], refl, sym, subst, ◌∙◌, arith, append-nil, append_assoc}
use Rattle.air_base.specs.Each.{each_below}
use Rattle.world_core.specs.Heard.{heard}
use Rattle.air_base.specs.NodeKind.{ticked, ticked_rows}
use Rattle.world_core.specs.Order.{Fleet, Moment, stepped, send_of, ask_of, world_after, resumed}
use Rattle.world_core.specs.Resumed.{GoesOn}

module _ {S R : Type 0} (f : Fleet S R) where
  -- one cycle more
  step : (c t u : ℕ) (before w v : Moment S R) → t ≡ u → GoesOn before w v → GoesOn before (stepped (resumed f c before) t w) (stepped f u v)
  step c t u before w v time go = record {
    state = (λ i. λ k. ticked f.kind (time i) (go.state i k) (heard f.topo (go.sends i) k (time i)));
    sends = (λ i. go.sends i ++ each_below f.topo.nodes (λ k. send_of (time i) k (f.kind.sends (time i) (go.state i k))));
    asks = (λ i. go.asks i ++ each_below f.topo.nodes (λ k. ask_of (sym time i) k (f.kind.asks (sym time i) (sym go.state i k))))
        ∙ append_assoc before.asks w.asks (each_below f.topo.nodes (λ k. ask_of t k (f.kind.asks t (w.state k))));
    rows = (λ i. go.rows i ++ each_below f.topo.nodes (λ k. ticked_rows f.kind (sym time i) (sym go.state i k) (heard f.topo (sym go.sends i) k (sym time i))))
        ∙ append_assoc before.rows w.rows (each_below f.topo.nodes (λ k. ticked_rows f.kind t (w.state k) (heard f.topo w.sends k t)));
  }

  pub resumes : (m n : ℕ) → GoesOn (world_after f m) (world_after (resumed f (f.start + m) (world_after f m)) n) (world_after f (m + n))
  unfolding world_after
  resumes m zero =
      let e : m ≡ m + 0 = omega arith in
      let w = world_after f m in
      subst (λ (t : ℕ). GoesOn w (record { state = w.state; sends = w.sends; asks = []; rows = [] }) (world_after f t)) e
      (record { state = refl; sends = refl; asks = sym (append-nil w.asks); rows = sym (append-nil w.rows) })
  resumes m (suc n) =
      let e : suc (m + n) ≡ m + suc n = omega arith in
      let q : f.start + m + n ≡ f.start + (m + n) = omega arith in
      let w = world_after f m in
      let r = resumed f (f.start + m) w in
      subst (λ (t : ℕ). GoesOn w (stepped r (f.start + m + n) (world_after r n)) (world_after f t)) e
      (step (f.start + m) (f.start + m + n) (f.start + (m + n)) w (world_after r n) (world_after f (m + n)) q (resumes m n))
