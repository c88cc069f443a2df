-- A run that begins again in a moment of another, without the sends that are over, makes the rest of its rows.
use Rattle.std.proofs.Common.{◌≡◌, ℕ, zero, suc, ◌+◌, ◌-◌, ◌<◌, ◌≤◌, false, List, [], ◌∷◌, ◌++◌, refl, sym, subst, ◌∙◌, ap, arith, append_assoc}
use Rattle.std.specs.List.{filter}
use Rattle.std.proofs.lemmas.Bool.Decides.{nat_tests}
use Rattle.std.proofs.lemmas.List.Elements.{filter-append}
use Rattle.air_base.specs.declared.air.Send.{Send}
use Rattle.air_base.specs.Each.{each_below}
use Rattle.world_core.specs.Heard.{heard}
use Rattle.world_core.specs.Kept.{is_kept}
use Rattle.air_base.specs.NodeKind.{ticked, ticked_rows}
use Rattle.world_core.specs.Order.{Fleet, Moment, end_rows, node_at, resumed, run_rows, send_of, world_after, world_at}
use Rattle.world_core.specs.Resumed.{GoesOn}
use Rattle.world_core.specs.Sends.{sends_of}
use Rattle.air_base.proofs.Each.{each_same}
use Rattle.world_core.proofs.Final.{through}
use Rattle.world_core.proofs.Resumed.{resumes}
use Rattle.fleet_flight.proofs.Hearing.{kept_heard}

module _ {S R : Type 0} (f : Fleet S R) (c : ℕ) (from : f.start ≤ c) (lim : c ≤ f.topo.limit) (begins : ℕ → S) (sent : List Send)
    (same : (k : ℕ) → k < f.topo.nodes → begins k ≡ node_at f k c) (kept : sent ≡ filter (is_kept f.topo c) (world_at f c).sends) where
  -- the run that begins again in this moment, with all sends, and the one without those that are over
  abbrev h : Fleet S R
  h = resumed f c (world_at f c)

  abbrev g : Fleet S R
  g = record f { start = c; begins = begins; sent = sent }

  abbrev K : List Send → List Send
  K = filter (is_kept f.topo c)

  record Alike (v w : Moment S R) : Type 0 where
    pub state : (k : ℕ) → k < f.topo.nodes → v.state k ≡ w.state k
    pub sends : K v.sends ≡ K w.sends
    pub rows : v.rows ≡ w.rows

  step : (n : ℕ) (v w : Moment S R) → Alike v w → (k : ℕ) → heard f.topo v.sends k (c + n) ≡ heard f.topo w.sends k (c + n)
  step n v w a k = kept_heard f.topo c (c + n) k v.sends w.sends (omega arith) (λ m. ap (sends_of m) a.sends)

  alike : (n : ℕ) → Alike (world_after g n) (world_after h n)
  unfolding world_after
  alike zero = record {
    state = same;
    sends = ap K kept ∙ through (is_kept f.topo c) (is_kept f.topo c) (λ x e. e) (world_at f c).sends;
    rows = refl;
  }
  alike (suc n) =
      let v = world_after g n in
      let w = world_after h n in
      let a = alike n in
      let t : ℕ = c + n in
      let ears = step n v w a in
      record {
        state = (λ k l. (λ i. ticked f.kind t (a.state k l i) (ears k i)));
        sends = filter-append (is_kept f.topo c) v.sends (each_below f.topo.nodes (λ k. send_of t k (f.kind.sends t (v.state k))))
            ∙ (λ i. a.sends i ++ K (each_same f.topo.nodes (λ k. send_of t k (f.kind.sends t (v.state k))) (λ k. send_of t k (f.kind.sends t (w.state k))) (λ k l. ap (λ (s : S). send_of t k (f.kind.sends t s)) (a.state k l)) i))
            ∙ sym (filter-append (is_kept f.topo c) w.sends (each_below f.topo.nodes (λ k. send_of t k (f.kind.sends t (w.state k)))));
        rows = (λ i. a.rows i
            ++ each_same f.topo.nodes (λ k. ticked_rows f.kind t (v.state k) (heard f.topo v.sends k t)) (λ k. ticked_rows f.kind t (w.state k) (heard f.topo w.sends k t))
            (λ k l. (λ j. ticked_rows f.kind t (a.state k l j) (ears k j))) i);
      }

  goes : (n : ℕ) → GoesOn (world_at f c) (world_after h n) (world_after f (c - f.start + n))
  goes n =
      let e : f.start + (c - f.start) ≡ c = omega arith in
      subst (λ (t : ℕ). GoesOn (world_at f c) (world_after (resumed f t (world_at f c)) n) (world_after f (c - f.start + n))) e (resumes f (c - f.start) n)

  -- ---- up to a later cycle d
  module _ (d : ℕ) (later : c ≤ d) where
    abbrev n : ℕ
    n = d - c

    there : c - f.start + n ≡ d - f.start
    there = omega arith

    -- each node is as it is in the run that never stopped
    pub node_later : (k : ℕ) → k < f.topo.nodes → node_at g k d ≡ node_at f k d
    node_later k l = (alike n).state k l ∙ ap (λ (s : ℕ → S). s k) (goes n).state ∙ ap (λ (t : ℕ). (world_after f t).state k) there

    -- what is over at the cut is over then
    kept_kept : (x : Send) → is_kept f.topo c x ≡ false → is_kept f.topo d x ≡ false
    kept_kept x e = grind (arith, nat_tests)

    -- and the sends that can still be heard are the same
    pub kept_later : filter (is_kept f.topo d) (world_at g d).sends ≡ filter (is_kept f.topo d) (world_at f d).sends
    kept_later =
        let p = is_kept f.topo d in
        let v = (world_after g n).sends in
        let w = (world_after h n).sends in
        sym (through p (is_kept f.topo c) kept_kept v) ∙ ap (filter p) (alike n).sends ∙ through p (is_kept f.topo c) kept_kept w
        ∙ ap (filter p) ((goes n).sends ∙ ap (λ (t : ℕ). (world_after f t).sends) there)

    -- and the rows up to there are those up to the cut, and then those of the run that begins again
    pub rows_later : (world_at f d).rows ≡ (world_at f c).rows ++ (world_at g d).rows
    rows_later = ap (λ (t : ℕ). (world_after f t).rows) (sym there) ∙ (goes n).rows ∙ ap (λ (l : List R). (world_at f c).rows ++ l) (sym (alike n).rows)

  pub continues : run_rows f ≡ (world_at f c).rows ++ run_rows (record f { start = c; begins = begins; sent = sent })
  continues =
      let n : ℕ = f.topo.limit - c in
      let q : c - f.start + n ≡ f.topo.limit - f.start = omega arith in
      let go = goes n in
      let a = alike n in
      let rows : (world_at f f.topo.limit).rows ≡ (world_at f c).rows ++ (world_after g n).rows =
      ap (λ (t : ℕ). (world_after f t).rows) (sym q) ∙ go.rows ∙ ap (λ (l : List R). (world_at f c).rows ++ l) (sym a.rows) in
      let states : (k : ℕ) → k < f.topo.nodes → node_at f k f.topo.limit ≡ (world_after g n).state k =
      λ k l. ap (λ (t : ℕ). (world_after f t).state k) (sym q) ∙ ap (λ (s : ℕ → S). s k) (sym go.state) ∙ sym (a.state k l) in
      let ends : end_rows f ≡ end_rows g =
      each_same f.topo.nodes (λ k. f.kind.end_row f.topo.limit (node_at f k f.topo.limit) ∷ []) (λ k. f.kind.end_row f.topo.limit ((world_after g n).state k) ∷ [])
      (λ k l. ap (λ (s : S). f.kind.end_row f.topo.limit s ∷ []) (states k l)) in
      (λ i. rows i ++ ends i) ∙ append_assoc (world_at f c).rows (world_after g n).rows (end_rows g)
