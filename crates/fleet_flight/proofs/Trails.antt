-- A node that runs by itself: stretches of cycles joined, quiet ones passed in one leap, and one that stopped.
use Rattle.std.proofs.Common.{◌≡◌, ℕ, zero, suc, ◌+◌, ◌-◌, true, false, Option, None, List, [], ◌∷◌, ◌++◌, refl, sym, ◌∙◌, ap, arith, append-nil, append_assoc, add-zero}
use Rattle.air_base.specs.declared.air.Heard.{Heard}
use Rattle.air_base.specs.declared.air.Send.{Send}
use Rattle.air_base.specs.Each.{each_below}
use Rattle.air_base.specs.NodeKind.{NodeKind, IsSteady, ticked, ticked_rows}
use Rattle.air_base.specs.NodeRun.{Timed, AllQuiet, Asks, Comes, Rests, Sends, answered, passed, passed_rows}
use Rattle.world_core.specs.Order.{send_of}
use Rattle.world_core.proofs.Alone.{cond_true, cond_false}
use Rattle.air_base.proofs.Each.{each_none, each_same}
use Rattle.fleet_flight.specs.Alone.{alone}
use Rattle.fleet_flight.proofs.Alone.{GoesAlone, alone_rows, alone_sends}

pub each_add : {X : Type 0} (n j : ℕ) (g : ℕ → List X) → each_below (n + j) g ≡ each_below n g ++ each_below j (λ i. g (n + i))
each_add n zero g = ap (λ (l : ℕ). each_below l g) (add-zero n) ∙ sym (append-nil (each_below n g))
each_add n (suc j) g =
    let e : n + suc j ≡ suc (n + j) = omega arith in
    ap (λ (l : ℕ). each_below l g) e ∙ ap (λ (l : List _). l ++ g (n + j)) (each_add n j g) ∙ append_assoc (each_below n g) (each_below j (λ i. g (n + i))) (g (n + j))

module _ {S R : Type 0} (m : NodeKind S R) (h : ℕ → Heard) where
  pub alone_add : (t n j : ℕ) (s : S) → alone m h t (n + j) s ≡ alone m h (t + n) j (alone m h t n s)
  unfolding alone
  alone_add t n zero s = let e : n + 0 ≡ n = omega arith in ap (λ (l : ℕ). alone m h t l s) e
  alone_add t n (suc j) s =
      let e : n + suc j ≡ suc (n + j) = omega arith in
      let q : t + (n + j) ≡ t + n + j = omega arith in
      ap (λ (l : ℕ). alone m h t l s) e ∙ (λ i. ticked m (q i) (alone_add t n j s i) (h (q i)))

  -- what each cycle makes, one stretch behind another
  pieces_add : {X : Type 0} (made : ℕ → S → List X) (t n j : ℕ) (s : S)
      → each_below (n + j) (λ i. made (t + i) (alone m h t i s)) ≡ each_below n (λ i. made (t + i) (alone m h t i s)) ++ each_below j (λ i. made (t + n + i) (alone m h (t + n) i (alone m h t n s)))
  pieces_add made t n j s =
      each_add n j (λ i. made (t + i) (alone m h t i s))
      ∙ ap (λ (l : List _). each_below n (λ i. made (t + i) (alone m h t i s)) ++ l)
      (each_same j (λ i. made (t + (n + i)) (alone m h t (n + i) s)) (λ i. made (t + n + i) (alone m h (t + n) i (alone m h t n s)))
      (λ i l. let q : t + (n + i) ≡ t + n + i = omega arith in (λ x. made (q x) (alone_add t n i s x))))

  pub alone_rows_add : (t n j : ℕ) (s : S) → alone_rows m h t (n + j) s ≡ alone_rows m h t n s ++ alone_rows m h (t + n) j (alone m h t n s)
  alone_rows_add t n j s = pieces_add (λ c u. ticked_rows m c u (h c)) t n j s

  pub alone_sends_add : (k t n j : ℕ) (s : S) → alone_sends m h k t (n + j) s ≡ alone_sends m h k t n s ++ alone_sends m h k (t + n) j (alone m h t n s)
  alone_sends_add k t n j s = pieces_add (λ c u. send_of c k (m.sends c u)) t n j s

  -- ---- quiet cycles
  pub passes : (t n : ℕ) (s : S) → AllQuiet m t n s → passed m t n s ≡ alone m h t n s
  unfolding passed alone
  passes t zero s q = refl
  passes t (suc n) s q =
      let so_far = passes t n s (λ i l. q i (omega arith)) in
      let quiet : m.asks (t + n) (alone m h t n s) ≡ false = ap (m.asks (t + n)) (sym so_far) ∙ (q n (omega arith)).0 in
      ap (m.begun (t + n)) so_far ∙ sym (cond_false (m.asks (t + n) (alone m h t n s)) (m.finished (t + n) (m.begun (t + n) (alone m h t n s)) (h (t + n))) (m.begun (t + n) (alone m h t n s)) quiet)

  quiet_rows : (c : ℕ) (s : S) (x : Heard) → m.asks c s ≡ false → ticked_rows m c s x ≡ m.begun_rows c s
  quiet_rows c s x e =
      ap (λ (l : List R). m.begun_rows c s ++ l) (cond_false (m.asks c s) (m.finished_rows c (m.begun c s) x) [] e) ∙ append-nil (m.begun_rows c s)

  pub rows_pass : (t n : ℕ) (s : S) → AllQuiet m t n s → passed_rows m t n s ≡ alone_rows m h t n s
  rows_pass t n s q =
      each_same n (λ i. m.begun_rows (t + i) (passed m t i s)) (λ i. ticked_rows m (t + i) (alone m h t i s) (h (t + i)))
      (λ i l.
      let at = passes t i s (λ j k. q j (omega arith)) in
      let quiet : m.asks (t + i) (alone m h t i s) ≡ false = ap (m.asks (t + i)) (sym at) ∙ (q i l).0 in
      ap (m.begun_rows (t + i)) at ∙ sym (quiet_rows (t + i) (alone m h t i s) (h (t + i)) quiet))

  pub none_sent : (k t n : ℕ) (s : S) → AllQuiet m t n s → alone_sends m h k t n s ≡ []
  none_sent k t n s q =
      each_none n (λ i. send_of (t + i) k (m.sends (t + i) (alone m h t i s)))
      (λ i l.
      let at = passes t i s (λ j o. q j (omega arith)) in
      ap (send_of (t + i) k) (ap (m.sends (t + i)) (sym at) ∙ (q i l).1))

  -- ---- one stretch behind another
  pub goes_on : (k : ℕ) (v w u : Timed S R) (xs ys zs : List Send) → GoesAlone m h k v xs w ys → GoesAlone m h k w ys u zs → GoesAlone m h k v xs u zs
  goes_on k v w u xs ys zs a b =
      let n : ℕ = a.count in
      let j : ℕ = b.count in
      let at : w.cycle ≡ v.cycle + n = a.cycle in
      let here : alone m h w.cycle j w.state ≡ alone m h (v.cycle + n) j (alone m h v.cycle n v.state) = (λ i. alone m h (at i) j (a.state i)) in
      let rows : alone_rows m h w.cycle j w.state ≡ alone_rows m h (v.cycle + n) j (alone m h v.cycle n v.state) = (λ i. alone_rows m h (at i) j (a.state i)) in
      let sends : alone_sends m h k w.cycle j w.state ≡ alone_sends m h k (v.cycle + n) j (alone m h v.cycle n v.state) = (λ i. alone_sends m h k (at i) j (a.state i)) in
      record {
        count = n + j;
        calm = b.calm;
        cycle = (let q = b.cycle in omega arith);
        state = b.state ∙ here ∙ sym (alone_add v.cycle n j v.state);
        rows = b.rows ∙ (λ i. a.rows i ++ rows i)
            ∙ append_assoc v.rows (alone_rows m h v.cycle n v.state) (alone_rows m h (v.cycle + n) j (alone m h v.cycle n v.state))
            ∙ ap (λ (l : List R). v.rows ++ l) (sym (alone_rows_add v.cycle n j v.state));
        sends = b.sends ∙ (λ i. a.sends i ++ sends i)
            ∙ append_assoc xs (alone_sends m h k v.cycle n v.state) (alone_sends m h k (v.cycle + n) j (alone m h v.cycle n v.state))
            ∙ ap (λ (l : List Send). xs ++ l) (sym (alone_sends_add k v.cycle n j v.state));
      }

  -- it came through quiet cycles to the beginning of cycle c
  pub comes_alone : (k c : ℕ) (v w : Timed S R) (xs : List Send) → Rests m v c w → GoesAlone m h k v xs w xs
  comes_alone k c v w xs r =
      let n : ℕ = c - v.cycle in
      record {
        count = n;
        calm = r.asking;
        cycle = (let q = r.cycle in let l = r.comes.later in omega arith);
        state = r.comes.state ∙ passes v.cycle n v.state r.comes.quiet;
        rows = r.comes.rows ∙ ap (λ (l : List R). v.rows ++ l) (rows_pass v.cycle n v.state r.comes.quiet);
        sends = sym (ap (λ (l : List Send). xs ++ l) (none_sent k v.cycle n v.state r.comes.quiet) ∙ append-nil xs);
      }

  -- and one cycle further
  one_cycle : (k c : ℕ) (s : S) (l : List R) (u : Timed S R) (xs ys : List Send) → u.asking ≡ false → u.cycle ≡ c + 1 → u.state ≡ ticked m c s (h c) → u.rows ≡ l ++ ticked_rows m c s (h c) → ys ≡ xs ++ send_of c k (m.sends c s)
      → GoesAlone m h k (record { cycle = c; asking = false; state = s; rows = l }) xs u ys
  unfolding alone
  one_cycle k c s l u xs ys calm at state rows sends =
      let q : c ≡ c + 0 = omega arith in
      record {
        count = 1;
        calm = calm;
        cycle = at;
        state = state ∙ (λ i. ticked m (q i) s (h (q i)));
        rows = rows ∙ ap (λ (n : List R). l ++ n) (λ i. ticked_rows m (q i) s (h (q i)));
        sends = sends ∙ ap (λ (n : List Send). xs ++ n) (λ i. send_of (q i) k (m.sends (q i) s));
      }

  pub stands_at : (c : ℕ) (v : Timed S R) (s : S) (l : List R) → Comes m v c s l → Rests m v c (record { cycle = c; asking = false; state = s; rows = l })
  stands_at c v s l comes = record { cycle = refl; asking = refl; comes = comes }

  pub sends_alone : (k c b : ℕ) (v u : Timed S R) (xs ys : List Send) → Sends m v c b u → ys ≡ xs ++ record { node = k; cycle = c; byte = b } ∷ [] → GoesAlone m h k v xs u ys
  sends_alone k c b v u xs ys r e =
      let here : Timed S R = record { cycle = c; asking = false; state = r.state; rows = r.rows } in
      goes_on k v here u xs xs ys (comes_alone k c v here xs (stands_at c v r.state r.rows r.comes))
      (one_cycle k c r.state r.rows u xs ys
      (ap (λ (z : Timed S R). z.asking) r.after)
      (ap (λ (z : Timed S R). z.cycle) r.after)
      (ap (λ (z : Timed S R). z.state) r.after ∙ sym (cond_false (m.asks c r.state) (m.finished c (m.begun c r.state) (h c)) (m.begun c r.state) r.asks))
      (ap (λ (z : Timed S R). z.rows) r.after ∙ ap (λ (l : List R). r.rows ++ l) (sym (quiet_rows c r.state (h c) r.asks)))
      (e ∙ ap (λ (o : Option ℕ). xs ++ send_of c k o) (sym r.sends)))

  pub asks_alone : (k c : ℕ) (v w u : Timed S R) (xs : List Send) (x : Heard) → ((s : S) → m.asks c s ≡ true → m.sends c s ≡ None) → Asks m v c w → x ≡ h c → u ≡ answered m w x → GoesAlone m h k v xs u xs
  asks_alone k c v w u xs x apart r same after =
      let here : Timed S R = record { cycle = c; asking = false; state = r.state; rows = r.rows } in
      let s : S = r.state in
      let at : w.cycle ≡ c = ap (λ (z : Timed S R). z.cycle) r.after in
      let was : w.state ≡ m.begun c s = ap (λ (z : Timed S R). z.state) r.after in
      let told : w.rows ≡ r.rows ++ m.begun_rows c s = ap (λ (z : Timed S R). z.rows) r.after in
      goes_on k v here u xs xs xs (comes_alone k c v here xs (stands_at c v s r.rows r.comes))
      (one_cycle k c s r.rows u xs xs
      (ap (λ (z : Timed S R). z.asking) after)
      (ap (λ (z : Timed S R). z.cycle) after ∙ ap (λ (n : ℕ). n + 1) at)
      (ap (λ (z : Timed S R). z.state) after ∙ (λ i. m.finished (at i) (was i) (same i)) ∙ sym (cond_true (m.asks c s) (m.finished c (m.begun c s) (h c)) (m.begun c s) r.asks))
      (ap (λ (z : Timed S R). z.rows) after ∙ (λ i. told i ++ m.finished_rows (at i) (was i) (same i))
      ∙ append_assoc r.rows (m.begun_rows c s) (m.finished_rows c (m.begun c s) (h c))
      ∙ ap (λ (l : List R). r.rows ++ (m.begun_rows c s ++ l)) (sym (cond_true (m.asks c s) (m.finished_rows c (m.begun c s) (h c)) [] r.asks)))
      (sym (ap (λ (o : Option ℕ). xs ++ send_of c k o) (apart s r.asks) ∙ append-nil xs)))

  -- ---- a node that stopped
  module _ (steady : IsSteady m) where
    pub stopped_alone : (t n : ℕ) (s : S) → m.is_stopped s ≡ true → alone m h t n s ≡ s
    unfolding alone
    stopped_alone t zero s e = refl
    stopped_alone t (suc n) s e =
        ap (λ (u : S). ticked m (t + n) u (h (t + n))) (stopped_alone t n s e)
        ∙ cond_false (m.asks (t + n) s) (m.finished (t + n) (m.begun (t + n) s) (h (t + n))) (m.begun (t + n) s) (steady.deaf (t + n) s e)
        ∙ steady.stays (t + n) s e

    pub stopped_rows : (t n : ℕ) (s : S) → m.is_stopped s ≡ true → alone_rows m h t n s ≡ []
    stopped_rows t n s e =
        each_none n (λ i. ticked_rows m (t + i) (alone m h t i s) (h (t + i)))
        (λ i l. ap (λ (u : S). ticked_rows m (t + i) u (h (t + i))) (stopped_alone t i s e) ∙ quiet_rows (t + i) s (h (t + i)) (steady.deaf (t + i) s e) ∙ steady.mute (t + i) s e)

    pub stopped_sends : (k t n : ℕ) (s : S) → m.is_stopped s ≡ true → alone_sends m h k t n s ≡ []
    stopped_sends k t n s e =
        each_none n (λ i. send_of (t + i) k (m.sends (t + i) (alone m h t i s)))
        (λ i l. ap (λ (u : S). send_of (t + i) k (m.sends (t + i) u)) (stopped_alone t i s e) ∙ ap (send_of (t + i) k) (steady.silent (t + i) s e))
