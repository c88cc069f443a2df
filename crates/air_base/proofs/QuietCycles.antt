-- A run through quiet cycles goes on: by no cycle, by one, by many at once; and what runs at its end ran all the time.
use Rattle.std.proofs.lemmas.Bool.{false≢true}
use Rattle.std.proofs.Common.{◌≡◌, ℕ, zero, suc, ◌+◌, ◌-◌, ◌<◌, ◌≤◌, Bool, true, false, List, [], ◌++◌, refl, sym, subst, ◌∙◌, ap, arith, append-nil, append_assoc}
use native.Mathlib.Decide.{ℕ_discrete}
use Rattle.air_base.specs.NodeKind.{NodeKind, IsSteady}
use Rattle.air_base.specs.NodeRun.{passed, passed_rows, IsQuiet, AllQuiet, Timed, Comes, AllRunning}

module _ {S R : Type 0} (m : NodeKind S R) where
  passed_zero : (t : ℕ) (s : S) → passed m t 0 s ≡ s
  unfolding passed
  passed_zero t s = refl

  passed_next : (t n : ℕ) (s : S) → passed m t (suc n) s ≡ m.begun (t + n) (passed m t n s)
  unfolding passed
  passed_next t n s = refl

  pub comes_none : (v : Timed S R) → Comes m v v.cycle v.state v.rows
  comes_none v =
      let e : v.cycle - v.cycle ≡ 0 = omega arith in
      record {
        later = omega arith;
        quiet = λ i l. absurd (omega arith);
        state = sym (passed_zero v.cycle v.state) ∙ ap (λ (n : ℕ). passed m v.cycle n v.state) (sym e);
        rows = sym (append-nil v.rows) ∙ ap (λ (n : ℕ). v.rows ++ passed_rows m v.cycle n v.state) (sym e);
      }

  quiet_case : (t n i : ℕ) (s : S) → Dec (i ≡ n) → i < suc n → AllQuiet m t n s → IsQuiet m (t + n) (passed m t n s) → IsQuiet m (t + i) (passed m t i s)
  quiet_case t n i s (yes e) h q last = subst (λ (j : ℕ). IsQuiet m (t + j) (passed m t j s)) (sym e) last
  quiet_case t n i s (no d) h q last = q i (omega arith)

  pub comes_more : (v : Timed S R) (c : ℕ) (s : S) (l : List R) → Comes m v c s l → IsQuiet m c s → Comes m v (c + 1) (m.begun c s) (l ++ m.begun_rows c s)
  comes_more v c s l h q =
      let n : ℕ = c - v.cycle in
      let le = h.later in
      let e : c + 1 - v.cycle ≡ suc n = omega arith in
      let at : v.cycle + n ≡ c = omega arith in
      let st : s ≡ passed m v.cycle n v.state = h.state in
      let last : IsQuiet m (v.cycle + n) (passed m v.cycle n v.state) = subst (λ (u : ℕ). IsQuiet m u (passed m v.cycle n v.state)) (sym at) (subst (IsQuiet m c) st q) in
      record {
        later = omega arith;
        quiet = λ i j. quiet_case v.cycle n i v.state (ℕ_discrete i n) (omega arith) h.quiet last;
        state = (λ i. m.begun (sym at i) (st i)) ∙ sym (passed_next v.cycle n v.state) ∙ ap (λ (u : ℕ). passed m v.cycle u v.state) (sym e);
        rows = (λ i. h.rows i ++ m.begun_rows (sym at i) (st i)) ∙ append_assoc v.rows (passed_rows m v.cycle n v.state) (m.begun_rows (v.cycle + n) (passed m v.cycle n v.state))
            ∙ ap (λ (u : ℕ). v.rows ++ passed_rows m v.cycle u v.state) (sym e);
      }

  -- n quiet cycles at once
  pub comes_step : (v : Timed S R) (c n : ℕ) (s : S) (l : List R) → Comes m v c s l → AllQuiet m c n s → Comes m v (c + n) (passed m c n s) (l ++ passed_rows m c n s)
  comes_step v c zero s l h q =
      let e : c + 0 ≡ c = omega arith in
      subst (λ (t : ℕ). Comes m v t (passed m c 0 s) (l ++ [])) (sym e) (subst (λ (u : S). Comes m v c u (l ++ [])) (sym (passed_zero c s)) (subst (Comes m v c s) (sym (append-nil l)) h))
  comes_step v c (suc n) s l h q =
      let e : c + n + 1 ≡ c + suc n = omega arith in
      let so_far = comes_step v c n s l h (λ i k. q i (omega arith)) in
      let more = comes_more v (c + n) (passed m c n s) (l ++ passed_rows m c n s) so_far (q n (omega arith)) in
      subst (λ (t : ℕ). Comes m v t (passed m c (suc n) s) (l ++ passed_rows m c (suc n) s)) e
      (subst (λ (u : S). Comes m v (c + n + 1) u (l ++ passed_rows m c (suc n) s)) (sym (passed_next c n s))
      (subst (Comes m v (c + n + 1) (m.begun (c + n) (passed m c n s))) (append_assoc l (passed_rows m c n s) (m.begun_rows (c + n) (passed m c n s))) more))

  pub comes_leap : (v : Timed S R) (c n : ℕ) (s u : S) (l : List R) → Comes m v c s l → AllQuiet m c n s → u ≡ passed m c n s → passed_rows m c n s ≡ [] → Comes m v (c + n) u l
  comes_leap v c n s u l h q e r =
      subst (λ (w : S). Comes m v (c + n) w l) (sym e)
      (subst (Comes m v (c + n) (passed m c n s)) (ap (λ (x : List R). l ++ x) r ∙ append-nil l) (comes_step v c n s l h q))

  -- ---- a node that runs after some cycles ran in each of them
  running_case : (t n : ℕ) (s : S) (b : Bool) → m.is_stopped (passed m t n s) ≡ b → IsSteady m → m.is_stopped (passed m t (suc n) s) ≡ false → m.is_stopped (passed m t n s) ≡ false
  running_case t n s false e steady h = e
  running_case t n s true e steady h =
      let same : passed m t (suc n) s ≡ passed m t n s = passed_next t n s ∙ steady.stays (t + n) (passed m t n s) e in
      absurd (false≢true (sym h ∙ ap m.is_stopped same ∙ e))

  running_back : (t n i : ℕ) (s : S) → IsSteady m → Dec (i ≡ n) → i ≤ n → m.is_stopped (passed m t n s) ≡ false → m.is_stopped (passed m t i s) ≡ false
  running_back t n i s steady (yes e) le h = ap (λ (j : ℕ). m.is_stopped (passed m t j s)) e ∙ h
  running_back t zero i s steady (no d) le h = absurd (d (omega arith))
  running_back t (suc n) i s steady (no d) le h =
      running_back t n i s steady (ℕ_discrete i n) (omega arith) (running_case t n s (m.is_stopped (passed m t n s)) refl steady h)

  pub running_none : (v : Timed S R) → AllRunning m v v.cycle
  running_none v i l = absurd (omega arith)

  pub running_next : (v : Timed S R) (c : ℕ) (s : S) (l : List R) → IsSteady m → Comes m v c s l → m.is_stopped s ≡ false → AllRunning m v (c + 1)
  running_next v c s l steady h run i lt =
      let le = h.later in
      running_back v.cycle (c - v.cycle) i v.state steady (ℕ_discrete i (c - v.cycle)) (omega arith) (sym (ap m.is_stopped h.state) ∙ run)

  pub running_now : (v : Timed S R) (c : ℕ) (s : S) (l : List R) → IsSteady m → Comes m v c s l → m.is_stopped s ≡ false → AllRunning m v c
  running_now v c s l steady h run i lt = running_next v c s l steady h run i (omega arith)
