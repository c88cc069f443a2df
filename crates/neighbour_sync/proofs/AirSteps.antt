-- The three kinds of step of the air's seat keep the rule.
use Rattle.std.proofs.Common.{◌≡◌, ℕ, zero, suc, ◌+◌, ◌-◌, ◌<◌, ◌≤◌, ◌⊎◌, inl, inr, ⊎_elim, true, List, [], ◌∷◌, ◌++◌, length, get_or, set, refl, sym, subst, ◌∙◌, ap, arith, length-set, length-append}
use Rattle.std.proofs.lemmas.Bool.{false≢true}
use Rattle.std.proofs.lemmas.List.{set-get_or, get_or-set_same, get_or-set_other}
use mathlib.Core.Option.{some, none, some-injective, some-ne-none}
use lib.ListN.{get_elem?}
use native.Mathlib.Decide.{ℕ_discrete}
use Rattle.atomic_table.specs.Table.{step, Allows, Splits}
use Rattle.atomic_table.proofs.Lists.{set_here, set_else, at_longer}
use Rattle.world_core.specs.declared.world.WorldFacts.{WorldFacts}
use Rattle.world_core.specs.Sends.{sends_of, sends_below}
use Rattle.world_core.specs.Posted.{sent_of}
use Rattle.world_core.proofs.Steps.{sent_le}
use Rattle.neighbour_sync.specs.declared.rule.View.{View}
use Rattle.neighbour_sync.specs.Layout.{clock_at, sent_at, halt_at, line_of}
use Rattle.neighbour_sync.specs.Rule.{IsNodeView, KeepsRule}
use Rattle.neighbour_sync.specs.Steps.{with_load, with_sent, with_seat, next_seat, clock_loaded, sent_stored}
use Rattle.neighbour_sync.proofs.Words.{line, here, beside}
use Rattle.neighbour_sync.proofs.Views.{Table, Seat, written, seat_inside, is_first, air_allowed}

-- the seats of the nodes do not see what the air's seat stores in the word i, which is no less than before
views_stay : (w : WorldFacts) (s : Table) (v : View) (ws : List ℕ) (h : KeepsRule w s)
    → ((k : ℕ) → k < w.topo.nodes → get_or ws (clock_at k) 0 ≡ get_or s.words (clock_at k) 0)
    → ((k : ℕ) → k < w.topo.nodes → get_or s.words (sent_at w.topo.nodes k) 0 ≤ get_or ws (sent_at w.topo.nodes k) 0)
    → get_or ws (halt_at w.topo.nodes) 0 ≡ get_or s.words (halt_at w.topo.nodes) 0
    → (k : ℕ) (x : View) → get_elem? (set s.views 0 v) (suc k) ≡ some x → IsNodeView w ws k x
views_stay w s v ws h clocks sents halt k x g =
    let at = sym (set_else s.views 0 (suc k) v (λ q. absurd (omega arith))) ∙ g in
    let lt = seat_inside w s k x h at in
    let n = h.nodes k x at in
    record {
      is_node = n.is_node;
      world = n.world;
      number = n.number;
      clock = clocks k lt ∙ n.clock;
      told = let a = n.told in let b = sents k lt in omega arith;
      stopped = λ e. halt ∙ n.stopped e;
    }

-- the seat has loaded one clock more
pub look_kept : (w : WorldFacts) (s : Table) (k c : ℕ) (h : KeepsRule w s) → KeepsRule w record { words = s.words; homes = s.homes; views = set s.views 0 (with_load h.air k c) }
look_kept w s k c h =
    let v = with_load h.air k c in
    record {
      words = h.words;
      air = v;
      first = set_here s.views 0 v (let q = h.seats in omega arith);
      is_air = record { is_air = h.is_air.is_air; world = h.is_air.world; made = h.is_air.made; sent = h.is_air.sent };
      seats = length-set s.views 0 v ∙ h.seats;
      nodes = views_stay w s v s.words h (λ j jt. refl) (λ j jt. omega arith) refl;
      unmade = h.unmade;
      counts = h.counts;
      enough = h.enough;
      within = h.within;
      passed = h.passed;
      halt = h.halt;
    }

pub loads : (w : WorldFacts) (slots id k : ℕ) (me : Seat) → me.0.is_air ≡ true → k < w.topo.nodes
    → Allows (KeepsRule w) slots id me (clock_at k) (λ n. n) (clock_loaded (step slots (clock_at k) 0 0 none) me)
loads w slots id k me t kt =
    let i = clock_at k in
    air_allowed w slots id i (λ n. n) me (clock_loaded (step slots i 0 0 none) me) t
    (λ s h same.
    let c = get_or s.words i 0 in
    let v = with_load me.0 (line_of i) c in
    let world : me.0.world ≡ w = ap (λ (u : View). u.world) (sym same) ∙ h.is_air.world in
    let sent : me.0.sent ≡ h.air.sent = ap (λ (u : View). u.sent) (sym same) in
    let kept : KeepsRule w record { words = s.words; homes = s.homes; views = set s.views 0 v } =
    subst (λ (u : View). KeepsRule w record { words = s.words; homes = s.homes; views = set s.views 0 (with_load u (line_of i) c) }) same (look_kept w s (line_of i) c h) in
    let B : ℕ → WorldFacts → List ℕ → Type 0 = λ j x l. sends_below x.sends j c ≤ sent_of l j in
    let b : B (line_of i) me.0.world me.0.sent = subst (λ (j : ℕ). B j me.0.world me.0.sent) (sym (line k)) (subst (λ (x : WorldFacts). B k x me.0.sent) (sym world) (subst (B k w) (sym sent) (h.passed k kt))) in
    (v, subst (λ (ws : List ℕ). KeepsRule w record { words = ws; homes = s.homes; views = set s.views 0 v }) (sym (set-get_or s.words i 0)) kept, (refl, b)))

-- one number more for one node: what is said of each number
each_count : (sent : List ℕ) (k : ℕ) (P : ℕ → ℕ → Type 0) (j : ℕ) → k < length sent → P k (sent_of sent k + 1) → P j (sent_of sent j) → Dec (j ≡ k) → P j (sent_of (set sent k (sent_of sent k + 1)) j)
each_count sent k P j lt new old (yes e) = let n = sent_of sent k + 1 in subst (λ (m : ℕ). P m (sent_of (set sent k n) m)) (sym e) (subst (P k) (sym (get_or-set_same sent k n 0 lt)) new)
each_count sent k P j lt new old (no d) = subst (P j) (sym (get_or-set_other sent k j (sent_of sent k + 1) 0 d)) old

-- each sent word is what the list of numbers says
pub each_sent : (words sent : List ℕ) (n k j : ℕ) → sent_at n k < length words → k < length sent → get_or words (sent_at n j) 0 ≡ sent_of sent j → Dec (j ≡ k)
    → get_or (set words (sent_at n k) (sent_of sent k + 1)) (sent_at n j) 0 ≡ sent_of (set sent k (sent_of sent k + 1)) j
each_sent words sent n k j room lt old (yes e) =
    let c = sent_of sent k + 1 in
    subst (λ (m : ℕ). get_or (set words (sent_at n k) c) (sent_at n m) 0 ≡ sent_of (set sent k c) m) (sym e) (here words (sent_at n k) c room ∙ sym (get_or-set_same sent k c 0 lt))
each_sent words sent n k j room lt old (no d) =
    let c = sent_of sent k + 1 in
    beside words (sent_at n k) (sent_at n j) c (λ q. d (omega arith)) ∙ old ∙ sym (get_or-set_other sent k j c 0 d)

-- one more send of node k is posted
pub counted : (w : WorldFacts) (s : Table) (k : ℕ) (h : KeepsRule w s) → k < w.topo.nodes → sent_of h.air.sent k < length (sends_of k w.sends)
    → KeepsRule w (written s (sent_at w.topo.nodes k) (sent_of h.air.sent k + 1) 0 (with_sent h.air k))
counted w s k h kt further =
    let n = w.topo.nodes in
    let i = sent_at n k in
    let c = sent_of h.air.sent k + 1 in
    let v = with_sent h.air k in
    let room : i < length s.words = let a = h.words in omega arith in
    let inside : k < length h.air.sent = let a = h.is_air.sent in omega arith in
    let clocks = λ (j : ℕ) (jt : j < n). beside s.words i (clock_at j) c (λ q. absurd (omega arith)) in
    let halt = beside s.words i (halt_at n) c (λ q. absurd (omega arith)) in
    let ws = set s.words i c in
    let counts = λ (j : ℕ) (jt : j < n). each_sent s.words h.air.sent n k j room inside (h.counts j jt) (ℕ_discrete j k) in
    record {
      words = length-set s.words i c ∙ h.words;
      air = v;
      first = set_here s.views 0 v (let q = h.seats in omega arith);
      is_air = record { is_air = h.is_air.is_air; world = h.is_air.world; made = h.is_air.made; sent = length-set h.air.sent k c ∙ h.is_air.sent };
      seats = length-set s.views 0 v ∙ h.seats;
      nodes = views_stay w s v ws h clocks (λ j jt. let a = h.counts j jt in let b = counts j jt in let d = sent_le h.air.sent k c j inside (omega arith) in omega arith) halt;
      unmade = λ j m jt. clocks j jt ∙ h.unmade j m jt;
      counts = counts;
      enough = λ j jt. each_count h.air.sent k (λ m x. x ≤ length (sends_of m w.sends)) j inside (omega arith) (h.enough j jt) (ℕ_discrete j k);
      within = λ j jt. subst (λ (x : ℕ). x ≤ w.topo.limit) (sym (clocks j jt)) (h.within j jt);
      passed = λ j jt. subst (λ (x : ℕ). sends_below w.sends j x ≤ sent_of v.sent j) (sym (clocks j jt))
          (each_count h.air.sent k (λ m x. sends_below w.sends m (get_or s.words (clock_at m) 0) ≤ x) j inside (let a = h.passed k kt in omega arith) (h.passed j jt) (ℕ_discrete j k));
      halt = let a = h.halt in omega arith;
    }

pub counts : (w : WorldFacts) (slots id k : ℕ) (me : Seat) → me.0.is_air ≡ true → k < w.topo.nodes → sent_of me.0.sent k < length (sends_of k me.0.world.sends)
    → Allows (KeepsRule w) slots id me (sent_at w.topo.nodes k) (λ _. sent_of me.0.sent k + 1) (λ _. sent_stored (step slots (sent_at w.topo.nodes k) (sent_of me.0.sent k + 1) 0 none) me (sent_of me.0.sent k + 1))
counts w slots id k me t kt further =
    let n = w.topo.nodes in
    let i = sent_at n k in
    let c = sent_of me.0.sent k + 1 in
    air_allowed w slots id i (λ _. c) me (λ _. sent_stored (step slots i c 0 none) me c) t
    (λ s h same.
    let world : me.0.world ≡ w = ap (λ (u : View). u.world) (sym same) ∙ h.is_air.world in
    let further' : sent_of me.0.sent k < length (sends_of k w.sends) = subst (λ (x : WorldFacts). sent_of me.0.sent k < length (sends_of k x.sends)) world further in
    let kept = counted w s k h kt (subst (λ (u : View). sent_of u.sent k < length (sends_of k w.sends)) (sym same) further') in
    let place : line_of i - me.0.world.topo.nodes ≡ k = let a = ap (λ (x : WorldFacts). x.topo.nodes) world in let b = line (n + k) in omega arith in
    (with_sent me.0 k, subst (λ (u : View). KeepsRule w (written s i (sent_of u.sent k + 1) 0 (with_sent u k))) same kept, ap (λ (m : ℕ). (with_sent me.0 m, me.1)) (sym place)))

-- ---- the seat of the next node
at_end : {A : Type 0} (l : List A) (a b : A) (j : ℕ) → get_elem? (l ++ a ∷ []) j ≡ some b → (get_elem? l j ≡ some b) ⊎ ((j ≡ length l) × (a ≡ b))
at_end [] a b zero e = inr (refl, some-injective a b e)
at_end [] a b (suc j) e = absurd (some-ne-none b (sym e))
at_end (x ∷ xs) a b zero e = inl e
at_end (x ∷ xs) a b (suc j) e = ⊎_elim inl (λ p. inr (ap suc p.0, p.1)) (at_end xs a b j e)

-- the new seat's view
next_view : (w : WorldFacts) (s : Table) (h : KeepsRule w s) → h.air.made < w.topo.nodes → IsNodeView w s.words h.air.made (next_seat h.air)
next_view w s h room = record {
  is_node = refl;
  world = h.is_air.world;
  number = refl;
  clock = h.unmade h.air.made (omega arith) room;
  told = omega arith;
  stopped = λ e. absurd (false≢true e);
}

split : (w : WorldFacts) (s : Table) (h : KeepsRule w s) → h.air.made < w.topo.nodes
    → KeepsRule w record { words = s.words; homes = s.homes; views = set s.views 0 (with_seat h.air) ++ next_seat h.air ∷ [] }
split w s h room =
    let v = with_seat h.air in
    let old = set s.views 0 v in
    let len : length old ≡ suc h.air.made = length-set s.views 0 v ∙ h.seats in
    record {
      words = h.words;
      air = v;
      first = at_longer old (next_seat h.air ∷ []) 0 v (set_here s.views 0 v (let q = h.seats in omega arith));
      is_air = record { is_air = h.is_air.is_air; world = h.is_air.world; made = omega arith; sent = h.is_air.sent };
      seats = length-append old (next_seat h.air ∷ []) ∙ ap (λ (n : ℕ). n + 1) len ∙ omega arith;
      nodes = λ j x g. ⊎_elim
          (λ p. views_stay w s v s.words h (λ i it. refl) (λ i it. omega arith) refl j x p)
          (λ p. let m : h.air.made ≡ j = omega arith in subst (λ (y : View). IsNodeView w s.words j y) p.1 (subst (λ (i : ℕ). IsNodeView w s.words i (next_seat h.air)) m (next_view w s h room)))
          (at_end old (next_seat h.air) x (suc j) g);
      unmade = λ j m jt. h.unmade j (omega arith) jt;
      counts = h.counts;
      enough = h.enough;
      within = h.within;
      passed = h.passed;
      halt = h.halt;
    }

pub splits : (w : WorldFacts) (id : ℕ) (v : View) → v.is_air ≡ true → v.made < w.topo.nodes → Splits (KeepsRule w) id v (with_seat v) (next_seat v)
splits w id v t room s h at =
    let p = is_first w s id v h at t in
    let kept = split w s h (let a = ap (λ (u : View). u.made) p.1 in omega arith) in
    subst (λ (i : ℕ). KeepsRule w record { words = s.words; homes = s.homes; views = set s.views i (with_seat v) ++ next_seat v ∷ [] }) (sym p.0)
    (subst (λ (u : View). KeepsRule w record { words = s.words; homes = s.homes; views = set s.views 0 (with_seat u) ++ next_seat u ∷ [] }) p.1 kept)
