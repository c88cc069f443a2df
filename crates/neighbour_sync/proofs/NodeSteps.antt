-- The six kinds of step of a node's seat keep the rule.
use Rattle.std.proofs.Common.{◌≡◌, ℕ, suc, ◌<◌, ◌≤◌, ◌≢◌, ⊎_elim, true, false, List, length, get_or, set, refl, sym, subst, ◌∙◌, ap, arith, length-set}
use Rattle.std.proofs.lemmas.List.{set-get_or}
use mathlib.Core.Option.{some, none}
use lib.ListN.{get_elem?}
use native.Mathlib.Decide.{ℕ_discrete}
use Rattle.atomic_table.specs.Table.{step, Allows}
use Rattle.atomic_table.proofs.Lists.{at_set, set_else}
use Rattle.world_core.specs.declared.world.WorldFacts.{WorldFacts}
use Rattle.world_core.specs.Sends.{sends_below}
use Rattle.world_core.specs.Posted.{sent_of}
use Rattle.neighbour_sync.specs.declared.rule.View.{View}
use Rattle.neighbour_sync.specs.Layout.{clock_at, sent_at, want_at, halt_at, line_of}
use Rattle.neighbour_sync.specs.Rule.{IsNodeView, KeepsRule}
use Rattle.neighbour_sync.specs.Steps.{with_load, with_clock, with_told, with_stop, with_halt, clock_peeked, clock_raised, sent_seen, halt_stored, halt_loaded}
use Rattle.neighbour_sync.proofs.Words.{here, beside, has_place}
use Rattle.neighbour_sync.proofs.Views.{Table, Seat, written, seat_inside, node_allowed}

-- what a step of a node's seat may do: its view v becomes u, and the words become ws
pub record Follows (w : WorldFacts) (s : Table) (sent : List ℕ) (v u : View) (ws : List ℕ) : Type 0 where
  len : length ws ≡ length s.words
  is_node : u.is_air ≡ false
  world : u.world ≡ v.world
  number : u.number ≡ v.number
  told : u.told ≤ get_or s.words (sent_at w.topo.nodes v.number) 0
  clock : get_or ws (clock_at v.number) 0 ≡ u.clock
  within : u.clock ≤ w.topo.limit
  passed : sends_below w.sends v.number u.clock ≤ sent_of sent v.number
  stopped : u.stopped ≡ true → get_or ws (halt_at w.topo.nodes) 0 ≡ 1
  -- the other clocks and the sent words stay, and a halt is for good
  clocks : (k : ℕ) → k ≢ v.number → k < w.topo.nodes → get_or ws (clock_at k) 0 ≡ get_or s.words (clock_at k) 0
  sents : (k : ℕ) → k < w.topo.nodes → get_or ws (sent_at w.topo.nodes k) 0 ≡ get_or s.words (sent_at w.topo.nodes k) 0
  halt : get_or ws (halt_at w.topo.nodes) 0 ≤ 1
  halts : get_or s.words (halt_at w.topo.nodes) 0 ≡ 1 → get_or ws (halt_at w.topo.nodes) 0 ≡ 1

-- another node's view
other_view : (w : WorldFacts) (s : Table) (sent : List ℕ) (v u : View) (ws : List ℕ) (k : ℕ) (x : View) → Follows w s sent v u ws → k ≢ v.number → k < w.topo.nodes → IsNodeView w s.words k x → IsNodeView w ws k x
other_view w s sent v u ws k x f d lt n = record {
  is_node = n.is_node;
  world = n.world;
  number = n.number;
  clock = f.clocks k d lt ∙ n.clock;
  told = subst (λ (m : ℕ). x.told ≤ m) (sym (f.sents k lt)) n.told;
  stopped = λ e. f.halts (n.stopped e);
}

-- the seat's own view
own_view : (w : WorldFacts) (s : Table) (sent : List ℕ) (v u : View) (ws : List ℕ) → Follows w s sent v u ws → v.number < w.topo.nodes → IsNodeView w s.words v.number v → IsNodeView w ws v.number u
own_view w s sent v u ws f lt n = record {
  is_node = f.is_node;
  world = f.world ∙ n.world;
  number = f.number;
  clock = f.clock;
  told = subst (λ (m : ℕ). u.told ≤ m) (sym (f.sents v.number lt)) f.told;
  stopped = f.stopped;
}

-- what is said of each clock word
each_clock : (w : WorldFacts) (s : Table) (sent : List ℕ) (v u : View) (ws : List ℕ) (P : ℕ → ℕ → Type 0) (k : ℕ) → Follows w s sent v u ws → P v.number u.clock → k < w.topo.nodes → P k (get_or s.words (clock_at k) 0) → Dec (k ≡ v.number)
    → P k (get_or ws (clock_at k) 0)
each_clock w s sent v u ws P k f new lt old (yes e) =
    subst (λ (m : ℕ). P m (get_or ws (clock_at m) 0)) (sym e) (subst (P v.number) (sym f.clock) new)
each_clock w s sent v u ws P k f new lt old (no d) = subst (P k) (sym (f.clocks k d lt)) old

pub follows_keep : (w : WorldFacts) (s : Table) (v u : View) (ws : List ℕ) (h : KeepsRule w s) → get_elem? s.views (suc v.number) ≡ some v → Follows w s h.air.sent v u ws
    → KeepsRule w record { words = ws; homes = s.homes; views = set s.views (suc v.number) u }
follows_keep w s v u ws h at f =
    let lt = seat_inside w s v.number v h at in
    let old = h.nodes v.number v at in
    record {
      words = f.len ∙ h.words;
      air = h.air;
      first = set_else s.views (suc v.number) 0 u (λ q. absurd (omega arith)) ∙ h.first;
      is_air = h.is_air;
      seats = length-set s.views (suc v.number) u ∙ h.seats;
      nodes = λ k x g. ⊎_elim
          (λ p. let m : v.number ≡ k = omega arith in
          subst (λ (y : View). IsNodeView w ws k y) p.1 (subst (λ (j : ℕ). IsNodeView w ws j u) m (own_view w s h.air.sent v u ws f lt old)))
          (λ p. other_view w s h.air.sent v u ws k x f (λ q. p.0 (ap suc q)) (seat_inside w s k x h p.1) (h.nodes k x p.1)) (at_set s.views (suc v.number) (suc k) u x g);
      unmade = λ k m kt. f.clocks k (λ q. let a = h.seats in let b = has_place s.views (suc v.number) v at in absurd (omega arith)) kt ∙ h.unmade k m kt;
      counts = λ k kt. f.sents k kt ∙ h.counts k kt;
      enough = h.enough;
      within = λ k kt. each_clock w s h.air.sent v u ws (λ _ c. c ≤ w.topo.limit) k f f.within kt (h.within k kt) (ℕ_discrete k v.number);
      passed = λ k kt. each_clock w s h.air.sent v u ws (λ j c. sends_below w.sends j c ≤ sent_of h.air.sent j) k f f.passed kt (h.passed k kt) (ℕ_discrete k v.number);
      halt = f.halt;
    }

-- a load: the words stay
stays : (w : WorldFacts) (s : Table) (v u : View) (h : KeepsRule w s) → get_elem? s.views (suc v.number) ≡ some v → u.is_air ≡ false → u.world ≡ v.world → u.number ≡ v.number → u.clock ≡ v.clock → u.stopped ≡ v.stopped
    → u.told ≤ get_or s.words (sent_at w.topo.nodes v.number) 0 → Follows w s h.air.sent v u s.words
stays w s v u h at node world number clock stopped told =
    let lt = seat_inside w s v.number v h at in
    let old = h.nodes v.number v at in
    let c : get_or s.words (clock_at v.number) 0 ≡ u.clock = old.clock ∙ sym clock in
    record {
      len = refl;
      is_node = node;
      world = world;
      number = number;
      told = told;
      clock = c;
      within = subst (λ (m : ℕ). m ≤ w.topo.limit) c (h.within v.number lt);
      passed = subst (λ (m : ℕ). sends_below w.sends v.number m ≤ sent_of h.air.sent v.number) c (h.passed v.number lt);
      stopped = λ e. old.stopped (sym stopped ∙ e);
      clocks = λ k d kt. refl;
      sents = λ k kt. refl;
      halt = h.halt;
      halts = λ e. e;
    }

loads : (w : WorldFacts) (s : Table) (i : ℕ) (v u : View) (h : KeepsRule w s) → get_elem? s.views (suc v.number) ≡ some v → Follows w s h.air.sent v u s.words
    → KeepsRule w (written s i (get_or s.words i 0) (suc v.number) u)
loads w s i v u h at f =
    subst (λ (ws : List ℕ). KeepsRule w record { words = ws; homes = s.homes; views = set s.views (suc v.number) u }) (sym (set-get_or s.words i 0)) (follows_keep w s v u s.words h at f)

pub peeks : (w : WorldFacts) (slots id k : ℕ) (me : Seat) → me.0.is_air ≡ false → Allows (KeepsRule w) slots id me (clock_at k) (λ n. n) (clock_peeked (step slots (clock_at k) 0 0 none) me)
peeks w slots id k me t =
    node_allowed w slots id (clock_at k) (λ n. n) me (clock_peeked (step slots (clock_at k) 0 0 none) me) t
    (λ s h at. let u = with_load me.0 (line_of (clock_at k)) (get_or s.words (clock_at k) 0) in
    (u, loads w s (clock_at k) me.0 u h at (stays w s me.0 u h at t refl refl refl refl (h.nodes me.0.number me.0 at).told), refl))

pub sees : (w : WorldFacts) (slots id : ℕ) (me : Seat) → me.0.is_air ≡ false
    → Allows (KeepsRule w) slots id me (sent_at w.topo.nodes me.0.number) (λ n. n) (sent_seen (step slots (sent_at w.topo.nodes me.0.number) 0 0 none) me)
sees w slots id me t =
    let i = sent_at w.topo.nodes me.0.number in
    node_allowed w slots id i (λ n. n) me (sent_seen (step slots i 0 0 none) me) t
    (λ s h at. let u = with_told me.0 (get_or s.words i 0) in
    (u, loads w s i me.0 u h at (stays w s me.0 u h at t refl refl refl refl (omega arith)), (refl, (h.nodes me.0.number me.0 at).told)))

pub asks : (w : WorldFacts) (slots id : ℕ) (me : Seat) → me.0.is_air ≡ false
    → Allows (KeepsRule w) slots id me (halt_at w.topo.nodes) (λ n. n) (halt_loaded (step slots (halt_at w.topo.nodes) 0 0 none) me)
asks w slots id me t =
    let i = halt_at w.topo.nodes in
    node_allowed w slots id i (λ n. n) me (halt_loaded (step slots i 0 0 none) me) t
    (λ s h at. let u = with_halt me.0 (get_or s.words i 0) in
    (u, loads w s i me.0 u h at (stays w s me.0 u h at t refl refl refl refl (h.nodes me.0.number me.0 at).told), (refl, h.halt)))

pub raised : (w : WorldFacts) (s : Table) (v : View) (c : ℕ) (h : KeepsRule w s) → get_elem? s.views (suc v.number) ≡ some v → v.is_air ≡ false
    → c ≤ w.topo.limit → sends_below w.sends v.number c ≤ v.told → Follows w s h.air.sent v (with_clock v c) (set s.words (clock_at v.number) c)
raised w s v c h at t le below =
    let i = clock_at v.number in
    let n = w.topo.nodes in
    let lt = seat_inside w s v.number v h at in
    let old = h.nodes v.number v at in
    let room : i < length s.words = let a = h.words in omega arith in
    let halt = beside s.words i (halt_at n) c (λ q. absurd (omega arith)) in
    record {
      len = length-set s.words i c;
      is_node = t;
      world = refl;
      number = refl;
      told = old.told;
      clock = here s.words i c room;
      within = le;
      passed = let a = old.told in let b = h.counts v.number lt in omega arith;
      stopped = λ e. halt ∙ old.stopped e;
      clocks = λ k d kt. beside s.words i (clock_at k) c (λ q. absurd (d (omega arith)));
      sents = λ k kt. beside s.words i (sent_at n k) c (λ q. absurd (omega arith));
      halt = let a = h.halt in omega arith;
      halts = λ e. halt ∙ e;
    }

pub raises : (w : WorldFacts) (slots id c : ℕ) (me : Seat) → me.0.is_air ≡ false → me.0.clock ≤ c → c ≤ me.0.world.topo.limit → sends_below me.0.world.sends me.0.number c ≤ me.0.told
    → Allows (KeepsRule w) slots id me (clock_at me.0.number) (λ _. c) (λ _. clock_raised (step slots (clock_at me.0.number) c 0 none) me c)
raises w slots id c me t rises le below =
    let i = clock_at me.0.number in
    node_allowed w slots id i (λ _. c) me (λ _. clock_raised (step slots i c 0 none) me c) t
    (λ s h at.
    let same = (h.nodes me.0.number me.0 at).world in
    let le' : c ≤ w.topo.limit = subst (λ (x : WorldFacts). c ≤ x.topo.limit) same le in
    let below' : sends_below w.sends me.0.number c ≤ me.0.told = subst (λ (x : WorldFacts). sends_below x.sends me.0.number c ≤ me.0.told) same below in
    (with_clock me.0 c, follows_keep w s me.0 (with_clock me.0 c) (set s.words i c) h at (raised w s me.0 c h at t le' below'), (refl, rises)))

stopped : (w : WorldFacts) (s : Table) (v : View) (h : KeepsRule w s) → get_elem? s.views (suc v.number) ≡ some v → v.is_air ≡ false
    → Follows w s h.air.sent v (with_stop v) (set s.words (halt_at w.topo.nodes) 1)
stopped w s v h at t =
    let n = w.topo.nodes in
    let i = halt_at n in
    let lt = seat_inside w s v.number v h at in
    let old = h.nodes v.number v at in
    let one = here s.words i 1 (let a = h.words in omega arith) in
    record {
      len = length-set s.words i 1;
      is_node = t;
      world = refl;
      number = refl;
      told = old.told;
      clock = beside s.words i (clock_at v.number) 1 (λ q. absurd (omega arith)) ∙ old.clock;
      within = subst (λ (m : ℕ). m ≤ w.topo.limit) old.clock (h.within v.number lt);
      passed = subst (λ (m : ℕ). sends_below w.sends v.number m ≤ sent_of h.air.sent v.number) old.clock (h.passed v.number lt);
      stopped = λ e. one;
      clocks = λ k d kt. beside s.words i (clock_at k) 1 (λ q. absurd (omega arith));
      sents = λ k kt. beside s.words i (sent_at n k) 1 (λ q. absurd (omega arith));
      halt = omega arith;
      halts = λ e. one;
    }

pub stops : (w : WorldFacts) (slots id : ℕ) (me : Seat) → me.0.is_air ≡ false
    → Allows (KeepsRule w) slots id me (halt_at w.topo.nodes) (λ _. 1) (λ _. halt_stored (step slots (halt_at w.topo.nodes) 1 0 none) me 1)
stops w slots id me t =
    let i = halt_at w.topo.nodes in
    node_allowed w slots id i (λ _. 1) me (λ _. halt_stored (step slots i 1 0 none) me 1) t
    (λ s h at. (with_stop me.0, follows_keep w s me.0 (with_stop me.0) (set s.words i 1) h at (stopped w s me.0 h at t), refl))

-- the rule names no want word: whatever one becomes, nothing else does
unnamed : (w : WorldFacts) (s : Table) (v : View) (k c : ℕ) (h : KeepsRule w s) → get_elem? s.views (suc v.number) ≡ some v → v.is_air ≡ false → k < w.topo.nodes
    → Follows w s h.air.sent v v (set s.words (want_at w.topo.nodes k) c)
unnamed w s v k c h at t kt =
    let n = w.topo.nodes in
    let i = want_at n k in
    let lt = seat_inside w s v.number v h at in
    let old = h.nodes v.number v at in
    let halt = beside s.words i (halt_at n) c (λ q. absurd (omega arith)) in
    record {
      len = length-set s.words i c;
      is_node = t;
      world = refl;
      number = refl;
      told = old.told;
      clock = beside s.words i (clock_at v.number) c (λ q. absurd (omega arith)) ∙ old.clock;
      within = subst (λ (m : ℕ). m ≤ w.topo.limit) old.clock (h.within v.number lt);
      passed = subst (λ (m : ℕ). sends_below w.sends v.number m ≤ sent_of h.air.sent v.number) old.clock (h.passed v.number lt);
      stopped = λ e. halt ∙ old.stopped e;
      clocks = λ j d jt. beside s.words i (clock_at j) c (λ q. absurd (omega arith));
      sents = λ j jt. beside s.words i (sent_at n j) c (λ q. absurd (omega arith));
      halt = let a = h.halt in omega arith;
      halts = λ e. halt ∙ e;
    }

pub wants : (w : WorldFacts) (slots id k : ℕ) (f : ℕ → ℕ) (me : Seat) → me.0.is_air ≡ false → k < w.topo.nodes → Allows (KeepsRule w) slots id me (want_at w.topo.nodes k) f (λ _ new. new ≡ me)
wants w slots id k f me t kt =
    let i = want_at w.topo.nodes k in
    node_allowed w slots id i f me (λ _ new. new ≡ me) t
    (λ s h at. let c = f (get_or s.words i 0) in
    (me.0, follows_keep w s me.0 me.0 (set s.words i c) h at (unnamed w s me.0 k c h at t kt), refl))
