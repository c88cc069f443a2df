-- What the record's answers tell of it, and a look of a node at its sent word.
use Rattle.std.proofs.Common.{◌≡◌, ◌≤◌, ℕ, List, ◌++◌, ◌∙◌, ap, subst, sym, append_assoc, refl, arith}
use Rattle.world_core.specs.declared.world.WorldFacts.{WorldFacts}
use Rattle.air_base.specs.declared.air.Sampled.{Sampled}
use Rattle.air_base.specs.declared.air.Sampled.TheVariants.{Heard, NotYet, NoMemory}
use Rattle.world_core.specs.Settled.{truth}
use Rattle.neighbour_sync.specs.Seats.{NodeFacts, node_told}
use Rattle.neighbour_sync.specs.Loads.{AreReached}
use Rattle.neighbour_sync.specs.Record.{AirRecord, IsSample, with_loads, cut_at}
use Rattle.neighbour_sync.specs.Told.{IsTold}

pub told : (w : WorldFacts) (r : AirRecord) (j s : ℕ) (a : Sampled) (new : AirRecord) → r.world ≡ w → IsSample r j s a new → IsTold w j s a
told w r j s (Heard h) new e t = t.1.right ∙ ap (λ (v : WorldFacts). truth v j s) e
told w r j s (NotYet k c) new e t = tt
told w r j s NoMemory new e t = tt

-- a is the record before the first try to cut it, b before this one
pub loads_more : (a b c : AirRecord) (m n : List (ℕ × ℕ)) → b ≡ with_loads a m → c ≡ with_loads b n → c ≡ with_loads a (m ++ n)
loads_more a b c m n e f = f ∙ ap (λ (x : AirRecord). with_loads x n) e ∙ ap (λ (l : List (ℕ × ℕ)). record a { loads = l }) (append_assoc a.loads m n)

pub cut_last : (a b c : AirRecord) (f : ℕ) (m : List (ℕ × ℕ)) → b ≡ with_loads a m → (last : List (ℕ × ℕ)) × AreReached b.world.topo.nodes f last × (c ≡ cut_at (with_loads b last) f)
    → (waits : List (ℕ × ℕ)) × (last : List (ℕ × ℕ)) × AreReached a.world.topo.nodes f last × (c ≡ cut_at (with_loads a (waits ++ last)) f)
cut_last a b c f m e (last, reached, is) = (
  m,
  last,
  subst (λ (r : AirRecord). AreReached r.world.topo.nodes f last) e reached,
  is ∙ ap (λ (r : AirRecord). cut_at r f) (loads_more a b (with_loads b last) m last e refl),
)

-- a is the seat before the first look at its sent word, b before this one
pub told_again : (a b c : NodeFacts) (n : ℕ) → b ≡ node_told a b.told → c ≡ node_told b n → c ≡ node_told a c.told
told_again a b c n e f = f ∙ ap (λ (x : NodeFacts). node_told x n) e ∙ ap (node_told a) (sym (ap (λ (x : NodeFacts). x.told) f))

pub told_rises : (a b c : NodeFacts) (n : ℕ) → a.told ≤ b.told → b.told ≤ n → c ≡ node_told b n → a.told ≤ c.told
told_rises a b c n h k f = let e : c.told ≡ n = ap (λ (x : NodeFacts). x.told) f in omega arith
