-- What a step on a word owes to the table.
use Rattle.std.specs.Prelude.{◌≡◌, ℕ, ◌<◌, min}
use mathlib.Core.Option.{none}
use Rattle.atomic_table.specs.Table.{Me, step, Allows}
use Rattle.atomic_table.specs.Seated.{TableId}
use Rattle.world_core.specs.declared.world.WorldFacts.{WorldFacts}
use Rattle.neighbour_sync.specs.declared.rule.View.{View}
use Rattle.neighbour_sync.specs.Rule.{KeepsRule}
use Rattle.neighbour_sync.specs.Steps.{Telling}

-- the seat of the table `mine` may load the word i of the table z, by a step of this kind
pub record MayLoad (w : WorldFacts) (z mine : TableId) (id : ℕ) (me : Me (Unit {0}) View) (i : ℕ) (then : Telling) : Type 0 where
  pub same : mine ≡ z
  pub inside : i < z.words
  pub allowed : Allows (KeepsRule w) z.slots id me i (λ n. n) (then (step z.slots i 0 0 none) me)

-- it may store c there
pub record MayStore (w : WorldFacts) (z mine : TableId) (id : ℕ) (me : Me (Unit {0}) View) (i c : ℕ) (then : Telling) : Type 0 where
  pub same : mine ≡ z
  pub inside : i < z.words
  pub allowed : Allows (KeepsRule w) z.slots id me i (λ _. c) (λ _. then (step z.slots i c 0 none) me c)

-- it may lower the word there to c, where it is higher
pub record MayLower (w : WorldFacts) (z mine : TableId) (id : ℕ) (me : Me (Unit {0}) View) (i c : ℕ) (then : Telling) : Type 0 where
  pub same : mine ≡ z
  pub inside : i < z.words
  pub allowed : Allows (KeepsRule w) z.slots id me i (λ n. min n c) (then (step z.slots i c 0 none) me)
