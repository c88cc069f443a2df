-- What is seen of a run, written piece by piece.
use Rattle.std.proofs.Common.{◌≡◌, ℕ, ◌+◌, ◌-◌, ◌≤◌, List, [], ◌++◌, length, flat_map, Option, sym, ap, ◌∙◌, arith}
use Rattle.std.specs.Prelude.{slice_index_or}
use Rattle.std.proofs.lemmas.Grind.{flat_map-append}
use Rattle.air_base.specs.Each.{each_below}
use Rattle.changes_text.specs.Line.{change_line, changes_text}
use Rattle.fleet_flight.proofs.Seen.{joined}
use Rattle.fleet_flight.specs.Watched.{Group, no_group, seen_in, watched}
use Rattle.node_core.specs.State.{NodeState}
use Rattle.node_core.specs.declared.row.Row.{Row}
use Rattle.sim_io.specs.Outside.{TookFront}
use Rattle.sim_io.proofs.Pages.{Stands}
use Rattle.world_core.specs.Order.{Fleet}

module _ (f : Fleet NodeState Row) (gs : List Group) where
  -- the next piece, and what is seen behind it
  pub piece_more : (a b c : ℕ) → a ≤ b → b ≤ c → changes_text (watched f gs a c) ≡ changes_text (watched f gs a b) ++ changes_text (watched f gs b c)
  unfolding changes_text
  piece_more a b c from to = ap (flat_map change_line) (sym (joined f gs a b c from to)) ∙ flat_map-append change_line (watched f gs a b) (watched f gs b c)

  -- and in no cycle nothing
  pub piece_none : (a b : ℕ) → a ≡ b → changes_text (watched f gs a b) ≡ []
  unfolding changes_text
  piece_none a b e =
      let none : b - a ≡ 0 = omega arith in
      ap (λ (n : ℕ). flat_map change_line (each_below n (λ i. each_below (length gs) (λ g. seen_in f (slice_index_or gs g no_group) (a + i))))) none

-- what was taken so far is a front
pub front_stands : (o p : Option (List ℕ)) (whole rest : List ℕ) → Stands o whole rest p [] → TookFront o whole p
front_stands o p whole rest s = record { front = s.front; rest = rest; parts = s.parts; taken = s.taken }
