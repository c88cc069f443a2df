-- The sends that a cut keeps.
use Rattle.std.proofs.Common.{◌≡◌, ℕ, suc, ◌<◌, ◌≤◌, ◌+◌, ◌-◌, ◌&&◌, Bool, true, false, cond, List, [], ◌∷◌, length, refl, sym, subst, ◌∙◌, ap, arith}
use Rattle.std.specs.Prelude.{nat_lt, nat_le}
use Rattle.std.specs.List.{All, filter}
use Rattle.std.proofs.lemmas.Bool.Decides.{nat_tests}
use Rattle.std.proofs.lemmas.List.Elements.{All-filter, filter_agree}
use Rattle.std.proofs.lemmas.List.Kept.{AllPairs-filter}
use Rattle.air_base.specs.declared.air.Send.{Send}
use Rattle.world_core.specs.Topology.{Topology, reach}
use Rattle.world_core.specs.Kept.{is_kept}
use Rattle.world_core.specs.declared.ways.JumpPointer.{JumpPointer}
use Rattle.world_core.specs.Chain.{Rises, IsChain, AreNewest, IsLog}

all_kept : (p : Send → Bool) (l : List Send) → ((x : Send) → p x ≡ true) → filter p l ≡ l
all_kept p [] h = refl
all_kept p (x ∷ xs) h = ap (λ (b : Bool). cond b (x ∷ filter p xs) (filter p xs)) (h x) ∙ ap (λ (m : List Send). x ∷ m) (all_kept p xs h)

early : (floor r d c : ℕ) → floor < r + d → nat_lt floor (c + r + d) ≡ true
early floor r d c h = grind (arith, nat_tests)

pub none_gone : (t : Topology) (floor : ℕ) (l : List Send) → floor < reach t + t.byte_time → filter (is_kept t floor) l ≡ l
none_gone t floor l h = all_kept (is_kept t floor) l (λ x. early floor (reach t) t.byte_time x.cycle h)

moved_case : (floor r d c : ℕ) (b : Bool) → nat_lt (floor - (r + d)) c ≡ b → r + d ≤ floor → b ≡ nat_lt floor (c + r + d)
moved_case floor r d c true t h = grind (arith, nat_tests)
moved_case floor r d c false t h = grind (arith, nat_tests)

pub above_kept : (t : Topology) (floor : ℕ) (l : List Send) → reach t + t.byte_time ≤ floor → filter (λ (x : Send). nat_lt (floor - (reach t + t.byte_time)) x.cycle) l ≡ filter (is_kept t floor) l
above_kept t floor l h = filter_agree (λ (x : Send). nat_lt (floor - (reach t + t.byte_time)) x.cycle) (is_kept t floor) (λ x. moved_case floor (reach t) t.byte_time x.cycle (nat_lt (floor - (reach t + t.byte_time)) x.cycle) refl h) l

shorter_case : (b : Bool) (x : Send) (m xs : List Send) → length m ≤ length xs → length (cond b (x ∷ m) m) ≤ suc (length xs)
shorter_case true x m xs h = omega arith
shorter_case false x m xs h = omega arith

pub shorter : (p : Send → Bool) (l : List Send) → length (filter p l) ≤ length l
shorter p [] = omega arith
shorter p (x ∷ xs) = shorter_case (p x) x (filter p xs) xs (shorter p xs)

pub log_cut : (p : Send → Bool) (l m : List Send) (b : List JumpPointer) (last : List ℕ) (ways : List JumpPointer) (ends : List ℕ) → IsLog l b last → m ≡ filter p l → IsChain m ways → AreNewest m ends → IsLog m ways ends
log_cut p l m b last ways ends g e chain places = record {
  chain = chain;
  places = places;
  rises = subst Rises (sym e) (AllPairs-filter (λ (x y : Send). x.node ≡ y.node → x.cycle < y.cycle) p l g.rises);
  nodes = subst (All (λ (x : Send). x.node < 64)) (sym e) (All-filter p (λ (x : Send). x.node < 64) l g.nodes);
}
