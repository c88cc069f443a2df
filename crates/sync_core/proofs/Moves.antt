-- What no list of steps and cuts changes.
use Rattle.std.proofs.Common.{◌≡◌, zero, suc, ◌≤◌, Bool, true, false, cond, List, [], ◌∷◌, get_or, refl, sym, subst, ◌∙◌, ap, arith}
use Rattle.std.specs.Prelude.{nat_le}
use Rattle.std.specs.List.{All, Contains, filter}
use Rattle.std.proofs.lemmas.Bool.Decides.{nat_tests}
use Rattle.std.proofs.lemmas.List.Elements.{All-contains_itself, Contains-append_left}
use Rattle.air_base.specs.declared.air.Ask.{Ask}
use Rattle.air_base.specs.declared.air.Heard.{Heard}
use Rattle.world_core.specs.declared.world.WorldFacts.{WorldFacts}
use Rattle.world_core.specs.Heard.{heard}
use Rattle.world_core.specs.Posted.{AllPostedFor}
use Rattle.world_core.specs.Settled.{truth}
use Rattle.world_core.specs.Lawful.{IsLawful}
use Rattle.world_core.specs.Consistent.{AirState, IsConsistent}
use Rattle.world_core.specs.Steps.{opening, after_cut, after_post, after_raise, after_sample}
use Rattle.world_core.proofs.Cuts.{cut_keeps}
use Rattle.world_core.proofs.Records.{record_right}
use Rattle.sync_core.specs.declared.steps.Step.TheVariants.{Raise, Post, Sample}
use Rattle.sync_core.specs.Moves.{Move, Take, Cut, MayMove, MayMoveAll, after_move, after_moves, IsForGood}
use Rattle.sync_core.proofs.Inductive.{opens, post_reaches, step_keeps}

pub move_keeps : (a : AirState) (x : Move) → IsConsistent a → MayMove a x → IsConsistent (after_move a x)
move_keeps a (Take x) i may = step_keeps a x i may
move_keeps a (Cut f) i may = cut_keeps a f i may

pub moves_keep : (a : AirState) (xs : List Move) → IsConsistent a → MayMoveAll a xs → IsConsistent (after_moves a xs)
moves_keep a [] i may = i
moves_keep a (x ∷ xs) i may = moves_keep (after_move a x) xs (move_keeps a x i may.0) may.1

-- ---- a recorded sample stays where no cut goes past it
kept_case : {X : Type 0} (f : X → Bool) (y : X) (ys : List X) (x : X) (b : Bool) → f y ≡ b → Contains (filter f ys) x → Contains (filter f (y ∷ ys)) x
kept_case f y ys x true e (k, lt, is) = subst (λ (t : Bool). Contains (cond t (y ∷ filter f ys) (filter f ys)) x) (sym e) (suc k, omega arith, is)
kept_case f y ys x false e c = subst (λ (t : Bool). Contains (cond t (y ∷ filter f ys) (filter f ys)) x) (sym e) c

kept_first : {X : Type 0} (f : X → Bool) (y : X) (ys : List X) → f y ≡ true → Contains (filter f (y ∷ ys)) y
kept_first f y ys e = subst (λ (t : Bool). Contains (cond t (y ∷ filter f ys) (filter f ys)) y) (sym e) (0, omega arith, refl)

contains_kept : {X : Type 0} (f : X → Bool) (xs : List X) (x : X) → f x ≡ true → Contains xs x → Contains (filter f xs) x
contains_kept f [] x e (k, lt, is) = absurd (omega arith)
contains_kept {X} f (y ∷ ys) x e (zero, lt, is) = subst (λ (z : X). Contains (filter f (y ∷ ys)) z) is (kept_first f y ys (ap f is ∙ e))
contains_kept f (y ∷ ys) x e (suc k, lt, is) = kept_case f y ys x (f y) refl (contains_kept f ys x e (k, omega arith, is))

floor_rises : (a : AirState) (xs : List Move) → MayMoveAll a xs → a.floor ≤ (after_moves a xs).floor
floor_rises a [] may = omega arith
floor_rises a (Take (Raise k c) ∷ xs) may = floor_rises (after_raise a k c) xs may.1
floor_rises a (Take (Post k) ∷ xs) may = floor_rises (after_post a k) xs may.1
floor_rises a (Take (Sample j s) ∷ xs) may = floor_rises (after_sample a j s) xs may.1
floor_rises a (Cut f ∷ xs) may = let r = floor_rises (after_cut a f) xs may.1 in let b = may.0.rises in omega arith

stands : (a : AirState) (x : Ask × Heard) (xs : List Move) → MayMoveAll a xs → (after_moves a xs).floor ≤ x.0.cycle → Contains a.samples x → Contains (after_moves a xs).samples x
stands a x [] may late c = c
stands a x (Take (Raise k v) ∷ xs) may late c = stands (after_raise a k v) x xs may.1 late c
stands a x (Take (Post k) ∷ xs) may late c = stands (after_post a k) x xs may.1 late c
stands a x (Take (Sample j s) ∷ xs) may late c = stands (after_sample a j s) x xs may.1 late (Contains-append_left a.samples ((record { node = j; cycle = s }, heard a.world.topo a.sends j s) ∷ []) x c)
stands a x (Cut f ∷ xs) may late c =
    let r = floor_rises (after_cut a f) xs may.1 in
    let above : nat_le f x.0.cycle ≡ true = grind (arith, nat_tests) in
    stands (after_cut a f) x xs may.1 late (contains_kept (λ y. nat_le f y.0.cycle) a.samples x above c)

-- ---- what it hears stays too
hears : (a : AirState) (x : Ask × Heard) (xs : List Move) → IsConsistent a → x.1 ≡ truth a.world x.0.node x.0.cycle → AllPostedFor a.world a.sent x.0.node x.0.cycle → MayMoveAll a xs → (after_moves a xs).floor ≤ x.0.cycle
    → heard a.world.topo (after_moves a xs).sends x.0.node x.0.cycle ≡ x.1
hears a x [] i right reached may late = record_right a.world a.floor a.sent a.sends a.samples x.0.node x.0.cycle i.lawful i.recorded late reached ∙ sym right
hears a x (Take (Raise k v) ∷ xs) i right reached may late = hears (after_raise a k v) x xs (step_keeps a (Raise k v) i may.0) right reached may.1 late
hears a x (Take (Post k) ∷ xs) i right reached may late = hears (after_post a k) x xs (step_keeps a (Post k) i may.0) right (post_reaches a k x.0.node x.0.cycle i may.0 reached) may.1 late
hears a x (Take (Sample j s) ∷ xs) i right reached may late = hears (after_sample a j s) x xs (step_keeps a (Sample j s) i may.0) right reached may.1 late
hears a x (Cut f ∷ xs) i right reached may late = hears (after_cut a f) x xs (cut_keeps a f i may.0) right reached may.1 late

pub for_good : (a : AirState) → IsConsistent a → All (IsForGood a) a.samples
for_good a i k d lt =
    let x : Ask × Heard = get_or a.samples k d in
    let final = i.recorded.final k d lt in
    record {
      right = final.right;
      stands = λ more may late. (stands a x more may late (All-contains_itself a.samples k d lt), hears a x more i final.right final.settled.reached may late);
    }

pub any_order : (w : WorldFacts) (moves : List Move) → IsLawful w → MayMoveAll (opening w) moves → All (IsForGood (after_moves (opening w) moves)) (after_moves (opening w) moves).samples
any_order w moves law may = for_good (after_moves (opening w) moves) (moves_keep (opening w) moves (opens w law) may)
