-- A list of steps, one step longer.
use Rattle.std.proofs.Common.{◌≡◌, ℕ, ◌+◌, ◌<◌, List, [], ◌∷◌, ◌++◌, length, get_or, take, refl, sym, subst, ◌∙◌, ap}
use Rattle.std.proofs.lemmas.List.{take_more, get_or_default}
use Rattle.world_core.specs.Consistent.{AirState}
use Rattle.sync_core.specs.declared.steps.Step.{Step}
use Rattle.sync_core.specs.Run.{MayStep, after_step, after_steps, AllAllowed, IsFirstIllegal}

steps_push : (a : AirState) (xs : List Step) (x : Step) → after_steps a (xs ++ x ∷ []) ≡ after_step (after_steps a xs) x
steps_push a [] x = refl
steps_push a (y ∷ xs) x = steps_push (after_step a y) xs x

allowed_push : (a : AirState) (xs : List Step) (x : Step) → AllAllowed a xs → MayStep (after_steps a xs) x → AllAllowed a (xs ++ x ∷ [])
allowed_push a [] x all may = (may, tt)
allowed_push a (y ∷ xs) x all may = (all.0, allowed_push (after_step a y) xs x all.1 may)

-- the state c was reached by the first i steps
pub record IsReached (a : AirState) (xs : List Step) (i : ℕ) (c : AirState) : Type 0 where
  pub allowed : AllAllowed a (take i xs)
  pub state : c ≡ after_steps a (take i xs)

pub next_reached : (a : AirState) (xs : List Step) (i : ℕ) (d : Step) (c new : AirState) → i < length xs → IsReached a xs i c → MayStep c (get_or xs i d) → new ≡ after_step c (get_or xs i d) → IsReached a xs (i + 1) new
next_reached a xs i d c new lt r may e =
    let x = get_or xs i d in
    let more : take (i + 1) xs ≡ take i xs ++ x ∷ [] = take_more xs i d lt in
    record {
      allowed = subst (AllAllowed a) (sym more) (allowed_push a (take i xs) x r.allowed (subst (λ (b : AirState). MayStep b x) r.state may));
      state = e ∙ ap (λ (b : AirState). after_step b x) r.state ∙ sym (steps_push a (take i xs) x) ∙ ap (after_steps a) (sym more);
    }

pub is_first : (a : AirState) (xs : List Step) (i : ℕ) (d : Step) (c : AirState) → i < length xs → IsReached a xs i c → ¬ MayStep c (get_or xs i d) → IsFirstIllegal a xs i
is_first a xs i d c lt r not = record {
  place = lt;
  before = r.allowed;
  illegal = λ e may. not (subst (λ (b : AirState). MayStep b (get_or xs i d)) (sym r.state) (subst (MayStep (after_steps a (take i xs))) (get_or_default xs i e d lt) may));
}
