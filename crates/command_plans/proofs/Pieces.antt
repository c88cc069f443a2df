-- A text in three pieces on its way to a stream: where a write fails, a front of the whole was taken.
use Rattle.std.proofs.Common.{◌≡◌, ℕ, List, [], ◌++◌, Option, None, Some, Result, Ok, Err, OnOk, OnErr, refl, sym, ap, ◌∙◌, subst, append_assoc}
use Rattle.std.proofs.lemmas.List.{append-nil}
use Rattle.sim_io.specs.Outside.{Rose, extended, TookFront}
use Rattle.sim_io.proofs.Pages.{stands_front}
use Rattle.sim_io.proofs.Taken.{extended-extended}
use Rattle.command_plans.specs.Ends.{FailedIn, stream}
use Rattle.command_plans.specs.Parts.{LineSaid}

extended-nil : (o : Option (List ℕ)) → o ≡ extended o []
extended-nil None = refl
extended-nil (Some old) = ap Some (sym (append-nil old))

-- a front of a piece, behind what was taken, is a front of the whole
front_behind : (o p q : Option (List ℕ)) (whole done piece rest : List ℕ) → p ≡ extended o done → whole ≡ done ++ (piece ++ rest) → TookFront p piece q → TookFront o whole q
front_behind o p q whole done piece rest e parts t = stands_front o p q whole rest piece (record { front = done; parts = parts; taken = e }) t

rose_from : (n k m : ℕ) → k ≡ n → Rose k m → Rose n m
rose_from n k m e h = subst (λ (x : ℕ). Rose x m) e h

pub fails_first : (o q : Option (List ℕ)) (n m : ℕ) (whole b c a : List ℕ) → whole ≡ b ++ c ++ a → TookFront o b q → Rose n m → FailedIn (stream o n) whole (stream q m)
fails_first o q n m whole b c a e t r = record {
  front = front_behind o o q whole [] b (c ++ a) (extended-nil o) (e ∙ append_assoc b c a) t;
  rose = r;
}

pub fails_second : (o p q : Option (List ℕ)) (n k m : ℕ) (whole b c a : List ℕ) → whole ≡ b ++ c ++ a → p ≡ extended o b → k ≡ n → TookFront p c q → Rose k m → FailedIn (stream o n) whole (stream q m)
fails_second o p q n k m whole b c a e f i t r = record {
  front = front_behind o p q whole b c a f (e ∙ append_assoc b c a) t;
  rose = rose_from n k m i r;
}

fails_third : (o p s q : Option (List ℕ)) (n k j m : ℕ) (whole b c a : List ℕ) → whole ≡ b ++ c ++ a → p ≡ extended o b → k ≡ n → s ≡ extended p c → j ≡ k → TookFront s a q → Rose j m
    → FailedIn (stream o n) whole (stream q m)
fails_third o p s q n k j m whole b c a e f i g l t r = record {
  front = front_behind o s q whole (b ++ c) a [] (g ∙ (ap (λ x. extended x c) f ∙ extended-extended o b c)) (e ∙ ap (λ x. b ++ c ++ x) (sym (append-nil a))) t;
  rose = rose_from n j m (l ∙ i) r;
}

all_three : (o p s q : Option (List ℕ)) (whole b c a : List ℕ) → whole ≡ b ++ c ++ a → p ≡ extended o b → s ≡ extended p c → q ≡ extended s a → q ≡ extended o whole
all_three o p s q whole b c a e f g h =
    h ∙ ap (λ x. extended x a) (g ∙ ap (λ x. extended x c) f ∙ extended-extended o b c) ∙ extended-extended o (b ++ c) a ∙ ap (extended o) (sym e)

-- the last piece was taken, and so the whole; or it failed
pub said_third : {A E : Type 0} (o p s q : Option (List ℕ)) (n k j m : ℕ) (whole b c a : List ℕ) → whole ≡ b ++ c ++ a → p ≡ extended o b → k ≡ n → s ≡ extended p c → j ≡ k
    → (r : Result A E) → OnOk r (q ≡ extended s a) → OnOk r (m ≡ j) → OnErr r (TookFront s a q) → OnErr r (Rose j m) → LineSaid whole (stream o n) (stream q m) r
said_third o p s q n k j m whole b c a e f i g l (Ok x) taken ok front rose =
    let all = all_three o p s q whole b c a e f g taken in
    let none = ok ∙ l ∙ i in
    λ t. stream (all t) (none t)
said_third o p s q n k j m whole b c a e f i g l (Err x) taken ok front rose = fails_third o p s q n k j m whole b c a e f i g l front rose
