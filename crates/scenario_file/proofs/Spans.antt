-- Spans of links, in the order of the links.
use Rattle.std.proofs.Common.{◌≡◌, ℕ, ◌+◌, ◌<◌, List, [], ◌∷◌, ◌++◌, length, map, get_or, take, refl, sym, ap, ◌∙◌, arith, append_assoc}
use Rattle.std.proofs.lemmas.List.{take_more, length-take-le, map-append}
use Rattle.toml.specs.Data.{Data}
use Rattle.world_core.specs.declared.spans.Span.{Span}
use Rattle.scenario_file.specs.Scenario.{spans_at, spans_from}
use Rattle.scenario_file.proofs.Lists.{length_map}

nil : (xs : List Span) → xs ++ [] ≡ xs
nil [] = refl
nil (x ∷ xs) = ap (λ t. x ∷ t) (nil xs)

spans_end : (p q : ℕ) (ds : List Data) (d : Data) → p + length ds ≡ q → spans_from p (ds ++ d ∷ []) ≡ spans_from p ds ++ spans_at q d
unfolding spans_from
spans_end p q [] d e = let same : p ≡ q = omega (arith, e) in nil (spans_at p d) ∙ ap (λ (k : ℕ). spans_at k d) same
spans_end p q (x ∷ ds) d e = ap (λ t. spans_at p x ++ t) (spans_end (p + 1) q ds d (omega (arith, e))) ∙ sym (append_assoc (spans_at p x) (spans_from (p + 1) ds) (spans_at q d))

pub spans_more : {X : Type 0} (g : X → Data) (xs : List X) (i : ℕ) (d : X) → i < length xs → spans_from 0 (map g (take (i + 1) xs)) ≡ spans_from 0 (map g (take i xs)) ++ spans_at i (g (get_or xs i d))
spans_more g xs i d h =
    let size : length (map g (take i xs)) ≡ i = length_map g (take i xs) ∙ length-take-le i xs (omega arith) in
    ap (λ t. spans_from 0 (map g t)) (take_more xs i d h) ∙ ap (λ t. spans_from 0 t) (map-append g (take i xs) (get_or xs i d ∷ [])) ∙ spans_end 0 i (map g (take i xs)) (g (get_or xs i d)) (omega (arith, size))
