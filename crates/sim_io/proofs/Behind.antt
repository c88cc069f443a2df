-- Texts that are appended one behind another.
use Rattle.std.proofs.Common.{◌≡◌, ℕ, List, ◌++◌, ◌∙◌}
use Rattle.std.proofs.lemmas.List.{append_assoc}

pub behind : (old first second : List ℕ) {between new : List ℕ} → between ≡ old ++ first → new ≡ between ++ second → new ≡ old ++ (first ++ second)
behind old first second e f = f ∙ (λ i. e i ++ second) ∙ append_assoc old first second
