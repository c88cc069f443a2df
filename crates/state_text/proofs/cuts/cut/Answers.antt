use Rattle.std.proofs.Common.{◌+◌, ◌∷◌, List, ℕ, eqb, take, sym, ap, ◌∙◌}
use Rattle.std.specs.List.{slice_split}
use Rattle.std.proofs.lemmas.List.{take_rest}
use Rattle.state_text.proofs.Pieces.{split_none, split_some}
use Rattle.state_text.proofs.cuts.cut.Goals as goal

pub returns-in-None-clause-none : goal.returns-in-None-clause-none
returns-in-None-clause-none c = split_none (λ b. eqb b c.args.byte) c.args.text.now (sym c.in-None.ensures.value)

pub returns-in-Some-clause-some : goal.returns-in-Some-clause-some
returns-in-Some-clause-some c =
    split_some (λ b. eqb b c.args.byte) c.args.text.now c.in-Some.i (sym c.in-Some.ensures.value)
    ∙ ap (λ (rest : List ℕ). take c.in-Some.i c.args.text.now ∷ slice_split (λ b. eqb b c.args.byte) rest) (sym (take_rest c.args.text.now (c.in-Some.i + 1)))
