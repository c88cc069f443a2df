use Rattle.std.proofs.Common.{◌≡◌, List, ℕ, ap, refl, sym, ◌∙◌, ◌++◌, codes}
use Rattle.command_plans.specs.Ends.{Refused, cause_text, line_due, moves_cause_text, places_cause_text, scenario_cause_text, source_cause_text, state_cause_text}
use Rattle.command_plans.specs.Parts.{end_at, refusal_of}
use Rattle.command_plans.specs.declared.trouble.Complaint.{Complaint}
use Rattle.command_plans.specs.declared.trouble.Trouble.{Trouble}
use Rattle.command_plans.specs.declared.trouble.Trouble.TheVariants as trouble
use Rattle.command_plans.proofs.reports.line_at.Goals as goal

-- the line of a refusal: its name, what is refused, and why
line_is : (t : Trouble) (k refused : Complaint) (name what cause why after : List ℕ) → t ≡ trouble.Refused k → k ≡ refused
    → line_due (Refused (refusal_of refused)) ≡ codes "avrora: " ++ name ++ (what ++ why ++ codes "\n")
    → after ≡ what ++ cause ++ codes "\n" → cause ≡ why → codes "avrora: " ++ name ++ after ≡ line_due (end_at t)
line_is t k refused name what cause why after is field due e f =
    ap (λ s. codes "avrora: " ++ name ++ s) (e ∙ ap (λ s. what ++ s ++ codes "\n") f)
    ∙ sym (ap (λ x. line_due (end_at x)) is ∙ ap (λ x. line_due (Refused (refusal_of x))) field ∙ due)

pub returns-in-Refused-BadScenario : goal.returns-in-Refused-BadScenario
unfolding line_due
returns-in-Refused-BadScenario c =
    let at = c.in-Refused-BadScenario in
    line_is c.args.trouble at.field-0 _ at.name.now (codes ": scenario refused: ") _ (scenario_cause_text at.cause) _ at.is (rw at.is at at.field-0-is)
    (refl {a = codes "avrora: " ++ at.name.now ++ (codes ": scenario refused: " ++ scenario_cause_text at.cause ++ codes "\n")}) c.put_refusal.ensures c.scenario_cause.ensures.text

pub returns-in-Refused-BadImage : goal.returns-in-Refused-BadImage
unfolding line_due
returns-in-Refused-BadImage c =
    let at = c.in-Refused-BadImage in
    line_is c.args.trouble at.field-0 _ at.name.now (codes ": image refused: ") _ (cause_text at.cause) _ at.is (rw at.is at at.field-0-is)
    (refl {a = codes "avrora: " ++ at.name.now ++ (codes ": image refused: " ++ cause_text at.cause ++ codes "\n")}) c.put_refusal-in-Refused-BadImage.ensures c.image_cause.ensures.text

pub returns-in-Refused-BadSource : goal.returns-in-Refused-BadSource
unfolding line_due
returns-in-Refused-BadSource c =
    let at = c.in-Refused-BadSource in
    line_is c.args.trouble at.field-0 _ at.name.now (codes ": source refused: ") _ (source_cause_text at.cause) _ at.is (rw at.is at at.field-0-is)
    (refl {a = codes "avrora: " ++ at.name.now ++ (codes ": source refused: " ++ source_cause_text at.cause ++ codes "\n")}) c.put_refusal-in-Refused-BadSource.ensures c.source_cause.ensures.text

pub returns-in-Refused-BadState : goal.returns-in-Refused-BadState
unfolding line_due
returns-in-Refused-BadState c =
    let at = c.in-Refused-BadState in
    line_is c.args.trouble at.field-0 _ at.name.now (codes ": state refused: ") _ (state_cause_text at.cause) _ at.is (rw at.is at at.field-0-is)
    (refl {a = codes "avrora: " ++ at.name.now ++ (codes ": state refused: " ++ state_cause_text at.cause ++ codes "\n")}) c.put_refusal-in-Refused-BadState.ensures c.state_cause.ensures.text

pub returns-in-Refused-BadMoves : goal.returns-in-Refused-BadMoves
unfolding line_due
returns-in-Refused-BadMoves c =
    let at = c.in-Refused-BadMoves in
    line_is c.args.trouble at.field-0 _ at.name.now (codes ": moves refused: ") _ (moves_cause_text at.cause) _ at.is (rw at.is at at.field-0-is)
    (refl {a = codes "avrora: " ++ at.name.now ++ (codes ": moves refused: " ++ moves_cause_text at.cause ++ codes "\n")}) c.put_refusal-in-Refused-BadMoves.ensures c.moves_cause.ensures.text

pub returns-in-Refused-BadPlaces : goal.returns-in-Refused-BadPlaces
unfolding line_due
returns-in-Refused-BadPlaces c =
    let at = c.in-Refused-BadPlaces in
    line_is c.args.trouble at.field-0 _ at.name.now (codes ": places refused: ") _ (places_cause_text at.cause) _ at.is (rw at.is at at.field-0-is)
    (refl {a = codes "avrora: " ++ at.name.now ++ (codes ": places refused: " ++ places_cause_text at.cause ++ codes "\n")}) c.put_refusal-in-Refused-BadPlaces.ensures c.places_cause.ensures.text
