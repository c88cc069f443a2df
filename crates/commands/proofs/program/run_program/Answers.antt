use Rattle.std.proofs.Common.{inl, inr, refl, map}
use Rattle.commands.proofs.program.run_program.Goals as goal

pub returns-in-Some : goal.returns-in-Some
returns-in-Some g c = inl record {
  words = map (λ w. w.now) c.in-Some.words.now;
  status = c.avrora.result;
  top = c.avrora.ensures;
  number_is = c.number.ensures;
}

pub returns-in-None : goal.returns-in-None
returns-in-None g c = inr record { number_is = refl; held = refl; read = refl; untouched = (refl, refl) }
