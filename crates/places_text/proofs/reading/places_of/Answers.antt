use Rattle.std.proofs.Common.{sym, subst, ◌∙◌, arith}
use Rattle.std.proofs.lemmas.List.Elements.{All-push}
use Rattle.std.proofs.lemmas.Result.{err_from_is_err_and}
use Rattle.state_text.specs.Parts.{pieces_of}
use Rattle.places_text.specs.Known.{IsKnown}
use Rattle.places_text.specs.Places.{places_from}
use Rattle.places_text.specs.Reading.{Fails}
use Rattle.places_text.specs.declared.fault.LineFault.TheVariants.{BadLine}
use Rattle.places_text.specs.declared.fault.PlacesFault.TheVariants.{AtLine}
use Rattle.places_text.proofs.Lines.{ended, fails_on, line_fails, no_more, one_line, unended}
use Rattle.places_text.proofs.reading.places_of.Goals as goal

pub returns-in_default-clause-exact : goal.returns-in_default-clause-exact
returns-in_default-clause-exact c =
    let unended = unended c.args.nodes c.loop-rest.line c.loop-rest.least c.loop-rest.rest.now (sym c.is_empty.ensures ∙ c.loop-rest-test.true) c.in_default.ensures.none in
    subst (λ e. Fails e (places_from c.args.nodes 1 0 (pieces_of c.args.text.now))) (sym c.at.ensures) (fails_on (AtLine c.loop-rest.line BadLine) c.loop-rest.places.items _ _ unended c.loop-rest.invariant.read)

pub returns-in_err-place-clause-exact : goal.returns-in_err-place-clause-exact
returns-in_err-place-clause-exact c =
    let p = err_from_is_err_and c.from_residual.result c.from_residual.ensures.1 in
    rw (p.1, p.2)
    (fails_on _ c.loop-rest.places.items _ _ (line_fails _ c.args.nodes c.loop-rest.line c.loop-rest.least c.loop-rest.rest.now c.in-Some.words.now c.in-Some.behind.now c.in-Some.ensures.some c.in_err-place.ensures.exact) c.loop-rest.invariant.read)

pub loop-rest-preserved : goal.loop-rest-preserved
loop-rest-preserved c =
    let few = c.loop-rest.invariant.few in
    let shorter = c.in-Some.ensures.shorter in
    record {
      read =
          rw c.in_ok-push.ensures.items
          (one_line c.args.nodes c.loop-rest.line c.loop-rest.least c.in_ok-place.next c.loop-rest.rest.now c.in-Some.words.now c.in-Some.behind.now c.loop-rest.places.items c.in_ok-place.place _ c.in-Some.ensures.some c.in_ok-place.ensures.exact c.in_ok-place.ensures.next c.loop-rest.invariant.read);
      few = omega (arith, few, shorter);
      known = rw c.in_ok-push.ensures.items (All-push (IsKnown c.args.nodes) c.loop-rest.places.items c.in_ok-place.place c.loop-rest.invariant.known c.in_ok-place.ensures.known);
    }

pub returns-clause-exact : goal.returns-clause-exact
returns-clause-exact c = no_more c.loop-rest.places.items _ _ (ended c.args.nodes c.loop-rest.line c.loop-rest.least c.loop-rest.rest.now (sym c.is_empty.ensures ∙ c.loop-rest-test.false)) c.loop-rest.invariant.read
