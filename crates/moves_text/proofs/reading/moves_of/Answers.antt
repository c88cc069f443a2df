use Rattle.std.proofs.Common.{◌<◌, sym, subst, ◌∙◌, arith}
use Rattle.std.proofs.lemmas.List.Elements.{All-push}
use Rattle.std.proofs.lemmas.Result.{err_from_is_err_and}
use Rattle.state_text.specs.Parts.{pieces_of}
use Rattle.moves_text.specs.Moves.{MoveOf, moves_from}
use Rattle.moves_text.specs.Reading.{Fails}
use Rattle.moves_text.specs.declared.fault.LineFault.TheVariants.{BadLine}
use Rattle.moves_text.specs.declared.fault.MovesFault.TheVariants.{AtLine}
use Rattle.moves_text.proofs.Lines.{ended, fails_on, line_fails, no_more, one_line, unended}
use Rattle.moves_text.proofs.reading.moves_of.Goals as goal

pub returns-in_default-clause-exact : goal.returns-in_default-clause-exact
returns-in_default-clause-exact c =
    let unended = unended c.args.nodes c.loop-rest.line c.loop-rest.rest.now (sym c.is_empty.ensures ∙ c.loop-rest-test.true) c.in_default.ensures.none in
    subst (λ e. Fails e (moves_from c.args.nodes 1 (pieces_of c.args.text.now))) (sym c.at.ensures) (fails_on (AtLine c.loop-rest.line BadLine) c.loop-rest.moves.items _ _ unended c.loop-rest.invariant.read)

pub returns-in_err-one-clause-exact : goal.returns-in_err-one-clause-exact
returns-in_err-one-clause-exact c =
    let p = err_from_is_err_and c.from_residual.result c.from_residual.ensures.1 in
    rw (p.1, p.2)
    (fails_on _ c.loop-rest.moves.items _ _ (line_fails _ c.args.nodes c.loop-rest.line c.loop-rest.rest.now c.in-Some.words.now c.in-Some.behind.now c.in-Some.ensures.some c.in_err-one.ensures.exact) c.loop-rest.invariant.read)

pub loop-rest-preserved : goal.loop-rest-preserved
loop-rest-preserved c =
    let few = c.loop-rest.invariant.few in
    let shorter = c.in-Some.ensures.shorter in
    record {
      read =
          rw c.in_ok-push.ensures.items
          (one_line c.args.nodes c.loop-rest.line c.loop-rest.rest.now c.in-Some.words.now c.in-Some.behind.now c.loop-rest.moves.items c.in_ok-one.one _ c.in-Some.ensures.some c.in_ok-one.ensures.exact c.loop-rest.invariant.read);
      few = omega (arith, few, shorter);
      known = rw c.in_ok-push.ensures.items (All-push (λ (m : MoveOf). m.node < c.args.nodes) c.loop-rest.moves.items c.in_ok-one.one c.loop-rest.invariant.known c.in_ok-one.ensures.known);
    }

pub returns-clause-exact : goal.returns-clause-exact
returns-clause-exact c = no_more c.loop-rest.moves.items _ _ (ended c.args.nodes c.loop-rest.line c.loop-rest.rest.now (sym c.is_empty.ensures ∙ c.loop-rest-test.false)) c.loop-rest.invariant.read
