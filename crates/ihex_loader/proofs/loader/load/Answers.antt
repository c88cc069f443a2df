use Rattle.std.proofs.Common.{ap, sym, ◌∙◌, arith, ◌≡◌, ◌==◌, inl, inr, ⊎_elim, Some, ◌+◌, rules, tests, length, take}
use Rattle.std.proofs.lemmas.Iterator.Splits.{YieldsList-from_slice_split}
use Rattle.std.proofs.lemmas.Iterator.Consumers.{YieldsList-turn, YieldsList-end}
use Rattle.std.specs.List.{slice_split}
use Rattle.std.proofs.lemmas.List.{length_push, length-map}
use Rattle.std.proofs.lemmas.Result.{err_from_is_err_and}
use Rattle.ihex_loader.specs.Fault.{at_line}
use Rattle.std.proofs.iter.Serving.{serving}
use Rattle.ihex_loader.specs.Line.{line_of, without_cr}
use Rattle.ihex_loader.specs.Image.{lines_of, hex_fault}
use Rattle.ihex_loader.proofs.OnePass.{image_given, at_end, fault_at_end, line_turn, take-turn, first_fault-pass, first_fault-found}
use Rattle.ihex_loader.proofs.loader.load.Goals as goal

pub loop-text-preserved : goal.loop-text-preserved
loop-text-preserved c =
    let pieces = slice_split (λ b. b == 10) c.args.bytes.now in
    let t = line_turn (λ text. line_of (without_cr text)) pieces _ _ (YieldsList-turn (YieldsList-from_slice_split _ (λ b. b == 10) c.args.bytes.now (cc) (cc) (cc) (λ x b q k. search (rules, tests))) c.loop-text.yielded _ c.loop-text.yielded_by _ _ c.in-Some.text c.in-Some.is c.next.ensures.steps) in
    let good = c.in_ok-take_line.ensures.good (take (length c.loop-text.yielded) (lines_of c.args.bytes.now)) c.loop-text.invariant.stands in
    let n = length_push c.loop-text.yielded c.in-Some.text in
    record {
      can = grind serving;
      finite = tt;
      count = omega arith;
      stands = rw (n, take-turn (lines_of c.args.bytes.now) _ _ t.0 t.1) good.1;
      fault = rw n (c.loop-text.invariant.fault ∙ first_fault-pass (lines_of c.args.bytes.now) _ _ t.0 t.1 good.0);
    }

pub returns-in_err-take_line-clause-err : goal.returns-in_err-take_line-clause-err
unfolding hex_fault
returns-in_err-take_line-clause-err c =
    let pieces = slice_split (λ b. b == 10) c.args.bytes.now in
    let t = line_turn (λ text. line_of (without_cr text)) pieces _ _ (YieldsList-turn (YieldsList-from_slice_split _ (λ b. b == 10) c.args.bytes.now (cc) (cc) (cc) (λ x b q k. search (rules, tests))) c.loop-text.yielded _ c.loop-text.yielded_by _ _ c.in-Some.text c.in-Some.is c.next.ensures.steps) in
    let p = err_from_is_err_and c.from_residual-in_err-take_line.result c.from_residual-in_err-take_line.ensures.1 in
    rw (p.1, p.2) (⊎_elim (λ m. inl m) (λ w. inr (c.loop-text.invariant.fault
    ∙ (first_fault-found (lines_of c.args.bytes.now) _ _ w.0 t.0 t.1 (w.2 _ c.loop-text.invariant.stands) ∙ ap Some (ap (λ n. at_line w.0 (n + 1)) (sym {b = length c.loop-text.yielded} c.loop-text.invariant.count) ∙ sym w.1)))) c.in_err-take_line.ensures.bad)

pub returns-then-not-loader-clause-err : goal.returns-then-not-loader-clause-err
unfolding hex_fault
returns-then-not-loader-clause-err c =
    let pieces = slice_split (λ b. b == 10) c.args.bytes.now in
    let e = YieldsList-end (YieldsList-from_slice_split _ (λ b. b == 10) c.args.bytes.now (cc) (cc) (cc) (λ x b q k. search (rules, tests))) c.loop-text.yielded _ c.loop-text.yielded_by _ _ c.in-None.is c.next.ensures.steps in
    let len : length c.loop-text.yielded ≡ length (lines_of c.args.bytes.now) = e.1 ∙ sym (length-map pieces (λ text. line_of (without_cr text))) in
    inr (fault_at_end (lines_of c.args.bytes.now) _ _ _ _ _ _ len c.loop-text.invariant.stands c.if-not-loader.true c.loop-text.invariant.fault)

pub returns-clause-sound : goal.returns-clause-sound
unfolding hex_fault
returns-clause-sound c =
    let pieces = slice_split (λ b. b == 10) c.args.bytes.now in
    let e = YieldsList-end (YieldsList-from_slice_split _ (λ b. b == 10) c.args.bytes.now (cc) (cc) (cc) (λ x b q k. search (rules, tests))) c.loop-text.yielded _ c.loop-text.yielded_by _ _ c.in-None.is c.next.ensures.steps in
    let len : length c.loop-text.yielded ≡ length (lines_of c.args.bytes.now) = e.1 ∙ sym (length-map pieces (λ text. line_of (without_cr text))) in
    fault_at_end (lines_of c.args.bytes.now) _ _ _ _ _ _ len c.loop-text.invariant.stands c.if-not-loader.false c.loop-text.invariant.fault

pub returns-clause-image : goal.returns-clause-image
returns-clause-image c =
    let pieces = slice_split (λ b. b == 10) c.args.bytes.now in
    let e = YieldsList-end (YieldsList-from_slice_split _ (λ b. b == 10) c.args.bytes.now (cc) (cc) (cc) (λ x b q k. search (rules, tests))) c.loop-text.yielded _ c.loop-text.yielded_by _ _ c.in-None.is c.next.ensures.steps in
    let len : length c.loop-text.yielded ≡ length (lines_of c.args.bytes.now) = e.1 ∙ sym (length-map pieces (λ text. line_of (without_cr text))) in
    image_given c.args.bytes.now _ _ (at_end (lines_of c.args.bytes.now) _ _ _ _ _ len c.loop-text.invariant.stands).gives
