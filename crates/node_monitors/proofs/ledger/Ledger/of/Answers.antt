use Rattle.std.proofs.Common.{◌-◌, ◌∙◌, ap, arith, rules}
use Rattle.node_monitors.specs.Sums.{Sums}
use Rattle.node_monitors.proofs.Rooms.{room-at, step-taken, begin-taken, took-node, took-window, took-words}
use Rattle.node_monitors.proofs.ledger.Ledger.of.Goals as goal

pub loop-place-init : goal.loop-place-init
loop-place-init c = record {
  node = ap (λ (s : Sums). s.node) c.in_ok-ledger.ensures.empty;
  window = ap (λ (s : Sums). s.window) c.in_ok-ledger.ensures.empty;
  words = ap (λ (s : Sums). s.words) c.in_ok-ledger.ensures.empty;
  taken = begin-taken c.args.rows.now c.args.node c.args.window c.words_of-words.result c.in_ok-ledger.ledger c.in_ok-ledger.ensures.empty;
}

pub take-requires-clause-room : goal.take-requires-clause-room
take-requires-clause-room c =
    room-at c.args.rows.now c.loop-place.place c.loop-place.ledger c.loop-place-test.true c.loop-place.auto.place (search rules)
    (rw c.loop-place.invariant.window c.new.ensures.narrow) c.loop-place.invariant.taken

pub take-requires-clause-within : goal.take-requires-clause-within
take-requires-clause-within c = rw c.loop-place.invariant.words (c.words_of-words.ensures.within (c.loop-place.place - 1) _ (omega arith))

pub loop-place-preserved : goal.loop-place-preserved
loop-place-preserved c = record {
  node = ap (λ (s : Sums). s.node) c.take.ensures ∙ took-node _ c.loop-place.ledger ∙ c.loop-place.invariant.node;
  window = ap (λ (s : Sums). s.window) c.take.ensures ∙ took-window _ c.loop-place.ledger ∙ c.loop-place.invariant.window;
  words = ap (λ (s : Sums). s.words) c.take.ensures ∙ took-words _ c.loop-place.ledger ∙ c.loop-place.invariant.words;
  taken = step-taken c.args.rows.now c.loop-place.place _ c.loop-place.ledger c.take.new.self c.loop-place-test.true c.loop-place.auto.place c.take.ensures (rw c.loop-place.invariant.words (c.words_of-words.ensures.within (c.loop-place.place - 1) _ (omega arith)))
      c.loop-place.invariant.taken;
}

pub returns-clause-within : goal.returns-clause-within
returns-clause-within c = rw c.loop-place.invariant.words c.words_of-words.ensures.within

pub returns-clause-words : goal.returns-clause-words
returns-clause-words c = rw c.loop-place.invariant.words c.words_of-words.ensures.most
