use Rattle.std.proofs.Common.{◌≡◌, ℕ, ◌+◌, ◌<◌, ◌++◌, List, length, take, get_or, sym, subst, ap, ◌∙◌, arith}
use Rattle.std.specs.Prelude.{slice_index_or}
use Rattle.std.specs.List.{All}
use Rattle.std.proofs.lemmas.List.{get_or_default, get_or-append-add, length-append}
use Rattle.std.proofs.Math.Seq.{take-append-add}
use Rattle.air_base.specs.declared.air.Send.{Send}
use Rattle.world_core.specs.Chain.{LogFacts, no_send}
use Rattle.world_core.specs.Sends.{sends_of}
use Rattle.fleet_flight.proofs.Records.{may_push}
use Rattle.fleet_flight.proofs.record.append.Goals as goal

pub push-requires-clause-after : goal.push-requires-clause-after
push-requires-clause-after c =
    let olds : List Send = c.args.log.now.sends in
    let xs : List Send = c.args.sends.now in
    let i : ℕ = c.loop-send.send-index in
    let x : Send = slice_index_or xs i no_send in
    let within : i < length xs = c.loop-send-test.true in
    let there : length olds + i < length (olds ++ xs) = omega (arith, length-append olds xs, within) in
    let at : x ≡ get_or (olds ++ xs) (length olds + i) x = get_or_default xs i no_send x within ∙ sym (get_or-append-add olds xs i x) in
    let front : c.loop-send.log.sends ≡ take (length olds + i) (olds ++ xs) = ap (λ (l : LogFacts). l.sends) c.loop-send.invariant ∙ sym (take-append-add olds xs i) in
    subst (λ (l : List Send). All (λ y. y.cycle < x.cycle) (sends_of x.node l)) (sym front)
    (may_push (olds ++ xs) (length olds + i) x c.requires.rises there at)
