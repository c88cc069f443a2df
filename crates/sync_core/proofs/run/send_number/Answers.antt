use Rattle.std.proofs.Common.{◌≡◌, ℕ, ◌<◌, List, length, get_or, sym, subst, arith}
use Rattle.std.proofs.lemmas.List.{get_or_default}
use Rattle.air_base.specs.declared.air.Send.{Send}
use Rattle.world_core.specs.Sends.{sends_of}
use Rattle.sync_core.proofs.Numbered.{has_number}
use Rattle.sync_core.proofs.run.send_number.Goals as goal

pub returns-then-left-eq0 : goal.returns-then-left-eq0
returns-then-left-eq0 c =
    let l = c.sends-send-items.result.now in
    let i = c.loop-send.send-index in
    let d : Send = record { node = 0; cycle = 0; byte = 0 } in
    let x = get_or l i d in
    let e = c.if-send-node.true in
    let n = has_number c.args.node l i c.args.number x c.loop-send-test.true (get_or_default l i x d c.loop-send-test.true) e (let v = c.loop-send.invariant in let z = c.if-left-eq0.true in omega arith) in (
      e,
      subst (λ (k : ℕ). (c.args.number < length (sends_of k c.args.world.now.sends)) × (get_or (sends_of k c.args.world.now.sends) c.args.number x ≡ x)) (sym e)
          (subst (λ (m : List Send). (c.args.number < length (sends_of c.args.node m)) × (get_or (sends_of c.args.node m) c.args.number x ≡ x)) c.sends-send-items.ensures n),
    )
