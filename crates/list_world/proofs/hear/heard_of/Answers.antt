use Rattle.std.proofs.Common.{sym, ◌∙◌, arith}
use Rattle.std.proofs.lemmas.Bool.{false≢true}
use Rattle.air_base.specs.declared.air.Send.{Send}
use Rattle.world_core.specs.Heard.{age_of, is_audible}
use Rattle.list_world.proofs.hear.heard_of.Goals as goal
use Rattle.list_world.proofs.hear.heard_of.Goals.{then-hears, else-hears}
use Rattle.list_world.proofs.More.{heard_step, heard_all}

pub loop-send-preserved : goal.loop-send-preserved
loop-send-preserved c =
    let t = c.args.topo.now in
    let none : Send = record { node = 0; cycle = 0; byte = 0 } in
    heard_step (age_of t c.args.node c.args.cycle) (is_audible t c.args.node c.args.cycle) c.args.sends.now c.loop-send.send-index none
    c.loop-send.so_far c.if-hears.so_far c.loop-send-test.true c.loop-send.invariant
    (λ b. elim c.if-hears.branch [
      | then-hears w ↦ w.so_far-is ∙ w.heard_with-so_far.ensures
      | else-hears w ↦ absurd (false≢true (sym w.if-hears.false ∙ c.hears.ensures ∙ b))
    ])
    (λ b. elim c.if-hears.branch [ then-hears w ↦ absurd (false≢true (sym b ∙ sym c.hears.ensures ∙ w.if-hears.true)) | else-hears w ↦ w.so_far-is ])

pub returns : goal.returns
returns c = heard_all c.args.topo.now c.args.sends.now c.args.node c.args.cycle c.loop-send.send-index c.loop-send.so_far (omega arith) c.loop-send.invariant
