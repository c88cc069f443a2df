use Rattle.std.proofs.Common.{◌≡◌, subst}
use Rattle.std.specs.Prelude.{OnErr, OnOk}
use Rattle.sim_io.specs.Outside.{TookFront, extended}
use Rattle.node_runner.specs.Scenario.{fleet_of}
use Rattle.state_text.specs.Text.{state_text}
use Rattle.checkpoint_text.proofs.Saving.{stood_nodes, stood_sized}
use Rattle.checkpoint_text.proofs.writing.write_state.Goals as goal

pub write-requires : goal.write-requires
write-requires g c = record { sized = stood_sized c.args.nodes.now }

pub returns-clause-taken : goal.returns-clause-taken
returns-clause-taken g c =
    subst (λ ns. OnOk c.write.result (g.O.Sink.taken c.write.new.sink ≡ extended (g.O.Sink.taken c.args.sink.now) (state_text (record { cycle = c.args.cycle; nodes = ns; sends = c.args.sends.now }))))
    (stood_nodes (fleet_of c.args._scenario.now) c.args.cycle c.args.nodes.now c.requires.count c.requires.states) c.write.ensures.taken

pub returns-clause-front : goal.returns-clause-front
returns-clause-front g c =
    subst (λ ns. OnErr c.write.result (TookFront (g.O.Sink.taken c.args.sink.now) (state_text (record { cycle = c.args.cycle; nodes = ns; sends = c.args.sends.now })) (g.O.Sink.taken c.write.new.sink)))
    (stood_nodes (fleet_of c.args._scenario.now) c.args.cycle c.args.nodes.now c.requires.count c.requires.states) c.write.ensures.front
