use contract.Lifetimes.{Lfts}
use mir.Syntax.{named}
use denote.Param.{param}
use denote.RattleType.{RattleType}
use denote.Struct.Field.{row_field, shr_ref_field, u64-field}
use denote.Struct.Tuple.{TupleAt, type_at}
use denote.Param.SendFields.{declared_send, as_row_send}
use Rattle.std.specs.Prelude.{codes}
use Rattle.std.proofs.Common.{List, ◌∷◌, []}
use denote.Param.Send.{IsSend, IsSync, sendable, param_send}
use Rattle.std.proofs.Crossing.{crosses}
use Rattle.neighbour_sync.proofs.shared.Shared.TheSendSync.{the_sync as shared}
use Rattle.node_runner.proofs.scenario.Scenario.TheSendSync.{the_sync as scenario}
use Rattle.std.specs.contracts.sync.atomic.AtomicU64 as AtomicU64
use Rattle.node_runner.specs.contracts.scenario.Scenario as Scenario
use Rattle.node_runner.specs.contracts.scenario.ScenarioWorld.TheImpl.{ghosts}
use Rattle.neighbour_sync.specs.contracts.shared.Shared as Shared
use Rattle.fleet_threads.specs.contracts.member.Member as Member
use Rattle.fleet_threads.proofs.Crossing.{handed}
use Rattle.fleet_threads.proofs.threads.begin.Given.{Over}
use Rattle.fleet_threads.proofs.threads.begin.Lts.{arg-2-3}
use Rattle.fleet_threads.proofs.threads.begin.Goals as goal

-- The closure holds eight things; a search over all of them at once gives up.
job : (g : Over) (κs : Lfts 14) → IsSync (param 2 g.row.R) → IsSync (param 3 g.row.G) → IsSend (arg-2-3 g.row.E g.row.N g.row.R g.row.G g.E.laws g.N.laws g.R.laws g.G.laws g.N.Session g.N.Session-dict g.R.Threads g.R.Threads-dict g.R.Wait g.R.Wait-dict g.G.Gate g.G.Gate-dict κs)
job g κs r o =
    let a : RattleType = (shr_ref_field (record { mir = named 9; lft = κs.1.1.1.1.1.1.1.1.1.0 }) (param 2 g.row.R) tt).row in
    let b : RattleType = (shr_ref_field (record { mir = named 10; lft = κs.1.1.1.1.1.1.1.1.1.1.0 }) (param 3 g.row.G) tt).row in
    let d : RattleType = (shr_ref_field (record { mir = named 11; lft = κs.1.1.1.1.1.1.1.1.1.1.1.0 }) Scenario.the_row tt).row in
    let e : RattleType = (shr_ref_field (record { mir = named 12; lft = κs.1.1.1.1.1.1.1.1.1.1.1.1.0 }) AtomicU64.the_row tt).row in
    let f : RattleType = (u64-field).row in
    let h : RattleType = (shr_ref_field (record { mir = named 13; lft = κs.1.1.1.1.1.1.1.1.1.1.1.1.1.0 }) (Shared.the_row Scenario.the_row (param 1 g.row.N) g.N.Session ghosts) tt).row in
    let i : RattleType = Member.the_row in
    let a-send : IsSend a = search (sendable, crosses, r) depth 20 in
    let b-send : IsSend b = search (sendable, crosses, o) depth 20 in
    let d-send : IsSend d = search (sendable, crosses, scenario) depth 20 in
    let e-send : IsSend e = search (sendable, crosses) depth 20 in
    let f-send : IsSend f = search (sendable, crosses) depth 20 in
    let h-send : IsSend h = search (sendable, crosses, shared) depth 20 in
    let name = codes "fleet_threads::threads::fn::begin::spawn+Self" in
    let held : List RattleType = a ∷ b ∷ d ∷ e ∷ f ∷ f ∷ h ∷ i ∷ [] in
    let all : IsSend (TupleAt name held) = declared_send (type_at name held) (
      as_row_send (row_field a) a-send,
      (
        as_row_send (row_field b) b-send,
        (
          as_row_send (row_field d) d-send,
          (as_row_send (row_field e) e-send, (as_row_send (row_field f) f-send, (as_row_send (row_field f) f-send, (as_row_send (row_field h) h-send, (as_row_send (row_field i) handed, tt))))),
        ),
      ),
    ) in
    record { owned = all.owned; leaving = (λ kept x left. left) }

pub spawn-requires-send-F : goal.spawn-requires-send-F
spawn-requires-send-F g c κs within = param_send 3 _ (job g κs c.type_bounds.sync-R c.type_bounds.sync-G)

pub spawn-requires-send-T : goal.spawn-requires-send-T
spawn-requires-send-T g c κs within = search (sendable, crosses, handed) depth 20
