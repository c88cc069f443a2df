use Rattle.std.proofs.Common.{sym, ◌∙◌}
use Rattle.fleet_threads.proofs.Nodes.{all_begun, nobody_left, next_under_way, next_begun, put_room, put_back, wait_room, wait_begun, last_room, last_there, last_back}
use Rattle.fleet_threads.proofs.threads.+run_from.Goals as goal

-- ---- no node is left
pub rotate-requires : goal.rotate-requires
rotate-requires g t c = c.requires.begun.waiting

pub returns-in_default : goal.returns-in_default
returns-in_default g t c = all_begun _ _ _ _ _ c.args.members.now c.args.waiting.now c.pop.new.self c.rotate.new.waiting c.in_default.ensures.items c.in_default.ensures.cases c.pop.ensures.capacity c.rotate.ensures.all c.rotate.ensures.numbers

-- ---- all others have threads
pub work-requires : goal.work-requires
work-requires g t c = next_under_way _ _ _ _ _ c.args.members.now c.args.waiting.now c.pop.new.self c.in-Some.member c.requires.begun c.in-Some.ensures.items c.in-Some.ensures.cases c.pop.ensures.capacity

pub push_reserved-requires : goal.push_reserved-requires
push_reserved-requires g t c =
    let none = c.is_alone.ensures c.if-is_alone.true in
    put_room _ _ _ _ _ c.args.members.now c.args.waiting.now c.pop.new.self c.in-Some.member c.requires.begun c.in-Some.ensures.items c.in-Some.ensures.cases c.pop.ensures.capacity c.pop.new.self c.args.waiting.now (nobody_left _ _ _ _ _ c.pop.new.self c.args.waiting.now (sym c.deref.ensures.value ∙ none.0) (sym c.deref-2.ensures.value ∙ none.1))

pub returns-then-is_alone : goal.returns-then-is_alone
returns-then-is_alone g t c =
    let none = c.is_alone.ensures c.if-is_alone.true in
    put_back _ _ _ _ _ c.args.members.now c.args.waiting.now c.pop.new.self c.in-Some.member c.requires.begun c.in-Some.ensures.items c.in-Some.ensures.cases c.pop.ensures.capacity c.pop.new.self c.args.waiting.now (nobody_left _ _ _ _ _ c.pop.new.self c.args.waiting.now (sym c.deref.ensures.value ∙ none.0) (sym c.deref-2.ensures.value ∙ none.1)) c.push_reserved.new.self c.work.result c.work.ensures.back c.work.ensures.number
    c.push_reserved.ensures.items c.push_reserved.ensures.len c.push_reserved.ensures.capacity

-- ---- the node has a thread
pub begin-requires-after_bounds : goal.begin-requires-after_bounds
begin-requires-after_bounds g t c κs within = next_under_way _ _ _ _ _ c.args.members.now c.args.waiting.now c.pop.new.self c.in-Some.member c.requires.begun c.in-Some.ensures.items c.in-Some.ensures.cases c.pop.ensures.capacity

pub run_from-requires-clause-begun : goal.run_from-requires-clause-begun
run_from-requires-clause-begun g t c κs within = next_begun _ _ _ _ _ c.args.members.now c.args.waiting.now c.pop.new.self c.in-Some.member c.requires.begun c.in-Some.ensures.items c.in-Some.ensures.cases c.pop.ensures.capacity

pub push_reserved-requires-in-Ok : goal.push_reserved-requires-in-Ok
push_reserved-requires-in-Ok g t c = put_room _ _ _ _ _ c.args.members.now c.args.waiting.now c.pop.new.self c.in-Some.member c.requires.begun c.in-Some.ensures.items c.in-Some.ensures.cases c.pop.ensures.capacity c.run_from.new.members c.run_from.new.waiting c.run_from.ensures

pub returns-in-Ok : goal.returns-in-Ok
returns-in-Ok g t c =
    put_back _ _ _ _ _ c.args.members.now c.args.waiting.now c.pop.new.self c.in-Some.member c.requires.begun c.in-Some.ensures.items c.in-Some.ensures.cases c.pop.ensures.capacity c.run_from.new.members c.run_from.new.waiting c.run_from.ensures c.push_reserved-in-Ok.new.self c.work-in-Ok.result c.work-in-Ok.ensures.back (c.work-in-Ok.ensures.number ∙ c.join-handed.ensures.number ∙ c.in-Ok.ensures.thread.1)
    c.push_reserved-in-Ok.ensures.items c.push_reserved-in-Ok.ensures.len c.push_reserved-in-Ok.ensures.capacity

-- ---- it has none
pub push_reserved-requires-in-Err : goal.push_reserved-requires-in-Err
push_reserved-requires-in-Err g t c = wait_room _ _ _ _ _ c.args.members.now c.args.waiting.now c.pop.new.self c.in-Some.member c.requires.begun c.in-Some.ensures.items c.in-Some.ensures.cases c.pop.ensures.capacity

pub run_from-requires-in-Err-clause-begun : goal.run_from-requires-in-Err-clause-begun
run_from-requires-in-Err-clause-begun g t c κs within =
    wait_begun _ _ _ _ _ c.args.members.now c.args.waiting.now c.pop.new.self c.in-Some.member c.requires.begun c.in-Some.ensures.items c.in-Some.ensures.cases c.pop.ensures.capacity c.in-Err.member c.push_reserved-in-Err.new.self c.push_reserved-in-Err.ensures.items c.push_reserved-in-Err.ensures.len c.push_reserved-in-Err.ensures.capacity c.in-Err.ensures.node

pub unreachable-requires : goal.unreachable-requires
unreachable-requires g t c = last_there _ _ _ _ _ c.args.members.now c.args.waiting.now c.pop.new.self c.in-Some.member c.requires.begun c.in-Some.ensures.items c.in-Some.ensures.cases c.pop.ensures.capacity c.in-Err.member c.push_reserved-in-Err.new.self c.push_reserved-in-Err.ensures.items c.push_reserved-in-Err.ensures.len c.push_reserved-in-Err.ensures.capacity c.run_from-in-Err.new.members c.run_from-in-Err.new.waiting c.run_from-in-Err.ensures c.in_default-pop.ensures.cases.0

pub push_reserved-requires-in-Err-2 : goal.push_reserved-requires-in-Err-2
push_reserved-requires-in-Err-2 g t c = last_room _ _ _ _ _ c.args.members.now c.args.waiting.now c.pop.new.self c.in-Some.member c.requires.begun c.in-Some.ensures.items c.in-Some.ensures.cases c.pop.ensures.capacity c.in-Err.member c.push_reserved-in-Err.new.self c.push_reserved-in-Err.ensures.items c.push_reserved-in-Err.ensures.len c.push_reserved-in-Err.ensures.capacity c.run_from-in-Err.new.members c.run_from-in-Err.new.waiting c.run_from-in-Err.ensures

pub returns-in-Some-pop : goal.returns-in-Some-pop
returns-in-Some-pop g t c =
    last_back _ _ _ _ _ c.args.members.now c.args.waiting.now c.pop.new.self c.in-Some.member c.requires.begun c.in-Some.ensures.items c.in-Some.ensures.cases c.pop.ensures.capacity c.in-Err.member c.push_reserved-in-Err.new.self c.push_reserved-in-Err.ensures.items c.push_reserved-in-Err.ensures.len c.push_reserved-in-Err.ensures.capacity c.run_from-in-Err.new.members c.run_from-in-Err.new.waiting c.run_from-in-Err.ensures c.pop-in-Err.new.self c.push_reserved-in-Err-2.new.self c.in-Some-pop.last c.in-Err.ensures.node.number c.in-Some-pop.ensures.items c.push_reserved-in-Err-2.ensures.items c.push_reserved-in-Err-2.ensures.len c.push_reserved-in-Err-2.ensures.capacity
