use Rattle.std.proofs.Common.{◌≡◌, ◌+◌, ◌≤◌, ◌<◌, ℕ, true, get_or, vec_len}
use Rattle.std.specs.List.{All}
use Rattle.fleet_threads.specs.declared.member.Member.{Member}
use Rattle.fleet_threads.specs.Member.{IsUnderWay, IsOver, numbers, all_looks}
use Rattle.fleet_threads.proofs.threads.round.Given as goal

abbrev pub invariant-loop-k : goal.invariant-loop-k
invariant-loop-k g l = record {
  all : All (IsUnderWay g.N.Session.table g.N.Session.world l.epoch.scenario.now g.N.Session.floor l.epoch.end) l.waiting.items;
  numbers : numbers l.waiting.items ≡ numbers l.fn.waiting.items;
  len : vec_len l.waiting ≡ vec_len l.fn.waiting;
  once : all_looks l.waiting.items ≤ all_looks l.fn.waiting.items + l.k;
  over : l.over ≡ true → (i : ℕ) (d : Member) → i < l.k → IsOver l.epoch.end (get_or l.waiting.items i d);
}
