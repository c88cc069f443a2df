use Rattle.std.proofs.Common.{◌≡◌, List, map, ◌++◌, sym, subst, ap, ◌∙◌}
use Rattle.std.specs.List.{All}
use Rattle.std.specs.List.Sorted.{IsStableByKey}
use Rattle.std.specs.Ordering.{nat_cmp}
use Rattle.world_core.specs.Topology.{Topology}
use Rattle.node_core.specs.declared.row.Row.{Row}
use Rattle.fleet_threads.specs.declared.member.Member.{Member}
use Rattle.fleet_threads.specs.Ending.{HasEndedAt, end_row_at}
use Rattle.fleet_threads.proofs.Ends.{all_ended, taken_ended, last_rows, first_rows}
use Rattle.fleet_threads.proofs.ending.epoch_rows.Goals.{then-end-limit+in_ok-add_ends, else-end-limit}
use Rattle.fleet_threads.proofs.ending.epoch_rows.Goals as goal

pub add_ends-requires : goal.add_ends-requires
add_ends-requires c =
    let sc = c.args.scenario.now in
    let limit : c.limit.result ≡ sc.topo.limit = c.limit.ensures.value ∙ ap (λ (t : Topology). t.limit) c.lawful_topo.ensures.value in
    subst (All HasEndedAt) (sym (c.deref.ensures.value ∙ c.in_ok-rows.ensures.left)) (taken_ended c.args.members.now.items (all_ended sc c.args.floor c.args.end c.args.members.now.items c.requires.members (c.if-end-limit.true ∙ limit)))

pub returns-clause-rows : goal.returns-clause-rows
returns-clause-rows c =
    let sc = c.args.scenario.now in
    let limit : c.limit.result ≡ sc.topo.limit = c.limit.ensures.value ∙ ap (λ (t : Topology). t.limit) c.lawful_topo.ensures.value in
    let stable = subst (λ (l : List Row). IsStableByKey (λ r. r.cycle) nat_cmp l c.sort.new.rows.items) c.in_ok-rows.ensures.rows c.in_ok-sort.ensures.stable in
    elim c.if-end-limit.branch [
      | then-end-limit+in_ok-add_ends w ↦ last_rows sc c.args.floor c.args.end c.args.members.now.items c.requires.members c.sort.new.rows.items c.if-end-limit.rows.items c.requires.sound c.requires.end c.requires.floor c.in_ok-sort.ensures.sorted stable
          (w.if-end-limit.true ∙ limit) (ap (λ v. v.items) w.rows-is ∙ w.in_ok-add_ends.ensures ∙ ap (λ (l : List Member). c.sort.new.rows.items ++ map end_row_at l) (w.deref.ensures.value ∙ c.in_ok-rows.ensures.left))
      | else-end-limit w ↦ first_rows sc c.args.floor c.args.end c.args.members.now.items c.requires.members c.sort.new.rows.items c.if-end-limit.rows.items c.requires.sound c.requires.end c.requires.floor c.in_ok-sort.ensures.sorted stable
          (λ e. w.if-end-limit.false (e ∙ sym limit)) (ap (λ v. v.items) w.rows-is)
    ]
