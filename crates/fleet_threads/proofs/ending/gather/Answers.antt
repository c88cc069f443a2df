use Rattle.std.proofs.Common.{◌≡◌, ℕ, ◌<◌, ◌≤◌, ◌++◌, List, length, get_or, refl, sym, subst, ap, ◌∙◌, arith}
use Rattle.std.specs.List.{flat_map}
use Rattle.std.proofs.lemmas.List.{take_all, with_items_is}
use Rattle.fleet_threads.specs.declared.member.Member.{Member}
use Rattle.fleet_threads.specs.Ending.{rows_at, taken_at, IsCalm}
use Rattle.fleet_threads.proofs.Ends.{gathers_on, with_runner, all_taken}
use Rattle.fleet_threads.proofs.ending.gather.Goals as goal

pub take_rows-requires : goal.take_rows-requires
take_rows-requires c =
    let old : List Member = c.args.members.now.items in
    let i : ℕ = c.loop-member.member-index in
    let m : Member = c.member-item.result in
    let h : i < length old = omega (arith, c.loop-member-test.true, c.loop-member.auto.member-items, c.deref_mut-member-items.ensures.len, c.deref_mut-member-items.ensures.value) in
    subst IsCalm c.member-item.is (subst IsCalm (sym (gathers_on old c.loop-member.member-items i m (taken_at m) h c.loop-member.invariant.left c.member-item.is refl).same) (c.requires i m h))

pub loop-member-preserved : goal.loop-member-preserved
loop-member-preserved c =
    let old : List Member = c.args.members.now.items in
    let i : ℕ = c.loop-member.member-index in
    let here : Member = get_or c.loop-member.member-items i c.member-item.result in
    let new : Member = with_runner here c.take_rows.new.self in
    let h : i < length old = omega (arith, c.loop-member-test.true, c.loop-member.auto.member-items, c.deref_mut-member-items.ensures.len, c.deref_mut-member-items.ensures.value) in
    let took : new ≡ taken_at c.member-item.result = ap (with_runner here) c.take_rows.ensures.left ∙ ap taken_at (sym c.member-item.is) in
    let on = gathers_on old c.loop-member.member-items i c.member-item.result new h c.loop-member.invariant.left c.member-item.is took in
    record {
      rows = c.in_ok-put_behind.ensures ∙ (λ j. c.loop-member.invariant.rows j ++ (c.take_rows.ensures.rows ∙ ap rows_at (sym c.member-item.is)) j) ∙ sym on.rows;
      left = on.left;
    }

pub returns-clause-rows : goal.returns-clause-rows
returns-clause-rows c =
    let old : List Member = c.args.members.now.items in
    let end : length old ≤ c.loop-member.member-index = let f = c.loop-member-test.false in let v = ap length c.deref_mut-member-items.ensures.value in omega arith in
    c.loop-member.invariant.rows ∙ ap (flat_map rows_at) (take_all c.loop-member.member-index old end)

pub returns-clause-left : goal.returns-clause-left
returns-clause-left c =
    let old : List Member = c.args.members.now.items in
    let end : length old ≤ c.loop-member.member-index = let f = c.loop-member-test.false in let v = ap length c.deref_mut-member-items.ensures.value in omega arith in
    with_items_is c.args.members.now c.loop-member.member-items (c.loop-member.auto.member-items ∙ c.deref_mut-member-items.ensures.len)
    ∙ all_taken old c.loop-member.member-items c.loop-member.member-index end c.loop-member.invariant.left
