use Rattle.std.proofs.Common.{◌≡◌, ◌+◌, ◌∷◌, [], ◌++◌, length, length-append, refl, ap, ◌∙◌, arith, rules}
use Rattle.command_plans.specs.Parts.{end_at}
use Rattle.command_plans.proofs.Steps.{images_open, images_step, images_done, images_stop, images_pushed, stops_moved, reached_moved}
use Rattle.command_plans.proofs.files.read_images.Goals as goal

pub loop-name-init : goal.loop-name-init
loop-name-init g c = record {
  held = refl;
  same = refl;
  count = ap length c.in-Ok.ensures.items;
  room = search rules;
  left = images_open _ c.args.names.now _ c.in-Ok.ensures.items;
}

pub returns-in-Err-clause-read : goal.returns-in-Err-clause-read
returns-in-Err-clause-read g c =
    let i = c.loop-name.invariant in
    images_stop _ c.args.names.now c.loop-name.name-index _ c.name-item.result _ _ (end_at c.in-Err.trouble) (omega arith) c.name-item.is i.left
    (stops_moved _ _ _ _ _ _ (end_at c.in-Err.trouble) i.held i.same (rw (← c.as_str.ensures) c.in-Err.ensures.read))

pub loop-name-preserved : goal.loop-name-preserved
loop-name-preserved g c =
    let i = c.loop-name.invariant in
    let flash = c.in-Ok-read_image.flash in
    let read = c.in-Ok-read_image.ensures.read in
    let pushed : c.push_reserved.new.self.items ≡ c.loop-name.images.items ++ flash ∷ [] = search rules in
    record {
      held = c.in-Ok-read_image.ensures.held ∙ i.held;
      same = read.0 ∙ i.same;
      count = ap length pushed ∙ length-append c.loop-name.images.items (flash ∷ []) ∙ ap (λ n. n + 1) i.count;
      room = search rules;
      left = images_pushed _ c.args.names.now (c.loop-name.name-index + 1) _ _ pushed
          (images_step _ c.args.names.now c.loop-name.name-index c.loop-name.images.items c.name-item.result flash (omega arith) c.name-item.is i.left
          (reached_moved _ _ _ _ i.held (rw (← c.as_str.ensures) read.1)));
    }

pub returns-clause-read : goal.returns-clause-read
returns-clause-read g c = (c.loop-name.invariant.same, images_done _ c.args.names.now c.loop-name.name-index c.loop-name.images.items (omega arith) c.loop-name.invariant.left)
