use Rattle.std.proofs.Common.{◌≡◌, ◌≤◌, Option, Some, None, Ok, sym, ap, subst, ◌∙◌, option_map}
use Rattle.std.specs.Prelude.{IfSome}
use Rattle.std.proofs.lemmas.Result.{err_from_is_err_and}
use Rattle.serial_ports.specs.Script.{StretchBytes}
use Rattle.moves_text.specs.Moves.{room_behind}
use Rattle.moves_text.specs.declared.room.Room.{Room}
use Rattle.moves_text.proofs.Lines.{fails_on, fewer_words, no_more, no_stretch, one_stretch, stretch_fails}
use Rattle.moves_text.proofs.reading.stretches_in.Goals as goal
use Rattle.serial_ports.specs.declared.stretch.TheConstants.{MOST_ARRIVALS}

pub returns-in_err-stretch : goal.returns-in_err-stretch
returns-in_err-stretch c =
    let p = err_from_is_err_and c.from_residual.result c.from_residual.ensures.1 in
    rw (p.1, p.2) (fails_on _ c.loop-stretches.stretches.items _ _ (stretch_fails _ c.args.line c.loop-stretches.room c.loop-stretches.words c.in_err-stretch.ensures.exact) c.loop-stretches.invariant.read)

pub returns-in_default : goal.returns-in_default
returns-in_default c =
    let none = c.in_ok-stretch.ensures.exact ∙ ap (λ (o : Option (StretchBytes × Room)). Ok (option_map (λ x. (x.0, c.next_stretch.new.words)) o)) c.in_default.is in
    no_more c.loop-stretches.stretches.items _ _ (no_stretch c.args.line c.loop-stretches.room c.loop-stretches.words none) c.loop-stretches.invariant.read

pub loop-stretches-smaller : goal.loop-stretches-smaller
loop-stretches-smaller c =
    let one = c.in_ok-stretch.ensures.exact ∙ ap (λ (o : Option (StretchBytes × Room)). Ok (option_map (λ x. (x.0, c.next_stretch.new.words)) o)) c.in-Some.is in
    fewer_words c.args.line c.loop-stretches.room c.loop-stretches.words c.next_stretch.new.words c.in-Some.stretch one

pub loop-stretches-preserved : goal.loop-stretches-preserved
loop-stretches-preserved c =
    let one = c.in_ok-stretch.ensures.exact ∙ ap (λ (o : Option (StretchBytes × Room)). Ok (option_map (λ x. (x.0, c.next_stretch.new.words)) o)) c.in-Some.is in
    let next : c.in-Some.behind ≡ room_behind c.loop-stretches.room c.in-Some.stretch =
    subst (λ (o : Option (StretchBytes × Room)). IfSome o (λ x. x.1 ≡ room_behind c.loop-stretches.room x.0)) c.in-Some.is c.in_ok-stretch.ensures.behind in
    let few : c.in-Some.behind.bytes ≤ MOST_ARRIVALS = subst (λ (o : Option (StretchBytes × Room)). IfSome o (λ x. x.1.bytes ≤ MOST_ARRIVALS)) c.in-Some.is c.in_ok-stretch.ensures.few in
    record {
      read =
          rw c.in_ok-push.ensures.items
          (one_stretch c.args.line c.loop-stretches.room c.in-Some.behind c.loop-stretches.words c.next_stretch.new.words c.loop-stretches.stretches.items c.in-Some.stretch _ one next c.loop-stretches.invariant.read);
      few = few;
    }
