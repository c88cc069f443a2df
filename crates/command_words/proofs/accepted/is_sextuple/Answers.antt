use Rattle.std.proofs.Common.{is_some, refl, sym, ap}
use Rattle.command_words.proofs.Accepts.{watch_state}
use Rattle.command_words.proofs.accepted.is_sextuple.Goals as goal

pub returns : goal.returns
returns c =
    rw (watch_state c.args.command.now c.args.file.now c.args.from.now c.args.to.now c.args.places.now c.args.state.now, sym c.eq.ensures, sym c.is_file.ensures, sym c.is_file-2.ensures, sym c.is_file-3.ensures, ap is_some (sym c.span.ensures), sym c.is_some.ensures) refl
