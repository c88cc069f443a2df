use Rattle.std.proofs.Common.{is_some, refl, sym, ap}
use Rattle.command_words.proofs.Accepts.{watch_reset}
use Rattle.command_words.proofs.accepted.is_quintuple.Goals as goal

pub returns : goal.returns
returns c =
    rw (watch_reset c.args.command.now c.args.file.now c.args.from.now c.args.to.now c.args.places.now, sym c.eq.ensures, sym c.is_file.ensures, sym c.is_file-2.ensures, ap is_some (sym c.span.ensures), sym c.is_some.ensures) refl
