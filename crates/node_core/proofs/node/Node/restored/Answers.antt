use Rattle.std.proofs.Common.{◌≡◌, ◌∙◌, ap, arith, is_some, refl, slice_index, ◌==◌, subst, sym}
use Rattle.std.proofs.lemmas.Bool.{false≢true}
use Rattle.board_io.specs.Saved as board
use Rattle.board_io.specs.declared.clocked.ClockedBoard.{ClockedBoard}
use Rattle.board_io.proofs.OneBoard.{all}
use Rattle.device_base.specs.Numbers.{part}
use Rattle.node_core.specs.Numbers.{ends_from}
use Rattle.node_core.specs.State.{NodeState}
use Rattle.node_core.proofs.Saved.{board-fits, core-within, made-numbers, no-fault, one-state, registers-32, Made}
use Rattle.node_core.proofs.node.Node.restored.Goals as goal

pub unreachable-requires : goal.unreachable-requires
unreachable-requires c =
    let fit = board-fits c.args.cycle c.args.numbers.now (no-fault _ _ c.requires.sound) in
    let same : all (board.fits c.ends_from-ends_from.result c.part.result) ≡ all (board.fits (ends_from c.args.cycle c.args.numbers.now) (part 41 67 c.args.numbers.now)) =
    λ i. all (board.fits (c.ends_from-ends_from.ensures i) (c.part.ensures i)) in
    false≢true (ap is_some (sym c.in_default.is) ∙ c.restore.ensures.none ∙ same ∙ fit)

pub cpu_of-requires : goal.cpu_of-requires
cpu_of-requires c = core-within c.args.cycle c.args.numbers.now c.told-numbers (no-fault _ _ c.requires.sound)

pub overflow_cast-result : goal.overflow_cast-result
overflow_cast-result c =
    let w = core-within c.args.cycle c.args.numbers.now c.told-numbers (no-fault _ _ c.requires.sound) in
    let wait = w.wait in
    omega arith

pub of-requires : goal.of-requires
of-requires c =
    let w = core-within c.args.cycle c.args.numbers.now c.told-numbers (no-fault _ _ c.requires.sound) in
    w.stop

pub invariant_of-result : goal.invariant_of-result
invariant_of-result c =
    let w = core-within c.args.cycle c.args.numbers.now c.told-numbers (no-fault _ _ c.requires.sound) in
    let count = w.count in
    let clock = ap (λ (io : ClockedBoard). io.clock) c.restored.ensures in
    record {
      few = omega arith;
      clock = λ going. omega arith;
      early = λ e. absurd (false≢true e);
      room = λ e. absurd (false≢true e);
      waits = λ e. absurd (false≢true e);
    }

pub returns-clause-state : goal.returns-clause-state
returns-clause-state c =
    let n = c.args.numbers.now in
    let fit = no-fault _ _ c.requires.sound in
    let w = core-within c.args.cycle n c.told-numbers fit in
    let saved : board.IsRestored c.args.byte_time (part 41 67 n) c.args.io.now c.in-Some.board =
    subst (λ p. board.IsRestored c.args.byte_time p c.args.io.now c.in-Some.board) c.part.ensures c.in-Some.ensures.some in
    let here : board.IsRestored c.args.byte_time (part 41 67 n) c.args.io.now c.restored.result.board =
    subst (λ (io : ClockedBoard). board.IsRestored c.args.byte_time (part 41 67 n) c.args.io.now io.board) (sym c.restored.ensures) saved in
    let s : NodeState = record {
      number = c.args.number;
      flash = c.args.program.bytes;
      script = c.args.script;
      from = c.args.window.0;
      to = c.args.window.1;
      cpu = c.cpu_of.result;
      board = c.restored.result.board;
      sram = c.in_ok-sram.sram;
      wait = slice_index n 36;
      owed = slice_index n 37 == 1;
      asleep = slice_index n 38 == 1;
      stop = c.of.result;
      count = slice_index n 40;
    } in
    let made : Made n s = record { cpu = c.cpu_of.ensures; wait = refl; owed = refl; asleep = refl; stop = c.of.ensures; count = refl } in
    record {
      number = refl;
      flash = refl;
      script = refl;
      from = refl;
      to = refl;
      registers = registers-32 n s c.told-numbers made;
      numbers = made-numbers n s c.told-numbers w made here.numbers;
      board = here;
      sram = c.in_ok-sram.ensures;
    }

pub returns-clause-one : goal.returns-clause-one
returns-clause-one c = λ s h.
    one-state c.args.cycle _ _ _ _ _ _ _ _ _ _ s (no-fault _ _ c.requires.sound) (returns-clause-state c) h
