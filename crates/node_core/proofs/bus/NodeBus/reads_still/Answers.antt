use Rattle.std.proofs.Common.{◌≡◌, nat_lt, true, false, arith}
use Rattle.std.proofs.lemmas.Bool.Decides.{nat_tests}
use Rattle.node_core.proofs.Stills.{board_still, sram_still}
use Rattle.node_core.proofs.bus.NodeBus.reads_still.Goals as goal

pub returns-then-at-ge-SRAM_START : goal.returns-then-at-ge-SRAM_START
returns-then-at-ge-SRAM_START c e =
    let at = c.args.at in
    let below : nat_lt 0x10FF at ≡ false = grind (arith, c.if-at-gt-SRAM_LAST.false, nat_tests) in
    let above : nat_lt 0xFF at ≡ true = grind (arith, c.if-at-ge-SRAM_START.true, nat_tests) in
    sram_still c.args.self.now at below above

pub returns-else-at-ge-SRAM_START : goal.returns-else-at-ge-SRAM_START
returns-else-at-ge-SRAM_START c e =
    let at = c.args.at in
    let below : nat_lt 0x10FF at ≡ false = grind (arith, c.if-at-gt-SRAM_LAST.false, nat_tests) in
    let io : nat_lt 0xFF at ≡ false = grind (arith, c.if-at-ge-SRAM_START.false, nat_tests) in
    board_still c.args.self.now at below io (c.reads_still.ensures e)
