use Rattle.std.proofs.Common.{◌+◌, ◌*◌}
use Rattle.world_core.proofs.LinkRows.{zeros}
use Rattle.world_core.proofs.link_table.LinkTable.new.Goals as goal

pub returns : goal.returns
returns c = λ from to _ _. zeros 4096 (64 * to + from)
