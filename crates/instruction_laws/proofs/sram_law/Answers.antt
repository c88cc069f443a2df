use Rattle.instruction_laws.proofs.Sram.{begun_sized, memory, put_done, reset_sized, still_sized}
use Rattle.node_core.specs.Cycle.{begun_in}
use Rattle.instruction_laws.proofs.sram_law.Goals as goal

pub returns-clause-memory : goal.returns-clause-memory
returns-clause-memory c = memory

pub returns-clause-stores : goal.returns-clause-stores
returns-clause-stores c = put_done

pub returns-clause-reset : goal.returns-clause-reset
returns-clause-reset c = λ k flash script first last gap. reset_sized

pub returns-clause-begun : goal.returns-clause-begun
returns-clause-begun c = λ t s. still_sized s.sram (begun_in t s).sram (begun_sized t s)

pub returns-clause-finished : goal.returns-clause-finished
returns-clause-finished c = λ t s h sized. sized
