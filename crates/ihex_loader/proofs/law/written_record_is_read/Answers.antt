use Rattle.ihex_loader.proofs.Written.{read_upper, read_lower}
use Rattle.ihex_loader.proofs.law.written_record_is_read.Goals as goal

pub returns-clause-upper : goal.returns-clause-upper
returns-clause-upper c = read_upper

pub returns-clause-lower : goal.returns-clause-lower
returns-clause-lower c = read_lower
