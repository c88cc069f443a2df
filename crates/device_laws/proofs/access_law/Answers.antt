use Rattle.device_laws.proofs.Boards.{io_read_kept, io_write_kept}
use Rattle.device_laws.proofs.access_law.Goals as goal

pub returns-clause-read : goal.returns-clause-read
returns-clause-read c = io_read_kept

pub returns-clause-write : goal.returns-clause-write
returns-clause-write c = io_write_kept
