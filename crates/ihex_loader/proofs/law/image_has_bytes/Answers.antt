use Rattle.ihex_loader.proofs.Bytes.{image_bytes}
use Rattle.ihex_loader.proofs.law.image_has_bytes.Goals as goal

pub returns : goal.returns
returns c = image_bytes
