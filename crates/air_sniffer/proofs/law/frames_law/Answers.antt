use Rattle.air_sniffer.proofs.Behind.{frames_none, frames_some, frames_other}
use Rattle.air_sniffer.proofs.law.frames_law.Goals as goal

pub returns : goal.returns
returns c = record { none = frames_none; frame = frames_some; other = frames_other }
