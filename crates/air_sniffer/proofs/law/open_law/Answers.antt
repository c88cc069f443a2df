use Rattle.air_sniffer.proofs.Heads.{open_short}
use Rattle.air_sniffer.proofs.Opens.{open_no_frame, open_some, closed_same}
use Rattle.air_sniffer.proofs.law.open_law.Goals as goal

pub returns : goal.returns
returns c = record { none = open_no_frame; some = open_some; same = closed_same; short = open_short }
