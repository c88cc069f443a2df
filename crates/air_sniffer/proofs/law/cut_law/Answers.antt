use Rattle.air_sniffer.proofs.Cuts.{cut_frames, cut_sure, cut_open, cut_short}
use Rattle.air_sniffer.proofs.law.cut_law.Goals as goal

pub returns : goal.returns
returns c = record { frames = cut_frames; sure = cut_sure; rest = cut_open; short = cut_short }
