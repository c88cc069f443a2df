use Rattle.air_sniffer.proofs.Cuts.{fed_start, fed_more, fed_end}
use Rattle.air_sniffer.proofs.law.fed_law.Goals as goal

pub returns : goal.returns
returns c = record { start = fed_start; more = fed_more; finish = fed_end }
