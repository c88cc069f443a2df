use Rattle.sample_maker.proofs.InRing.{count, hears, lawful}
use Rattle.sample_maker.proofs.network.each_node_hears_the_one_before.Goals as goal

pub returns-clause-topology : goal.returns-clause-topology
returns-clause-topology c = lawful

pub returns-clause-links : goal.returns-clause-links
returns-clause-links c = count

pub returns-clause-hears : goal.returns-clause-hears
returns-clause-hears c = hears
