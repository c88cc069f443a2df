use Rattle.node_runner.proofs.Accepted.{is_scenario}
use Rattle.pieces_law.proofs.Networks.{network_accepted, span_scenario, moved_scenario, watched_accepted}
use Rattle.pieces_law.proofs.Made.{alone, made}
use Rattle.pieces_law.proofs.network_law.Goals as goal

pub returns-clause-texts : goal.returns-clause-texts
returns-clause-texts c = network_accepted

pub returns-clause-scenario : goal.returns-clause-scenario
returns-clause-scenario c = λ files file network e. is_scenario network (network_accepted files file network e)

pub returns-clause-watched : goal.returns-clause-watched
returns-clause-watched c = watched_accepted

pub returns-clause-alone : goal.returns-clause-alone
returns-clause-alone c = alone

pub returns-clause-sample : goal.returns-clause-sample
returns-clause-sample c = made

pub returns-clause-span : goal.returns-clause-span
returns-clause-span c = span_scenario

pub returns-clause-moved : goal.returns-clause-moved
returns-clause-moved c = moved_scenario
