-- What holds of each scenario that a text says.
use Rattle.std.proofs.Common.{◌≡◌, ℕ, List, Option, Some, None, Ok, refl, sym, subst}
use Rattle.toml.specs.Data.{Members}
use Rattle.world_core.specs.Topology.{IsTopology}
use Rattle.scenario_file.specs.Faults.{document_of, document_fault}
use Rattle.scenario_file.specs.Scenario.{ScenarioParts, IsScenario, of_document, parts_of, scenario_in, unless_fault}
use Rattle.scenario_file.specs.declared.fault.ScenarioFault.{ScenarioFault}
use Rattle.scenario_file.proofs.Clean.{clean}
use Rattle.scenario_file.proofs.Law.{scenario_law}
use Rattle.scenario_file.proofs.Topologies.{topology_is}

-- a document without a fault says these parts
record IsSaid (parts : ScenarioParts) : Type 0 where
  members : Members
  faultless : document_fault members ≡ None
  is : parts ≡ parts_of members

no_fault : (fault : Option ScenarioFault) (given parts : ScenarioParts) → unless_fault fault given ≡ Ok parts → (fault ≡ None) × (parts ≡ given)
no_fault None given parts e = (refl, cc)
no_fault (Some fault) given parts e = absurd (cc)

said_in : (document : Option Members) (parts : ScenarioParts) → of_document document ≡ Ok parts → IsSaid parts
said_in None parts e = absurd (cc)
said_in (Some members) parts e = let n = no_fault (document_fault members) (parts_of members) parts e in record { members = members; faultless = n.0; is = n.1 }

said : (text : List ℕ) (parts : ScenarioParts) → scenario_in text ≡ Ok parts → IsSaid parts
unfolding scenario_in
said text parts e = said_in (document_of text) parts e

pub scenario_said : (text : List ℕ) (parts : ScenarioParts) → scenario_in text ≡ Ok parts → IsScenario parts
scenario_said text parts e = let s = said text parts e in subst IsScenario (sym s.is) (scenario_law s.members (clean s.members s.faultless))

topology_in : (parts : ScenarioParts) → IsSaid parts → IsTopology parts.topology
unfolding parts_of
topology_in parts s = subst (λ (p : ScenarioParts). IsTopology p.topology) (sym s.is) (topology_is s.members (clean s.members s.faultless))

pub topology_said : (text : List ℕ) (parts : ScenarioParts) → scenario_in text ≡ Ok parts → IsTopology parts.topology
topology_said text parts e = topology_in parts (said text parts e)
