use Rattle.std.proofs.Common.{List, refl, subst}
use Rattle.std.proofs.lemmas.Bool.{false≢true}
use Rattle.air_base.specs.declared.air.Send.{Send}
use Rattle.air_base.specs.declared.air.Ask.{Ask}
use Rattle.world_core.specs.declared.world.WorldFacts.{WorldFacts}
use Rattle.world_core.specs.FirstFault.{AllKeep, IsFirstFault}
use Rattle.world_core.specs.Lawful.{IsNextSend, IsNextAsk}
use Rattle.world_core.proofs.FirstFaults.{fault_excludes}
use Rattle.list_world.proofs.Lawfulness.{lawful_from, sends_keep, asks_keep}
use Rattle.list_world.proofs.lists.ListWorld.new.Goals as goal

pub returns-in-Some-clause-ok : goal.returns-in-Some-clause-ok
returns-in-Some-clause-ok c =
    let w : WorldFacts = record { topo = c.args.topo; sends = c.args.sends.items; asks = c.args.asks.items } in
    let fault = subst (λ (l : List Send). IsFirstFault (IsNextSend w.topo) l c.in-Some.place) c.deref.ensures.value c.in-Some.ensures in
    ((λ e. absurd (false≢true e)), (λ law. absurd (fault_excludes (IsNextSend w.topo) w.sends c.in-Some.place record { node = 0; cycle = 0; byte = 0 } fault (sends_keep w law))))

pub returns-in-Some-ask_fault-clause-ok : goal.returns-in-Some-ask_fault-clause-ok
returns-in-Some-ask_fault-clause-ok c =
    let w : WorldFacts = record { topo = c.args.topo; sends = c.args.sends.items; asks = c.args.asks.items } in
    let fault = subst (λ (l : List Ask). IsFirstFault (IsNextAsk w.topo) l c.in-Some-ask_fault.place) c.deref-2.ensures.value c.in-Some-ask_fault.ensures in
    ((λ e. absurd (false≢true e)), (λ law. absurd (fault_excludes (IsNextAsk w.topo) w.asks c.in-Some-ask_fault.place record { node = 0; cycle = 0 } fault (asks_keep w law))))

pub invariant_of-result : goal.invariant_of-result
invariant_of-result c =
    let w : WorldFacts = record { topo = c.args.topo; sends = c.args.sends.items; asks = c.args.asks.items } in
    lawful_from w c.nodes-lawful.ensures.lawful
    (subst (AllKeep (IsNextSend w.topo)) c.deref.ensures.value c.in_default.ensures) (subst (AllKeep (IsNextAsk w.topo)) c.deref-2.ensures.value c.in_default-ask_fault.ensures)

pub returns-clause-ok : goal.returns-clause-ok
returns-clause-ok c =
    let w : WorldFacts = record { topo = c.args.topo; sends = c.args.sends.items; asks = c.args.asks.items } in
    let lawful = lawful_from w c.nodes-lawful.ensures.lawful
    (subst (AllKeep (IsNextSend w.topo)) c.deref.ensures.value c.in_default.ensures) (subst (AllKeep (IsNextAsk w.topo)) c.deref-2.ensures.value c.in_default-ask_fault.ensures) in
    ((λ e. lawful), (λ law. refl))
