use Rattle.std.proofs.Common.{◌≡◌, List, ◌∷◌, [], ◌++◌, map, ap, ◌∙◌, sym, subst, arith, rules}
use Rattle.std.specs.List.{All}
use Rattle.std.proofs.lemmas.List.{map_push}
use Rattle.std.proofs.lemmas.List.Elements.{All-push}
use Rattle.fleet_threads.specs.declared.member.Member.{Member}
use Rattle.fleet_threads.specs.Run.{IsFirst, air_of}
use Rattle.fleet_threads.proofs.run.add_members.Goals as goal

pub loop-air-preserved : goal.loop-air-preserved
loop-air-preserved c =
    let ms : List Member = c.loop-air.members.items in
    let new : Member = c.in_ok-member.member in
    let pushed : c.push.new.self.items ≡ ms ++ new ∷ [] = search rules in
    record {
      airs = ap (map air_of) pushed ∙ map_push air_of ms new ∙ (λ i. c.loop-air.invariant.airs i ++ c.in_ok-member.ensures.0 i ∷ []);
      first = subst (λ (l : List Member). All (IsFirst c.args.scenario.now) l) (sym pushed) (All-push (IsFirst c.args.scenario.now) ms new c.loop-air.invariant.first c.in_ok-member.ensures.1);
    }

pub loop-air-init : goal.loop-air-init
loop-air-init c = record { airs = ap (map air_of) c.requires.empty; first = subst (λ (l : List Member). All (IsFirst c.args.scenario.now) l) (sym c.requires.empty) (λ k d lt. absurd (omega arith)) }

pub returns-clause-first : goal.returns-clause-first
returns-clause-first c = c.loop-air.invariant.first
