use Rattle.std.proofs.Common.{◌≡◌, ◌<◌, ◌==◌, ◌++◌, [], ◌∷◌, length, sym, subst, ap, ◌∙◌, rules}
use Rattle.std.specs.Prelude.{slice_index_or}
use Rattle.std.specs.List.{All}
use Rattle.std.proofs.lemmas.List.{get_or_default}
use Rattle.std.proofs.lemmas.List.Elements.{All-filter, All-push}
use Rattle.node_places.specs.declared.Place.{Place}
use Rattle.fleet_flight.specs.Shadows.{IsNew, IsSpot}
use Rattle.fleet_flight.specs.Watched.{Group}
use Rattle.fleet_flight.specs.declared.shadow.Shadow.{Shadow}
use Rattle.fleet_flight.proofs.begun.put_shadow.Goals as goal

pub shadow_of-requires-clause-spots : goal.shadow_of-requires-clause-spots
shadow_of-requires-clause-spots c =
    subst (All (λ (p : Place). IsSpot p.spot)) (sym c.in_ok-own.ensures) (All-filter (λ (p : Place). p.node == c.args.number) (λ (p : Place). IsSpot p.spot) c.args.places.now c.requires.spots)

pub returns-clause-each : goal.returns-clause-each
returns-clause-each c =
    let s : Shadow = c.in_ok-shadow.shadow in
    let e = c.in_ok-shadow.ensures in
    let pushed : c.push.new.self.items ≡ c.args.shadows.now.items ++ s ∷ [] = search rules in
    let from : c.from.result ≡ c.args.number = search rules in
    let number : s.number ≡ c.args.number = ap (λ (g : Group). g.node) e.group in
    let lt : s.number < length c.args.nodes.now = subst (λ n. n < length c.args.nodes.now) (sym number) c.requires.within in
    subst (All (IsNew c.args.nodes.now)) (sym pushed)
    (All-push (IsNew c.args.nodes.now) c.args.shadows.now.items s c.requires.each
    (record {
      shadow = e.shadow;
      within = lt;
      node = (λ d. e.node ∙ (c.index-nodes-from.is ∙ (ap (λ n. slice_index_or c.args.nodes.now n c.index-nodes-from.result) from ∙ get_or_default c.args.nodes.now c.args.number c.index-nodes-from.result d c.requires.within ∙ ap (λ n. slice_index_or c.args.nodes.now n d) (sym number))));
    }))
