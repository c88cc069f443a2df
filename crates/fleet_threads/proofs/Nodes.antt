-- The nodes of an epoch, as one after another is begun and comes back.
use Rattle.std.proofs.Common.{◌≡◌, ℕ, ◌+◌, ◌<◌, ◌≤◌, [], ◌∷◌, ◌++◌, Some, length, vec_len, vec_capacity, refl, sym, subst, ◌∙◌, ap, arith, rules, append-nil}
use Rattle.std.specs.Prelude.{Vec}
use Rattle.std.specs.List.{All}
use Rattle.std.specs.declared.alloc.Global.{Global}
use Rattle.std.proofs.lemmas.List.{same_from_push}
use Rattle.std.proofs.lemmas.List.Elements.{All-pop, All-push}
use Rattle.atomic_table.specs.Seated.{TableId}
use Rattle.world_core.specs.declared.world.WorldFacts.{WorldFacts}
use Rattle.node_runner.specs.Scenario.{ScenarioOf}
use Rattle.fleet_threads.specs.declared.member.Member.{Member}
use Rattle.fleet_threads.specs.Member.{IsUnderWay, IsBack, numbers}
use Rattle.fleet_threads.specs.Nodes.{IsHanded, AreBegun, AreBack}
use Rattle.fleet_threads.proofs.Lists.{pushed, not_emptied, emptied}

-- a list of no nodes
pub all_of_none : (P : Member → Type 0) (v : Vec Member Global) → vec_len v ≡ 0 → All P v.items
all_of_none P v e = let l : length v.items ≡ vec_len v = search rules in λ k d lt. absurd (omega arith)

module _ (t : TableId) (w : WorldFacts) (sc : ScenarioOf) (floor end : ℕ) where
  -- before the first is begun
  pub begun : (ms ws : Vec Member Global) → All (IsUnderWay t w sc floor end) ms.items → vec_len ws ≡ 0 → vec_len ms ≤ vec_capacity ws → AreBegun t w sc floor end ms ws
  begun ms ws all none room = record { members = all; waiting = all_of_none (IsUnderWay t w sc floor end) ws none; places = omega arith }

  -- by the clauses of `pop`: no node is to be begun, and the others have come to the end
  pub all_begun : (ms ws ns us : Vec Member Global) → ms.items ≡ ns.items ++ [] → (vec_len ms ≡ 0) × (vec_len ns ≡ 0) → vec_capacity ns ≡ vec_capacity ms → All (IsBack t w sc floor end) us.items → numbers us.items ≡ numbers ws.items
      → AreBack t w sc floor end ms ws ns us
  all_begun ms ws ns us same none cap all e = record {
    all = all_of_none (IsBack t w sc floor end) ns none.1;
    order = ap numbers (sym (same ∙ append-nil ns.items));
    len = none.1 ∙ sym none.0;
    kept = cap;
    rest = all;
    others = e;
  }

  -- no node is left to be begun, and none is without a thread
  pub nobody_left : (ns ws : Vec Member Global) → ns.items ≡ [] → ws.items ≡ [] → AreBack t w sc floor end ns ws ns ws
  nobody_left ns ws none nobody = record {
    all = subst (All (IsBack t w sc floor end)) (sym none) (λ k d lt. absurd (omega arith));
    order = refl;
    len = refl;
    kept = refl;
    rest = subst (All (IsBack t w sc floor end)) (sym nobody) (λ k d lt. absurd (omega arith));
    others = refl;
  }

  -- by the clauses of `pop`: the node m is taken
  module _ (ms ws ns : Vec Member Global) (m : Member) (b : AreBegun t w sc floor end ms ws) (e : ms.items ≡ ns.items ++ m ∷ []) (n : vec_len ns + 1 ≡ vec_len ms) (cap : vec_capacity ns ≡ vec_capacity ms) where
    each : All (IsUnderWay t w sc floor end) ns.items × IsUnderWay t w sc floor end m
    each = All-pop (IsUnderWay t w sc floor end) ms.items ns.items (Some m) e b.members

    pub next_under_way : IsUnderWay t w sc floor end m
    next_under_way = each.1

    pub next_begun : AreBegun t w sc floor end ns ws
    next_begun = record { members = each.0; waiting = b.waiting; places = (let p = b.places in omega arith) }

    -- what was taken from the list finds room there again
    room : (us : Vec Member Global) → vec_len us ≡ vec_len ns → vec_capacity us ≡ vec_capacity ns → vec_len us < vec_capacity us
    room us long wide = let fits : vec_len ms ≤ vec_capacity ms = search rules in omega arith

    put : (us zs ys : Vec Member Global) (x : Member) → vec_len us ≡ vec_len ns → vec_capacity us ≡ vec_capacity ns → numbers us.items ≡ numbers ns.items → All (IsBack t w sc floor end) us.items
        → All (IsBack t w sc floor end) ys.items → numbers ys.items ≡ numbers ws.items
        → IsBack t w sc floor end x → x.runner.number ≡ m.runner.number → zs.items ≡ us.items ++ x ∷ [] → vec_len zs ≡ vec_len us + 1 → vec_capacity zs ≡ vec_capacity us → AreBack t w sc floor end ms ws zs ys
    put us zs ys x long wide order all rest others back num more len kept = record {
      all = subst (All (IsBack t w sc floor end)) (sym more) (All-push (IsBack t w sc floor end) us.items x all back);
      order = pushed us.items zs.items x more ∙ (λ i. order i ++ num i ∷ []) ∙ sym (pushed ns.items ms.items m e);
      len = omega arith;
      kept = kept ∙ wide ∙ cap;
      rest = rest;
      others = others;
    }

    -- it has a thread: the others come back, and then it
    module _ (us vs : Vec Member Global) (a : AreBack t w sc floor end ns ws us vs) where
      pub put_room : vec_len us < vec_capacity us
      put_room = room us a.len a.kept

      pub put_back : (zs : Vec Member Global) (x : Member) → IsBack t w sc floor end x → x.runner.number ≡ m.runner.number → zs.items ≡ us.items ++ x ∷ [] → vec_len zs ≡ vec_len us + 1 → vec_capacity zs ≡ vec_capacity us
          → AreBack t w sc floor end ms ws zs vs
      put_back zs x back num more len kept = put us zs vs x a.len a.kept a.order a.all a.rest a.others back num more len kept

    -- it has none: it stands behind those that have none either
    pub wait_room : vec_len ws < vec_capacity ws
    wait_room = let p = b.places in omega arith

    module _ (h : Member) (qs : Vec Member Global) (more : qs.items ≡ ws.items ++ h ∷ []) (len : vec_len qs ≡ vec_len ws + 1) (kept : vec_capacity qs ≡ vec_capacity ws) where
      pub wait_begun : IsHanded t w sc floor end m.runner.number h → AreBegun t w sc floor end ns qs
      wait_begun is = record {
        members = each.0;
        waiting = subst (All (IsUnderWay t w sc floor end)) (sym more) (All-push (IsUnderWay t w sc floor end) ws.items h b.waiting is.is);
        places = (let p = b.places in omega arith);
      }

      -- the others come back, and the last of those that have none is this node
      module _ (us vs : Vec Member Global) (a : AreBack t w sc floor end ns qs us vs) where
        pub last_room : vec_len us < vec_capacity us
        last_room = room us a.len a.kept

        pub last_there : (vec_len vs ≡ 0) → ⊥
        last_there none = not_emptied (numbers ws.items) h.runner.number (sym (emptied vs.items (let l : length vs.items ≡ vec_len vs = search rules in omega arith)) ∙ a.others ∙ pushed ws.items qs.items h more)

        pub last_back : (ys zs : Vec Member Global) (x : Member) → h.runner.number ≡ m.runner.number → vs.items ≡ ys.items ++ x ∷ [] → zs.items ≡ us.items ++ x ∷ [] → vec_len zs ≡ vec_len us + 1 → vec_capacity zs ≡ vec_capacity us → AreBack t w sc floor end ms ws zs ys
        last_back ys zs x num left on long wide =
            let back = All-pop (IsBack t w sc floor end) vs.items ys.items (Some x) left a.rest in
            let same = same_from_push (numbers ys.items) (numbers ws.items) x.runner.number h.runner.number (sym (pushed ys.items vs.items x left) ∙ a.others ∙ pushed ws.items qs.items h more) in
            put us zs ys x a.len a.kept a.order a.all back.0 same.0 back.1 (same.1 ∙ num) on long wide
