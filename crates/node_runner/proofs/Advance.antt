-- What one step of one runner is.
use Rattle.std.proofs.Common.{◌≡◌, ℕ, ◌+◌, ◌-◌, ◌*◌, ◌<◌, ◌≤◌, ◌⊎◌, inl, inr, ⊎_elim, min, Bool, true, false, cond, not, ◌&&◌, ◌||◌, List, [], ◌∷◌, ◌++◌, refl, sym, subst, ◌∙◌, ap, arith}
use Rattle.std.specs.Prelude.{nat_lt, is_some}
use Rattle.std.proofs.Math.Nat.{sub-zero}
use Rattle.std.proofs.lemmas.Bool.{false≢true}
use Rattle.std.proofs.lemmas.Bool.Decides.{nat_tests}
use Rattle.air_base.specs.declared.air.Send.{Send}
use Rattle.world_core.specs.Sends.{IsSendNumber}
use Rattle.world_core.specs.Order.{facts_of}
use Rattle.node_runner.specs.declared.runner.Event.TheVariants.{Ask, Sent, Turn, Ended}
use Rattle.node_runner.specs.Scenario.{fleet_of}
use Rattle.node_runner.specs.Place.{Place, HasEnded, is_live, state_at, noted_of, sends_passed}
use Rattle.node_runner.specs.Event.{IsEvent}
use Rattle.node_runner.specs.Flight.{IsAt, Advanced, rank}

bit : (b : Bool) → cond b 1 0 ≤ 1
bit true = omega arith
bit false = omega arith

at_true : (b : Bool) (x y : ℕ) → b ≡ true → cond b x y ≡ x
at_true b x y e = ap (λ (v : Bool). cond v x y) e

at_false : (b : Bool) (x y : ℕ) → b ≡ false → cond b x y ≡ y
at_false b x y e = ap (λ (v : Bool). cond v x y) e

below_case : (stopped : Bool) (c end : ℕ) → (not stopped && nat_lt c end) ≡ true → c < end
below_case false c end e = grind (arith, nat_tests)
below_case true c end e = absurd (false≢true e)

pub live_below : (end : ℕ) (p : Place) → is_live end p ≡ true → p.asking ≡ false → p.cycle < end
live_below end p e a = below_case (is_some (state_at p).stop) p.cycle end (sym (ap (λ (b : Bool). b || (not (is_some (state_at p).stop) && nat_lt p.cycle end)) a) ∙ e)

not_lt : (c end : ℕ) → end ≤ c → nat_lt c end ≡ false
not_lt c end l = grind (arith, nat_tests)

over_case : (stopped : Bool) (c end : ℕ) → (stopped ≡ true) ⊎ (end ≤ c) → (not stopped && nat_lt c end) ≡ false
over_case true c end h = refl
over_case false c end h = ⊎_elim (λ (e : false ≡ true). absurd (false≢true e)) (λ (l : end ≤ c). not_lt c end l) h

pub ended_over : (end : ℕ) (p : Place) → end ≤ p.scenario.topo.limit → HasEnded p → is_live end p ≡ false
ended_over end p l h =
    ap (λ (b : Bool). b || (not (is_some (state_at p).stop) && nat_lt p.cycle end)) h.calm
    ∙ over_case (is_some (state_at p).stop) p.cycle end (⊎_elim (λ (e : is_some (state_at p).stop ≡ true). inl e) (λ (e : p.cycle ≡ p.scenario.topo.limit). inr (omega arith)) h.over)

-- where nothing is unnoted, all sends that were passed are noted
pub noted_plain : (p : Place) → p.unnoted ≡ false → noted_of p ≡ sends_passed p
noted_plain p e = ap (λ (b : Bool). sends_passed p - cond b 1 0) e ∙ sub-zero (sends_passed p)

module _ (end q : ℕ) (old : Place) (before : List Send) (limit : end ≤ old.scenario.topo.limit) (at : IsAt old.scenario end old.number old) (live : is_live end old ≡ true) where
  -- the count after a step that notes nothing
  passed_same : (new n : Place) → new ≡ n → n.unnoted ≡ false → noted_of new ≡ noted_of old → sends_passed n ≡ sends_passed old
  passed_same new n e plain same = sym (noted_plain n plain) ∙ subst (λ (p : Place). noted_of p ≡ noted_of old) e same ∙ noted_plain old at.noted

  -- an answer
  pub adv_answer : (new : Place) → old.asking ≡ true → new ≡ record old { cycle = old.cycle + 1; asking = false } → noted_of new ≡ noted_of old → Advanced end old before new before
  adv_answer new on e same =
      let n : Place = record old { cycle = old.cycle + 1; asking = false } in
      let early = at.early on in
      let a = at_true old.asking 0 1 on in
      let b = at_true (is_live end old) 1 0 live in
      let d = bit (is_live end n) in
      subst (λ (p : Place). Advanced end old before p before) (sym e)
      (record {
        at = record { scenario = refl; number = refl; noted = at.noted; within = omega arith; early = (λ x. absurd (false≢true x)); asks = (λ x. absurd (false≢true x)) };
        since = refl;
        later = omega arith;
        posts = inl (record { sends = refl; count = passed_same new n e at.noted same });
        less = omega arith;
      })

  -- a turn of at most so many cycles
  module _ (most : ℕ) (some : 0 < most) (calm : old.asking ≡ false) (q_is : q ≡ min (end - old.cycle) most) where
    here : old.cycle < end
    here = live_below end old live calm

    was : rank end old ≡ 3 * (end - old.cycle) + 2
    was = let a = at_false old.asking 0 1 calm in let b = at_true (is_live end old) 1 0 live in omega arith

    pub adv_turn : (c : ℕ) (new : Place) → IsEvent old q (Turn c) new → noted_of new ≡ noted_of old → Advanced end old before new before
    adv_turn c new ev same =
        let n : Place = record old { cycle = c } in
        let a = at_false old.asking 0 1 calm in
        let d = bit (is_live end n) in
        let w = was in
        let h = here in
        let e = ev.1 in
        let l = ev.2.later in
        subst (λ (p : Place). Advanced end old before p before) (sym ev.0)
        (record {
          at = record { scenario = refl; number = refl; noted = at.noted; within = omega arith; early = (λ x. absurd (false≢true (sym calm ∙ x))); asks = (λ x. absurd (false≢true (sym calm ∙ x))) };
          since = refl;
          later = l;
          posts = inl (record { sends = refl; count = passed_same new n ev.0 at.noted same });
          less = omega arith;
        })

    pub adv_ask : (new : Place) → IsEvent old q Ask new → noted_of new ≡ noted_of old → Advanced end old before new before
    adv_ask new ev same =
        let n : Place = record old { cycle = new.cycle; asking = true } in
        let d = bit (is_live end n) in
        let w = was in
        let h = here in
        let e = ev.1 in
        let l = ev.2.later in
        subst (λ (p : Place). Advanced end old before p before) (sym ev.0)
        (record {
          at = record { scenario = refl; number = refl; noted = at.noted; within = omega arith; early = (λ x. omega arith); asks = (λ x. ev.4) };
          since = refl;
          later = l;
          posts = inl (record { sends = refl; count = passed_same new n ev.0 at.noted same });
          less = omega arith;
        })

    pub adv_ended : (new : Place) → IsEvent old q Ended new → noted_of new ≡ noted_of old → Advanced end old before new before
    adv_ended new ev same =
        let n : Place = record old { cycle = new.cycle } in
        let a = at_false old.asking 0 1 calm in
        let over : is_live end n ≡ false = subst (λ (p : Place). is_live end p ≡ false) ev.0 (ended_over end new (subst (λ (p : Place). end ≤ p.scenario.topo.limit) (sym ev.0) limit) ev.3) in
        let d = at_false (is_live end n) 1 0 over in
        let w = was in
        let h = here in
        let e = ev.1 in
        let l = ev.2.later in
        subst (λ (p : Place). Advanced end old before p before) (sym ev.0)
        (record {
          at = record { scenario = refl; number = refl; noted = at.noted; within = omega arith; early = (λ x. absurd (false≢true (sym calm ∙ x))); asks = (λ x. absurd (false≢true (sym calm ∙ x))) };
          since = refl;
          later = l;
          posts = inl (record { sends = refl; count = passed_same new n ev.0 at.noted same });
          less = omega arith;
        })

    -- what the push of a send asks
    pub sent_early : (x : Send) (mid : Place) → IsEvent old q (Sent x) mid → x.cycle < end
    sent_early x mid ev = let h = here in let e = ev.1 in omega arith

    pub sent_number : (x : Send) (mid : Place) → IsEvent old q (Sent x) mid → IsSendNumber (facts_of (fleet_of old.scenario)) (sends_passed old) x
    sent_number x mid ev = subst (λ (m : ℕ). IsSendNumber (facts_of (fleet_of old.scenario)) m x) (noted_plain old at.noted) ev.5

    pub adv_sent : (x : Send) (mid new : Place) (after : List Send) → IsEvent old q (Sent x) mid → noted_of mid ≡ noted_of old → new ≡ record mid { unnoted = false } → noted_of new ≡ noted_of mid + 1 → after ≡ before ++ x ∷ [] → Advanced end old before new after
    adv_sent x mid new after ev same e more g =
        let n : Place = record old { cycle = x.cycle + 1; unnoted = false } in
        let is : new ≡ n = e ∙ ap (λ (p : Place). record p { unnoted = false }) ev.0 in
        let a = at_false old.asking 0 1 calm in
        let d = bit (is_live end n) in
        let w = was in
        let h = here in
        let l = ev.2.later in
        let early = ev.1 in
        subst (λ (p : Place). Advanced end old before p after) (sym is)
        (record {
          at = record { scenario = refl; number = refl; noted = refl; within = omega arith; early = (λ y. absurd (false≢true (sym calm ∙ y))); asks = (λ y. absurd (false≢true (sym calm ∙ y))) };
          since = refl;
          later = omega arith;
          posts = inr (record {
            send = x;
            sends = g;
            node = ev.4;
            number = sent_number x mid ev;
            early = sent_early x mid ev;
            count = sym (noted_plain n refl) ∙ subst (λ (p : Place). noted_of p ≡ noted_of mid + 1) is more ∙ ap (λ (m : ℕ). m + 1) (same ∙ noted_plain old at.noted);
          });
          less = omega arith;
        })
