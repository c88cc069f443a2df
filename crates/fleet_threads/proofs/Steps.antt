-- What a step makes of a node that is under way.
use Rattle.std.specs.Prelude.{is_some, nat_lt, Result, Ok, Err}
use Rattle.std.proofs.Common.{◌≡◌, ℕ, ◌+◌, ◌-◌, ◌<◌, ◌≤◌, ◌⊎◌, inl, inr, ⊎_elim, min, max, Bool, true, false, cond, not, ◌&&◌, ◌||◌, List, [], ◌∷◌, ◌++◌, length, refl, sym, subst, ◌∙◌, ap, arith}
use Rattle.std.specs.List.{Contains}
use Rattle.std.proofs.lemmas.Bool.{false≢true}
use Rattle.std.proofs.lemmas.List.{length_push}
use native.Mathlib.Decide.{dec_le}
use Rattle.atomic_table.specs.Seated.{TableId}
use Rattle.air_base.specs.declared.air.Send.{Send}
use Rattle.air_base.specs.declared.air.Heard.{Heard as HeardValue}
use Rattle.world_core.specs.declared.world.WorldFacts.{WorldFacts}
use Rattle.world_core.specs.Sends.{sends_below, IsSendNumber}
use Rattle.world_core.specs.Lawful.{IsLawful}
use Rattle.world_core.specs.Settled.{truth}
use Rattle.world_core.proofs.Counts.{sends_below-le}
use Rattle.neighbour_sync.specs.Seats.{NodeFacts, node_raised, node_stopped}
use Rattle.node_core.specs.declared.row.Row.{Row}
use Rattle.node_core.specs.State.{NodeState}
use Rattle.node_core.specs.Cycle.{node_kind}
use Rattle.world_core.specs.Order.{Fleet, facts_of, node_at}
use Rattle.world_core.proofs.OrderRows.{stopped_count}
use Rattle.world_core.proofs.OrderSteps.{asked}
use Rattle.neighbour_sync.specs.declared.answers.Behind.{Behind}
use Rattle.neighbour_sync.specs.declared.answers.SampleOutcome.{SampleOutcome}
use Rattle.neighbour_sync.specs.declared.answers.SampleOutcome.TheVariants.{Heard, Halted, NoMemory as NoAnswer}
use Rattle.node_runner.specs.declared.runner.Event.TheVariants.{Ask, Sent, Turn, Ended, NoMemory}
use Rattle.node_runner.specs.Scenario.{ScenarioOf, fleet_of}
use Rattle.node_runner.specs.Place.{Place, is_live, state_at, noted_of, sends_passed}
use Rattle.node_runner.specs.Event.{IsEvent}
use Rattle.node_runner.proofs.Sound.{sound, scenario_lawful}
use Rattle.world_core.specs.Kept.{epoch}
use Rattle.node_runner.specs.Flight.{IsAt, Advanced}
use Rattle.node_runner.proofs.Advance.{adv_answer, adv_turn, adv_ask, adv_ended, adv_sent, sent_early, noted_plain}
use Rattle.node_runner.proofs.Places.{live_taken, still_over, home}
use Rattle.fleet_threads.specs.declared.member.Member.{Member}
use Rattle.fleet_threads.specs.Answers.{HasLooked, IsAnswered, LooksOnce}
use Rattle.neighbour_sync.specs.Tries.{IsTried}
use Rattle.fleet_threads.specs.Member.{IsPlaced, IsUnderWay, word_of}
use Rattle.world_core.proofs.Ahead.{below_ahead}

-- ---- how far the word goes
pub word_still : (end : ℕ) (p : Place) → is_live end p ≡ false → word_of end p ≡ end
word_still end p e = ap (λ (b : Bool). cond b p.cycle end) e

below_case : (b : Bool) (d e : ℕ) → d ≤ e → cond b d e ≤ e
below_case true d e l = l
below_case false d e l = omega arith

either : (c d : ℕ) → Dec (d ≤ c) → (max c d ≡ c) ⊎ (max c d ≡ d)
either c d (yes h) = inl (omega arith)
either c d (no h) = inr (omega arith)

-- the cycles of a turn, at most, by the cycle at which it begins
pub turn_of : (end now cycle turn : ℕ) → cycle ≡ now → turn ≡ min (end - cycle) 1024 → turn ≡ min (end - now) 1024
turn_of end now cycle turn e is = is ∙ ap (λ (n : ℕ). min (end - n) 1024) e

-- whatever it is answered, a seat has looked at words
pub has_looked : (w : WorldFacts) (a b : NodeFacts) (s : ℕ) (r : Result SampleOutcome Behind) → IsAnswered w a s r b → HasLooked a b
has_looked w a b s (Ok (Heard h)) e = e.1
has_looked w a b s (Ok Halted) e = e
has_looked w a b s (Ok NoAnswer) e = e
has_looked w a b s (Err k) e = e

-- a try looks at the halt once
tried : (old new : NodeFacts) (n : ℕ) → new.halts ≡ old.halts ++ n ∷ [] → LooksOnce old new
tried old new n e = let a = ap length e in let b = length_push old.halts n in omega arith

pub tried_once : (w : WorldFacts) (old : NodeFacts) (s : ℕ) (r : Result SampleOutcome Behind) (new : NodeFacts) → IsTried w old s r new → LooksOnce old new
tried_once w old s (Ok (Heard h)) new e = tried old new 0 (ap (λ (n : NodeFacts). n.halts) e.1.2)
tried_once w old s (Ok Halted) new e = tried old new 1 (ap (λ (n : NodeFacts). n.halts) e)
tried_once w old s (Ok NoAnswer) new e = tried old new 0 (ap (λ (n : NodeFacts). n.halts) e.2)
tried_once w old s (Err k) new e = tried old new 0 (ap (λ (n : NodeFacts). n.halts) e.1.1)

-- the node whose sample is unanswered is live
pub asking_live : (end : ℕ) (p : Place) → p.asking ≡ true → is_live end p ≡ true
asking_live end p e = ap (λ (b : Bool). b || (not (is_some (state_at p).stop) && nat_lt p.cycle end)) e

module _ (t : TableId) (w : WorldFacts) (sc : ScenarioOf) (floor end : ℕ) (m : Member) (u : IsUnderWay t w sc floor end m) where
  abbrev p : Place
  p = m.runner

  abbrev f : Fleet NodeState Row
  f = fleet_of sc

  pub word_within : word_of end m.runner ≤ end
  word_within = below_case (is_live end p) p.cycle end u.place.at.within

  pub word_limit : word_of end m.runner ≤ w.topo.limit
  word_limit = let a = word_within in let b = u.epoch.within in let c = ap (λ (v : WorldFacts). v.topo.limit) u.epoch.world in omega arith

  here : sends_below (facts_of f).sends p.number p.cycle ≡ sends_passed m.runner
  here = ap (λ (z : ScenarioOf). sends_below (facts_of (fleet_of z)).sends p.number p.cycle) (sym u.place.at.scenario)

  over_here : is_live end p ≡ false → (is_some (node_at f p.number p.cycle).stop ≡ true) ⊎ (end ≤ p.cycle)
  over_here e = subst (λ (z : ScenarioOf). (is_some (node_at (fleet_of z) p.number p.cycle).stop ≡ true) ⊎ (end ≤ p.cycle)) u.place.at.scenario (still_over end p e)

  passed_case : (b : Bool) → is_live end p ≡ b → sends_below (facts_of f).sends p.number (cond b p.cycle end) ≤ sends_below (facts_of f).sends p.number p.cycle
  passed_case true e = omega arith
  passed_case false e =
      let inside = u.place.at.within in
      let lim = u.epoch.within in
      ⊎_elim
      (λ (stop : is_some (node_at f p.number p.cycle).stop ≡ true).
      let all = stopped_count f (sound sc u.epoch.sound) p.number p.cycle (omega arith) u.place.node (omega arith) stop in
      let le = sends_below-le (facts_of f).sends p.number end sc.topo.limit lim in
      omega arith)
      (λ (past : end ≤ p.cycle). let le = sends_below-le (facts_of f).sends p.number end p.cycle past in omega arith)
      (over_here e)

  -- below the cycle to which the node has come it sends no more than it has sent
  passed_word : sends_below w.sends m.air.number (word_of end m.runner) ≤ sends_passed m.runner
  passed_word =
      subst (λ (v : WorldFacts). sends_below v.sends m.air.number (word_of end m.runner) ≤ sends_passed m.runner) (sym u.epoch.world)
      (subst (λ (k : ℕ). sends_below (facts_of f).sends k (word_of end m.runner) ≤ sends_passed m.runner) (sym u.number)
      (let e = here in let h = passed_case (is_live end p) refl in omega arith))

  -- nor below the higher of two cycles below each of which it sends no more than that
  higher : (c : ℕ) → sends_below w.sends m.air.number c ≤ sends_passed m.runner → sends_below w.sends m.air.number (max c m.air.clock) ≤ sends_passed m.runner
  higher c h =
      ⊎_elim
      (λ (e : max c m.air.clock ≡ c). subst (λ (d : ℕ). sends_below w.sends m.air.number d ≤ sends_passed m.runner) (sym e) h)
      (λ (e : max c m.air.clock ≡ m.air.clock). subst (λ (d : ℕ). sends_below w.sends m.air.number d ≤ sends_passed m.runner) (sym e) u.passed)
      (either c m.air.clock (dec_le m.air.clock c))

  -- the word may be raised to where the node has come, and stays where it stands higher
  pub passed_raised : (c : ℕ) → c ≡ max (word_of end m.runner) m.air.clock → sends_below w.sends m.air.number c ≤ sends_passed m.runner
  passed_raised c e = subst (λ (d : ℕ). sends_below w.sends m.air.number d ≤ sends_passed m.runner) (sym e) (higher (word_of end m.runner) passed_word)

  -- and to the byte time behind its last send
  pub passed_ahead : (c sent : ℕ) → c ≤ max sent m.air.clock → sends_below w.sends m.air.number sent ≤ sends_passed m.runner → sends_below w.sends m.air.number c ≤ sends_passed m.runner
  passed_ahead c sent le h = let a = higher sent h in let b = sends_below-le w.sends m.air.number c (max sent m.air.clock) le in omega arith

  pub told_passed : (c : ℕ) → sends_below w.sends m.air.number c ≤ sends_passed m.runner → sends_below w.sends m.air.number c ≤ m.air.told
  told_passed c h = let a = u.told in omega arith

  -- the runner stays, and the seat has looked, raised its word or halted
  pub stays : (n : Member) → n.runner ≡ m.runner → n.gap ≡ m.gap → n.air.number ≡ m.air.number → n.air.table ≡ m.air.table → n.air.world ≡ m.air.world → m.air.told ≤ n.air.told → n.air.clock ≤ end
      → sends_below w.sends m.air.number n.air.clock ≤ sends_passed m.runner → IsUnderWay t w sc floor end n
  stays n r gap num tab wor told clock passed = record {
    epoch = u.epoch;
    place = subst (IsPlaced sc floor end) (sym r) u.place;
    number = num ∙ u.number ∙ ap (λ (q : Place). q.number) (sym r);
    table = tab ∙ u.table;
    world = wor ∙ u.world;
    told = subst (λ (q : Place). sends_passed q ≤ n.air.told) (sym r) (let a = u.told in omega arith);
    gap = gap ∙ u.gap;
    clock = clock;
    passed = subst (λ (q : Place). sends_below w.sends n.air.number n.air.clock ≤ sends_passed q) (sym r) (subst (λ (k : ℕ). sends_below w.sends k n.air.clock ≤ sends_passed m.runner) (sym num) passed);
  }

  -- the seat has looked at words
  pub looked : (n : Member) → n.runner ≡ m.runner → n.gap ≡ m.gap → HasLooked m.air n.air → IsUnderWay t w sc floor end n
  looked n r gap l =
      let clock = l.clock in
      let told = l.told in
      let inside = u.clock in
      stays n r gap l.number l.table l.world (omega arith) (omega arith) (subst (λ (k : ℕ). sends_below w.sends m.air.number k ≤ sends_passed m.runner) (sym clock) u.passed)

  -- it was told to halt
  pub stopped : (n : Member) → n.runner ≡ m.runner → n.gap ≡ m.gap → n.air ≡ node_stopped m.air → IsUnderWay t w sc floor end n
  stopped n r gap air =
      looked n r gap
      (record {
        table = ap (λ (a : NodeFacts). a.table) air;
        world = ap (λ (a : NodeFacts). a.world) air;
        number = ap (λ (a : NodeFacts). a.number) air;
        clock = ap (λ (a : NodeFacts). a.clock) air;
        told = ap (λ (a : NodeFacts). a.told) air;
      })

  -- its word was raised, not past the end
  pub raised : (n : Member) (c : ℕ) → n.runner ≡ m.runner → n.gap ≡ m.gap → n.air ≡ node_raised m.air c → c ≤ end → sends_below w.sends m.air.number c ≤ sends_passed m.runner → IsUnderWay t w sc floor end n
  raised n c r gap air le h =
      let clock : n.air.clock ≡ c = ap (λ (a : NodeFacts). a.clock) air in
      let told : n.air.told ≡ m.air.told = ap (λ (a : NodeFacts). a.told) air in
      stays n r gap (ap (λ (a : NodeFacts). a.number) air) (ap (λ (a : NodeFacts). a.table) air) (ap (λ (a : NodeFacts). a.world) air) (omega arith) (omega arith)
      (subst (λ (k : ℕ). sends_below w.sends m.air.number k ≤ sends_passed m.runner) (sym clock) h)

  -- ---- a live node
  module _ (live : is_live end m.runner ≡ true) where
    abbrev own : IsAt m.runner.scenario end m.runner.number m.runner
    own = record {
      scenario = refl;
      number = refl;
      noted = u.place.at.noted;
      within = u.place.at.within;
      early = u.place.at.early;
      asks = (λ e. subst (λ (z : ScenarioOf). node_kind.asks p.cycle (node_at (fleet_of z) p.number p.cycle) ≡ true) (sym u.place.at.scenario) (u.place.at.asks e));
    }

    pub from : (m.runner.since ≡ floor) × (floor ≤ m.runner.cycle)
    from = live_taken sc floor end p.number p u.place.at u.place.taken live

    -- the runner went on, and all that it has sent is told as posted
    pub moves : (n : Member) → IsAt m.runner.scenario end m.runner.number n.runner → n.runner.since ≡ m.runner.since → m.runner.cycle ≤ n.runner.cycle → sends_passed m.runner ≤ sends_passed n.runner → sends_passed n.runner ≤ n.air.told
        → n.gap ≡ m.gap → n.air.number ≡ m.air.number → n.air.table ≡ m.air.table → n.air.world ≡ m.air.world → n.air.clock ≡ m.air.clock → IsUnderWay t w sc floor end n
    moves n at since later more told gap num tab wor clock = record {
      epoch = u.epoch;
      place = record {
        node = (let e = at.number in let h = u.place.node in omega arith);
        at = record {
          scenario = at.scenario ∙ u.place.at.scenario;
          number = refl;
          noted = at.noted;
          within = at.within;
          early = at.early;
          asks = (λ e. home (λ z k. node_kind.asks n.runner.cycle (node_at (fleet_of z) k n.runner.cycle) ≡ true) p sc n.runner.number u.place.at.scenario (sym at.number) (at.asks e));
        };
        taken = inl (since ∙ from.0, (let a = from.1 in omega arith));
      };
      number = num ∙ u.number ∙ sym at.number;
      table = tab ∙ u.table;
      world = wor ∙ u.world;
      told = told;
      gap = gap ∙ u.gap;
      clock = (let a = u.clock in omega arith);
      passed = (let a = u.passed in let e : sends_below w.sends n.air.number n.air.clock ≡ sends_below w.sends m.air.number m.air.clock = (λ i. sends_below w.sends (num i) (clock i)) in omega arith);
    }

    -- a step that tells of no send
    same_sends : (q : Place) → q.unnoted ≡ false → noted_of q ≡ noted_of m.runner → sends_passed q ≡ sends_passed m.runner
    same_sends q e same = sym (noted_plain q e) ∙ same ∙ noted_plain m.runner u.place.at.noted

    went : (n : Member) (xs ys : List Send) → Advanced end m.runner xs n.runner ys → noted_of n.runner ≡ noted_of m.runner → n.air ≡ m.air → n.gap ≡ m.gap → IsUnderWay t w sc floor end n × (n.runner.number ≡ m.runner.number)
    went n xs ys adv count air gap =
        let tells : sends_passed n.runner ≡ sends_passed m.runner = same_sends n.runner adv.at.noted count in
        let told : n.air.told ≡ m.air.told = ap (λ (a : NodeFacts). a.told) air in
        let had = u.told in (
          moves n adv.at adv.since adv.later (omega arith) (omega arith) gap (ap (λ (a : NodeFacts). a.number) air) (ap (λ (a : NodeFacts). a.table) air) (ap (λ (a : NodeFacts). a.world) air) (ap (λ (a : NodeFacts). a.clock) air),
          adv.at.number,
        )

    lim : end ≤ m.runner.scenario.topo.limit
    lim = subst (λ (z : ScenarioOf). end ≤ z.topo.limit) (sym u.place.at.scenario) u.epoch.within

    -- ---- a turn
    some : 0 < 1024
    some = omega arith

    module _ (q : ℕ) (calm : m.runner.asking ≡ false) (q_is : q ≡ min (end - m.runner.cycle) 1024) where
      pub turned : (n : Member) (c : ℕ) → IsEvent m.runner q (Turn c) n.runner → noted_of n.runner ≡ noted_of m.runner → n.air ≡ m.air → n.gap ≡ m.gap → IsUnderWay t w sc floor end n × (n.runner.number ≡ m.runner.number)
      turned n c ev count air gap = went n [] [] (adv_turn end q m.runner [] lim own live 1024 some calm q_is c n.runner ev count) count air gap

      pub asks : (n : Member) → IsEvent m.runner q Ask n.runner → noted_of n.runner ≡ noted_of m.runner → n.air ≡ m.air → n.gap ≡ m.gap → IsUnderWay t w sc floor end n × (n.runner.number ≡ m.runner.number)
      asks n ev count air gap = went n [] [] (adv_ask end q m.runner [] lim own live 1024 some calm q_is n.runner ev count) count air gap

      pub ended : (n : Member) → IsEvent m.runner q Ended n.runner → noted_of n.runner ≡ noted_of m.runner → n.air ≡ m.air → n.gap ≡ m.gap → IsUnderWay t w sc floor end n × (n.runner.number ≡ m.runner.number)
      ended n ev count air gap = went n [] [] (adv_ended end q m.runner [] lim own live 1024 some calm q_is n.runner ev count) count air gap

      -- the turn was cut off for want of memory
      pub cut_off : (n : Member) → IsEvent m.runner q NoMemory n.runner → noted_of n.runner ≡ noted_of m.runner → n.air ≡ m.air → n.gap ≡ m.gap → IsUnderWay t w sc floor end n × (n.runner.number ≡ m.runner.number)
      cut_off n ev count air gap =
          let e : n.runner ≡ record m.runner { cycle = n.runner.cycle } = ev.0 in
          let off : n.runner.asking ≡ false = ap (λ (x : Place). x.asking) e ∙ calm in
          let plain : n.runner.unnoted ≡ false = ap (λ (x : Place). x.unnoted) e ∙ u.place.at.noted in
          let tells : sends_passed n.runner ≡ sends_passed m.runner = same_sends n.runner plain count in
          let told : n.air.told ≡ m.air.told = ap (λ (a : NodeFacts). a.told) air in
          let had = u.told in
          let most = ev.1 in
          let inside = u.place.at.within in (
            moves n
                (record {
                  scenario = ap (λ (x : Place). x.scenario) e;
                  number = ap (λ (x : Place). x.number) e;
                  noted = plain;
                  within = omega arith;
                  early = (λ x. absurd (false≢true (sym off ∙ x)));
                  asks = (λ x. absurd (false≢true (sym off ∙ x)));
                })
                (ap (λ (x : Place). x.since) e) ev.2.later (omega arith) (omega arith) gap (ap (λ (a : NodeFacts). a.number) air) (ap (λ (a : NodeFacts). a.table) air) (ap (λ (a : NodeFacts). a.world) air) (ap (λ (a : NodeFacts). a.clock) air),
            ap (λ (x : Place). x.number) e,
          )

      -- ---- a send
      module _ (x : Send) (mid : Place) (ev : IsEvent m.runner q (Sent x) mid) (count : noted_of mid ≡ noted_of m.runner) where
        pub own_send : x.node ≡ m.air.number
        own_send = ev.4 ∙ sym u.number

        pub next_send : (k : ℕ) → k ≡ noted_of mid → IsSendNumber w k x
        next_send k e =
            subst (λ (v : WorldFacts). IsSendNumber v k x) (sym u.epoch.world)
            (subst (λ (z : ScenarioOf). IsSendNumber (facts_of (fleet_of z)) k x) u.place.at.scenario
            (subst (λ (i : ℕ). IsSendNumber (facts_of (fleet_of m.runner.scenario)) i x) (sym (e ∙ count)) ev.5))

        pub early_send : x.cycle < floor + epoch
        early_send = let a = sent_early end q m.runner [] lim own live 1024 some calm q_is x mid ev in let b = u.epoch.span in omega arith

        pub sent : (n : Member) (k : ℕ) → k ≡ noted_of mid → n.runner ≡ record mid { unnoted = false } → noted_of n.runner ≡ noted_of mid + 1 → k < n.air.told → n.air ≡ record m.air { told = n.air.told } → n.gap ≡ m.gap
            → IsUnderWay t w sc floor end n × (n.runner.number ≡ m.runner.number)
        sent n k k_is e more told air gap =
            let adv = adv_sent end q m.runner [] lim own live 1024 some calm q_is x mid n.runner (x ∷ []) ev count e more refl in
            let plain : noted_of n.runner ≡ sends_passed n.runner = noted_plain n.runner adv.at.noted in
            let before : noted_of m.runner ≡ sends_passed m.runner = noted_plain m.runner u.place.at.noted in (
              moves n adv.at adv.since adv.later (omega arith) (omega arith) gap (ap (λ (a : NodeFacts). a.number) air) (ap (λ (a : NodeFacts). a.table) air) (ap (λ (a : NodeFacts). a.world) air) (ap (λ (a : NodeFacts). a.clock) air),
              adv.at.number,
            )

        -- in the byte time that begins with the send the node sends nothing more
        pub ahead : (n : Member) (k c : ℕ) → k ≡ noted_of mid → n.runner ≡ record mid { unnoted = false } → noted_of n.runner ≡ noted_of mid + 1 → k < n.air.told → n.air ≡ record m.air { told = n.air.told } → n.gap ≡ m.gap → c ≡ x.cycle
            → sends_below w.sends n.air.number (c + n.gap) ≤ sends_passed n.runner
        ahead n k c k_is e more told air gap c_is =
            let is = sent n k k_is e more told air gap in
            let plain : noted_of n.runner ≡ sends_passed n.runner = noted_plain n.runner is.0.place.at.noted in
            let span : n.gap ≡ w.topo.byte_time = gap ∙ u.gap ∙ ap (λ (v : WorldFacts). v.topo.byte_time) (sym u.epoch.world) in
            let law : IsLawful w = subst IsLawful (sym u.epoch.world) (scenario_lawful sc u.epoch.sound) in
            let own : n.air.number ≡ x.node = ap (λ (a : NodeFacts). a.number) air ∙ sym own_send in
            subst (λ (j : ℕ). sends_below w.sends j (c + n.gap) ≤ sends_passed n.runner) (sym own) (let h = below_ahead w k (c + n.gap) x law (next_send k k_is) (omega arith) in omega arith)

  -- ---- a sample
  module _ (on : m.runner.asking ≡ true) where
    on_live : is_live end m.runner ≡ true
    on_live = asking_live end m.runner on

    pub late : floor ≤ m.runner.cycle
    late = (from on_live).1

    pub asked_here : (c : ℕ) → c ≡ m.runner.cycle → Contains w.asks (record { node = m.air.number; cycle = c })
    asked_here c e =
        subst (λ (v : WorldFacts). Contains v.asks (record { node = m.air.number; cycle = c })) (sym u.epoch.world)
        (subst (λ (k : ℕ). Contains (facts_of f).asks (record { node = k; cycle = c })) (sym u.number)
        (subst (λ (s : ℕ). Contains (facts_of f).asks (record { node = m.runner.number; cycle = s })) (sym e)
        (asked f (sound sc u.epoch.sound) m.runner.number m.runner.cycle (omega arith) u.place.node (let a = u.place.at.early on in let b = u.epoch.within in omega arith) (u.place.at.asks on))))

    -- what was heard is what the whole order gives
    pub right : (h : HeardValue) (c : ℕ) → c ≡ m.runner.cycle → h ≡ truth w m.air.number c → h ≡ truth (facts_of (fleet_of m.runner.scenario)) m.runner.number m.runner.cycle
    right h c e is =
        is ∙ ap (λ (v : WorldFacts). truth v m.air.number c) u.epoch.world ∙ ap (λ (k : ℕ). truth (facts_of f) k c) u.number ∙ ap (truth (facts_of f) m.runner.number) e
        ∙ ap (λ (z : ScenarioOf). truth (facts_of (fleet_of z)) m.runner.number m.runner.cycle) (sym u.place.at.scenario)

    pub answered : (n : Member) → n.runner ≡ record m.runner { cycle = m.runner.cycle + 1; asking = false } → noted_of n.runner ≡ noted_of m.runner → n.air.number ≡ m.air.number → n.air.table ≡ m.air.table → n.air.world ≡ m.air.world
        → n.air.told ≡ m.air.told → n.air.clock ≡ m.air.clock → n.gap ≡ m.gap → IsUnderWay t w sc floor end n × (n.runner.number ≡ m.runner.number)
    answered n e count num tab wor told clock gap =
        let adv = adv_answer end 1 m.runner [] (lim on_live) (own on_live) on_live n.runner on e count in
        let tells : sends_passed n.runner ≡ sends_passed m.runner = same_sends on_live n.runner adv.at.noted count in
        let had = u.told in (moves on_live n adv.at adv.since adv.later (omega arith) (omega arith) gap num tab wor clock, adv.at.number)
