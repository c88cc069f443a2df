-- What the running calls make of words and record is what the machine's moves make of the state that these show.
use Rattle.std.proofs.Common.{◌≡◌, ℕ, suc, ◌+◌, ◌-◌, ◌<◌, ◌≤◌, inl, true, List, [], ◌∷◌, ◌++◌, length, get_or, set, refl, sym, subst, ◌∙◌, ap, arith, length-set}
use Rattle.std.specs.List.{Contains}
use Rattle.std.specs.Prelude.{slice_index}
use Rattle.std.proofs.lemmas.Bool.{false≢true}
use Rattle.std.proofs.lemmas.List.{set-get_or}
use Rattle.std.proofs.lemmas.List.Elements.{All-push, Contains-append_right}
use mathlib.Core.Option.{some, some-injective}
use lib.ListN.{get_elem?}
use native.Mathlib.Decide.{ℕ_discrete, dec_le}
use Rattle.air_base.specs.declared.air.Send.{Send}
use Rattle.air_base.specs.declared.air.Heard.{Heard as HeardValue}
use Rattle.world_core.specs.Topology.{Topology, is_linked, is_needed, is_reached_in, latency_of, place_in}
use Rattle.world_core.specs.Heard.{heard}
use Rattle.world_core.specs.Sends.{sends_below, sends_of, IsSendNumber}
use Rattle.world_core.specs.Posted.{sent_of, AllPostedFor}
use Rattle.world_core.specs.Settled.{truth}
use Rattle.world_core.specs.Kept.{epoch, IsPostedTo}
use Rattle.world_core.specs.Lawful.{IsLawful}
use Rattle.world_core.specs.Consistent.{clock_of}
use Rattle.world_core.specs.Steps.{AllPassed, MayCut, MayPost, MayRaise, MaySample, after_cut, after_post, after_raise, after_sample}
use Rattle.world_core.proofs.Links.{not_linked}
use Rattle.world_core.proofs.Records.{in_nodes, record_right}
use Rattle.world_core.proofs.Steps.{next_one, reached_by, sent_le}
use Rattle.neighbour_sync.specs.declared.rule.View.{View}
use Rattle.neighbour_sync.specs.declared.answers.Posted.TheVariants.{Added}
use Rattle.neighbour_sync.specs.Layout.{clock_at, sent_at}
use Rattle.neighbour_sync.specs.Looks.{IsSeenPast, AreSeenPast}
use Rattle.neighbour_sync.specs.Record.{AirRecord, IsHeard, IsPost, cut_at, with_loads, with_sample, with_send}
use Rattle.neighbour_sync.specs.Rule.{KeepsRule}
use Rattle.neighbour_sync.specs.Shows.{shown, AreAlike, AreRisen, AreShown, after_step}
use Rattle.neighbour_sync.specs.Steps.{with_clock, with_load, with_sent}
use Rattle.neighbour_sync.proofs.AirSteps.{counted, each_sent, look_kept}
use Rattle.neighbour_sync.proofs.Keeps.{cut_sound, posted_sound, sampled_sound}
use Rattle.neighbour_sync.proofs.NodeSteps.{follows_keep, raised as follows}
use Rattle.neighbour_sync.proofs.Reached.{among, left_of}
use Rattle.neighbour_sync.proofs.Shown.{consistent}
use Rattle.neighbour_sync.proofs.Views.{Table, seat_inside}
use Rattle.neighbour_sync.proofs.Words.{here, beside}

-- ---- raise
clock_case : (words clocks : List ℕ) (k c j : ℕ) → clock_at k < length words → k < length clocks → slice_index clocks j ≡ slice_index words (clock_at j) → Dec (j ≡ k)
    → slice_index (set clocks k c) j ≡ slice_index (set words (clock_at k) c) (clock_at j)
clock_case words clocks k c j room lt old (yes e) =
    subst (λ (m : ℕ). slice_index (set clocks k c) m ≡ slice_index (set words (clock_at k) c) (clock_at m)) (sym e) (here clocks k c lt ∙ sym (here words (clock_at k) c room))
clock_case words clocks k c j room lt old (no d) = beside clocks k j c d ∙ old ∙ sym (beside words (clock_at k) (clock_at j) c (λ q. d (omega arith)))

pub raised : (s : Table) (r : AirRecord) (clocks : List ℕ) (k c : ℕ) (v : View) → AreShown s r clocks → get_elem? s.views (suc k) ≡ some v → v.clock ≤ c → c ≤ r.world.topo.limit → sends_below r.world.sends k c ≤ v.told
    → MayRaise (shown r clocks) k c × AreShown (after_step s (clock_at k) c (suc k) (with_clock v c)) r (set clocks k c) × (shown r (set clocks k c) ≡ after_raise (shown r clocks) k c)
raised s r clocks k c v a at rises within told =
    let w = r.world in
    let n = w.topo.nodes in
    let h = a.rule in
    let lt = seat_inside w s k v h at in
    let node = h.nodes k v at in
    let at' : get_elem? s.views (suc v.number) ≡ some v = subst (λ (m : ℕ). get_elem? s.views (suc m) ≡ some v) (sym node.number) at in
    let told' : sends_below w.sends v.number c ≤ v.told = subst (λ (m : ℕ). sends_below w.sends m c ≤ v.told) (sym node.number) told in
    let kept = follows_keep w s v (with_clock v c) (set s.words (clock_at v.number) c) h at' (follows w s v c h at' node.is_node within told') in
    let rule : KeepsRule w (after_step s (clock_at k) c (suc k) (with_clock v c)) = subst (λ (m : ℕ). KeepsRule w (after_step s (clock_at m) c (suc m) (with_clock v c))) node.number kept in
    let stood : clock_of clocks k ≡ v.clock = a.clocks_are k lt ∙ node.clock in
    let rises' : clock_of clocks k ≤ c = omega arith in
    let posted : sends_below w.sends k c ≤ sent_of r.sent k = let x = node.told in let y = a.counts_are k lt in omega arith in
    let room : clock_at k < length s.words = let x = h.words in omega arith in
    let inside : k < length clocks = let x = a.nodes in omega arith in
    let shows : AreShown (after_step s (clock_at k) c (suc k) (with_clock v c)) r (set clocks k c) = record {
      rule = rule;
      sound = a.sound;
      nodes = length-set clocks k c ∙ a.nodes;
      clocks_are = λ j jt. clock_case s.words clocks k c j room inside (a.clocks_are j jt) (ℕ_discrete j k);
      counts_are = λ j jt. a.counts_are j jt ∙ sym (beside s.words (clock_at k) (sent_at n j) c (λ q. absurd (omega arith)));
      risen = λ i d it. let x = a.risen i d it in let y = sent_le clocks k c (get_or r.loads i d).0 inside rises' in omega arith;
    } in
    (record { node = lt; rises = rises'; within = within; posted = posted }, shows, refl)

-- ---- post
pub posted : (s : Table) (r new : AirRecord) (clocks : List ℕ) (x : Send) (n : ℕ) (v : View) → AreShown s r clocks → get_elem? s.views 0 ≡ some v → IsSendNumber r.world n x → x.cycle < r.floor + epoch → IsPost r x n Added new
    → MayPost (shown r clocks) x.node × AreShown (after_step s (sent_at r.world.topo.nodes x.node) (sent_of r.sent x.node + 1) 0 (with_sent v x.node)) new clocks × (shown new clocks ≡ after_post (shown r clocks) x.node)
posted s r new clocks x m v a at next early is =
    let w = r.world in
    let n = w.topo.nodes in
    let k = x.node in
    let i = sent_at n k in
    let c = sent_of r.sent k + 1 in
    let h = a.rule in
    let due : IsSendNumber w (sent_of r.sent k) x = subst (λ (y : ℕ). IsSendNumber w y x) (sym is.0) next in
    let lt : k < n = in_nodes w (sent_of r.sent k) x a.sound.lawful due in
    let view : h.air ≡ v = some-injective h.air v (sym h.first ∙ at) in
    let count : sent_of h.air.sent k ≡ sent_of r.sent k = sym (h.counts k lt) ∙ sym (a.counts_are k lt) in
    let further : sent_of h.air.sent k < length (sends_of k w.sends) = let y = due.0 in omega arith in
    let rule : KeepsRule w (after_step s i c 0 (with_sent v k)) =
    subst (λ (u : View). KeepsRule w (after_step s i c 0 (with_sent u k))) view
    (subst (λ (y : ℕ). KeepsRule w (after_step s i (y + 1) 0 (with_sent h.air k))) count (counted w s k h lt further)) in
    let room : i < length s.words = let y = h.words in omega arith in
    let inside : k < length r.sent = let y = a.sound.recorded.nodes in omega arith in
    let shows : AreShown (after_step s i c 0 (with_sent v k)) (with_send r x) clocks = record {
      rule = rule;
      sound = posted_sound r x a.sound due early;
      nodes = a.nodes;
      clocks_are = λ j jt. a.clocks_are j jt ∙ sym (beside s.words i (clock_at j) c (λ q. absurd (omega arith)));
      counts_are = λ j jt. sym (each_sent s.words r.sent n k j room inside (sym (a.counts_are j jt)) (ℕ_discrete j k));
      risen = a.risen;
    } in (
      due.0,
      subst (λ (q : AirRecord). AreShown (after_step s i c 0 (with_sent v k)) q clocks) (sym is.1) shows,
      ap (λ (q : AirRecord). shown q clocks) is.1
          ∙ ap (λ (l : List Send). record (shown r clocks) { sent = set r.sent k c; sends = r.sends ++ l })
          (sym (next_one (sends_of k w.sends) (sent_of r.sent k) x due.0 due.1)),
    )

-- ---- the record's seat loads a clock
pub loaded : (s : Table) (r : AirRecord) (clocks : List ℕ) (k : ℕ) (v : View) → AreShown s r clocks → get_elem? s.views 0 ≡ some v → k < r.world.topo.nodes
    → AreShown (after_step s (clock_at k) (slice_index s.words (clock_at k)) 0 (with_load v k (slice_index s.words (clock_at k)))) (with_loads r ((k, slice_index s.words (clock_at k)) ∷ [])) clocks
loaded s r clocks k v a at lt =
    let w = r.world in
    let h = a.rule in
    let i = clock_at k in
    let c = slice_index s.words i in
    let view : h.air ≡ v = some-injective h.air v (sym h.first ∙ at) in
    let u = with_load v k c in
    let kept : KeepsRule w record { words = s.words; homes = s.homes; views = set s.views 0 u } =
    subst (λ (x : View). KeepsRule w record { words = s.words; homes = s.homes; views = set s.views 0 (with_load x k c) }) view (look_kept w s k c h) in
    let now : c ≤ clock_of clocks k = let x = a.clocks_are k lt in omega arith in
    subst (λ (ws : List ℕ). AreShown record { words = ws; homes = s.homes; views = set s.views 0 u } (with_loads r ((k, c) ∷ [])) clocks) (sym (set-get_or s.words i 0)) record {
      rule = kept;
      sound = record { lawful = a.sound.lawful; recorded = a.sound.recorded; early = a.sound.early; within = a.sound.within };
      nodes = a.nodes;
      clocks_are = a.clocks_are;
      counts_are = a.counts_are;
      risen = All-push (λ x. x.1 ≤ clock_of clocks x.0) r.loads (k, c) a.risen now;
    }

-- ---- sample
linked : (t : Topology) (j c k : ℕ) → is_needed t k j c ≡ true → is_linked t k j ≡ true
linked t j c k needed = left_of (is_linked t k j) (is_reached_in t.spans (place_in t.links k j) (latency_of t k j) t.byte_time c) needed

risen_past : (clocks : List ℕ) (loads : List (ℕ × ℕ)) (k n : ℕ) → AreRisen loads clocks → Contains loads (k, n) → n ≤ clock_of clocks k
risen_past clocks loads k n risen at = subst (λ (x : ℕ × ℕ). x.1 ≤ clock_of clocks x.0) at.2 (risen at.0 (k, n) at.1)

-- a node that may be heard is a neighbour: its clock was loaded past what may be heard of it, and has only risen since
passed_case : (r : AirRecord) (clocks : List ℕ) (more : List (ℕ × ℕ)) (j c k : ℕ) → IsLawful r.world → AreRisen (r.loads ++ more) clocks → AreSeenPast r.world j c more → is_needed r.world.topo k j c ≡ true → Dec (r.world.topo.nodes ≤ k)
    → c - latency_of r.world.topo k j < clock_of clocks k
passed_case r clocks more j c k law risen past needed (yes d) = absurd (false≢true (not_linked r.world.topo k j law.topo (inl d) ∙ linked r.world.topo j c k needed))
passed_case r clocks more j c k law risen past needed (no d) =
    let seen = among (IsSeenPast r.world j c more) r.world.topo j r.world.topo.nodes k past (omega arith) (linked r.world.topo j c k needed) needed in
    let le = risen_past clocks (r.loads ++ more) k seen.0 risen (Contains-append_right r.loads more (k, seen.0) seen.2) in
    let lt = seen.1 in omega arith

pub sampled : (s : Table) (r new : AirRecord) (clocks : List ℕ) (j c : ℕ) (h : HeardValue) (more : List (ℕ × ℕ)) → AreShown s (with_loads r more) clocks → Contains r.world.asks record { node = j; cycle = c } → r.floor ≤ c → IsHeard r j c h more new
    → MaySample (shown r clocks) j c × AreShown s new clocks × (shown new clocks ≡ after_sample (shown r clocks) j c)
sampled s r new clocks j c h more a asked late is =
    let w = r.world in
    let i = consistent s (with_loads r more) clocks a in
    let passed : AllPassed (shown r clocks) j c = λ k needed. passed_case r clocks more j c k i.lawful a.risen is.past needed (dec_le w.topo.nodes k) in
    let reached : AllPostedFor w r.sent j c = reached_by w r.sent clocks j c i.lawful i.passed (λ k _ n. passed k n) in
    let right : heard w.topo r.sends j c ≡ truth w j c = record_right w r.floor r.sent r.sends r.samples j c i.lawful i.recorded late reached in
    let value : h ≡ heard w.topo r.sends j c = is.right ∙ sym right in
    let sound = sampled_sound (with_loads r more) j c h a.sound asked late reached value in
    let shows : AreShown s (with_sample (with_loads r more) j c h) clocks = record {
      rule = a.rule;
      sound = sound;
      nodes = a.nodes;
      clocks_are = a.clocks_are;
      counts_are = a.counts_are;
      risen = a.risen;
    } in (
      record { asked = asked; kept = late; passed = passed },
      subst (λ (q : AirRecord). AreShown s q clocks) (sym is.recorded) shows,
      ap (λ (q : AirRecord). shown q clocks) is.recorded
          ∙ ap (λ (v : HeardValue). record (shown r clocks) { samples = r.samples ++ (record { node = j; cycle = c }, v) ∷ [] }) value,
    )

-- ---- cut
pub cut : (s : Table) (r : AirRecord) (clocks : List ℕ) (f : ℕ) (more : List (ℕ × ℕ)) → AreShown s (with_loads r more) clocks → r.floor ≤ f → f ≤ r.world.topo.limit → IsPostedTo r.world f r.sent
    → MayCut (shown r clocks) f × AreShown s (cut_at (with_loads r more) f) clocks × (shown (cut_at (with_loads r more) f) clocks ≡ after_cut (shown r clocks) f)
cut s r clocks f more a rises within below =
    let shows : AreShown s (cut_at (with_loads r more) f) clocks = record {
      rule = a.rule;
      sound = cut_sound (with_loads r more) f a.sound rises within below;
      nodes = a.nodes;
      clocks_are = a.clocks_are;
      counts_are = a.counts_are;
      risen = a.risen;
    } in
    (record { rises = rises; within = within; posted = below }, shows, refl)

-- ---- any other step
pub others : (s t : Table) (r : AirRecord) (clocks : List ℕ) → AreShown s r clocks → KeepsRule r.world t → AreAlike r.world.topo.nodes s t → AreShown t r clocks
others s t r clocks a rule alike = record {
  rule = rule;
  sound = a.sound;
  nodes = a.nodes;
  clocks_are = λ k kt. a.clocks_are k kt ∙ sym (alike k kt).0;
  counts_are = λ k kt. a.counts_are k kt ∙ sym (alike k kt).1;
  risen = a.risen;
}
