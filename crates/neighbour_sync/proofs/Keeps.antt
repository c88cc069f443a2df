-- What each call makes of the record is sound again.
use Rattle.std.proofs.Common.{◌≡◌, ℕ, ◌+◌, ◌<◌, ◌≤◌, List, [], ◌∷◌, ◌++◌, length, replicate, sym, subst, ◌∙◌, ap, arith, length-append}
use Rattle.std.specs.Prelude.{nat_le}
use Rattle.std.specs.List.{Contains, filter}
use Rattle.std.proofs.lemmas.List.Elements.{All-push, All-filter, All-weaker}
use Rattle.air_base.specs.declared.air.Send.{Send}
use Rattle.air_base.specs.declared.air.Ask.{Ask}
use Rattle.air_base.specs.declared.air.Heard.{Heard}
use Rattle.world_core.specs.declared.world.WorldFacts.{WorldFacts}
use Rattle.world_core.specs.Topology.{Topology}
use Rattle.world_core.specs.Heard.{heard}
use Rattle.world_core.specs.Sends.{IsSendNumber}
use Rattle.world_core.specs.Posted.{sent_of, AllPostedFor}
use Rattle.world_core.specs.Kept.{epoch, is_kept, kept_room_of, IsPostedTo}
use Rattle.world_core.specs.Settled.{truth}
use Rattle.world_core.specs.Lawful.{IsLawful}
use Rattle.world_core.proofs.Room.{kept_room}
use Rattle.world_core.proofs.Records.{record_opens, record_posted, record_sampled, record_right, record_cut}
use Rattle.world_core.specs.Chain.{LogFacts, log_of}
use Rattle.neighbour_sync.specs.Seats.{AirFacts, air_counted}
use Rattle.neighbour_sync.specs.Loads.{looked}
use Rattle.neighbour_sync.specs.Record.{AirRecord, IsSound, with_send, with_sample, cut_at}
use Rattle.neighbour_sync.specs.Held.{record_of, IsHeld}

pub posted_sound : (r : AirRecord) (x : Send) → IsSound r → IsSendNumber r.world (sent_of r.sent x.node) x → x.cycle < r.floor + epoch → IsSound (with_send r x)
posted_sound r x h next early = record {
  lawful = h.lawful;
  recorded = record_posted r.world r.floor r.sent r.sends r.samples x h.lawful h.recorded next;
  early = All-push (λ y. y.cycle < r.floor + epoch) r.sends x h.early early;
  within = h.within;
}

pub sampled_sound : (r : AirRecord) (j s : ℕ) (h : Heard) → IsSound r → Contains r.world.asks record { node = j; cycle = s } → r.floor ≤ s → AllPostedFor r.world r.sent j s → h ≡ heard r.world.topo r.sends j s → IsSound (with_sample r j s h)
sampled_sound r j s h i asked late reached is = record {
  lawful = i.lawful;
  recorded = record_sampled r.world r.floor r.sent r.sends r.samples j s h i.lawful i.recorded asked late reached is;
  early = i.early;
  within = i.within;
}

pub cut_sound : (r : AirRecord) (f : ℕ) → IsSound r → r.floor ≤ f → f ≤ r.world.topo.limit → IsPostedTo r.world f r.sent → IsSound (cut_at r f)
cut_sound r f i rises within posted = record {
  lawful = i.lawful;
  recorded = record_cut r.world r.floor f r.sent r.sends r.samples i.recorded rises posted;
  early = All-weaker (λ x. x.cycle < r.floor + epoch) (λ x. x.cycle < f + epoch) (λ x lt. omega arith) (filter (is_kept r.world.topo f) r.sends) (All-filter (is_kept r.world.topo f) (λ x. x.cycle < r.floor + epoch) r.sends i.early);
  within = within;
}

-- there is room for one more
pub room_left : (r : AirRecord) (x : Send) → IsSound r → IsSendNumber r.world (sent_of r.sent x.node) x → x.cycle < r.floor + epoch → length r.sends < kept_room_of r.world.topo epoch
room_left r x h next early =
    let p = posted_sound r x h next early in
    let most = kept_room r.world r.floor epoch (with_send r x).sent (with_send r x).sends h.lawful p.recorded.posted p.recorded.inside p.early in
    omega (arith, length-append r.sends (x ∷ []))

pub held_posted : (a new : AirFacts) (t : Topology) (l m : LogFacts) (floor : ℕ) (samples : List (Ask × Heard)) (x : Send) → IsHeld a t l floor samples → IsSendNumber a.world (sent_of a.sent x.node) x → x.cycle < floor + epoch
    → new ≡ air_counted a x.node → m ≡ log_of (l.sends ++ x ∷ []) l.room → IsHeld new t m floor samples
held_posted a new t l m floor samples x h next early is grown =
    subst (λ (b : AirFacts). IsHeld b t m floor samples) (sym is) (subst (λ (n : LogFacts). IsHeld (air_counted a x.node) t n floor samples) (sym grown)
    record { topo = h.topo; sound = posted_sound (record_of a floor l.sends samples) x h.sound next early; room = h.room })

-- what the seat has loaded is no matter
pub held_looked : (a new : AirFacts) (t : Topology) (l : LogFacts) (floor : ℕ) (samples : List (Ask × Heard)) (more : List (ℕ × ℕ)) → IsHeld a t l floor samples → new ≡ looked a more → IsHeld new t l floor samples
held_looked a new t l floor samples more h is =
    subst (λ (b : AirFacts). IsHeld b t l floor samples) (sym is)
    record { topo = h.topo; sound = record { lawful = h.sound.lawful; recorded = h.sound.recorded; early = h.sound.early; within = h.sound.within }; room = h.room }

pub held_sampled : (a : AirFacts) (t : Topology) (l : LogFacts) (floor : ℕ) (samples more : List (Ask × Heard)) (j s : ℕ) (h : Heard) → IsHeld a t l floor samples → Contains a.world.asks record { node = j; cycle = s } → floor ≤ s
    → AllPostedFor a.world a.sent j s → h ≡ heard t l.sends j s → more ≡ samples ++ (record { node = j; cycle = s }, h) ∷ [] → IsHeld a t l floor more
held_sampled a t l floor samples more j s h held asked late reached is pushed =
    subst (IsHeld a t l floor) (sym pushed) record {
      topo = held.topo;
      sound = sampled_sound (record_of a floor l.sends samples) j s h held.sound asked late reached (is ∙ ap (λ (u : Topology). heard u l.sends j s) held.topo);
      room = held.room;
    }

pub sample_true : (a : AirFacts) (t : Topology) (l : LogFacts) (floor : ℕ) (samples : List (Ask × Heard)) (j s : ℕ) (h : Heard) → IsHeld a t l floor samples → floor ≤ s → AllPostedFor a.world a.sent j s → h ≡ heard t l.sends j s → h ≡ truth a.world j s
sample_true a t l floor samples j s h held late reached is =
    is ∙ ap (λ (u : Topology). heard u l.sends j s) held.topo ∙ record_right a.world floor a.sent l.sends samples j s held.sound.lawful held.sound.recorded late reached

pub held_cut : (a : AirFacts) (t : Topology) (l m : LogFacts) (floor f : ℕ) (samples kept : List (Ask × Heard)) → IsHeld a t l floor samples → floor ≤ f → f ≤ a.world.topo.limit → IsPostedTo a.world f a.sent
    → m ≡ log_of (filter (is_kept t f) l.sends) l.room → kept ≡ filter (λ x. nat_le f x.0.cycle) samples → IsHeld a t m f kept
held_cut a t l m floor f samples kept held rises within posted cut dropped =
    let same : log_of (filter (is_kept t f) l.sends) l.room ≡ log_of (filter (is_kept a.world.topo f) l.sends) l.room = ap (λ (u : Topology). log_of (filter (is_kept u f) l.sends) l.room) held.topo in
    subst (λ (n : LogFacts). IsHeld a t n f kept) (sym (cut ∙ same)) (subst (IsHeld a t (log_of (filter (is_kept a.world.topo f) l.sends) l.room) f) (sym dropped) record {
      topo = held.topo;
      sound = cut_sound (record_of a floor l.sends samples) f held.sound rises within posted;
      room = held.room;
    })

pub held_first : (a : AirFacts) (w : WorldFacts) (t : Topology) (l : LogFacts) (samples : List (Ask × Heard)) → IsLawful w → a.world ≡ w → a.sent ≡ replicate w.topo.nodes 0 → t ≡ w.topo → l ≡ log_of [] (kept_room_of t epoch) → samples ≡ []
    → IsHeld a t l 0 samples
held_first a w t l samples law world sent topo empty none =
    let law' : IsLawful a.world = subst IsLawful (sym world) law in
    let sent' : a.sent ≡ replicate a.world.topo.nodes 0 = sent ∙ ap (λ (v : WorldFacts). replicate v.topo.nodes 0) (sym world) in
    let topo' : t ≡ a.world.topo = topo ∙ ap (λ (v : WorldFacts). v.topo) (sym world) in
    let room : kept_room_of a.world.topo epoch ≤ kept_room_of t epoch = subst (λ (u : Topology). kept_room_of u epoch ≤ kept_room_of t epoch) topo' (omega arith) in
    subst (λ (n : LogFacts). IsHeld a t n 0 samples) (sym empty) (subst (IsHeld a t (log_of [] (kept_room_of t epoch)) 0) (sym none) record {
      topo = topo';
      sound = record { lawful = law'; recorded = rw sent' (record_opens a.world); early = λ i d lt. absurd (omega arith); within = omega arith };
      room = room;
    })
