-- What is read for a sweep, and the runs that it writes one behind another.
use Rattle.std.proofs.Common.{◌≡◌, ℕ, false, zero, suc, ◌+◌, ◌<◌, List, [], ◌∷◌, ◌++◌, length, get_or, set, drop, flat_map, Option, Err, add-one, refl, sym, ap, ◌∙◌, append-nil, arith, subst}
use Rattle.std.proofs.Math.Seq.{drop-cons, drop-length}
use Rattle.sim_io.specs.Outside.{extended, Rose}
use Rattle.sim_io.proofs.Pages.{Stands, stands_front, stands_more, stands_moved}
use Rattle.serial_ports.specs.Script.{ScriptBytes}
use Rattle.node_runner.specs.Scenario.{ScenarioOf, script_at, with_script}
use Rattle.checkpoint_text.specs.Onward.{CanResume, SavedAt}
use Rattle.state_text.specs.Text.{StateOf}
use Rattle.command_plans.specs.Plan.{Plan, Give, and_then}
use Rattle.command_plans.specs.Reading.{Files, Reached}
use Rattle.command_plans.specs.Ends.{End, Reads, Stream, stream}
use Rattle.command_plans.specs.Parts.{Stopped, StopsAt, Told, Written}
use Rattle.command_plans.specs.declared.status.Status.{Status}
use Rattle.command_plans.specs.declared.trouble.Trouble.{Trouble}
use Rattle.command_plans.specs.declared.trouble.Trouble.TheVariants as trouble
use Rattle.command_plans.proofs.Steps.{both, goes_on, reached_moved, stops_behind, stops_moved, stops_on}
use Rattle.commands.specs.Parts.{HasGot, IsFresh, IsLookOn, IsTail, IsWatchOn}
use Rattle.commands.specs.declared.watch.Tail.{Tail}
use Rattle.commands.specs.declared.watch.Tail.TheVariants as tail
use Rattle.commands.specs.declared.watch.Watch.{Watch}

-- something was read, and then something that hangs on it
module _ {A B : Type 0} (files files' : Files) (first : Plan A) (next : A → Plan B) (a : A) (store mid store' : Reads) (err err' : Stream)
    (got : HasGot files first store mid err err' a) (held : files' ≡ files) where
  abbrev Behind : A → Plan (A × B)
  Behind a = and_then (next a) (λ b. Give (a, b))

  abbrev Whole : Plan (A × B)
  Whole = and_then first Behind

  to_next : Reached files Whole (Behind a)
  to_next = goes_on files first a Behind got.reached

  pub both_got : (b : B) → (store' ≡ mid) × Reached files' (next a) (Give b) → HasGot files Whole store store' err err' (a, b)
  both_got b read = record {
    reached =
        both files Whole (Behind a) (Give (a, b)) to_next
        (goes_on files (next a) b (λ b. Give (a, b)) (reached_moved files files' (next a) (Give b) held read.1));
    same = read.0 ∙ got.same;
    silent = got.silent;
  }

  pub next_stopped : (end : End) (said : Stream) (answer : Status) → StopsAt files' (next a) mid store' end → Told end err' said answer → Stopped files Whole store store' err said answer
  next_stopped end said answer stops told = record {
    end = end;
    stops = stops_on files Whole (Behind a) store store' end to_next
        (stops_behind files (next a) (λ b. Give (a, b)) store store' end (stops_moved files files' (next a) store mid store' end held got.same stops));
    told = subst (λ e. Told end e said answer) got.silent told;
  }

-- a run that begins in a state with which the network can go on
pub fresh_saved : (network : ScenarioOf) (state : StateOf) (saved : SavedAt) → saved ≡ record { scenario = network; state = state; floor = state.cycle; failed = false } → CanResume network state → IsFresh network saved
fresh_saved network state saved is fit = subst (λ (s : SavedAt). IsFresh network s) (sym is) (record { is = refl; early = fit.early })

-- and goes on up to the cycle from which it is watched
pub look_on_begun : (network : ScenarioOf) (state : StateOf) (saved : SavedAt) (w : Watch) → saved ≡ record { scenario = network; state = state; floor = state.cycle; failed = false } → IsWatchOn network state w
    → IsLookOn network saved w.from
look_on_begun network state saved w is on =
    let rises = on.watch.rises in
    let within = on.watch.within in
    subst (λ (s : SavedAt). IsLookOn network s w.from) (sym is) (record { fresh = record { is = refl; early = on.fit.early }; from = on.begun; to = omega (arith, rises, within) })

-- ---- a network with another input

-- a state from which it can go on is one whatever arrives
pub fit_moved : (network : ScenarioOf) (state : StateOf) (node : ℕ) (script : ScriptBytes) → CanResume network state → CanResume (with_script network node script) state
fit_moved network state node script h = record { early = h.early; count = h.count; nodes = h.nodes; sends = h.sends; rises = h.rises; order = h.order }

-- and so can be watched
pub tail_moved : (network : ScenarioOf) (state : StateOf) (node : ℕ) (script : ScriptBytes) (what : Tail) → IsTail network state what → IsTail (with_script network node script) state what
tail_moved network state node script tail.Trace h = h
tail_moved network state node script (tail.Watch w) h = record {
  fit = fit_moved network state node script h.fit;
  begun = h.begun;
  watch = record { rises = h.watch.rises; within = h.watch.within; spots = h.watch.spots };
}

set_back : {X : Type 0} (xs : List X) (k : ℕ) (x d : X) → set (set xs k x) k (get_or xs k d) ≡ xs
set_back [] k x d = refl
set_back (y ∷ ys) zero x d = refl
set_back (y ∷ ys) (suc k) x d = ap (λ l. y ∷ l) (set_back ys k x d)

-- with its own input in place of the other one it is as it was
pub own_again : (network : ScenarioOf) (node : ℕ) (script : ScriptBytes) → with_script (with_script network node script) node (script_at network node) ≡ network
own_again network node script = ap (λ (l : List ScriptBytes). record network { scripts = l }) (set_back network.scripts node script _)

-- a network whose input was replaced, and then was put back
pub moved_back : (network moved back : ScenarioOf) (node : ℕ) (script own : ScriptBytes) → moved ≡ with_script network node script → own ≡ script_at network node → back ≡ with_script moved node own
    → back ≡ network
moved_back network moved back node script own is had put =
    put ∙ (ap (λ (n : ScenarioOf). with_script n node own) is ∙ (ap (λ (s : ScriptBytes). with_script (with_script network node script) node s) had ∙ own_again network node script))

-- it has the same nodes
pub same_nodes : (network moved : ScenarioOf) (node number : ℕ) (script : ScriptBytes) → moved ≡ with_script network node script → node ≡ number → number < network.topo.nodes → node < moved.topo.nodes
same_nodes network moved node number script is same known =
    subst (λ (n : ScenarioOf). node < n.topo.nodes) (sym is) (subst (λ (k : ℕ). k < network.topo.nodes) (sym same) known)

-- ---- texts one behind another

-- the next piece of a text was taken whole
pub piece_taken : (o p q : Option (List ℕ)) (whole rest piece rest' : List ℕ) → Stands o whole rest p [] → rest ≡ piece ++ rest' → q ≡ extended p piece → Stands o whole rest' q []
piece_taken o p q whole rest piece rest' s e t =
    stands_moved o p q whole rest' piece [] (stands_more o p whole rest [] piece piece rest' s e refl) (record { front = piece; parts = sym (append-nil piece); taken = t })

-- all were
pub all_taken : (o p : Option (List ℕ)) (whole rest : List ℕ) → Stands o whole rest p [] → rest ≡ [] → p ≡ extended o whole
all_taken o p whole rest s e = s.taken ∙ ap (extended o) (sym (s.parts ∙ ap (λ x. s.front ++ x) e ∙ append-nil s.front))

-- or the writing of the next one stopped
pub piece_stopped : (A B : Type 0) (o p q : Option (List ℕ)) (whole rest piece rest' : List ℕ) (old mid new : ℕ) (t : Trouble) → Stands o whole rest p [] → rest ≡ piece ++ rest' → mid ≡ old
    → Written {A = A} piece (stream p mid) (stream q new) (Err t) → Written {A = B} whole (stream o old) (stream q new) (Err t)
piece_stopped A B o p q whole rest piece rest' old mid new trouble.OutFailed s e count h = record {
  front = stands_front o p q whole rest' piece (stands_more o p whole rest [] piece piece rest' s e refl) h.front;
  rose = subst (λ (n : ℕ). Rose n new) count h.rose;
}
piece_stopped A B o p q whole rest piece rest' old mid new trouble.NoMemory s e count h =
    (stands_front o p q whole rest' piece (stands_more o p whole rest [] piece piece rest' s e refl) h.0, h.1 ∙ count)
piece_stopped A B o p q whole rest piece rest' old mid new (trouble.ReadFailed name) s e count h = absurd h
piece_stopped A B o p q whole rest piece rest' old mid new (trouble.Refused k) s e count h = absurd h

-- the pieces from one on
pub pieces_more : {X : Type 0} (f : X → List ℕ) (xs : List X) (i : ℕ) (x : X) → i < length xs → x ≡ get_or xs i x → flat_map f (drop i xs) ≡ f x ++ flat_map f (drop (i + 1) xs)
pieces_more f xs i x h at =
    let front : drop i xs ≡ x ∷ drop (i + 1) xs = rw add-one (drop-cons xs i x h) ∙ ap (λ n. n ∷ drop (i + 1) xs) (sym at) in
    ap (flat_map f) front

pub pieces_none : {X : Type 0} (f : X → List ℕ) (xs : List X) (i : ℕ) → i ≡ length xs → flat_map f (drop i xs) ≡ []
pieces_none f xs i e = ap (flat_map f) (ap (λ k. drop k xs) e ∙ drop-length xs)
