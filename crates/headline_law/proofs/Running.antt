-- The steps of running threads, one after another, are moves of the machine.
use Rattle.std.proofs.Common.{◌≡◌, ℕ, List, [], ◌∷◌, ◌++◌, refl, sym, subst, ◌∙◌, ap}
use Rattle.atomic_table.specs.Table.{State}
use Rattle.atomic_table.specs.Seated.{TableId}
use Rattle.world_core.specs.declared.world.WorldFacts.{WorldFacts}
use Rattle.world_core.specs.Consistent.{AirState}
use Rattle.world_core.specs.Lawful.{IsLawful}
use Rattle.world_core.specs.Steps.{opening}
use Rattle.sync_core.specs.Moves.{Move, MayMoveAll, after_move, after_moves}
use Rattle.neighbour_sync.specs.declared.rule.View.{View}
use Rattle.neighbour_sync.specs.Record.{AirRecord, with_loads}
use Rattle.neighbour_sync.specs.Shows.{AreShown, shown}
use Rattle.neighbour_sync.proofs.Shown.{at_first}
use Rattle.neighbour_sync.proofs.Stepping.{cut, loaded, others, posted, raised, sampled}
use Rattle.headline_law.specs.Running.{Running, RunStep, Raises, Posts, Loads, Hears, Cuts, Other, AreTaken, IsTaken, all_moves, first_running, moves_of}

-- ---- moves in two parts
may_both : (a : AirState) (xs ys : List Move) → MayMoveAll a xs → MayMoveAll (after_moves a xs) ys → MayMoveAll a (xs ++ ys)
may_both a [] ys f g = g
may_both a (x ∷ xs) ys f g = (f.0, may_both (after_move a x) xs ys f.1 g)

after_both : (a : AirState) (xs ys : List Move) → after_moves a (xs ++ ys) ≡ after_moves (after_moves a xs) ys
after_both a [] ys = refl
after_both a (x ∷ xs) ys = after_both (after_move a x) xs ys

-- ---- what a step leaves
abbrev state_of : Running → AirState
state_of a = shown a.air a.clocks

abbrev AreIn : Running → Type 0
AreIn a = AreShown a.words a.air a.clocks

-- b shows a state, and the moves xs lead there from what a shows
record Leads (a b : Running) (xs : List Move) : Type 0 where
  shows : AreIn b
  may : MayMoveAll (state_of a) xs
  state : state_of b ≡ after_moves (state_of a) xs

one : (a : Running) (x : RunStep) (b : Running) → AreIn a → IsTaken a x b → Leads a b (moves_of x)
one a (Raises k c) b i (v, at, rises, within, told, is) =
    let m = raised a.words a.air a.clocks k c v i at rises within told in
    subst (λ (q : Running). Leads a q (moves_of (Raises k c))) (sym is) record { shows = m.1; may = (m.0, tt); state = m.2 }
one a (Posts x n) b i (v, new, at, next, early, post, is) =
    let m = posted a.words a.air new a.clocks x n v i at next early post in
    subst (λ (q : Running). Leads a q (moves_of (Posts x n))) (sym is) record { shows = m.1; may = (m.0, tt); state = m.2 }
one a (Loads k) b i (v, at, lt, is) =
    subst (λ (q : Running). Leads a q []) (sym is) record { shows = loaded a.words a.air a.clocks k v i at lt; may = tt; state = refl }
one a (Hears j c h more) b i (r, same, asked, late, heard, words, clocks) =
    let i' : AreShown a.words (with_loads r more) a.clocks = subst (λ (q : AirRecord). AreShown a.words q a.clocks) same i in
    let m = sampled a.words r b.air a.clocks j c h more i' asked late heard in
    let from : state_of a ≡ shown r a.clocks = ap (λ (q : AirRecord). shown q a.clocks) same in
    let shows : AreShown b.words b.air a.clocks = subst (λ (s : State (Unit {0}) View). AreShown s b.air a.clocks) (sym words) m.1 in
    record {
      shows = subst (λ (l : List ℕ). AreShown b.words b.air l) (sym clocks) shows;
      may = subst (λ (s : AirState). MayMoveAll s (moves_of (Hears j c h more))) (sym from) (m.0, tt);
      state = ap (λ (l : List ℕ). shown b.air l) clocks ∙ m.2 ∙ ap (λ (s : AirState). after_moves s (moves_of (Hears j c h more))) (sym from);
    }
one a (Cuts f more) b i (r, same, rises, within, posts, is) =
    let i' : AreShown a.words (with_loads r more) a.clocks = subst (λ (q : AirRecord). AreShown a.words q a.clocks) same i in
    let m = cut a.words r a.clocks f more i' rises within posts in
    let from : state_of a ≡ shown r a.clocks = ap (λ (q : AirRecord). shown q a.clocks) same in
    subst (λ (q : Running). Leads a q (moves_of (Cuts f more))) (sym is) record {
      shows = m.1;
      may = subst (λ (s : AirState). MayMoveAll s (moves_of (Cuts f more))) (sym from) (m.0, tt);
      state = m.2 ∙ ap (λ (s : AirState). after_moves s (moves_of (Cuts f more))) (sym from);
    }
one a Other b i (rule, alike, air, clocks) =
    let shows : AreShown b.words a.air a.clocks = others a.words b.words a.air a.clocks i rule alike in
    let shows' : AreShown b.words b.air a.clocks = subst (λ (q : AirRecord). AreShown b.words q a.clocks) (sym air) shows in
    record {
      shows = subst (λ (l : List ℕ). AreShown b.words b.air l) (sym clocks) shows';
      may = tt;
      state = ap (λ (l : List ℕ). shown b.air l) clocks ∙ ap (λ (q : AirRecord). shown q a.clocks) air;
    }

all : (a : Running) (xs : List RunStep) (b : Running) → AreIn a → AreTaken a xs b → Leads a b (all_moves xs)
all a [] b i is = subst (λ (q : Running). Leads a q []) (sym is) record { shows = i; may = tt; state = refl }
all a (x ∷ xs) b i (m, step, rest) =
    let first = one a x m i step in
    let later = all m xs b first.shows rest in
    record {
      shows = later.shows;
      may = may_both (state_of a) (moves_of x) (all_moves xs) first.may (subst (λ (s : AirState). MayMoveAll s (all_moves xs)) first.state later.may);
      state = later.state ∙ ap (λ (s : AirState). after_moves s (all_moves xs)) first.state ∙ sym (after_both (state_of a) (moves_of x) (all_moves xs));
    }

module _ (w : WorldFacts) (z : TableId) (steps : List RunStep) (b : Running) (law : IsLawful w) (are : AreTaken (first_running w z) steps b) where
  run : Leads (first_running w z) b (all_moves steps)
  run = all (first_running w z) steps b (at_first w z law) are

  pub run_shows : AreShown b.words b.air b.clocks
  run_shows = run.shows

  pub run_may : MayMoveAll (opening w) (all_moves steps)
  run_may = run.may

  pub run_state : shown b.air b.clocks ≡ after_moves (opening w) (all_moves steps)
  run_state = run.state
