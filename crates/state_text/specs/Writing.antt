-- Words of the writer's contracts, and no part of what a state is: how a page of text in front of a sink stands after a
-- text was appended to it.
use Rattle.std.specs.Prelude.{◌≡◌, ℕ, ◌≤◌, Bool, true, false, List, [], ◌∷◌, ◌++◌, length, codes, decimal, slice_index_or, Option}
use Rattle.data_space.specs.declared.regions.TheConstants.{IO_COUNT, SRAM_LEN}
use Rattle.sim_io.specs.Outside.{Rose, TookFront, Moved}
use Rattle.state_text.specs.Parts.{ended}
use Rattle.state_text.specs.Text.{NodeOf, core_of, numbers_line, ports_of, timers_of}

-- as many bytes as a node has
pub record IsSized (n : NodeOf) : Type 0 where
  pub io : length n.io ≡ IO_COUNT
  pub sram : length n.sram ≡ SRAM_LEN

abbrev no_node : NodeOf
no_node = record { numbers = []; io = []; sram = [] }

-- node k
abbrev pub node_of : List NodeOf → ℕ → NodeOf
node_of nodes k = slice_index_or nodes k no_node

-- a part behind a space
abbrev pub spaced : List ℕ → List ℕ
spaced part = 32 ∷ part

-- the front of a line of node k
abbrev pub head : List ℕ → ℕ → List ℕ
head word k = word ++ spaced (decimal k)

-- the lines of the numbers of node k
abbrev pub numbers_text : ℕ → List ℕ → List ℕ
numbers_text k ns = ended (numbers_line (codes "core") k (core_of ns)) ++ (ended (numbers_line (codes "timers") k (timers_of ns)) ++ ended (numbers_line (codes "ports") k (ports_of ns)))

-- what the sink took, where it tells, the page in front of it, whether there was a fault, and how many writes failed
pub record Out : Type 0 where
  pub taken : Option (List ℕ)
  pub page : List ℕ
  pub failed : Bool
  pub faults : ℕ

abbrev pub out : Option (List ℕ) → List ℕ → Bool → ℕ → Out
out taken page failed faults = record { taken = taken; page = page; failed = failed; faults = faults }

-- there is room on the page, of which a front may have gone to the sink
pub record HasRoom (old new : Out) : Type 0 where
  pub before : old.failed ≡ false
  pub after : new.failed ≡ false
  pub moved : Moved old.taken old.page new.taken new.page
  pub faults : new.faults ≡ old.faults

-- a text was appended: a front of the page and the text went to the sink, and the rest is the page now
pub record IsAppended (text : List ℕ) (old new : Out) : Type 0 where
  pub moved : Moved old.taken (old.page ++ text) new.taken new.page
  pub faults : new.faults ≡ old.faults

-- at a fault a front of the page and the text went to the sink, whose count rose
pub record IsCutOff (text : List ℕ) (old new : Out) : Type 0 where
  pub front : TookFront old.taken (old.page ++ text) new.taken
  pub later : old.faults ≤ new.faults
  pub rose : Rose old.faults new.faults

-- a text was appended, or cut off at a fault; after a fault nothing changes
pub record IsPut (text : List ℕ) (old new : Out) : Type 0 where
  pub appended : old.failed ≡ false → new.failed ≡ false → IsAppended text old new
  pub cut : old.failed ≡ false → new.failed ≡ true → IsCutOff text old new
  pub after : old.failed ≡ true → new ≡ old
