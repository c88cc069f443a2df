-- The parts of an account are the window.
use Rattle.std.proofs.Common.{◌≡◌, ℕ, ◌+◌, ◌*◌, ◌-◌, List, [], ◌∷◌, refl, sym, subst, ap, ◌∙◌, arith}
use Rattle.std.specs.List.{All, filter}
use Rattle.std.proofs.lemmas.List.Elements.{All-head, All-tail}
use Rattle.node_core.specs.declared.row.Row.{Row}
use Rattle.node_monitors.specs.Account.{Account, account, whole}
use Rattle.node_monitors.specs.Spent.{is_used}
use Rattle.node_monitors.specs.Sums.{Sums, no_rows, took}
use Rattle.node_monitors.specs.Taken.{IsTaken, IsWithin}
use Rattle.node_monitors.proofs.Rooms.{AreRead, Covers, none-taken, taken-account, taken-whole, took-node, took-window, took-words}
use Rattle.node_monitors.proofs.Steps.{took-taken}
use Rattle.node_monitors.specs.declared.spent.TheConstants.{AWAKE_CHARGE, SENT_CHARGE}

module _ (node : ℕ) (window : ℕ × ℕ) where
  -- the sums of all rows
  abbrev sums : List Row → Sums
  sums [] = no_rows node window 65536
  sums (r ∷ rows) = took r (sums rows)

  words : (rows : List Row) → (sums rows).words ≡ 65536
  words [] = refl
  words (r ∷ rows) = took-words r (sums rows) ∙ words rows

  names : (rows : List Row) → (sums rows).node ≡ node
  names [] = refl
  names (r ∷ rows) = took-node r (sums rows) ∙ names rows

  windows : (rows : List Row) → (sums rows).window ≡ window
  windows [] = refl
  windows (r ∷ rows) = took-window r (sums rows) ∙ windows rows

  taken : (rows : List Row) → All (λ r. IsWithin 65536 r.kind) rows → IsTaken rows (sums rows)
  taken [] all = none-taken node window 65536
  taken (r ∷ rows) all =
      took-taken r rows (sums rows) (subst (λ (n : ℕ). IsWithin n r.kind) (sym (words rows)) (All-head (λ (x : Row). IsWithin 65536 x.kind) r rows all))
      (taken rows (All-tail (λ (x : Row). IsWithin 65536 x.kind) r rows all))

  -- what the sums give
  abbrev given : Sums → Account
  given s = record {
    lead = s.free - s.window.0;
    at = filter is_used s.at;
    entered = filter is_used s.entered;
    asleep = s.asleep;
    stopped = s.stopped;
    charge = AWAKE_CHARGE * s.awake + s.asleep + SENT_CHARGE * s.sent;
  }

  read : (s : Sums) → AreRead s (given s)
  read s = record { lead = refl; at = refl; entered = refl; asleep = refl; stopped = refl; charge = refl }

  pub account-whole : (rows : List Row) → All (λ r. IsWithin 65536 r.kind) rows → whole (account node window rows) ≡ window.1 - window.0
  account-whole rows all =
      let covers : Covers rows (sums rows) = record { most = omega (arith, words rows); within = subst (λ (n : ℕ). All (λ (r : Row). IsWithin n r.kind) rows) (sym (words rows)) all } in
      let same = taken-account node window rows (sums rows) (given (sums rows)) (names rows) (windows rows) covers (taken rows all) (read (sums rows)) in
      ap whole (sym same) ∙ taken-whole window rows (sums rows) (given (sums rows)) (windows rows) (taken rows all) (read (sums rows))
