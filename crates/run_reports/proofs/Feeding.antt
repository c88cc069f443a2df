-- Sniffers of all nodes, to which a run is fed epoch by epoch.
use Rattle.std.proofs.Common.{◌≡◌, ℕ, zero, suc, ◌<◌, List, [], ◌∷◌, ◌++◌, map, refl, sym, ap, ◌∙◌, append-nil, arith}
use Rattle.std.specs.List.{flat_map}
use Rattle.std.proofs.lemmas.Grind.{flat_map-append}
use Rattle.std.proofs.lemmas.List.{map-append}
use Rattle.air_base.specs.declared.air.Send.{Send}
use Rattle.air_base.specs.Each.{each_below}
use Rattle.world_core.specs.Order.{facts_of, run_rows}
use Rattle.world_core.specs.Sends.{sends_of}
use Rattle.air_base.proofs.Each.{each_same}
use Rattle.node_core.specs.declared.row.Row.{Row}
use Rattle.node_runner.specs.Scenario.{ScenarioOf, IsScenario, fleet_of}
use Rattle.fleet_flight.specs.Rows.{rows_upto}
use Rattle.fleet_flight.proofs.Epoch.{first_rows}
use Rattle.air_sniffer.specs.Frames.{frames}
use Rattle.air_sniffer.specs.Sniffed.{IsFed}
use Rattle.air_sniffer.proofs.Cuts as cuts
use Rattle.run_reports.specs.Frames.{frame_line, frames_text, sends_told}
use Rattle.run_reports.specs.Sniffing.{Watch, fed_all, fed_more, of_each, unfed, watch_text}
use Rattle.run_reports.proofs.Runs.{rows_whole}
use Rattle.run_reports.proofs.Told.{told_both, told_none, told_run}

watch_is : (all : List Send) (w : Watch) → IsFed w.sniffer all w.gave → w ≡ fed_all all w.sniffer.node
watch_is all w h = λ i. record { sniffer = record { node = w.sniffer.node; held = h.held i }; gave = h.frames i }

is_fed : (all : List Send) (node : ℕ) → IsFed (fed_all all node).sniffer all (fed_all all node).gave
is_fed all node = record { frames = refl; held = refl }

unfed_is : (node : ℕ) → unfed node ≡ fed_all [] node
unfed_is node = watch_is [] (unfed node) (cuts.fed_start node)

more_is : (all piece : List Send) (node : ℕ) → fed_more piece (fed_all all node) ≡ fed_all (all ++ piece) node
more_is all piece node = watch_is (all ++ piece) (fed_more piece (fed_all all node)) (cuts.fed_more (fed_all all node).sniffer all piece (fed_all all node).gave (is_fed all node))

map_each : (f : Watch → Watch) (nodes : ℕ) (w : ℕ → Watch) → map f (of_each nodes w) ≡ of_each nodes (λ k. f (w k))
map_each f zero w = refl
map_each f (suc n) w = map-append f (of_each n w) (w n ∷ []) ∙ ap (λ (l : List Watch). l ++ f (w n) ∷ []) (map_each f n w)

each_is : (nodes : ℕ) (v w : ℕ → Watch) → ((k : ℕ) → v k ≡ w k) → of_each nodes v ≡ of_each nodes w
each_is nodes v w same = each_same nodes (λ k. v k ∷ []) (λ k. w k ∷ []) (λ k lt. ap (λ (x : Watch). x ∷ []) (same k))

-- before the first epoch
pub fed_first : (sc : ScenarioOf) (c : ℕ) (all : List Watch) → IsScenario sc → c ≡ 0 → all ≡ of_each sc.topo.nodes unfed → all ≡ of_each sc.topo.nodes (fed_all (sends_told (rows_upto (fleet_of sc) c)))
fed_first sc c all ok e is =
    let none : [] ≡ sends_told (rows_upto (fleet_of sc) c) = sym (ap (λ (n : ℕ). sends_told (rows_upto (fleet_of sc) n)) e ∙ ap sends_told (first_rows (fleet_of sc) (let x = ok.topo.ranges.limit_from in omega arith)) ∙ told_none) in
    is ∙ each_is sc.topo.nodes unfed (fed_all []) unfed_is ∙ ap (λ (l : List Send). of_each sc.topo.nodes (fed_all l)) none

-- one epoch more
pub fed_next : (nodes : ℕ) (before rows after : List Row) (sends : List Send) (old new : List Watch) → after ≡ before ++ rows → sends ≡ sends_told rows → old ≡ of_each nodes (fed_all (sends_told before))
    → new ≡ map (fed_more sends) old → new ≡ of_each nodes (fed_all (sends_told after))
fed_next nodes before rows after sends old new all told so more =
    more ∙ (λ i. map (fed_more (told i)) (so i)) ∙ map_each (fed_more (sends_told rows)) nodes (fed_all (sends_told before))
    ∙ each_is nodes _ _ (more_is (sends_told before) (sends_told rows))
    ∙ ap (λ (l : List Send). of_each nodes (fed_all l)) (sym (ap sends_told all ∙ told_both before rows))

-- the whole run
pub fed_whole : (sc : ScenarioOf) (c : ℕ) (all : List Watch) → c ≡ sc.topo.limit → all ≡ of_each sc.topo.nodes (fed_all (sends_told (rows_upto (fleet_of sc) c)))
    → all ≡ of_each sc.topo.nodes (fed_all (sends_told (run_rows (fleet_of sc))))
fed_whole sc c all e so = so ∙ ap (λ (l : List Row). of_each sc.topo.nodes (fed_all (sends_told l))) (rows_whole (fleet_of sc) c e)

watch_lines : (all : List Send) (node : ℕ) → watch_text (fed_all all node) ≡ flat_map frame_line (frames (sends_of node all))
watch_lines all node = ap (flat_map frame_line) (cuts.fed_end (fed_all all node).sniffer all (fed_all all node).gave (is_fed all node))

lines_each : (all : List Send) (nodes : ℕ) → flat_map watch_text (of_each nodes (fed_all all)) ≡ each_below nodes (λ k. flat_map frame_line (frames (sends_of k all)))
lines_each all zero = refl
lines_each all (suc n) =
    flat_map-append watch_text (of_each n (fed_all all)) (fed_all all n ∷ [])
    ∙ (λ i. lines_each all n i ++ (append-nil (watch_text (fed_all all n)) ∙ watch_lines all n) i)

-- the lines of all nodes are those of the run
pub text_whole : (sc : ScenarioOf) (all : List Watch) (text : List ℕ) → all ≡ of_each sc.topo.nodes (fed_all (sends_told (run_rows (fleet_of sc)))) → text ≡ flat_map watch_text all → text ≡ frames_text sc
unfolding frames_text
text_whole sc all text is so =
    so ∙ ap (flat_map watch_text) (is ∙ ap (λ (l : List Send). of_each sc.topo.nodes (fed_all l)) (told_run sc)) ∙ lines_each (facts_of (fleet_of sc)).sends sc.topo.nodes
