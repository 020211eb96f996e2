-- Conditions 9 and 11 to 14 at their edges, worked out on small graphs; and outputs that hold no line.
use Prim.Native.Nat.{ℕ, zero, suc, ◌+◌, ◌-◌, ◌^◌}
use mathlib.Core.Path.{◌≡◌, refl, sym, ap, subst}
use mathlib.Core.List.{List, [], ◌∷◌, ◌++◌, map}
use mathlib.Core.Bool.{false}
use native.Mathlib.Omega.{arith}
use lib.ListN.{length, get_or, drop, replicate, length-append}
use lib.IntN.{pos}
use lib.Ieee.{Float, fin}
use Rattle.drawing_spec.specs.Drawing.{Point, Settings}
use Rattle.limits.specs.Limits.{refused_path, refused_edges}
use Rattle.drawing_spec.specs.Refusal.{number_of}
use Rattle.graph_spec.specs.Graph.{Edge, edge, Graph}
use Rattle.repair_spec.specs.Repair.{Repair, Repairing, stopped, repaired}
use Rattle.planner_spec.specs.LineRecord.{line_record, line_written, Written}
use Rattle.drawing_spec.specs.Bytes.{in_front}
use Rattle.planner_spec.proofs.LineRecord.{record_length}
use Rattle.planner_spec.specs.Plan.{Lent, Answer, refusal, planned, repair_of, graph_conditions, output_conditions, plan_repaired, plan_graph}

-- whatever the graph, the settings, what is lent and the repair: those before repair, those that repair stops with, and the one behind it
in_order : (g : Graph) (s : Settings) (lent : Lent) (r : Repair) → map number_of (graph_conditions g s lent) ++ (refused_path ∷ refused_edges ∷ map number_of (output_conditions g s lent r)) ≡ 9 ∷ 11 ∷ 12 ∷ 13 ∷ 14 ∷ []
unfolding graph_conditions output_conditions
in_order g s lent r = refl

-- a repair that stopped is refused with its number, whichever that is, and not even a short output comes first
stop_refuses : (g : Graph) (s : Settings) (output : List ℕ) (n : ℕ) → plan_repaired g s (record { floats = 0; bytes = 0; output = output }) (stopped n) ≡ record { answer = refusal n; output = output }
unfolding plan_repaired
stop_refuses g s output n = refl

-- ---- graphs

abbrev one : Float
one = fin false 1 (pos 0)

along : ℕ → List Point
along zero = []
along (suc n) = record { x = n; y = 0 } ∷ along n

spokes : ℕ → List Edge
spokes zero = []
spokes (suc n) = edge 0 (suc n) one ∷ spokes n

-- n edges from node 0, each to a node of its own
star : ℕ → Graph
unfolding along spokes
star n = record { nodes = along (suc n); edges = spokes n }

-- the same with one node more, which nothing joins
star_and_dot : ℕ → Graph
unfolding along spokes
star_and_dot n = record { nodes = along (suc (suc n)); edges = spokes n }

-- an edge between the nodes 0 and 1, some others, and n between two nodes apart from these
bundle : ℕ → List Edge → Graph
unfolding along
bundle n es = record { nodes = along 6; edges = edge 0 1 one ∷ es ++ replicate n (edge 2 3 one) }

abbrev settings : ℕ → ℕ → Settings
settings pairing flags = record { width = 10; height = 10; pairing = pairing; flags = flags }

answer_to : ℕ → Graph → ℕ → ℕ → ℕ → Answer
unfolding plan_graph
answer_to pairing g floats bytes output = (plan_graph g (settings pairing 0) (record { floats = floats; bytes = bytes; output = replicate output 7 })).answer

-- ---- several conditions at once: the first gives the number

-- apart, with no tables and no output
apart_first : answer_to 1 (star_and_dot 22) 0 0 0 ≡ refusal 9
unfolding answer_to star_and_dot
apart_first = refl

-- no tables and no output
tables_first : answer_to 1 (star 6) 0 0 0 ≡ refusal 11
unfolding answer_to star
tables_first = refl

-- ---- 11

-- 20 odd nodes need tables of 2 ^ 20 + 20² and of 2 ^ 20; one more end at node 0 makes 22, which need 22² and no bytes
twenty_floats : answer_to 1 (star 20) (2 ^ 20 + 399) (2 ^ 20) 0 ≡ refusal 11
unfolding answer_to star
twenty_floats = refl

twenty_bytes : answer_to 1 (star 20) (2 ^ 20 + 400) (2 ^ 20 - 1) 0 ≡ refusal 11
unfolding answer_to star
twenty_bytes = refl

busy_floats : answer_to 1 (star 21) 483 0 662 ≡ refusal 11
unfolding answer_to star
busy_floats = refl

busy : answer_to 1 (star 21) 484 0 662 ≡ planned (record { retrace = 0x4033000000000000; before = 22; after = 2; points = 41 })
unfolding answer_to star
busy = refl

-- 6 odd nodes: 2 ^ 6 + 6² entries and 2 ^ 6; there are two retraces of two edges each
six_floats : answer_to 1 (star 6) 99 64 200 ≡ refusal 11
unfolding answer_to star
six_floats = refl

six_bytes : answer_to 1 (star 6) 100 63 200 ≡ refusal 11
unfolding answer_to star
six_bytes = refl

six : answer_to 1 (star 6) 100 64 182 ≡ planned (record { retrace = 0x4010000000000000; before = 6; after = 2; points = 11 })
unfolding answer_to star
six = refl

-- Greedy needs no tables, and Optimal none for two odd nodes
greedy : answer_to 0 (star 6) 0 0 182 ≡ planned (record { retrace = 0x4010000000000000; before = 6; after = 2; points = 11 })
unfolding answer_to star
greedy = refl

two : answer_to 1 (star 1) 0 0 38 ≡ planned (record { retrace = 0; before = 2; after = 2; points = 2 })
unfolding answer_to star
two = refl

-- ---- 13: closing lays one copy, which takes 3,999 edges to 4,000, and 4,000 to 4,001

edges_after : Repairing → ℕ
edges_after (stopped k) = k
edges_after (repaired r) = length r.edges

at_limit : edges_after (repair_of (bundle 3998 []) (settings 0 1)) ≡ 4000
unfolding edges_after repair_of bundle
at_limit = refl

past_limit : edges_after (repair_of (bundle 3996 (edge 1 4 one ∷ edge 4 5 one ∷ edge 5 1 one ∷ [])) (settings 0 1)) ≡ 13
unfolding edges_after repair_of bundle
past_limit = refl

-- ---- outputs that hold no line, whatever they were before

module _ (line : List Point) (before : List ℕ) where
  -- a record is the one of the line that is read back from it
  own : (output : List ℕ) → Written line before output → output ≡ in_front (line_record (line_written output)) before
  own output w = subst (λ (l : List Point). output ≡ in_front (line_record l) before) (sym w.back) w.is

  -- of kind 2
  kind_2 : Written line before (0 ∷ 0 ∷ 0 ∷ 0 ∷ 2 ∷ 0 ∷ []) → ⊥
  unfolding line_written line_record
  kind_2 w = let k : ◌≡◌ {A = ℕ} 2 4 = ap (λ (bs : List ℕ). get_or bs 4 0) (own (0 ∷ 0 ∷ 0 ∷ 0 ∷ 2 ∷ 0 ∷ []) w) in omega arith

  -- one byte short of its one point
  cut_short : Written line before (16 ∷ 0 ∷ 0 ∷ 0 ∷ 4 ∷ 0 ∷ replicate 15 0) → ⊥
  unfolding line_written
  cut_short w =
      let one_point : ◌≡◌ {A = ℕ} 1 (length line) = ap length w.back in
      let bytes : ◌≡◌ {A = ℕ} 21 (length (line_record line ++ drop (length (line_record line)) before)) = ap length w.is in
      omega (arith, record_length line, length-append (line_record line) (drop (length (line_record line)) before))

  -- with a NaN for the point's y
  off_grid : Written line before (16 ∷ 0 ∷ 0 ∷ 0 ∷ 4 ∷ 0 ∷ replicate 14 0 ++ 248 ∷ 127 ∷ []) → ⊥
  unfolding line_written line_record
  off_grid w = let k : ◌≡◌ {A = ℕ} 127 65 = ap (λ (bs : List ℕ). get_or bs 21 0) (own (16 ∷ 0 ∷ 0 ∷ 0 ∷ 4 ∷ 0 ∷ replicate 14 0 ++ 248 ∷ 127 ∷ []) w) in omega arith
