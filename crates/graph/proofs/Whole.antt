-- Laws of specs/Whole.
use mathlib.Core.Path.{◌≡◌, refl, sym, ap, subst, ◌∙◌}
use mathlib.Core.List.{List, [], ◌∷◌, ◌++◌, map}
use Prim.Native.Nat.{ℕ, zero-le, ◌+◌, ◌-◌, ◌*◌, ◌≤◌, ◌<◌}
use native.Mathlib.Omega.{arith}
use lib.ListN.{length, get_or, replicate}
use mathlib.Core.Bool.{true}
use Rattle.limits.specs.Limits.{most_lines, most_points, most_splits}
use Rattle.drawing_spec.specs.Drawing.{Point, Link, Drawing, line_points}
use Rattle.lists.specs.Members.{All}
use Rattle.lists.proofs.Members.{all_imp}
use Rattle.drawing_spec.specs.OnGrid.{OnGrid, AtEnds}
use Rattle.drawing_spec.specs.Read.{links_fit}
use Rattle.drawing_spec.specs.Accepted.{Counts}
use Rattle.graph_spec.specs.Chain.{chain}
use Rattle.graph_spec.specs.Graph.{Graph, build_graph}
use Rattle.graph_spec.proofs.Strokes.{uses_of_all}
use Rattle.graph_segment_ends.proofs.Ends.{Below}
use Rattle.graph_segment_ends.proofs.Splits.{ends_of}
use Rattle.graph_nodes.specs.Table.{no_nodes}
use Rattle.graph_adjacency.specs.Lists.{no_edges}
use Rattle.file_drawing.specs.Stores.{xs_of, ys_of, ends_from}
use Rattle.graph_moves.specs.Moves.{Move, along}
use Rattle.graph_moves.proofs.Moves.{end_of, no_graph, lines_moves, link_moves, moves_of}
use Rattle.graph_moves.proofs.Built.{uses_of_lem, stands_of, build_along}
use Rattle.graph_moves.specs.Room.{Room}
use Rattle.graph_counts.proofs.Nodes.{counted_few}
use Rattle.graph_strokes.specs.Step.{Traced, traced, TracedTo}
use Rattle.graph_strokes.proofs.StepLaws.{traced_none}
use Rattle.graph_splits.specs.Points.{Measurable}
use Rattle.graph_chain.specs.Along.{traced_along, Traceable}
use Rattle.graph_chain.proofs.Along.{held_along}
use Rattle.graph_line.specs.Lines.{Filing, chains_of, anywhere, Ready}
use Rattle.graph_lines.specs.All.{lines_in, links_in}
use Rattle.graph_filed.proofs.Ends.{number, end_x, end_y, filing_of}
use Rattle.graph_filed.proofs.Chains.{chain_same}
use Rattle.graph_filed.proofs.Starts.{starts_of, points_of, LinkOk, links_ok, ends_below, ends_named, segment_below}
use Rattle.graph_filed.proofs.Same.{lines_same, links_same}
use Rattle.graph.specs.Whole.{moves_in}
use Rattle.graph.specs.Built.{Built}
use Rattle.graph.proofs.Built.{traced_built}

-- nothing is drawn yet
abbrev pub nothing : Traced
nothing = traced no_nodes no_edges 0 0 0

-- the filing of a drawing's links
abbrev pub filing_in : Drawing → Filing
filing_in d = filing_of (starts_of d.lines) (ends_of d.links)

ends_length : (ks : List Link) → length (ends_of ks) ≡ 2 * length ks
unfolding ends_of
ends_length [] = refl
ends_length (k ∷ ks) = omega (arith, ends_length ks)

on_low : (p : Point) → OnGrid p → Measurable p
on_low p h = (omega (arith, h.0), omega (arith, h.1))

module _ (d : Drawing) (c : Counts d) (fit : links_fit d ≡ true) where
  pub ends_few : length (ends_of d.links) ≤ most_splits
  ends_few = omega (arith, ends_length d.links, c.links)

  pub all_ok : All (LinkOk d.lines) d.links
  unfolding links_fit
  all_ok = links_ok d.lines c.lines c.points d.links fit

  below : Below (map (number (starts_of d.lines)) (ends_of d.links))
  below = ends_below d.lines c.lines c.points d.links all_ok

  chains : (l s : ℕ) → l < length d.lines → s < length (get_or d.lines l []) → (a b : Point) → chains_of (filing_in d) (get_or (starts_of d.lines) l 0 + s) a b ≡ chain d.links l s a b
  chains l s hl hs =
      chain_same (starts_of d.lines) d.links ends_few below l s (get_or (starts_of d.lines) l 0 + s) (segment_below d.lines c.points l s hl hs)
      (ends_named d.lines c.lines c.points l s hl hs d.links all_ok)

  lines_are : lines_in (filing_in d) (points_of d.lines) (starts_of d.lines) (length d.lines) 0 ≡ lines_moves d.links 0 d.lines
  lines_are =
      let ls = d.lines in
      lines_same d.links (filing_in d) (points_of ls).xs (points_of ls).ys (starts_of ls) ls chains ls 0 0
      (replicate ((most_lines + 1) - length (0 ∷ ends_from 0 ls)) 0) (replicate (most_points - length (xs_of (line_points ls))) 0) (replicate (most_points - length (ys_of (line_points ls))) 0) refl refl refl refl

  links_are : links_in (filing_in d).ends (length d.links) 0 ≡ link_moves d.links
  links_are =
      links_same (filing_in d).ends d.links 0
      (replicate (most_splits - length (map end_x (ends_of d.links))) 0) (replicate (most_splits - length (map end_y (ends_of d.links))) 0) refl refl

  moves_are : moves_in (filing_in d) (points_of d.lines) (starts_of d.lines) (length d.lines) (length d.links) ≡ moves_of d
  unfolding moves_of
  moves_are =
      ap (λ (ms : List Move). ms ++ links_in (filing_in d).ends (length d.links) 0) lines_are ∙ ap (λ (ms : List Move). lines_moves d.links 0 d.lines ++ ms) links_are

  module _ (lo : All (All OnGrid) d.lines) (ko : All (AtEnds OnGrid) d.links) where
    traceable : Traceable anywhere (moves_of d) nothing
    traceable = record {
      so_far = no_graph;
      held = traced_none anywhere;
      stands = stands_of [] anywhere d;
      room = subst Room (sym (build_along d anywhere)) (let few = counted_few d c in (few.nodes, omega (arith, few.edges)));
      here = (zero-le, zero-le);
      places = subst (All Measurable) (sym (uses_of_lem d)) (uses_of_all Measurable d (all_imp (All OnGrid) (All Measurable) (λ l a. all_imp OnGrid Measurable on_low l a) d.lines lo)
          (all_imp (AtEnds OnGrid) (AtEnds Measurable) (λ k a. (on_low k.first.point a.0, on_low k.second.point a.1)) d.links ko));
    }

    pub all_ready : Ready (moves_in (filing_in d) (points_of d.lines) (starts_of d.lines) (length d.lines) (length d.links)) nothing
    all_ready = record { place = anywhere; traceable = subst (λ (ms : List Move). Traceable anywhere ms nothing) (sym moves_are) traceable }

    pub all_built : (s : Traced) → s ≡ traced_along anywhere (moves_in (filing_in d) (points_of d.lines) (starts_of d.lines) (length d.lines) (length d.links)) nothing
        → Built (build_graph d) s.node_count s.edge_count s.table.xs s.table.ys s.edges
    unfolding traceable
    all_built s e =
        let h : TracedTo (along anywhere (moves_of d) no_graph).nodes (along anywhere (moves_of d) no_graph).edges (end_of anywhere (moves_of d)) (traced_along anywhere (moves_of d) nothing) = held_along anywhere (moves_of d) nothing traceable in
        let h₂ : TracedTo (build_graph d).nodes (build_graph d).edges (end_of anywhere (moves_of d)) s =
        subst (TracedTo (build_graph d).nodes (build_graph d).edges (end_of anywhere (moves_of d))) (sym (e ∙ ap (λ (ms : List Move). traced_along anywhere ms nothing) moves_are))
        (subst (λ (g : Graph). TracedTo g.nodes g.edges (end_of anywhere (moves_of d)) (traced_along anywhere (moves_of d) nothing)) (build_along d anywhere) h) in
        traced_built d c lo ko (end_of anywhere (moves_of d)) s h₂
