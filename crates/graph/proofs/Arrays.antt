-- The arrays of a sound drawing, at the calls of build_graph. Assumes nothing.
use mathlib.Core.Path.{◌≡◌, sym, ap, subst, ◌∙◌}
use mathlib.Core.List.{List, ◌++◌, map}
use Prim.Native.Nat.{ℕ, ◌-◌, ◌≤◌}
use native.Mathlib.Omega.{arith}
use lib.ListN.{length, replicate}
use Rattle.limits.specs.Limits.{most_lines, most_links}
use Rattle.graph_spec.specs.Graph.{build_graph}
use Rattle.graph_nodes.specs.Table.{Table, no_nodes}
use Rattle.graph_adjacency.specs.Lists.{Adjacency, no_edges}
use Rattle.file_records.specs.declared.MstEdge.{MstEdge}
use Rattle.file_records.specs.Body.{edge_from}
use Rattle.file_drawing.specs.declared.Drawing.{Drawing}
use Rattle.file_drawing.specs.Held.{no_link}
use Rattle.file_drawing.specs.Held.{drawing_held}
use Rattle.file_drawing.specs.Back.{drawing_from}
use Rattle.graph_moves.specs.Moves.{Move}
use Rattle.graph_splits.specs.Points.{Points, points, MeasurablePoints}
use Rattle.graph_strokes.specs.Step.{Traced, traced}
use Rattle.graph_chain.specs.Along.{traced_along}
use Rattle.graph_line.specs.Lines.{Filing, filing_from, anywhere, Ready}
use Rattle.graph_lines.specs.All.{StartsInside}
use Rattle.graph_segment_ends.specs.Ends.{Store}
use Rattle.graph_filing.specs.Stored.{store_links, LinksFit}
use Rattle.graph_filed.proofs.Ends.{no_store, filed_all_lem, low_places}
use Rattle.graph_filed.proofs.Starts.{starts_of, points_of, starts_inside, links_fit_known}
use Rattle.graph.specs.Whole.{moves_in}
use Rattle.graph.specs.Built.{Built}
use Rattle.graph.proofs.Whole.{filing_in, ends_few, all_ok, all_ready, all_built}
use Rattle.graph.specs.Sound.{Sound}

module _ (d : Drawing) (S : Sound d) where
  starts_are : d.starts ≡ starts_of (drawing_from d).lines
  unfolding drawing_held
  starts_are = ap (λ (x : Drawing). x.starts) S.held

  points_are : points d.xs d.ys ≡ points_of (drawing_from d).lines
  unfolding drawing_held
  points_are = ap (λ (x : Drawing). points x.xs x.ys) S.held

  links_are : d.links ≡ map edge_from (drawing_from d).links ++ replicate (most_links - length (map edge_from (drawing_from d).links)) no_link
  unfolding drawing_held
  links_are = ap (λ (x : Drawing). x.links) S.held

  lines_count : d.lines ≡ length (drawing_from d).lines
  unfolding drawing_held
  lines_count = ap (λ (x : Drawing). x.lines) S.held

  links_count : d.link_count ≡ length (drawing_from d).links
  unfolding drawing_held
  links_count = ap (λ (x : Drawing). x.link_count) S.held

  -- ---- for filing

  pub few_lines : d.lines ≤ most_lines
  few_lines = omega (arith, lines_count, S.counts.lines)

  pub few_links : d.link_count ≤ most_links
  few_links = omega (arith, links_count, S.counts.links)

  pub links_held : LinksFit d.starts d.links d.link_count
  links_held =
      let e = drawing_from d in
      subst (λ (s : List ℕ). LinksFit s d.links d.link_count) (sym starts_are)
      (subst (λ (ms : List MstEdge). LinksFit (starts_of e.lines) ms d.link_count) (sym links_are)
      (subst (LinksFit (starts_of e.lines) (map edge_from e.links ++ replicate (most_links - length (map edge_from e.links)) no_link)) (sym links_count)
      (links_fit_known e.lines S.counts.lines S.counts.points e.links (replicate (most_links - length (map edge_from e.links)) no_link) (all_ok e S.counts S.links_fit_known) S.links_on)))

  pub starts_held : StartsInside d.starts
  starts_held = subst StartsInside (sym starts_are) (starts_inside (drawing_from d).lines S.counts.points)

-- ---- for tracing

-- what tracing starts from
record View : Type 0 where
  filing_is : Filing
  points_is : Points
  starts_is : List ℕ
  lines_is : ℕ
  links_is : ℕ
  table_is : Table
  edges_is : Adjacency

abbrev view : Filing → Points → List ℕ → ℕ → ℕ → Table → Adjacency → View
view f ps s n m t a = record { filing_is = f; points_is = ps; starts_is = s; lines_is = n; links_is = m; table_is = t; edges_is = a }

abbrev view_moves : View → List Move
view_moves v = moves_in v.filing_is v.points_is v.starts_is v.lines_is v.links_is

abbrev view_state : View → Traced
view_state v = traced v.table_is v.edges_is 0 0 0

module _ (d : Drawing) (S : Sound d) (f : Store) (e : f ≡ store_links d.starts d.links d.link_count 0 no_store)
    (t : Table) (a : Adjacency) (et : t ≡ no_nodes) (ea : a ≡ no_edges) where
  filing_same : filing_from f ≡ filing_in (drawing_from d)
  filing_same =
      let b = drawing_from d in
      let e' : f ≡ store_links (starts_of b.lines) d.links (length b.links) 0 no_store =
      e ∙ ap (λ (s : List ℕ). store_links s d.links d.link_count 0 no_store) (starts_are d S) ∙ ap (λ (n : ℕ). store_links (starts_of b.lines) d.links n 0 no_store) (links_count d S) in
      filed_all_lem (starts_of b.lines) b.links d.links (replicate (most_links - length (map edge_from b.links)) no_link) f (links_are d S) S.links_on (ends_few b S.counts S.links_fit_known) e'

  one : View
  one = view (filing_from f) (points d.xs d.ys) d.starts d.lines d.link_count t a

  two : View
  two = let b = drawing_from d in view (filing_in b) (points_of b.lines) (starts_of b.lines) (length b.lines) (length b.links) no_nodes no_edges

  same_view : one ≡ two
  unfolding one two
  same_view =
      let b = drawing_from d in
      let p = points d.xs d.ys in
      ap (λ (x : Filing). view x p d.starts d.lines d.link_count t a) filing_same
      ∙ ap (λ (x : Points). view (filing_in b) x d.starts d.lines d.link_count t a) (points_are d S)
      ∙ ap (λ (x : List ℕ). view (filing_in b) (points_of b.lines) x d.lines d.link_count t a) (starts_are d S)
      ∙ ap (λ (x : ℕ). view (filing_in b) (points_of b.lines) (starts_of b.lines) x d.link_count t a) (lines_count d S)
      ∙ ap (λ (x : ℕ). view (filing_in b) (points_of b.lines) (starts_of b.lines) (length b.lines) x t a) (links_count d S)
      ∙ ap (λ (x : Table). view (filing_in b) (points_of b.lines) (starts_of b.lines) (length b.lines) (length b.links) x a) et
      ∙ ap (λ (x : Adjacency). view (filing_in b) (points_of b.lines) (starts_of b.lines) (length b.lines) (length b.links) no_nodes x) ea

  pub low_held : MeasurablePoints (points f.xs f.ys)
  low_held = subst (λ (k : Filing). MeasurablePoints k.ends) (sym filing_same) (low_places (drawing_from d).links S.links_on)

  pub ready_held : Ready (moves_in (filing_from f) (points d.xs d.ys) d.starts d.lines d.link_count) (traced t a 0 0 0)
  unfolding one two
  ready_held = subst (λ (v : View). Ready (view_moves v) (view_state v)) (sym same_view) (all_ready (drawing_from d) S.counts S.links_fit_known S.lines_on S.links_on)

  pub built_held : (s : Traced) → s ≡ traced_along anywhere (moves_in (filing_from f) (points d.xs d.ys) d.starts d.lines d.link_count) (traced t a 0 0 0)
      → Built (build_graph (drawing_from d)) s.node_count s.edge_count s.table.xs s.table.ys s.edges
  unfolding one two
  built_held s h = all_built (drawing_from d) S.counts S.links_fit_known S.lines_on S.links_on s (h ∙ ap (λ (v : View). traced_along anywhere (view_moves v) (view_state v)) same_view)
