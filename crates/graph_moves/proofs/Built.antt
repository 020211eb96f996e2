-- Laws of specs/Built: the graph built along the moves of a drawing is the graph of the definitions, since an edge keeps its node numbers as later nodes come. Assumes nothing.
use mathlib.Core.Path.{◌≡◌, refl, sym, ap, ◌∙◌}
use mathlib.Core.Bool.{Bool, true, false}
use mathlib.Core.List.{List, [], ◌∷◌, ◌++◌, map, map-append, append_assoc, append-nil}
use Prim.Native.Nat.{ℕ, suc, ◌≤◌}
use native.Mathlib.Omega.{arith}
use lib.ListN.{length, length-append}
use Rattle.length.specs.Root.{length_of}
use Rattle.drawing_spec.specs.Drawing.{Point, same, Link, Drawing}
use Rattle.graph_spec.specs.Pieces.{Stroke, stroke, pieces, line_pieces, line_uses, pieces_from, uses_from, pieces_of, link_strokes, links_of, strokes_of, link_uses, uses_of}
use Rattle.graph_spec.specs.Chain.{squared, splits, sort, inner, distinct, chain}
use Rattle.graph_spec.specs.Graph.{Edge, edge, edge_of, node_of, get_or_insert, first_uses, build_graph}
use Rattle.graph_spec.specs.Nodes.{IsNode}
use Rattle.graph_spec.proofs.Nodes.{front, inserted, insert_node, insert_keeps}
use Rattle.graph_moves.specs.Moves.{Move, start, on, to, graph, moved, along, Stands, draw_all, line_moves}
use Rattle.graph_moves.proofs.Moves.{end_of, lines_moves, link_moves, moves_of, no_graph}
use Rattle.graph_moves.specs.Built.{uses_in}

-- ---- one more point, and all points after it

module _ (ns : List Point) (q : Point) where
  pub longer : length ns ≤ length (get_or_insert ns q)
  longer = inserted ns q (λ (ms : List Point). length ns ≤ length ms) (λ h. omega arith) (λ h. omega (arith, length-append ns (q ∷ [])))

  pub kept : (p : Point) → IsNode ns p → node_of (get_or_insert ns q) p ≡ node_of ns p
  kept p i = inserted ns q (λ (ms : List Point). node_of ms p ≡ node_of ns p) (λ h. refl) (λ h. front ns (q ∷ []) p i)

pub uses_keep : (ns ps : List Point) (p : Point) → IsNode ns p → node_of (first_uses ns ps) p ≡ node_of ns p
unfolding first_uses
uses_keep ns [] p i = refl
uses_keep ns (q ∷ ps) p i = uses_keep (get_or_insert ns q) ps p (insert_keeps ns q p i) ∙ kept ns q p i

-- ---- the strokes of moves

unfoldable pub strokes_in : Point → List Move → List Stroke
strokes_in p [] = []
strokes_in p (start q ∷ ms) = strokes_in q ms
strokes_in p (on q ∷ ms) = pieces p (q ∷ []) ++ strokes_in q ms

-- the edge of a stroke between nodes is the same with later nodes
edge_kept : (ns ps : List Point) (p q : Point) → IsNode ns p → IsNode ns q → map (edge_of ns) (pieces p (q ∷ [])) ≡ map (edge_of (first_uses ns ps)) (pieces p (q ∷ []))
unfolding pieces edge_of
edge_kept ns ps p q hp hq = go (same p q)
  where
    go : (t : Bool) → map (edge_of ns) (elim t [ true ↦ [] | false ↦ stroke p q ∷ [] ]) ≡ map (edge_of (first_uses ns ps)) (elim t [ true ↦ [] | false ↦ stroke p q ∷ [] ])
    go true = refl
    go false =
        ap (λ (u : ℕ). edge u (node_of ns q) (length_of (squared p q)) ∷ []) (sym (uses_keep ns ps p hp))
        ∙ ap (λ (v : ℕ). edge (node_of (first_uses ns ps) p) v (length_of (squared p q)) ∷ []) (sym (uses_keep ns ps q hq))

-- where the moves stand after the first one
pub stands_next : (ns : List Point) (p : Point) (m : Move) (ms : List Move) → Stands (get_or_insert ns (to m)) (to m) ms
stands_next ns p m [] = tt
stands_next ns p m (start q ∷ ms) = tt
stands_next ns p m (on q ∷ ms) = insert_node ns (to m)

pub along_is : (p : Point) (ms : List Move) (ns : List Point) (es : List Edge) → Stands ns p ms
    → along p ms (graph ns es) ≡ graph (first_uses ns (uses_in ms)) (es ++ map (edge_of (first_uses ns (uses_in ms))) (strokes_in p ms))
unfolding along moved strokes_in first_uses
along_is p [] ns es h = ap (graph ns) (sym (append-nil es))
along_is p (start q ∷ ms) ns es h = along_is q ms (get_or_insert ns q) es (stands_next ns p (start q) ms)
along_is p (on q ∷ ms) ns es h =
    let ns' = get_or_insert ns q in
    let all = first_uses ns' (uses_in ms) in
    let own = map (edge_of ns') (pieces p (q ∷ [])) in
    along_is q ms ns' (es ++ own) (stands_next ns p (on q) ms)
    ∙ ap (graph all) (append_assoc es own (map (edge_of all) (strokes_in q ms))
    ∙ ap (λ (fs : List Edge). es ++ (fs ++ map (edge_of all) (strokes_in q ms))) (edge_kept ns' (uses_in ms) p q (insert_keeps ns q p h) (insert_node ns q))
    ∙ ap (λ (fs : List Edge). es ++ fs) (sym (map-append (edge_of all) (pieces p (q ∷ [])) (strokes_in q ms))))

-- ---- the moves of a drawing make its strokes and use its points

strokes_append : (p : Point) (ms ks : List Move) → strokes_in p (ms ++ ks) ≡ strokes_in p ms ++ strokes_in (end_of p ms) ks
unfolding strokes_in end_of
strokes_append p [] ks = refl
strokes_append p (start q ∷ ms) ks = strokes_append q ms ks
strokes_append p (on q ∷ ms) ks =
    ap (λ (ss : List Stroke). pieces p (q ∷ []) ++ ss) (strokes_append q ms ks) ∙ sym (append_assoc (pieces p (q ∷ [])) (strokes_in q ms) (strokes_in (end_of q ms) ks))

strokes_chain : (p : Point) (qs : List Point) → strokes_in p (draw_all qs) ≡ pieces p qs
unfolding strokes_in pieces
strokes_chain p [] = refl
strokes_chain p (q ∷ qs) = go (same p q) (strokes_chain q qs)
  where
    go : (t : Bool) → strokes_in q (draw_all qs) ≡ pieces q qs
        → (elim t [ true ↦ [] | false ↦ stroke p q ∷ [] ]) ++ strokes_in q (draw_all qs) ≡ elim t [ true ↦ pieces q qs | false ↦ stroke p q ∷ pieces q qs ]
    go true h = h
    go false h = ap (λ (ss : List Stroke). stroke p q ∷ ss) h

uses_chain : (qs : List Point) → uses_in (draw_all qs) ≡ qs
uses_chain [] = refl
uses_chain (q ∷ qs) = ap (λ (ps : List Point). q ∷ ps) (uses_chain qs)

pub end_draw : (p : Point) (qs : List Point) (b : Point) → end_of p (draw_all (qs ++ (b ∷ []))) ≡ b
unfolding end_of
end_draw p [] b = refl
end_draw p (q ∷ qs) b = end_draw q qs b

end_chain : (ks : List Link) (l s : ℕ) (a b : Point) → end_of a (draw_all (chain ks l s a b)) ≡ b
unfolding chain
end_chain ks l s a b = end_draw a (distinct (inner a b (sort a (splits ks l s)))) b

module _ (ks : List Link) where
  strokes_line : (l s : ℕ) (a : Point) (ps : List Point) → strokes_in a (line_moves (chain ks l) s a ps) ≡ line_pieces ks l s a ps
  unfolding line_moves line_pieces strokes_in
  strokes_line l s a [] = refl
  strokes_line l s a (b ∷ ps) =
      let c = chain ks l s a b in
      strokes_append a (draw_all c) (line_moves (chain ks l) (suc s) b ps)
      ∙ ap (λ (ss : List Stroke). ss ++ strokes_in (end_of a (draw_all c)) (line_moves (chain ks l) (suc s) b ps)) (strokes_chain a c)
      ∙ ap (λ (p : Point). pieces a c ++ strokes_in p (line_moves (chain ks l) (suc s) b ps)) (end_chain ks l s a b)
      ∙ ap (λ (ss : List Stroke). pieces a c ++ ss) (strokes_line l (suc s) b ps)

  uses_line : (l s : ℕ) (a : Point) (ps : List Point) → uses_in (line_moves (chain ks l) s a ps) ≡ line_uses ks l s a ps
  unfolding line_moves line_uses
  uses_line l s a [] = refl
  uses_line l s a (b ∷ ps) =
      let c = chain ks l s a b in
      map-append to (draw_all c) (line_moves (chain ks l) (suc s) b ps)
      ∙ ap (λ (qs : List Point). qs ++ uses_in (line_moves (chain ks l) (suc s) b ps)) (uses_chain c)
      ∙ ap (λ (qs : List Point). c ++ qs) (uses_line l (suc s) b ps)

  strokes_lines : (p : Point) (l : ℕ) (ls : List (List Point)) → strokes_in p (lines_moves ks l ls) ≡ pieces_from ks l ls
  unfolding lines_moves pieces_from strokes_in
  strokes_lines p l [] = refl
  strokes_lines p l ([] ∷ ls) = strokes_lines p (suc l) ls
  strokes_lines p l ((a ∷ ps) ∷ ls) =
      strokes_append a (line_moves (chain ks l) 0 a ps) (lines_moves ks (suc l) ls)
      ∙ ap (λ (ss : List Stroke). ss ++ strokes_in (end_of a (line_moves (chain ks l) 0 a ps)) (lines_moves ks (suc l) ls)) (strokes_line l 0 a ps)
      ∙ ap (λ (ss : List Stroke). line_pieces ks l 0 a ps ++ ss) (strokes_lines (end_of a (line_moves (chain ks l) 0 a ps)) (suc l) ls)

  uses_lines : (l : ℕ) (ls : List (List Point)) → uses_in (lines_moves ks l ls) ≡ uses_from ks l ls
  unfolding lines_moves uses_from
  uses_lines l [] = refl
  uses_lines l ([] ∷ ls) = uses_lines (suc l) ls
  uses_lines l ((a ∷ ps) ∷ ls) =
      ap (λ (qs : List Point). a ∷ qs)
      (map-append to (line_moves (chain ks l) 0 a ps) (lines_moves ks (suc l) ls)
      ∙ ap (λ (qs : List Point). qs ++ uses_in (lines_moves ks (suc l) ls)) (uses_line l 0 a ps)
      ∙ ap (λ (qs : List Point). line_uses ks l 0 a ps ++ qs) (uses_lines (suc l) ls))

strokes_links : (p : Point) (ks : List Link) → strokes_in p (link_moves ks) ≡ link_strokes ks
unfolding strokes_in link_moves link_strokes
strokes_links p [] = refl
strokes_links p (k ∷ ks) = ap (λ (ss : List Stroke). pieces k.first.point (k.second.point ∷ []) ++ ss) (strokes_links k.second.point ks)

uses_links : (ks : List Link) → uses_in (link_moves ks) ≡ link_uses ks
unfolding link_moves link_uses
uses_links [] = refl
uses_links (k ∷ ks) = ap (λ (ps : List Point). k.first.point ∷ k.second.point ∷ ps) (uses_links ks)

module _ (d : Drawing) where
  pub strokes_of_lem : (p : Point) → strokes_in p (moves_of d) ≡ strokes_of d
  unfolding moves_of pieces_of links_of
  strokes_of_lem p =
      strokes_append p (lines_moves d.links 0 d.lines) (link_moves d.links)
      ∙ ap (λ (ss : List Stroke). ss ++ strokes_in (end_of p (lines_moves d.links 0 d.lines)) (link_moves d.links)) (strokes_lines d.links p 0 d.lines)
      ∙ ap (λ (ss : List Stroke). pieces_of d ++ ss) (strokes_links (end_of p (lines_moves d.links 0 d.lines)) d.links)

  pub uses_of_lem : uses_in (moves_of d) ≡ uses_of d
  unfolding moves_of uses_of
  uses_of_lem =
      map-append to (lines_moves d.links 0 d.lines) (link_moves d.links)
      ∙ ap (λ (ps : List Point). ps ++ uses_in (link_moves d.links)) (uses_lines d.links 0 d.lines)
      ∙ ap (λ (ps : List Point). uses_from d.links 0 d.lines ++ ps) (uses_links d.links)

-- the first move of a drawing draws nothing
stands_links : (ns : List Point) (p : Point) (ks : List Link) → Stands ns p (link_moves ks)
unfolding link_moves
stands_links ns p [] = tt
stands_links ns p (k ∷ ks) = tt

stands_lines : (ns : List Point) (p : Point) (ks : List Link) (l : ℕ) (ls : List (List Point)) (ms : List Move) → Stands ns p ms → Stands ns p (lines_moves ks l ls ++ ms)
unfolding lines_moves
stands_lines ns p ks l [] ms h = h
stands_lines ns p ks l ([] ∷ ls) ms h = stands_lines ns p ks (suc l) ls ms h
stands_lines ns p ks l ((a ∷ ps) ∷ ls) ms h = tt

pub stands_of : (ns : List Point) (p : Point) (d : Drawing) → Stands ns p (moves_of d)
unfolding moves_of
stands_of ns p d = stands_lines ns p d.links 0 d.lines (link_moves d.links) (stands_links ns p d.links)

-- The graph built along the moves is the graph of the drawing.
pub build_along : (d : Drawing) (p : Point) → along p (moves_of d) no_graph ≡ build_graph d
unfolding build_graph
build_along d p =
    along_is p (moves_of d) [] [] (stands_of [] p d)
    ∙ ap (λ (us : List Point). graph (first_uses [] us) (map (edge_of (first_uses [] us)) (strokes_in p (moves_of d)))) (uses_of_lem d)
    ∙ ap (λ (ss : List Stroke). graph (first_uses [] (uses_of d)) (map (edge_of (first_uses [] (uses_of d))) ss)) (strokes_of_lem d p)
