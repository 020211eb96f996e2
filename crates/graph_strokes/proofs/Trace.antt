-- Laws of specs/Trace.
use mathlib.Core.Path.{◌≡◌, sym, ap, ◌∙◌}
use mathlib.Core.Bool.{Bool, true, false, cond}
use mathlib.Core.List.{List, [], ◌∷◌, ◌++◌, map, append-nil}
use Prim.Native.Nat.{ℕ, ◌+◌}
use lib.ListN.{length, length-append}
use lib.Ieee.{Float}
use Rattle.length.specs.Root.{length_of}
use Rattle.drawing_spec.specs.Drawing.{Point, same}
use Rattle.graph_spec.specs.Pieces.{stroke, pieces}
use Rattle.graph_spec.specs.Chain.{squared}
use Rattle.graph_spec.specs.Graph.{Edge, edge_of, node_of}
use Rattle.graph_adjacency.specs.Lists.{Adjacency, push, lists}
use Rattle.graph_adjacency.proofs.Follow.{lists_push}
use Rattle.graph_strokes.specs.Trace.{with_stroke, drawn_as}

module _ (m u v : ℕ) (p q : Point) (g : Adjacency) where
  pub drawn_nothing : (t : Bool) → t ≡ same p q → t ≡ true → drawn_as m g ≡ with_stroke m u v p q g
  unfolding with_stroke
  drawn_nothing t e h = ap (λ (b : Bool). cond b (drawn_as m g) (drawn_as (m + 1) (push m u v (length_of (squared p q)) g))) (sym h ∙ e)

  pub drawn_edge : (t : Bool) → t ≡ same p q → t ≡ false → (n : ℕ) → n ≡ squared p q → (w : Float) → w ≡ length_of n → (g' : Adjacency) → g' ≡ push m u v w g → drawn_as (m + 1) g' ≡ with_stroke m u v p q g
  unfolding with_stroke
  drawn_edge t e h n hn w hw g' hg =
      ap (drawn_as (m + 1)) (hg ∙ ap (λ (x : Float). push m u v x g) (hw ∙ ap length_of hn))
      ∙ ap (λ (b : Bool). cond b (drawn_as m g) (drawn_as (m + 1) (push m u v (length_of (squared p q)) g))) (sym h ∙ e)

-- ---- on the graph's edges it is the edge of the stroke, where there is one

pub drawn_lists : (ns : List Point) (es : List Edge) (p q : Point)
    → with_stroke (length es) (node_of ns p) (node_of ns q) p q (lists es) ≡ drawn_as (length (es ++ map (edge_of ns) (pieces p (q ∷ [])))) (lists (es ++ map (edge_of ns) (pieces p (q ∷ []))))
unfolding with_stroke pieces edge_of
drawn_lists ns es p q = go (same p q)
  where
    go : (t : Bool) → cond t (drawn_as (length es) (lists es)) (drawn_as (length es + 1) (push (length es) (node_of ns p) (node_of ns q) (length_of (squared p q)) (lists es)))
        ≡ drawn_as (length (es ++ map (edge_of ns) (elim t [ true ↦ [] | false ↦ stroke p q ∷ [] ]))) (lists (es ++ map (edge_of ns) (elim t [ true ↦ [] | false ↦ stroke p q ∷ [] ])))
    go true = ap (λ (fs : List Edge). drawn_as (length fs) (lists fs)) (sym (append-nil es))
    go false =
        ap (drawn_as (length es + 1)) (lists_push es (edge_of ns (stroke p q)))
        ∙ ap (λ (k : ℕ). drawn_as k (lists (es ++ (edge_of ns (stroke p q) ∷ [])))) (sym (length-append es (edge_of ns (stroke p q) ∷ [])))
