-- What is read of a node table is the points of its nodes, and 0, 0 behind the last, as `point_at` says. Assumes nothing.
use mathlib.Core.Path.{◌≡◌, refl, sym, ap, ap₂, ◌∙◌}
use mathlib.Core.List.{List, ◌++◌, map}
use Prim.Native.Nat.{ℕ, suc, ◌+◌, ◌-◌, ◌≤◌}
use native.Mathlib.Decide.{dec_le}
use native.Mathlib.Omega.{arith}
use lib.ListN.{length, get_or, drop, replicate, length-map, length-replicate, get_or-map, get_or-append, get_or-eq_default}
use lib.Seq.{sets, sets-eq, get_or-append-add, get_or-drop}
use Rattle.limits.specs.Limits.{most_nodes}
use Rattle.drawing_spec.specs.Drawing.{Point, no_point}
use Rattle.lists.proofs.Elements.{get_d_same}
use Rattle.graph_spec.specs.Graph.{point_at}
use Rattle.graph_nodes.specs.Table.{Table}
use Rattle.graph_nodes.specs.Held.{Held}

-- a list put into an array of zeros
module _ (n : ℕ) (vs : List ℕ) (fits : length vs ≤ n) where
  listed : sets (replicate n 0) 0 vs ≡ vs ++ drop (0 + length vs) (replicate n 0)
  listed = sets-eq vs (replicate n 0) 0 (omega (arith, length-replicate {A = ℕ} n 0))

  listed_at : (j : ℕ) → get_or (sets (replicate n 0) 0 vs) j 0 ≡ get_or vs j 0
  listed_at j =
      ap (λ (l : List ℕ). get_or l j 0) listed
      ∙ elim (dec_le (suc j) (length vs)) [
        | yes h ↦ get_or-append vs (drop (0 + length vs) (replicate n 0)) 0 j h
        | no h ↦ past (j - length vs) (omega (arith, h)) ∙ sym (get_or-eq_default vs 0 (omega (arith, h)))
      ]
    where
      past : (k : ℕ) → j ≡ length vs + k → get_or (vs ++ drop (0 + length vs) (replicate {A = ℕ} n 0)) j 0 ≡ 0
      past k e =
          ap (λ (i : ℕ). get_or (vs ++ drop (0 + length vs) (replicate {A = ℕ} n 0)) i 0) e
          ∙ get_or-append-add vs (drop (0 + length vs) (replicate {A = ℕ} n 0)) k 0
          ∙ get_or-drop (0 + length vs) (replicate {A = ℕ} n 0) k 0 ∙ get_d_same n (0 + length vs + k) 0

coordinate : (f : Point → ℕ) (ns : List Point) (l : List ℕ) (v : ℕ) → f no_point ≡ 0 → length ns ≤ most_nodes → l ≡ sets (replicate most_nodes 0) 0 (map f ns) → get_or l v 0 ≡ f (point_at ns v)
coordinate f ns l v z room e =
    ap (λ (q : List ℕ). get_or q v 0) e ∙ listed_at most_nodes (map f ns) (omega (arith, length-map ns f)) v ∙ ap (get_or (map f ns) v) (sym z) ∙ get_or-map f ns v no_point

pub held_point : (t : Table) (ns : List Point) → Held t ns → (v : ℕ) → ◌≡◌ {A = Point} (record { x = get_or t.xs v 0; y = get_or t.ys v 0 }) (point_at ns v)
held_point t ns H v =
    ap₂ (λ (x y : ℕ). record { x = x; y = y })
    (coordinate (λ (p : Point). p.x) ns t.xs v refl H.room H.xs_are)
    (coordinate (λ (p : Point). p.y) ns t.ys v refl H.room H.ys_are)
