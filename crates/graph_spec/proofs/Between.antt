-- What lies between two nodes, counted by points, is what lies between them counted by node numbers; between two points that are not both nodes lies nothing.
use mathlib.Core.Path.{◌≡◌, refl, ap₂, ◌∙◌}
use mathlib.Core.Logic.{◌⊎◌, inl, inr}
use mathlib.Core.List.{List, [], ◌∷◌, map}
use mathlib.Core.Bool.{and-false}
use Prim.Native.Nat.{ℕ, ◌+◌, ◌≤◌, ◌<◌}
use native.Mathlib.Omega.{arith}
use lib.ListN.{length}
use Rattle.drawing_spec.specs.Drawing.{Point}
use Rattle.lists.specs.Members.{All}
use Rattle.graph_spec.specs.Graph.{node_of, point_at}
use Rattle.graph_spec.specs.Odd.{hit}
use Rattle.graph_spec.specs.Count.{sum_over, step_sum, line_sum, joint, lies, touches}
use Rattle.graph_spec.specs.Nodes.{IsNode}
use Rattle.graph_spec.proofs.Nodes.{Numbered, is_node, by_number, no_node}

-- ---- sums over the images of a list, element by element

module _ {A : Type 0} where
  pub sum_none : (g : A → ℕ) (xs : List A) → All (λ (x : A). g x ≡ 0) xs → sum_over g xs ≡ 0
  unfolding sum_over
  sum_none g [] a = refl
  sum_none g (x ∷ xs) a = omega (arith, a.0, sum_none g xs a.1)

  pub sum_map : {B : Type 0} (f : A → B) (g : B → ℕ) (h : A → ℕ) (xs : List A) → All (λ (x : A). g (f x) ≡ h x) xs → sum_over g (map f xs) ≡ sum_over h xs
  unfolding sum_over
  sum_map f g h [] a = refl
  sum_map f g h (x ∷ xs) a = omega (arith, a.0, sum_map f g h xs a.1)

  -- the same for what follows each other in a line
  module _ {B : Type 0} (f : A → B) (w : B → B → ℕ) (t : A → A → ℕ) (P : A → Type 0) (e : (x y : A) → P x → P y → w (f x) (f y) ≡ t x y) where
    steps_map : (x : A) (ys : List A) → P x → All P ys → step_sum w (f x) (map f ys) ≡ step_sum t x ys
    unfolding step_sum
    steps_map x [] p a = refl
    steps_map x (y ∷ ys) p a = omega (arith, e x y p a.0, steps_map y ys a.0 a.1)

    pub line_map : (xs : List A) → All P xs → line_sum w (map f xs) ≡ line_sum t xs
    unfolding line_sum
    line_map [] a = refl
    line_map (x ∷ xs) a = steps_map x xs a.0 a.1

  steps_zero : (x : A) (ys : List A) → step_sum (λ (x y : A). 0) x ys ≡ 0
  unfolding step_sum
  steps_zero x [] = refl
  steps_zero x (y ∷ ys) = omega (arith, steps_zero y ys)

  pub line_zero : (xs : List A) → line_sum (λ (x y : A). 0) xs ≡ 0
  unfolding line_sum
  line_zero [] = refl
  line_zero (x ∷ xs) = steps_zero x xs

-- ---- by points and by numbers

-- where p and q are nodes, w counts of them what t counts of their numbers
abbrev pub Agrees : List Point → (Point → Point → ℕ) → (ℕ → ℕ → ℕ) → Type 0
Agrees ns w t = (p q : Point) → IsNode ns p → IsNode ns q → w p q ≡ t (node_of ns p) (node_of ns q)

abbrev pub nothing : ℕ → ℕ → ℕ
nothing a b = 0

module _ (ns : List Point) (N : Numbered ns) where
  pub lies_joint : (u v : ℕ) → u < length ns → v < length ns → Agrees ns (lies (point_at ns u) (point_at ns v)) (joint u v)
  lies_joint u v hu hv p q i j = simp (by_number ns N p u i hu, by_number ns N q v j hv, by_number ns N p v i hv, by_number ns N q u j hu)

  pub touches_hit : (u : ℕ) → u < length ns → Agrees ns (touches (point_at ns u)) (λ (a b : ℕ). hit a u + hit b u)
  touches_hit u hu p q i j = simp (by_number ns N p u i hu, by_number ns N q u j hu)

  -- where a point is no node
  pub lies_none : (p q : Point) → (length ns ≤ node_of ns p) ⊎ (length ns ≤ node_of ns q) → Agrees ns (lies p q) nothing
  lies_none p q (inl h) a b i j = simp (no_node ns p a h i, no_node ns p b h j, and-false)
  lies_none p q (inr h) a b i j = simp (no_node ns q a h i, no_node ns q b h j, and-false)

  pub touches_none : (p : Point) → length ns ≤ node_of ns p → Agrees ns (touches p) nothing
  touches_none p h a b i j = simp (no_node ns p a h i, no_node ns p b h j)

  -- steps of a line of nodes
  pub steps_agree : (w : Point → Point → ℕ) (t : ℕ → ℕ → ℕ) → Agrees ns w t → (line : List ℕ) → All (λ (a : ℕ). a < length ns) line → line_sum w (map (point_at ns) line) ≡ line_sum t line
  steps_agree w t e =
      line_map (point_at ns) w t (λ (a : ℕ). a < length ns)
      (λ a b ha hb. e (point_at ns a) (point_at ns b) (is_node ns N a ha) (is_node ns N b hb) ∙ ap₂ t (N a ha) (N b hb))

  pub steps_none : (w : Point → Point → ℕ) → Agrees ns w nothing → (line : List ℕ) → All (λ (a : ℕ). a < length ns) line → line_sum w (map (point_at ns) line) ≡ 0
  steps_none w e line a = steps_agree w nothing e line a ∙ line_zero line
