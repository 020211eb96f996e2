-- Laws of specs/Nodes.
use mathlib.Core.Path.{◌≡◌, refl, sym, ap, ◌∙◌}
use mathlib.Core.List.{List, [], ◌∷◌, ◌++◌}
use mathlib.Core.Bool.{Bool, true, false}
use Prim.Native.Nat.{ℕ, suc, ◌≤◌, ◌<◌}
use native.Mathlib.Nat.{not-suc-le-zero}
use native.Mathlib.Decide.{dec_le}
use native.Mathlib.Omega.{arith}
use lib.ListN.{length, length-append, get_or-append}
use lib.Seq.{get_or-append_seam}
use lib.Dec.{eqb}
use borrow.Author.Tests.{lt-ltb, le-ltb, eq-eqb, ne_eqb}
use Rattle.drawing_spec.specs.Drawing.{Point, same}
use Rattle.drawing_spec.proofs.Same.{same_true, same_refl, same_false, differ}
use Rattle.lists.specs.Members.{All}
use Rattle.lists.proofs.Members.{all_append}
use Rattle.graph_spec.specs.Graph.{find, node_of, point_at, get_or_insert, first_uses}
use Rattle.graph_spec.specs.Nodes.{IsNode}

-- ---- the number of a point

find_suc : (p : Point) (ns : List Point) (i : ℕ) → find p ns (suc i) ≡ suc (find p ns i)
unfolding find
find_suc p [] i = refl
find_suc p (q ∷ qs) i = go (same p q) (find_suc p qs (suc i))
  where
    go : (t : Bool) → find p qs (suc (suc i)) ≡ suc (find p qs (suc i))
        → (elim t [ true ↦ suc i | false ↦ find p qs (suc (suc i)) ]) ≡ suc (elim t [ true ↦ i | false ↦ find p qs (suc i) ])
    go true h = refl
    go false h = h

-- in a list that begins with q: p is q and has the number 0, or its number is one more than among the others
first : (p q : Point) (qs : List Point) → same p q ≡ true → node_of (q ∷ qs) p ≡ 0
unfolding find
first p q qs e = rw (e, find)

later : (p q : Point) (qs : List Point) → same p q ≡ false → node_of (q ∷ qs) p ≡ suc (node_of qs p)
unfolding find
later p q qs e = rw (e, find) (find_suc p qs 0)

-- a number below the length is the number of that very point
pub node_point : (ns : List Point) (p : Point) → node_of ns p < length ns → point_at ns (node_of ns p) ≡ p
node_point [] p h = absurd (not-suc-le-zero h)
node_point (q ∷ qs) p h = go (same p q) refl (node_point qs p)
  where
    go : (t : Bool) → same p q ≡ t → (node_of qs p < length qs → point_at qs (node_of qs p) ≡ p) → point_at (q ∷ qs) (node_of (q ∷ qs) p) ≡ p
    go true e r = rw (first p q qs e) (sym (same_true p q e))
    go false e r = rw (later p q qs e) (r (omega (arith, later p q qs e)))

-- points put behind do not change the numbers of those in front
pub front : (ns ms : List Point) (p : Point) → node_of ns p < length ns → node_of (ns ++ ms) p ≡ node_of ns p
front [] ms p h = absurd (not-suc-le-zero h)
front (q ∷ qs) ms p h = go (same p q) refl (front qs ms p)
  where
    go : (t : Bool) → same p q ≡ t → (node_of qs p < length qs → node_of (qs ++ ms) p ≡ node_of qs p) → node_of (q ∷ (qs ++ ms)) p ≡ node_of (q ∷ qs) p
    go true e r = cc (first p q (qs ++ ms) e, first p q qs e)
    go false e r = rw (later p q (qs ++ ms) e, later p q qs e) (ap suc (r (omega (arith, later p q qs e))))

-- and a point that is none of them is numbered after them
pub behind : (ns : List Point) (p : Point) → length ns ≤ node_of ns p → node_of (ns ++ (p ∷ [])) p ≡ length ns
behind [] p h = first p p [] (same_refl p)
behind (q ∷ qs) p h = go (same p q) refl (behind qs p)
  where
    go : (t : Bool) → same p q ≡ t → (length qs ≤ node_of qs p → node_of (qs ++ (p ∷ [])) p ≡ length qs) → node_of (q ∷ (qs ++ (p ∷ []))) p ≡ suc (length qs)
    go true e r = absurd (omega (arith, first p q qs e))
    go false e r = rw (later p q (qs ++ (p ∷ [])) e) (ap suc (r (omega (arith, later p q qs e))))

-- a point that is neither one of them nor the one put behind them
pub neither : (ns : List Point) (p b : Point) → length ns ≤ node_of ns p → same p b ≡ false → node_of (ns ++ (b ∷ [])) p ≡ suc (length ns)
unfolding find
neither [] p b h d = later p b [] d
neither (q ∷ qs) p b h d = go (same p q) refl (λ k. neither qs p b k d)
  where
    go : (t : Bool) → same p q ≡ t → (length qs ≤ node_of qs p → node_of (qs ++ (b ∷ [])) p ≡ suc (length qs)) → node_of (q ∷ (qs ++ (b ∷ []))) p ≡ suc (suc (length qs))
    go true e r = absurd (omega (arith, first p q qs e))
    go false e r = rw (later p q (qs ++ (b ∷ [])) e) (ap suc (r (omega (arith, later p q qs e))))

-- every node has its own number
abbrev pub Numbered : List Point → Type 0
Numbered ns = (u : ℕ) → u < length ns → node_of ns (point_at ns u) ≡ u

module _ (ns : List Point) (N : Numbered ns) where
  -- so no two nodes are one point
  pub distinct : (u v : ℕ) → u < length ns → v < length ns → point_at ns u ≡ point_at ns v → u ≡ v
  distinct u v hu hv e = sym (N u hu) ∙ ap (λ (p : Point). node_of ns p) e ∙ N v hv

  pub is_node : (u : ℕ) → u < length ns → IsNode ns (point_at ns u)
  is_node u h = rw (N u h) h

  -- numbers are compared in place of points
  pub by_number : (p : Point) (u : ℕ) → IsNode ns p → u < length ns → same p (point_at ns u) ≡ eqb (node_of ns p) u
  by_number p u i h = go (same p (point_at ns u)) refl
    where
      go : (t : Bool) → same p (point_at ns u) ≡ t → t ≡ eqb (node_of ns p) u
      go true e = sym (eq-eqb (node_of ns p) u (ap (λ (q : Point). node_of ns q) (same_true p (point_at ns u) e) ∙ N u h))
      go false e = sym (ne_eqb (node_of ns p) u (λ k. differ p (point_at ns u) e (sym (node_point ns p i) ∙ ap (λ (v : ℕ). point_at ns v) k)))

-- a node is not a point that is no node
pub no_node : (ns : List Point) (p q : Point) → length ns ≤ node_of ns p → IsNode ns q → same q p ≡ false
no_node ns p q h i = same_false q p (λ e. let k : node_of ns q ≡ node_of ns p = ap (λ (r : Point). node_of ns r) e in omega arith)

-- ---- one more point

added : (ns : List Point) (p : Point) → Numbered ns → length ns ≤ node_of ns p → Numbered (ns ++ (p ∷ []))
added ns p N h u l = elim (dec_le (suc u) (length ns)) [ yes i ↦ old i | no i ↦ new (omega (arith, length-append ns (p ∷ []), i)) ]
  where
    old : u < length ns → node_of (ns ++ (p ∷ [])) (point_at (ns ++ (p ∷ [])) u) ≡ u
    old i = rw (get_or-append ns (p ∷ []) (point_at [] 0) u i) (front ns (p ∷ []) (point_at ns u) (is_node ns N u i) ∙ N u i)

    new : u ≡ length ns → node_of (ns ++ (p ∷ [])) (point_at (ns ++ (p ∷ [])) u) ≡ u
    new e = rw (e, get_or-append_seam ns p [] (point_at [] 0)) (behind ns p h)

module _ (ns : List Point) (p : Point) where
  -- the nodes stay as they are where p is one of them, and otherwise p comes last
  pub inserted : (Q : List Point → Type 0) → (IsNode ns p → Q ns) → (length ns ≤ node_of ns p → Q (ns ++ (p ∷ []))) → Q (get_or_insert ns p)
  unfolding get_or_insert
  inserted Q old new =
      elim (dec_le (suc (node_of ns p)) (length ns)) [
        | yes h ↦ rw (lt-ltb (node_of ns p) (length ns) h, get_or_insert) (old h)
        | no h ↦ let past : length ns ≤ node_of ns p = omega arith in rw (le-ltb (node_of ns p) (length ns) past, get_or_insert) (new past)
      ]

  insert_numbered : Numbered ns → Numbered (get_or_insert ns p)
  insert_numbered N = inserted Numbered (λ h. N) (added ns p N)

  pub insert_node : IsNode (get_or_insert ns p) p
  insert_node = inserted (λ (ms : List Point). IsNode ms p) (λ h. h) (λ h. omega (arith, behind ns p h, length-append ns (p ∷ [])))

  pub insert_keeps : (q : Point) → IsNode ns q → IsNode (get_or_insert ns p) q
  insert_keeps q i = inserted (λ (ms : List Point). IsNode ms q) (λ h. i) (λ h. omega (arith, front ns (p ∷ []) q i, length-append ns (p ∷ [])))

  insert_all : (P : Point → Type 0) → All P ns → P p → All P (get_or_insert ns p)
  insert_all P a h = inserted (All P) (λ i. a) (λ i. all_append P ns (p ∷ []) a (h, tt))

-- ---- all points in the order of their use

pub uses_numbered : (ns ps : List Point) → Numbered ns → Numbered (first_uses ns ps)
unfolding first_uses
uses_numbered ns [] N = N
uses_numbered ns (p ∷ ps) N = uses_numbered (get_or_insert ns p) ps (insert_numbered ns p N)

uses_keep : (ns ps : List Point) (q : Point) → IsNode ns q → IsNode (first_uses ns ps) q
unfolding first_uses
uses_keep ns [] q i = i
uses_keep ns (p ∷ ps) q i = uses_keep (get_or_insert ns p) ps q (insert_keeps ns p q i)

-- every point of use is a node
pub uses_nodes : (ns ps : List Point) → All (IsNode (first_uses ns ps)) ps
unfolding first_uses
uses_nodes ns [] = tt
uses_nodes ns (p ∷ ps) = (uses_keep (get_or_insert ns p) ps p (insert_node ns p), uses_nodes (get_or_insert ns p) ps)

-- and every node is one of them
pub uses_all : (P : Point → Type 0) (ns ps : List Point) → All P ns → All P ps → All P (first_uses ns ps)
unfolding first_uses
uses_all P ns [] a b = a
uses_all P ns (p ∷ ps) a b = uses_all P (get_or_insert ns p) ps (insert_all ns p P a b.0) b.1
