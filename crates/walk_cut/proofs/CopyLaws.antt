-- Laws of specs/Copy.
use mathlib.Core.Path.{◌≡◌, refl, sym, ◌∙◌}
use mathlib.Core.List.{List, [], ◌∷◌, ◌++◌, append-nil, append_assoc}
use Prim.Native.Nat.{ℕ, zero, suc, ◌+◌, ◌-◌, ◌≤◌, ◌<◌}
use native.Mathlib.Numerals.{add-one}
use native.Mathlib.Omega.{arith}
use lib.ListN.{length, get_or, set, take, length-set}
use lib.Seq.{take-suc-set, get_or-take}
use Rattle.limits.specs.Limits.{line_room}
use Rattle.graph_arrays.specs.NodeList.{NodeList}
use Rattle.walk_cut.specs.Copy.{Copy, Copying, places_of}

-- what the copy still gives is the same
pub record Copied (ns : List ℕ) (p₀ q : ℕ) (line₀ : List ℕ) (n₀ : ℕ) (p : ℕ) (line : List ℕ) (n : ℕ) : Type 0 where
  pub same : Copying ns p q line n ≡ Copying ns p₀ q line₀ n₀
  pub count : n + (q - p) ≡ n₀ + (q - p₀)
  pub long : length line ≡ line_room

module _ (ns : List ℕ) (p₀ q : ℕ) (line₀ : List ℕ) (n₀ : ℕ) where
  pub copied_none : length line₀ ≡ line_room → Copied ns p₀ q line₀ n₀ p₀ line₀ n₀
  copied_none l = record { same = refl; count = refl; long = l }

  pub copied_more : (p : ℕ) (line : List ℕ) (n : ℕ) → p < q → n < line_room → Copied ns p₀ q line₀ n₀ p line n → Copied ns p₀ q line₀ n₀ (p + 1) (set line n (get_or ns p 0)) (n + 1)
  unfolding places_of
  copied_more p line n h l c =
      let room : n < length line = omega (arith, c.long) in
      let more : q - p ≡ suc (q - suc p) = omega arith in
      record {
        same = rw (add-one n, add-one p, take-suc-set line n (get_or ns p 0) room, append_assoc) (rw more at c.same);
        count = omega (arith, c.count);
        long = simp length-set c.long;
      }

  pub copied_all : (p : ℕ) (line : List ℕ) (n : ℕ) → q ≤ p → Copied ns p₀ q line₀ n₀ p line n → Copy ns p₀ q line₀ n₀ line n
  unfolding places_of
  copied_all p line n h c =
      let none : q - p ≡ 0 = omega arith in
      record { is = sym (append-nil (take n line)) ∙ rw none at c.same; count = omega (arith, c.count); long = c.long }

-- ---- bounds of what is copied

abbrev pub AllBelow : ℕ → List ℕ → Type 0
AllBelow bound l = (j : ℕ) → get_or l j 0 < bound

pub below_append : (bound : ℕ) (xs ys : List ℕ) → AllBelow bound xs → AllBelow bound ys → AllBelow bound (xs ++ ys)
below_append bound [] ys h k j = k j
below_append bound (x ∷ xs) ys h k zero = h 0
below_append bound (x ∷ xs) ys h k (suc j) = below_append bound xs ys (λ i. h (suc i)) k j

pub places_below : (ns : List ℕ) (bound n p : ℕ) → 0 < bound → ((q : ℕ) → p ≤ q → q < p + n → get_or ns q 0 < bound) → AllBelow bound (places_of n p ns)
unfolding places_of
places_below ns bound zero p s h j = s
places_below ns bound (suc n) p s h zero = h p (omega arith) (omega arith)
places_below ns bound (suc n) p s h (suc j) = places_below ns bound n (suc p) s (λ q k m. h q (omega arith) (omega arith)) j

-- a list of such nodes in the front of an array
pub taken_nodes : (n r : ℕ) (line l : List ℕ) → take r line ≡ l → r ≤ line_room → length line ≡ line_room → 0 < n → AllBelow n l → NodeList n line_room line r
taken_nodes n r line l e few long s b = record {
  fits = few;
  long = omega arith;
  nodes_in_known = λ j h. rw (← get_or-take r line j 0 h, e) (b j);
}

-- of a copy to an empty line
pub copy_nodes : (ns : List ℕ) (p q n : ℕ) (line : List ℕ) (r : ℕ) {line₀ : List ℕ} → Copy ns p q line₀ 0 line r → q ≤ line_room → 0 < n
    → ((j : ℕ) → p ≤ j → j < q → get_or ns j 0 < n) → NodeList n line_room line r
copy_nodes ns p q n line r c few some b =
    taken_nodes n r line _ c.is (omega (arith, c.count)) c.long some (places_below ns n (q - p) p some (λ i k m. b i k (omega (arith, k, m))))
