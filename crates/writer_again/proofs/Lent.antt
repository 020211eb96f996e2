-- The front of each array, as it is lent to the writer: it has what was filled, and no more.
use mathlib.Core.Path.{◌≡◌, refl, sym, ap, ◌∙◌}
use mathlib.Core.List.{List, [], ◌∷◌}
use Prim.Native.Nat.{ℕ, zero, suc, ◌+◌, ◌*◌, ◌≤◌}
use native.Mathlib.Nat.{mul-zero, mul-suc, add_comm}
use native.Mathlib.Omega.{arith}
use lib.ListN.{length, get_or, take, drop, replicate, length-append, length-replicate}
use lib.Seq.{sets, sets-eq, length-sets, length-take-le, take_at}
use Rattle.limits.specs.Limits.{most_lines, most_points, most_links}
use Rattle.file_records.specs.Meaning.{settings_of}
use Rattle.file_records.specs.declared.MstEdge.{MstEdge}
use Rattle.file_drawing.specs.Held.{past_end}
use Rattle.file_drawing.specs.declared.Drawing.{Drawing}
use Rattle.writer_spec.specs.Given.{given}
use Rattle.writer_again.specs.Filled.{appended, size_at, sizes_in, bits_of, coordinates_in, segments_of, segments_in, ends_of, ends_in, given_in, Savable}

-- ---- of any array

appended_long : (f : ℕ → List ℕ) (w : ℕ) → ((i : ℕ) → length (f i) ≡ w) → (k i : ℕ) → length (appended f k i) ≡ w * k
unfolding appended
appended_long f w h zero i = sym (mul-zero w)
appended_long f w h (suc k) i =
    let here = h i in
    let later = appended_long f w h k (suc i) in
    let all : w * suc k ≡ w + w * k = mul-suc w k ∙ add_comm (w * k) w in
    length-append (f i) (appended f k (suc i)) ∙ (λ v. here v + later v) ∙ sym all

module _ (m : ℕ) (vs xs : List ℕ) (is : vs ≡ sets (replicate m 0) 0 xs) (n : ℕ) (few : n ≤ m) where
  filled_size : length vs ≡ m
  filled_size = ap (λ (l : List ℕ). length l) is ∙ length-sets (replicate m 0) 0 xs ∙ length-replicate m 0

  -- as many as are lent
  lent_long : n ≡ length (take n vs)
  lent_long = let l = filled_size in sym (length-take-le n vs (omega arith))

  -- and those are what was filled
  lent_is : length xs ≡ n → take n vs ≡ xs
  lent_is e =
      let r = length-replicate {A = ℕ} m 0 in
      ap (take n) (is ∙ sets-eq xs (replicate m 0) 0 (omega arith)) ∙ take_at xs (drop (0 + length xs) (replicate m 0)) n e

-- ---- the four slices that are lent

module _ (d : Drawing) (s : Savable d) where
  module _ (sizes : List ℕ) (is : sizes ≡ sets (replicate most_lines 0) 0 (sizes_in d.starts d.lines)) where
    pub sizes_lent : d.lines ≡ length (take d.lines sizes)
    sizes_lent = lent_long most_lines sizes (sizes_in d.starts d.lines) is d.lines s.lines_few

    sizes_filled : take d.lines sizes ≡ sizes_in d.starts d.lines
    sizes_filled =
        let l = appended_long (λ (i : ℕ). size_at d.starts i ∷ []) 1 (λ i. refl) d.lines 0 in
        lent_is most_lines sizes (sizes_in d.starts d.lines) is d.lines s.lines_few (omega arith)

  module _ (coordinates : List ℕ) (is : coordinates ≡ sets (replicate (2 * most_points) 0) 0 (coordinates_in d.xs d.ys d.points)) where
    pub coordinates_lent : 2 * d.points ≡ length (take (2 * d.points) coordinates)
    coordinates_lent = let few = s.points_few in lent_long (2 * most_points) coordinates (coordinates_in d.xs d.ys d.points) is (2 * d.points) (omega arith)

    coordinates_filled : take (2 * d.points) coordinates ≡ coordinates_in d.xs d.ys d.points
    coordinates_filled =
        let few = s.points_few in
        lent_is (2 * most_points) coordinates (coordinates_in d.xs d.ys d.points) is (2 * d.points) (omega arith) (appended_long (λ (i : ℕ). bits_of (get_or d.xs i 0) (get_or d.ys i 0)) 2 (λ i. refl) d.points 0)

  -- of each link four numbers
  module _ (f : MstEdge → List ℕ) (four : (e : MstEdge) → length (f e) ≡ 4) (vs : List ℕ) (is : vs ≡ sets (replicate (4 * most_links) 0) 0 (appended (λ (i : ℕ). f (get_or d.links i past_end)) d.link_count 0)) where
    pub links_lent : 4 * d.link_count ≡ length (take (4 * d.link_count) vs)
    links_lent = let few = s.links_few in lent_long (4 * most_links) vs (appended (λ (i : ℕ). f (get_or d.links i past_end)) d.link_count 0) is (4 * d.link_count) (omega arith)

    links_filled : take (4 * d.link_count) vs ≡ appended (λ (i : ℕ). f (get_or d.links i past_end)) d.link_count 0
    links_filled =
        let few = s.links_few in
        lent_is (4 * most_links) vs (appended (λ (i : ℕ). f (get_or d.links i past_end)) d.link_count 0) is (4 * d.link_count) (omega arith)
        (appended_long (λ (i : ℕ). f (get_or d.links i past_end)) 4 (λ i. four (get_or d.links i past_end)) d.link_count 0)

  pub lent_given : (sizes coordinates segments ends : List ℕ)
      → sizes ≡ sets (replicate most_lines 0) 0 (sizes_in d.starts d.lines)
      → coordinates ≡ sets (replicate (2 * most_points) 0) 0 (coordinates_in d.xs d.ys d.points)
      → segments ≡ sets (replicate (4 * most_links) 0) 0 (segments_in d.links d.link_count)
      → ends ≡ sets (replicate (4 * most_links) 0) 0 (ends_in d.links d.link_count)
      → given (settings_of d.settings) (take d.lines sizes) (take (2 * d.points) coordinates) (take (4 * d.link_count) segments) (take (4 * d.link_count) ends) ≡ given_in d
  lent_given sizes coordinates segments ends es ec em ee =
      λ v. given (settings_of d.settings) (sizes_filled sizes es v) (coordinates_filled coordinates ec v) (links_filled segments_of (λ e. refl) segments em v) (links_filled ends_of (λ e. refl) ends ee v)
