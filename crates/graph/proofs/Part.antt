-- The first links of a list, filed as a list of their own: it is the same as to file so many of the whole list. Assumes nothing.
use mathlib.Core.Path.{◌≡◌, refl, sym, ap, subst, ◌∙◌}
use mathlib.Core.List.{List, [], ◌∷◌}
use Prim.Native.Nat.{ℕ, zero, suc, ◌+◌, ◌≤◌, ◌<◌}
use native.Mathlib.Nat.{not-suc-le-zero, le_of_suc-le-suc}
use native.Mathlib.Omega.{arith}
use lib.ListN.{length, get_or, take, length-take}
use Rattle.file_records.specs.declared.MstEdge.{MstEdge}
use Rattle.file_drawing.specs.Held.{past_end}
use Rattle.graph_segment_ends.specs.Ends.{Store}
use Rattle.graph_filing.specs.Stored.{store_link, store_links, LinkFits, LinksFit}

pub part_length : (n : ℕ) (ms : List MstEdge) → n ≤ length ms → length (take n ms) ≡ n
part_length n ms h = let is = length-take n ms in omega (arith, is, h)

pub part_get_d : (n i : ℕ) (ms : List MstEdge) → i < n → get_or (take n ms) i past_end ≡ get_or ms i past_end
part_get_d zero i ms h = absurd (not-suc-le-zero h)
part_get_d (suc n) i [] h = refl
part_get_d (suc n) zero (m ∷ ms) h = refl
part_get_d (suc n) (suc i) (m ∷ ms) h = part_get_d n i ms (le_of_suc-le-suc h)

pub part_stored : (starts : List ℕ) (n : ℕ) (ms : List MstEdge) (k i : ℕ) (t : Store) → i + k ≤ n → store_links starts (take n ms) k i t ≡ store_links starts ms k i t
unfolding store_links
part_stored starts n ms zero i t h = refl
part_stored starts n ms (suc k) i t h =
    let here : i < n = omega (arith, h) in
    let rest : (i + 1) + k ≤ n = omega (arith, h) in
    ap (λ (m : MstEdge). store_links starts (take n ms) k (i + 1) (store_link starts i m t)) (part_get_d n i ms here)
    ∙ part_stored starts n ms k (i + 1) (store_link starts i (get_or ms i past_end) t) rest

-- all of the part, where there are so many
pub held_stored : (starts : List ℕ) (n : ℕ) (ms : List MstEdge) (t : Store) → n ≤ length ms → store_links starts (take n ms) (length (take n ms)) 0 t ≡ store_links starts ms n 0 t
held_stored starts n ms t h =
    let within : 0 + n ≤ n = omega arith in
    ap (λ (k : ℕ). store_links starts (take n ms) k 0 t) (part_length n ms h) ∙ part_stored starts n ms n 0 t within

pub part_fits : (starts : List ℕ) (n : ℕ) (ms : List MstEdge) → n ≤ length ms → LinksFit starts ms n → LinksFit starts (take n ms) (length (take n ms))
part_fits starts n ms h f = record {
  each = λ i l.
      let is = part_length n ms h in
      let low : i < n = omega (arith, l, is) in
      subst (LinkFits starts) (sym (part_get_d n i ms low)) (f.each i low);
}
