-- Laws of specs/Stored.
use mathlib.Core.Path.{◌≡◌, sym, ap, ◌∙◌}
use mathlib.Core.List.{List}
use Prim.Native.Nat.{ℕ, suc, ◌+◌, ◌-◌, ◌*◌, ◌≤◌, ◌<◌}
use native.Mathlib.Omega.{arith}
use lib.ListN.{get_or, set}
use Rattle.drawing_spec.specs.Drawing.{Point}
use Rattle.graph_segment_ends.specs.Ends.{filed, file_end, Store, store, with_filed}
use Rattle.file_records.specs.declared.MstEdge.{MstEdge}
use Rattle.file_drawing.specs.Held.{past_end}
use Rattle.file_drawing.specs.Back.{point_back}
use Rattle.graph_filing.specs.Stored.{place_in, store_end, store_link, store_links}

pub end_stored : (e g k : ℕ) (p : Point) (t t' : Store) → k ≡ g → t' ≡ with_filed (file_end e k (filed t.newest t.next)) t.xs t.ys
    → store t'.newest t'.next (set t'.xs e p.x) (set t'.ys e p.y) ≡ store_end e g p t
unfolding store_end
end_stored e g k p t t' i h =
    ap (λ (z : Store). store z.newest z.next (set z.xs e p.x) (set z.ys e p.y)) h
    ∙ ap (λ (m : ℕ). with_filed (file_end e m (filed t.newest t.next)) (set t.xs e p.x) (set t.ys e p.y)) i

pub link_stored_lem : (starts : List ℕ) (i : ℕ) (m : MstEdge) (t t₁ t₂ : Store) (a b : Point) → a ≡ point_back m.point_a → b ≡ point_back m.point_b
    → t₁ ≡ store_end (2 * i) (place_in starts m.poly_a m.seg_a) a t → t₂ ≡ store_end (2 * i + 1) (place_in starts m.poly_b m.seg_b) b t₁ → t₂ ≡ store_link starts i m t
unfolding store_link
link_stored_lem starts i m t t₁ t₂ a b pa pb e₁ e₂ =
    let ga = place_in starts m.poly_a m.seg_a in
    let gb = place_in starts m.poly_b m.seg_b in
    e₂ ∙ ap (λ (p : Point). store_end (2 * i + 1) gb p t₁) pb ∙ ap (store_end (2 * i + 1) gb (point_back m.point_b)) (e₁ ∙ ap (λ (p : Point). store_end (2 * i) ga p t) pa)

-- ---- the loop

module _ (starts : List ℕ) (ms : List MstEdge) (n : ℕ) where
  pub links_turn : (i : ℕ) (t t' r : Store) → i < n → t' ≡ store_link starts i (get_or ms i past_end) t → store_links starts ms (n - i) i t ≡ r → store_links starts ms (n - (i + 1)) (i + 1) t' ≡ r
  unfolding store_links
  links_turn i t t' r h e k =
      let more : n - i ≡ suc (n - (i + 1)) = omega arith in
      ap (store_links starts ms (n - (i + 1)) (i + 1)) e ∙ sym (ap (λ (m : ℕ). store_links starts ms m i t) more) ∙ k

  pub links_done : (i : ℕ) (t r : Store) → n ≤ i → store_links starts ms (n - i) i t ≡ r → t ≡ r
  unfolding store_links
  links_done i t r h k = let none : n - i ≡ 0 = omega arith in sym (ap (λ (m : ℕ). store_links starts ms m i t) none) ∙ k
