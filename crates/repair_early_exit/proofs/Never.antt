-- Repair of a graph that is in one piece never stops with 12: every search of it finds its path. It stops with the number for the limit of edges or not at all, and leaves a graph that can be searched and
-- is in one piece.
use Prim.Native.Nat.{ℕ, ◌<◌}
use native.Mathlib.Omega.{arith}
use mathlib.Core.Path.{◌≡◌, refl, sym}
use mathlib.Core.List.{List, [], ◌∷◌}
use mathlib.Core.Bool.{Bool, true, false}
use lib.ListN.{length, get_or}
use lib.Dec.{eqb, leb}
use borrow.Author.Tests.{leb-false, eqb-true}
use Rattle.limits.specs.Limits.{refused_path}
use Rattle.drawing_spec.specs.Drawing.{Settings, closing}
use Rattle.lists.proofs.Members.{either}
use Rattle.graph_spec.specs.Graph.{Edge, Graph}
use Rattle.graph_spec.specs.Odd.{odd_nodes}
use Rattle.graph_spec.specs.Ways.{Reach}
use Rattle.graph_spec.proofs.Sums.{hit_same}
use Rattle.graph_spec.specs.Reach.{all_reached}
use Rattle.graph_spec.proofs.Connected.{reach_trans, reach_sym, reach_more}
use Rattle.graph_spec.proofs.Reached.{all_reached_lem}
use Rattle.graph_spec.proofs.Handshake.{handshake}
use Rattle.graph_spec.proofs.Occurs.{count}
use Rattle.repair_spec.specs.Distance.{zero_length}
use Rattle.repair_spec.specs.Retrace.{Path, found, error, shortest_path}
use Rattle.repair_spec.specs.Copies.{Laid, lay_path}
use Rattle.repair_spec.proofs.Copies.{lay_old}
use Rattle.repair_spec.specs.Pairing.{Pair, pair, ends}
use Rattle.repair_spec.specs.Repair.{Repair, Repairing, stopped, repaired, with_sum, add_sum, retraced, apply_matching, pairs_of, close, close_if, drawn, fix_parity}
use Rattle.repair_spec.proofs.Repaired.{pairs_of_lem, pair_of, odd_below}
use Rattle.graph_spec.specs.Weights.{Searchable}
use Rattle.repair_early_exit.proofs.Laid.{retrace_searchable}
use Rattle.repair_early_exit.proofs.Found.{path_found}

-- every two of the n nodes are joined by a way
abbrev pub OnePiece : ℕ → List Edge → Type 0
OnePiece n es = (u v : ℕ) → u < n → v < n → Reach es u v

-- condition 9 asks for it
pub reached_one_piece : (n : ℕ) (es : List Edge) → all_reached n es ≡ true → OnePiece n es
reached_one_piece n es h u v p q = reach_trans (reach_sym (all_reached_lem n es h u p)) (all_reached_lem n es h v q)

-- copies leave the edges that were there
pub retrace_one_piece : (n : ℕ) (path : List ℕ) (l : Laid) → OnePiece n l.edges → OnePiece n (lay_path path l).edges
unfolding lay_path
retrace_one_piece n [] l h u v p q = h u v p q
retrace_one_piece n (x ∷ xs) l h u v p q = reach_more (λ y z j. lay_old x xs l y z j) (h u v p q)

-- the only stop is the one for the limit of edges, and what is left can be searched and is in one piece
abbrev pub Sound : ℕ → ℕ → Repairing → Type 0
Sound number n (stopped k) = k ≡ number
Sound number n (repaired r) = Searchable n r.edges × OnePiece n r.edges

module _ (most number n : ℕ) where
  pub apply_sound : (ps : List Pair) (r : Repair) → Searchable n r.edges → OnePiece n r.edges → ((v : ℕ) → 0 < count v (ends ps) → v < n) → Sound number n (apply_matching most number n ps r)
  unfolding apply_matching count ends
  apply_sound [] r G C below = (G, C)
  apply_sound (p ∷ ps) r G C below = go (shortest_path n r.edges p.from p.to) refl (λ q H D. apply_sound ps q H D (λ v h. below v (omega arith)))
    where
      l : Laid
      l = record { edges = r.edges; sum = r.sum }

      from : p.from < n
      from = below p.from (omega (arith, hit_same p.from))

      goal : p.to < n
      goal = below p.to (omega (arith, hit_same p.to))

      go : (x : Path) → shortest_path n r.edges p.from p.to ≡ x → ((q : Repair) → Searchable n q.edges → OnePiece n q.edges → Sound number n (apply_matching most number n ps q))
          → Sound number n (elim x [
            | error ↦ stopped refused_path
            | found path ↦ elim (leb (length (retraced path r).edges) most) [ false ↦ stopped number | true ↦ apply_matching most number n ps (retraced path r) ]
          ])
      go error e rec =
          let f = path_found n r.edges G p.from from p.to goal (C p.from p.to from goal) in
          let z : ◌≡◌ {A = ℕ} 0 1 = cc (e, f.1) in
          absurd (omega arith)
      go (found path) e rec =
          either (Sound number n) _ _ (rec (retraced path r) (retrace_searchable n l p.from p.to path e G) (retrace_one_piece n path l C)) refl (leb (length (retraced path r).edges) most)

  added : (r : Repair) (x : Repairing) → Sound number n x → Sound number n (add_sum r.sum x)
  added r (stopped k) h = h
  added r (repaired c) h = h

  close_sound : (r : Repair) → Searchable n r.edges → OnePiece n r.edges → Sound number n (close most number n r)
  unfolding close
  close_sound r G C = go (eqb (length odd) 2) refl
    where
      odd : List ℕ
      odd = odd_nodes n r.edges

      last : List Pair
      last = pair (get_or odd 0 0) (get_or odd 1 0) ∷ []

      go : (t : Bool) → eqb (length odd) 2 ≡ t → Sound number n (elim t [ false ↦ repaired r | true ↦ add_sum r.sum (apply_matching most number n last (with_sum zero_length r)) ])
      go false t = (G, C)
      go true t =
          added r (apply_matching most number n last (with_sum zero_length r))
          (apply_sound last (with_sum zero_length r) G C (λ v h. odd_below n r.edges v (omega (arith, pair_of odd (eqb-true (length odd) 2 t) v))))

  close_if_sound : (b : Bool) (x : Repairing) → Sound number n x → Sound number n (close_if b most number n x)
  unfolding close_if
  close_if_sound b (stopped k) h = h
  close_if_sound false (repaired r) h = h
  close_if_sound true (repaired r) h = close_sound r h.0 h.1

module _ (most number : ℕ) (g : Graph) (s : Settings) (G : Searchable (length g.nodes) g.edges) (C : OnePiece (length g.nodes) g.edges) where
  pub repair_sound : Sound number (length g.nodes) (fix_parity most number g s)
  unfolding fix_parity
  repair_sound = go (leb (length odd) 2) refl
    where
      n : ℕ
      n = length g.nodes

      odd : List ℕ
      odd = odd_nodes n g.edges

      go : (t : Bool) → leb (length odd) 2 ≡ t
          → Sound number n (elim t [
            | true ↦ close_if (closing s) most number n (repaired (drawn g))
            | false ↦ close_if (closing s) most number n (apply_matching most number n (pairs_of g s odd) (drawn g))
          ])
      go true t = close_if_sound most number n (closing s) (repaired (drawn g)) (G, C)
      go false t =
          let a = pairs_of_lem g s odd (leb-false (length odd) 2 t) (handshake n g.edges G.inside) in
          close_if_sound most number n (closing s) (apply_matching most number n (pairs_of g s odd) (drawn g))
          (apply_sound most number n (pairs_of g s odd) (drawn g) G C (λ v k. odd_below n g.edges v (omega (arith, a.counts v))))

  pub never_12 : (number ≡ refused_path → ⊥) → fix_parity most number g s ≡ stopped refused_path → ⊥
  never_12 apart e = apart (sym (rw e at repair_sound))
