-- The length of the retraces is a sum of lengths, so no NaN and not below 0. Assumes nothing.
use mathlib.Core.Path.{◌≡◌, refl, sym, subst}
use mathlib.Core.List.{List, [], ◌∷◌}
use mathlib.Core.Bool.{Bool, true, false}
use Prim.Native.Nat.{ℕ}
use lib.ListN.{length, get_or}
use lib.Dec.{eqb, leb}
use lib.Ieee.{binary64}
use Rattle.sums.specs.Key.{Nonneg}
use Rattle.sums.proofs.Sum.{add_nonneg, zero_nonneg}
use Rattle.limits.specs.Limits.{refused_path}
use Rattle.drawing_spec.specs.Drawing.{Settings, closing}
use Rattle.lists.proofs.Members.{either}
use Rattle.graph_spec.specs.Graph.{Graph}
use Rattle.graph_spec.specs.Odd.{odd_nodes}
use Rattle.repair_spec.specs.Distance.{zero_length}
use Rattle.repair_spec.specs.Retrace.{Path, found, error, shortest_path}
use Rattle.repair_spec.specs.Copies.{Laid, lay_path}
use Rattle.repair_spec.proofs.Along.{shortest_along}
use Rattle.repair_spec.proofs.Copies.{lay_nonneg}
use Rattle.repair_spec.specs.Pairing.{Pair, pair}
use Rattle.repair_spec.specs.Repair.{Repair, Repairing, stopped, repaired, with_sum, add_sum, retraced, apply_matching, pairs_of, close, close_if, drawn, fix_parity}
use Rattle.graph_spec.specs.Weights.{Searchable}
use Rattle.repair_early_exit.proofs.Laid.{retrace_searchable}

path_sum : (n s t : ℕ) (l : Laid) (path : List ℕ) → shortest_path n l.edges s t ≡ found path → Searchable n l.edges → Nonneg binary64 l.sum → Nonneg binary64 (lay_path path l).sum
unfolding lay_path
path_sum n s t l path e G p =
    let a = shortest_along n l.edges s t path e in
    subst (λ (q : List ℕ). Nonneg binary64 (lay_path q l).sum) (sym a.1) (lay_nonneg s a.0 l t a.2 G.weights p)

module _ (most number n : ℕ) where
  -- what is left can be searched, and its sum is a length
  abbrev Summed : Repairing → Type 0
  Summed (stopped k) = Unit
  Summed (repaired r) = Searchable n r.edges × Nonneg binary64 r.sum

  apply_summed : (ps : List Pair) (r : Repair) → Searchable n r.edges → Nonneg binary64 r.sum → Summed (apply_matching most number n ps r)
  unfolding apply_matching
  apply_summed [] r G p = (G, p)
  apply_summed (q ∷ ps) r G p = go (shortest_path n r.edges q.from q.to) refl (λ x H o. apply_summed ps x H o)
    where
      l : Laid
      l = record { edges = r.edges; sum = r.sum }

      go : (x : Path) → shortest_path n r.edges q.from q.to ≡ x → ((y : Repair) → Searchable n y.edges → Nonneg binary64 y.sum → Summed (apply_matching most number n ps y))
          → Summed (elim x [
            | error ↦ stopped refused_path
            | found path ↦ elim (leb (length (retraced path r).edges) most) [ false ↦ stopped number | true ↦ apply_matching most number n ps (retraced path r) ]
          ])
      go error e rec = tt
      go (found path) e rec =
          either Summed _ _ (rec (retraced path r) (retrace_searchable n l q.from q.to path e G) (path_sum n q.from q.to l path e G p)) tt (leb (length (retraced path r).edges) most)

  added : (r : Repair) (x : Repairing) → Nonneg binary64 r.sum → Summed x → Summed (add_sum r.sum x)
  added r (stopped k) p h = h
  added r (repaired c) p h = (h.0, add_nonneg binary64 r.sum c.sum p h.1)

  close_summed : (r : Repair) → Searchable n r.edges → Nonneg binary64 r.sum → Summed (close most number n r)
  unfolding close
  close_summed r G p = go (eqb (length (odd_nodes n r.edges)) 2)
    where
      last : List Pair
      last = pair (get_or (odd_nodes n r.edges) 0 0) (get_or (odd_nodes n r.edges) 1 0) ∷ []

      go : (t : Bool) → Summed (elim t [ false ↦ repaired r | true ↦ add_sum r.sum (apply_matching most number n last (with_sum zero_length r)) ])
      go false = (G, p)
      go true = added r (apply_matching most number n last (with_sum zero_length r)) p (apply_summed last (with_sum zero_length r) G (zero_nonneg binary64))

  close_if_summed : (b : Bool) (x : Repairing) → Summed x → Summed (close_if b most number n x)
  unfolding close_if
  close_if_summed b (stopped k) h = h
  close_if_summed false (repaired r) h = h
  close_if_summed true (repaired r) h = close_summed r h.0 h.1

pub repair_summed : (most number : ℕ) (g : Graph) (s : Settings) → Searchable (length g.nodes) g.edges → (r : Repair) → fix_parity most number g s ≡ repaired r → Nonneg binary64 r.sum
unfolding fix_parity
repair_summed most number g s G r e = (subst (Summed most number (length g.nodes)) e (whole (leb (length (odd_nodes (length g.nodes) g.edges)) 2))).1
  where
    n : ℕ
    n = length g.nodes

    whole : (t : Bool)
        → Summed most number n (elim t [
          | true ↦ close_if (closing s) most number n (repaired (drawn g))
          | false ↦ close_if (closing s) most number n (apply_matching most number n (pairs_of g s (odd_nodes n g.edges)) (drawn g))
        ])
    whole true = close_if_summed most number n (closing s) (repaired (drawn g)) (G, zero_nonneg binary64)
    whole false = close_if_summed most number n (closing s) (apply_matching most number n (pairs_of g s (odd_nodes n g.edges)) (drawn g)) (apply_summed most number n (pairs_of g s (odd_nodes n g.edges)) (drawn g) G (zero_nonneg binary64))
