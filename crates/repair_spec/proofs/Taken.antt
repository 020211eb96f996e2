-- Which pairs the retraces of a repair join: those that are paired, each retrace from the first node of its pair to the second.
use mathlib.Core.Path.{◌≡◌, refl, sym, ap, ◌∙◌}
use mathlib.Core.Bool.{Bool, true, false, true≢false}
use mathlib.Core.List.{List, [], ◌∷◌, ◌++◌, map, map-append, append-nil, append_assoc}
use Prim.Native.Nat.{ℕ, ◌-◌, ◌/◌, ◌<◌}
use native.Mathlib.Omega.{arith}
use lib.ListN.{length, get_or, take}
use lib.Seq.{take-append_seam}
use lib.Dec.{eqb}
use borrow.Author.Tests.{lt-leb}
use Rattle.drawing_spec.specs.Drawing.{Settings, closing}
use Rattle.graph_spec.specs.Graph.{Edge, Graph}
use Rattle.graph_spec.specs.Odd.{odd_nodes}
use Rattle.graph_spec.specs.Count.{last_from}
use Rattle.graph_spec.specs.Ways.{Inside, Walks}
use Rattle.graph_spec.proofs.Handshake.{handshake}
use Rattle.repair_spec.specs.Distance.{zero_length}
use Rattle.repair_spec.specs.Retrace.{found, shortest_path}
use Rattle.repair_spec.specs.Pairing.{Pair, pair}
use Rattle.repair_spec.specs.Repair.{Repair, Repairing, stopped, repaired, retraced, with_sum, add_sum, apply_matching, pairs_of, close, close_if, drawn, fix_parity}
use Rattle.repair_spec.specs.Cheapest.{ends_of, taken_by}
use Rattle.repair_spec.proofs.Along.{shortest_along}
use Rattle.repair_spec.proofs.Applied.{applies, same_repair}
use Rattle.repair_spec.proofs.Repaired.{pairs_of_lem}
use Rattle.repair_spec.proofs.Choices.{pairs_number}

-- a walk that ends at t has t last
walks_last : (es : List Edge) (u : ℕ) (vs : List ℕ) (t : ℕ) → Walks es u vs t → last_from u vs ≡ t
unfolding last_from
walks_last es u [] t w = w
walks_last es u (v ∷ vs) t w = walks_last es v vs t w.1

path_ends : (n : ℕ) (es : List Edge) (p : Pair) (path : List ℕ) → shortest_path n es p.from p.to ≡ found path → ends_of path ≡ p
unfolding ends_of
path_ends n es p path e =
    let a = shortest_along n es p.from p.to path e in
    ap ends_of a.1 ∙ ap (pair p.from) (walks_last es p.from a.0 p.to a.2)

-- the ends of all retraces so far
abbrev joined : Repair → List Pair
joined r = map ends_of r.retraces

-- behind those that were there come the pairs
apply_joined : (most number n : ℕ) (ps : List Pair) (r r' : Repair) → apply_matching most number n ps r ≡ repaired r' → joined r' ≡ joined r ++ ps
unfolding apply_matching
apply_joined most number n [] r r' e = ap joined (sym (same_repair r r' e)) ∙ sym (append-nil (joined r))
apply_joined most number n (p ∷ ps) r r' e =
    let a = applies most number n p ps r r' e in
    apply_joined most number n ps (retraced a.path r) r' a.rest
    ∙ ap (λ (qs : List Pair). qs ++ ps) (map-append ends_of r.retraces (a.path ∷ []) ∙ ap (λ (q : Pair). joined r ++ (q ∷ [])) (path_ends n r.edges p a.path a.is_path))
    ∙ append_assoc (joined r) (p ∷ []) ps

-- closing adds its own behind them, or none
close_joined : (most number n : ℕ) (r c : Repair) → close most number n r ≡ repaired c → (qs : List Pair) × (joined c ≡ joined r ++ qs)
unfolding close
close_joined most number n r c e = go (eqb (length odd) 2) (apply_matching most number n last (with_sum zero_length r)) refl e
  where
    odd : List ℕ
    odd = odd_nodes n r.edges

    last : List Pair
    last = pair (get_or odd 0 0) (get_or odd 1 0) ∷ []

    go : (t : Bool) (x : Repairing) → apply_matching most number n last (with_sum zero_length r) ≡ x → elim t [ false ↦ repaired r | true ↦ add_sum r.sum x ] ≡ repaired c → (qs : List Pair) × (joined c ≡ joined r ++ qs)
    go false x a e = ([], ap joined (sym (same_repair r c e)) ∙ sym (append-nil (joined r)))
    go true (stopped k) a e = absurd (true≢false (cc))
    go true (repaired d) a e = (last, ap joined (sym (same_repair _ c e)) ∙ apply_joined most number n last (with_sum zero_length r) d a)

closed_joined : (b : Bool) (most number n : ℕ) (x : Repairing) (ps : List Pair) (c : Repair) → ((r : Repair) → x ≡ repaired r → joined r ≡ ps) → close_if b most number n x ≡ repaired c
    → (qs : List Pair) × (joined c ≡ ps ++ qs)
unfolding close_if
closed_joined b most number n (stopped k) ps c h e = absurd (true≢false (cc))
closed_joined false most number n (repaired r) ps c h e = ([], h c e ∙ sym (append-nil ps))
closed_joined true most number n (repaired r) ps c h e = let q = close_joined most number n r c e in (q.0, q.1 ∙ ap (λ (rs : List Pair). rs ++ q.0) (h r refl))

-- of more than two odd nodes the pairs taken are those that `pairs_of` gives
module _ (most number : ℕ) (g : Graph) (s : Settings) (inside : Inside (length g.nodes) g.edges) where
  abbrev odd : List ℕ
  odd = odd_nodes (length g.nodes) g.edges

  pub taken_are : 2 < length odd → (r : Repair) → fix_parity most number g s ≡ repaired r → taken_by (length odd) r.retraces ≡ pairs_of g s odd
  unfolding fix_parity taken_by
  taken_are many r e =
      let n = length g.nodes in
      let ps = pairs_of g s odd in
      let few = pairs_number odd ps (pairs_of_lem g s odd many (handshake n g.edges inside)) in
      let fixes : close_if (closing s) most number n (apply_matching most number n ps (drawn g)) ≡ repaired r = rw (lt-leb (length odd) 2 many, fix_parity) at e in
      let q = closed_joined (closing s) most number n (apply_matching most number n ps (drawn g)) ps r (λ d a. apply_joined most number n ps (drawn g) d a) fixes in
      let k : length odd / 2 - 1 ≡ length ps = omega (arith, few) in
      ap (λ (qs : List Pair). take (length odd / 2 - 1) qs) q.1 ∙ ap (λ (m : ℕ). take m (ps ++ q.0)) k ∙ take-append_seam ps q.0
