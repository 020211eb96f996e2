-- Repair stops with no other number than 12 and the one given for the limit of edges.
use mathlib.Core.Path.{◌≡◌, refl}
use mathlib.Core.Logic.{◌⊎◌, inl, inr}
use mathlib.Core.List.{List, [], ◌∷◌}
use mathlib.Core.Bool.{Bool, true, false}
use Prim.Native.Nat.{ℕ}
use lib.ListN.{length, get_or}
use lib.Dec.{eqb, leb}
use Rattle.limits.specs.Limits.{refused_path}
use Rattle.drawing_spec.specs.Drawing.{Settings, closing}
use Rattle.lists.proofs.Members.{either}
use Rattle.graph_spec.specs.Graph.{Graph}
use Rattle.graph_spec.specs.Odd.{odd_nodes}
use Rattle.repair_spec.specs.Distance.{zero_length}
use Rattle.repair_spec.specs.Retrace.{Path, found, error, shortest_path}
use Rattle.repair_spec.specs.Pairing.{Pair, pair}
use Rattle.repair_spec.specs.Repair.{Repair, Repairing, stopped, repaired, with_sum, add_sum, retraced, apply_matching, pairs_of, close, close_if, drawn, fix_parity}

-- the number of a stop, where there is one, is 12 or `number`
abbrev Known : ℕ → Repairing → Type 0
Known number (stopped k) = (k ≡ refused_path) ⊎ (k ≡ number)
Known number (repaired r) = Unit {0}

apply_known : (most number n : ℕ) (ps : List Pair) (r : Repair) → Known number (apply_matching most number n ps r)
unfolding apply_matching
apply_known most number n [] r = tt
apply_known most number n (p ∷ ps) r = go (shortest_path n r.edges p.from p.to) (λ q. apply_known most number n ps q)
  where
    go : (x : Path) → ((q : Repair) → Known number (apply_matching most number n ps q))
        → Known number (elim x [
          | error ↦ stopped refused_path
          | found path ↦ elim (leb (length (retraced path r).edges) most) [ false ↦ stopped number | true ↦ apply_matching most number n ps (retraced path r) ]
        ])
    go error h = inl refl
    go (found path) h = either (Known number) _ _ (h (retraced path r)) (inr refl) (leb (length (retraced path r).edges) most)

added_known : (number : ℕ) (r : Repair) (x : Repairing) → Known number x → Known number (add_sum r.sum x)
added_known number r (stopped k) h = h
added_known number r (repaired c) h = tt

close_known : (most number n : ℕ) (r : Repair) → Known number (close most number n r)
unfolding close
close_known most number n r =
    let odd = odd_nodes n r.edges in
    let last = pair (get_or odd 0 0) (get_or odd 1 0) ∷ [] in
    let start = with_sum zero_length r in
    either (Known number) _ (repaired r) (added_known number r (apply_matching most number n last start) (apply_known most number n last start)) tt (eqb (length odd) 2)

close_if_known : (b : Bool) (most number n : ℕ) (x : Repairing) → Known number x → Known number (close_if b most number n x)
unfolding close_if
close_if_known b most number n (stopped k) h = h
close_if_known false most number n (repaired r) h = tt
close_if_known true most number n (repaired r) h = close_known most number n r

fixed_known : (most number : ℕ) (g : Graph) (s : Settings) → Known number (fix_parity most number g s)
unfolding fix_parity
fixed_known most number g s =
    let n = length g.nodes in
    let odd = odd_nodes n g.edges in
    either (Known number) _ _ (close_if_known (closing s) most number n (repaired (drawn g)) tt)
    (close_if_known (closing s) most number n (apply_matching most number n (pairs_of g s odd) (drawn g)) (apply_known most number n (pairs_of g s odd) (drawn g))) (leb (length odd) 2)

pub stops : (most number : ℕ) (g : Graph) (s : Settings) (k : ℕ) → fix_parity most number g s ≡ stopped k → (k ≡ refused_path) ⊎ (k ≡ number)
stops most number g s k e = rw e at (fixed_known most number g s)
