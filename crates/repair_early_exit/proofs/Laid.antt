-- What a retrace leaves can be searched like what it found, and how many edges there are after it is known before a copy is laid. Assumes nothing.
use mathlib.Core.Path.{◌≡◌, refl, ap}
use mathlib.Core.List.{List, [], ◌∷◌}
use mathlib.Core.Bool.{true, false}
use Prim.Native.Nat.{ℕ, ◌+◌, ◌-◌}
use native.Mathlib.Omega.{arith}
use lib.Dec.{leb}
use lib.ListN.{length}
use Rattle.limits.specs.Limits.{refused_path}
use Rattle.graph_spec.specs.Ways.{Walks}
use Rattle.repair_spec.specs.Retrace.{Path, to, found, error, shortest_path}
use Rattle.repair_spec.specs.Copies.{Laid, lay, lay_path}
use Rattle.repair_spec.proofs.Along.{shortest_along}
use Rattle.repair_spec.proofs.Copies.{lay_copied, lay_inside, lay_weights, lay_count}
use Rattle.repair_spec.specs.Pairing.{Pair}
use Rattle.repair_spec.specs.Repair.{Repair, Repairing, stopped, retraced, apply_matching}
use Rattle.graph_spec.specs.Weights.{Searchable}

-- ---- copies have the lengths of edges that were there
pub lay_searchable : (n u : ℕ) (vs : List ℕ) (l : Laid) (t : ℕ) → Walks l.edges u vs t → Searchable n l.edges → Searchable n (lay u vs l).edges
lay_searchable n u vs l t w G = record {
  few = G.few;
  inside = lay_inside u vs l t w n G.inside;
  weights = lay_weights u vs l t w G.weights;
  long = λ e i. let c = lay_copied u vs l t w e i in rw c.weight_is (G.long c.of c.is_in);
  short = λ e i. let c = lay_copied u vs l t w e i in rw c.weight_is (G.short c.of c.is_in);
}

pub retrace_searchable : (n : ℕ) (l : Laid) (s t : ℕ) (path : List ℕ) → shortest_path n l.edges s t ≡ found path → Searchable n l.edges → Searchable n (lay_path path l).edges
unfolding lay_path
retrace_searchable n l s t path is G =
    let a = shortest_along n l.edges s t path is in
    rw a.1 (lay_searchable n s a.0 l t a.2 G)

-- ---- how many edges there are after a retrace, and how long its path is

pub path_count : (path : List ℕ) (l : Laid) → length (lay_path path l).edges ≡ length l.edges + (length path - 1)
unfolding lay_path
path_count [] l = omega arith
path_count (u ∷ vs) l = omega (arith, lay_count u vs l)

-- so whether a retrace takes the graph past the limit is known before it is laid
abbrev pub counted : ℕ → ℕ → ℕ → List Pair → Repair → Path → Repairing
counted most number n ps r error = stopped refused_path
counted most number n ps r (found path) = elim (leb (length r.edges + (length path - 1)) most) [ false ↦ stopped number | true ↦ apply_matching most number n ps (retraced path r) ]

pub apply_counted : (most number n : ℕ) (p : Pair) (ps : List Pair) (r : Repair) → apply_matching most number n (p ∷ ps) r ≡ counted most number n ps r (shortest_path n r.edges p.from p.to)
unfolding apply_matching
apply_counted most number n p ps r = go (shortest_path n r.edges p.from p.to)
  where
    go : (x : Path) → ◌≡◌ {A = Repairing} (elim x [
      | error ↦ stopped refused_path
      | found path ↦ elim (leb (length (retraced path r).edges) most) [ false ↦ stopped number | true ↦ apply_matching most number n ps (retraced path r) ]
    ]) (counted most number n ps r x)
    go error = refl
    go (found path) =
        ap (λ (m : ℕ). elim (leb m most) as (λ b. Repairing) [ false ↦ stopped number | true ↦ apply_matching most number n ps (retraced path r) ])
        (path_count path (record { edges = r.edges; sum = r.sum }))
