-- Degrees, and which nodes are odd.
use Rattle.std.specs.Prelude.{ℕ, zero, suc, ◌+◌, ◌%◌, List, [], ◌∷◌, Bool, true, false, eqb}
use Rattle.graph_spec.specs.Graph.{Edge}

abbrev pub one : Bool → ℕ
one true = 1
one false = 0

-- 1 where u is v
abbrev pub hit : ℕ → ℕ → ℕ
hit u v = one (eqb u v)

-- the edges that meet at v
unfoldable pub degree : List Edge → ℕ → ℕ
degree [] v = 0
degree (e ∷ es) v = hit e.a v + hit e.b v + degree es v

abbrev pub is_odd : ℕ → Bool
is_odd n = eqb (n % 2) 1

-- of n nodes from the node v on, those with an odd degree
unfoldable pub odd_from : List Edge → ℕ → ℕ → List ℕ
unfolding degree
odd_from es zero v = []
odd_from es (suc n) v = elim (is_odd (degree es v)) [ true ↦ v ∷ odd_from es n (suc v) | false ↦ odd_from es n (suc v) ]

abbrev pub odd_nodes : ℕ → List Edge → List ℕ
odd_nodes n es = odd_from es n 0
