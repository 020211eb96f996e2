-- The places of nodes in the table.
use mathlib.Core.Path.{◌≡◌, sym, ap, ◌∙◌}
use mathlib.Core.Logic.{inl, inr}
use mathlib.Core.Bool.{true}
use mathlib.Core.List.{List}
use Prim.Native.Nat.{ℕ, ◌+◌, ◌*◌, ◌^◌, ◌≤◌, ◌<◌}
use native.Mathlib.Decide.{ℕ_discrete}
use native.Mathlib.Omega.{arith}
use lib.ListN.{length, get_or, set, replicate, length-set, length-replicate}
use lib.Seq.{get_or-set_same}
use lib.Ieee.{Float}
use Rattle.limits.specs.Limits.{most_nodes, most_pairs}
use Rattle.lists.proofs.Elements.{set_cases, get_d_same}
use Rattle.graph_arrays.specs.NodeList.{NodeList}
use Rattle.repair_busy.specs.Table.{Placed}

pub placed_none : (odd : List ℕ) (count : ℕ) → 0 < count → Placed odd count 0 (replicate most_nodes 0)
placed_none odd count h = record {
  long = length-replicate {A = ℕ} most_nodes 0;
  inside = λ v. omega (arith, get_d_same {A = ℕ} most_nodes v 0);
  right = λ j l. absurd (omega arith);
}

pub placed_turn : (odd : List ℕ) (count i : ℕ) (places : List ℕ) (v k : ℕ) → i < count → v ≡ get_or odd i 0 → v < most_nodes → k ≡ i → Placed odd count i places → Placed odd count (i + 1) (set places v k)
placed_turn odd count i places v k h e small is P = record {
  long = length-set places v k ∙ P.long;
  inside = λ w. elim (set_cases places v k 0 w) [
    | inl p ↦ omega (arith, p.1)
    | inr g ↦ omega (arith, g, P.inside w)
  ];
  right = λ j l. elim (ℕ_discrete j i) [
    | yes s ↦
        let here : get_or (set places v k) (get_or odd j 0) 0 ≡ i = ap (λ (x : ℕ). get_or (set places v k) x 0) (ap (λ (x : ℕ). get_or odd x 0) s ∙ sym e) ∙ get_or-set_same places v k 0 (omega (arith, P.long)) ∙ is in
        ap (λ (x : ℕ). get_or odd x 0) (here ∙ sym s)
    | no d ↦ elim (set_cases places v k 0 (get_or odd j 0)) [
      | inl p ↦ ap (λ (x : ℕ). get_or odd x 0) (p.1 ∙ is) ∙ sym e ∙ sym p.0
      | inr g ↦ ap (λ (x : ℕ). get_or odd x 0) g ∙ P.right j (omega (arith, d))
    ]
  ];
}
