-- Greedy's pairs by squared distances in whole grid steps are its pairs by lengths, as the source's `greedy_euclidean_matching` compares them: f64 values, from infinity on.
use mathlib.Core.Path.{◌≡◌, sym, ◌∙◌}
use mathlib.Core.Bool.{true}
use mathlib.Core.List.{List, ◌∷◌}
use Prim.Native.Nat.{ℕ, ◌^◌, ◌<◌}
use native.Mathlib.Omega.{arith}
use lib.ListN.{get_or}
use lib.Dec.{T, ltb, lit≤}
use lib.Ieee.{Float, nan, inf, fin, binary64, lt}
use lib.Ieee.Scale.{finite}
use borrow.Author.Tests.{lt-ltb}
use Rattle.sums.specs.Key.{Nonneg}
use Rattle.sums.proofs.KeyLaws.{lt_key, key_finite}
use Rattle.sums.proofs.Sum.{inf_nonneg}
use Rattle.grid.specs.Grid.{grid_exponent}
use Rattle.length.specs.Root.{length_of}
use Rattle.length.proofs.LengthLaws.{length_order, length_nonneg, length_finite}
use Rattle.lists.specs.Members.{All}
use Rattle.drawing_spec.specs.Drawing.{Point, no_point}
use Rattle.drawing_spec.specs.OnGrid.{OnGrid}
use Rattle.graph_spec.proofs.Sort.{small_squared}
use Rattle.repair_spec.specs.Distance.{infinity}
use Rattle.repair_spec.specs.Pairing.{nothing, between, closest, nearest_pairs, apart, greedy_pairs}
use Rattle.repair_spec.proofs.Alike.{SameOrder, pairs_alike, from_above}

below_infinity : (x : Float) → Nonneg binary64 x → T (finite x) → lt x infinity ≡ true
below_infinity nan p h = absurd h
below_infinity (inf s) p h = absurd h
below_infinity (fin s m e) p h = lt_key binary64 (fin s m e) infinity p (inf_nonneg binary64) ∙ lt-ltb _ _ (key_finite binary64 s m e p.fit)

module _ (ns : List Point) where
  -- the length of the straight line between two nodes
  abbrev pub straight : ℕ → ℕ → Float
  straight u v = length_of (apart ns u v)

  abbrev pub NodeOnGrid : ℕ → Type 0
  NodeOnGrid u = OnGrid (get_or ns u no_point)

  same_order : SameOrder NodeOnGrid ltb (apart ns) lt straight
  same_order = record { order = λ u v a b pu pv pa pb. sym (length_order grid_exponent (lit≤ tt) _ _ (small_squared _ _ pu pv) (small_squared _ _ pa pb)) }

  pub greedy_by_length : (k : ℕ) (vs : List ℕ) → All NodeOnGrid vs → greedy_pairs k ns vs ≡ nearest_pairs lt k straight vs
  unfolding greedy_pairs
  greedy_by_length k vs h = pairs_alike NodeOnGrid ltb (apart ns) lt straight same_order k vs h

  -- and whoever begins with infinity in hand finds the same two in each round
  pub greedy_from_infinity : (u v : ℕ) (vs : List ℕ) → NodeOnGrid u → NodeOnGrid v → closest lt straight (u ∷ v ∷ vs) 0 (between 0 1 infinity) ≡ closest lt straight (u ∷ v ∷ vs) 0 nothing
  greedy_from_infinity u v vs pu pv =
      let wide : apart ns u v < 2 ^ 64 = omega (arith, small_squared _ _ pu pv) in
      from_above lt straight u v vs infinity (below_infinity _ (length_nonneg grid_exponent (lit≤ tt) (apart ns u v) wide) (length_finite grid_exponent (lit≤ tt) (apart ns u v) wide))
