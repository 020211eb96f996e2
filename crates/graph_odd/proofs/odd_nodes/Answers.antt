-- A node is listed where its degree is odd.
use mathlib.Core.Path.{sym, ap, ◌∙◌}
use Prim.Native.Nat.{ℕ, ◌%◌}
use native.Mathlib.Omega.{arith}
use borrow.Author.Tests.{eq-eqb, ne_eqb}
use Rattle.graph_spec.specs.Odd.{odd_from}
use Rattle.graph_arrays.specs.Arrays.{edges_in}
use Rattle.graph_arrays.proofs.Listing.{listing_start, listing_one, listing_none, listing_end}
use Rattle.graph_odd.proofs.Listed.{odd_at, odd_chosen}
use Rattle.graph_odd.proofs.odd_nodes.Lts.{then-odd_degree, else-odd_degree}
use Rattle.graph_odd.proofs.odd_nodes.Goals as goal

pub loop-v-init : goal.loop-v-init
loop-v-init c = (omega arith, listing_start _ _ _)

pub loop-v-preserved : goal.loop-v-preserved
loop-v-preserved c =
    let e = edges_in c.args.m c.args.edges.now in
    let d = c.count_degrees-degrees.ensures _ in
    elim c.if-odd_degree.branch [
      | then-odd_degree w ↦ (omega (arith, w.count-is), listing_one (odd_from e) (odd_at e) (odd_chosen e) _ _ _ _ _ _ _ c.loop-v-test.true c.loop-v.invariant.1 w.odd-is w.count-is (eq-eqb _ 1 (ap (λ (d : ℕ). d % 2) (sym d) ∙ w.if-odd_degree.true)))
      | else-odd_degree w ↦ (omega (arith, w.count-is), listing_none (odd_from e) (odd_at e) (odd_chosen e) _ _ _ _ _ _ _ c.loop-v-test.true c.loop-v.invariant.1 w.odd-is w.count-is (ne_eqb _ 1 (λ z. w.if-odd_degree.false (ap (λ (d : ℕ). d % 2) d ∙ z))))
    ]

pub returns : goal.returns
returns c =
    let e = edges_in c.args.m c.args.edges.now in
    listing_end (odd_from e) (odd_at e) (odd_chosen e) _ _ _ _ _ (omega (arith, c.requires.few_nodes)) c.loop-v-test.false c.loop-v.invariant.1
