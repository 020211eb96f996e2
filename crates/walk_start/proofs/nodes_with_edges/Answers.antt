-- A node is listed where it has a first arc.
use mathlib.Core.Path.{sym, ◌∙◌}
use native.Mathlib.Omega.{arith}
use Rattle.graph_arrays.specs.Arrays.{edges_in}
use Rattle.graph_arrays.proofs.Listing.{listing_start, listing_one, listing_none, listing_end}
use Rattle.walk_spec.specs.Start.{with_edges}
use Rattle.walk_start.proofs.Listed.{edges_meet, with_chosen, arc_some, arc_none}
use Rattle.walk_start.proofs.nodes_with_edges.Lts.{then-drawn, else-drawn}
use Rattle.walk_start.proofs.nodes_with_edges.Goals as goal

pub loop-v-init : goal.loop-v-init
loop-v-init c = (omega arith, listing_start _ _ _)

pub loop-v-preserved : goal.loop-v-preserved
loop-v-preserved c =
    let e = edges_in c.args.m c.args.edges.now in
    elim c.if-drawn.branch [
      | then-drawn w ↦ (
        omega (arith, w.count-is),
        listing_one (with_edges e) (edges_meet e) (with_chosen e) _ _ _ _ _ _ _ c.loop-v-test.true c.loop-v.invariant.1 w.list-is w.count-is
            (arc_some _ _ c.args.edges.now c.requires _ c.loop-v-test.true (λ z. w.if-drawn.true (c.first_arc-arc.ensures ∙ z))),
      )
      | else-drawn w ↦ (
        omega (arith, w.count-is),
        listing_none (with_edges e) (edges_meet e) (with_chosen e) _ _ _ _ _ _ _ c.loop-v-test.true c.loop-v.invariant.1 w.list-is w.count-is
            (arc_none _ _ c.args.edges.now c.requires _ c.loop-v-test.true (sym c.first_arc-arc.ensures ∙ w.if-drawn.false)),
      )
    ]

pub returns : goal.returns
returns c =
    let e = edges_in c.args.m c.args.edges.now in
    listing_end (with_edges e) (edges_meet e) (with_chosen e) _ _ _ _ _ (omega (arith, c.requires.few_nodes)) c.loop-v-test.false c.loop-v.invariant.1
