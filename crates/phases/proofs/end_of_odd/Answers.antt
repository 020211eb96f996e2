-- There are none, or the last is behind the others.
use Rattle.std.proofs.Common.{◌∙◌, arith}
use Rattle.graph_arrays.specs.Arrays.{edges_in}
use Rattle.graph_odd.proofs.Listed.{odd_few}
use Rattle.phases.proofs.Ends.{odd_none, odd_some}
use Rattle.phases.proofs.end_of_odd.Goals as goal

pub returns-then-odd-eq0 : goal.returns-then-odd-eq0
returns-then-odd-eq0 c =
    let odd = c.odd_nodes-odd in c.made.ensures ∙ odd_none c.args.n (edges_in c.args.m c.args.edges.now) odd.new.odd odd.result odd.ensures c.if-odd-eq0.true

pub offset_bounds-listed-odd : goal.offset_bounds-listed-odd
offset_bounds-listed-odd c = omega (arith, c.if-odd-eq0.false, c.odd_nodes-odd.ensures.counts, odd_few (edges_in c.args.m c.args.edges.now) c.args.n, c.requires.few_nodes)

pub bounds-listed-odd : goal.bounds-listed-odd
bounds-listed-odd c = omega (arith, c.if-odd-eq0.false, c.odd_nodes-odd.ensures.counts, odd_few (edges_in c.args.m c.args.edges.now) c.args.n, c.requires.few_nodes)

pub returns : goal.returns
returns c =
    let odd = c.odd_nodes-odd in
    c.made-2.ensures ∙ odd_some c.args.n (edges_in c.args.m c.args.edges.now) odd.new.odd odd.result odd.ensures (omega (arith, c.if-odd-eq0.false)) c.from.result c.from.ensures
