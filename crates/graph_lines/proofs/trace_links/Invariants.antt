-- Before link k, what is to come leads to the answer.
use Rattle.graph_splits.specs.Points.{points}
use Rattle.graph_chain.specs.Along.{traced_along}
use Rattle.graph_line.specs.Lines.{anywhere}
use Rattle.graph_lines.specs.All.{links_in}
use Rattle.graph_lines.proofs.All.{OnLinks}
use Rattle.graph_lines.proofs.trace_links.Given as goal

abbrev pub invariant-loop-k : goal.invariant-loop-k
invariant-loop-k l =
    let f = points l.ends.xs l.ends.ys in
    OnLinks f l.links l.k l.traced (traced_along anywhere (links_in f l.links 0) l.initial.traced)
