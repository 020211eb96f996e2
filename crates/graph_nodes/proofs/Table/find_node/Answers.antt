-- A turn goes on to the next older node; where it is none, or is at p, or no turn is left, that is the answer.
use Rattle.std.proofs.Common.{◌≡◌, ◌+◌, ◌-◌, ℕ, sym, ap, ◌∙◌, arith}
use Rattle.graph_nodes.specs.Table.{seek}
use Rattle.graph_nodes.proofs.TableLaws.{known_at, known_none, seek_hit, seek_none, seek_end, seek_turn}
use Rattle.graph_nodes.proofs.Table.find_node.Goals as goal

pub returns-then-i-ge-MOST_NODES : goal.returns-then-i-ge-MOST_NODES
returns-then-i-ge-MOST_NODES c =
    let s = c.args.self.now in
    known_none (seek_none s.xs s.ys s.next c.args.p.x c.args.p.y (c.args.count - c.loop.counter) c.loop.i c.if-i-ge-MOST_NODES.true) c.loop.invariant

pub returns-then-at : goal.returns-then-at
returns-then-at c =
    known_at _ _ (sym c.loop.invariant ∙ seek_hit _ _ _ _ _ _ _ (omega arith) c.if-i-ge-MOST_NODES.false (sym c.is_at-at.ensures ∙ c.if-at.true))
    c.if-i-ge-MOST_NODES.false

pub loop-preserved : goal.loop-preserved
loop-preserved c =
    let s = c.args.self.now in
    let less : c.args.count - (c.loop.counter + 1) ≡ c.args.count - c.loop.counter - 1 = omega arith in
    ap (λ (k : ℕ). seek k s.xs s.ys s.next c.args.p.x c.args.p.y c.from-i.result) less
    ∙ seek_turn _ _ _ _ _ _ _ _ _ (omega arith) c.if-i-ge-MOST_NODES.false (sym c.is_at-at.ensures ∙ c.if-at.false) c.from-i.ensures c.loop.invariant

pub returns : goal.returns
returns c =
    let s = c.args.self.now in
    known_none (seek_end s.xs s.ys s.next c.args.p.x c.args.p.y (c.args.count - c.loop.counter) c.loop.i (omega arith)) c.loop.invariant
