-- The steps.
use Rattle.std.proofs.Common.{◌≡◌, ◌+◌, get_or, sym, ◌∙◌, arith}
use Rattle.repair_greedy.proofs.Rows.{row_turn, row_first, row_end}
use Rattle.repair_greedy.proofs.Bounds.{row_small}
use Rattle.repair_greedy.proofs.Working.scan_row.Goals as goal

pub loop-j-init : goal.loop-j-init
loop-j-init g c =
    let C = g.C.Cost in
    let w = c.args.self.now.nodes in
    let s = c.args.costs.now in
    let d : c.cost_to.result ≡ C.cost s (get_or w c.args.i 0) (get_or w (c.args.i + 1) 0) =
    (rw c.start-start.ensures.0 at c.cost_to.ensures.cost) ∙ g.met.C.Cost.by_start s _ _ in
    row_first (C.cost s) w c.args.self.now.left c.requires.2.long _ c.args.i (c.args.i + 1) _ (omega arith) d

pub loop-j-preserved : goal.loop-j-preserved
loop-j-preserved g c =
    let C = g.C.Cost in
    let w = c.args.self.now.nodes in
    let s = c.args.costs.now in
    let l = c.loop-j in
    let d : c.cost_to-in-loop-j.result ≡ C.cost s (get_or w c.args.i 0) (get_or w l.j 0) =
    (rw c.start-start.ensures.0 at c.cost_to-in-loop-j.ensures.cost) ∙ g.met.C.Cost.by_start s _ _ in
    row_turn (C.cost s) w c.args.self.now.left c.requires.2.long _ c.args.i l.j _ _ _ _ c.loop-j-test.true d c.nearer-near.ensures l.invariant

pub returns-clause-nearest : goal.returns-clause-nearest
returns-clause-nearest g c =
    sym (row_end (g.C.Cost.cost c.args.costs.now) c.args.self.now.nodes c.args.self.now.left c.requires.2.long _ c.args.i _ _ _ c.loop-j-test.false c.loop-j.invariant)

-- no more than the cost of the row's first place
pub returns-clause-small : goal.returns-clause-small
returns-clause-small g c =
    let C = g.C.Cost in
    let w = c.args.self.now.nodes in
    let s = c.args.costs.now in
    let d : c.cost_to.result ≡ C.cost s (get_or w c.args.i 0) (get_or w (c.args.i + 1) 0) =
    (rw c.start-start.ensures.0 at c.cost_to.ensures.cost) ∙ g.met.C.Cost.by_start s _ _ in
    let is = sym (row_end (C.cost s) w c.args.self.now.left c.requires.2.long _ c.args.i _ _ _ c.loop-j-test.false c.loop-j.invariant) in
    omega (arith, row_small (C.cost s) w c.args.self.now.left c.requires.2.long c.args.i _ _ _ c.requires.0 is, c.cost_to.ensures.small)
