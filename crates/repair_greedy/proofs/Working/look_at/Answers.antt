-- The row's least cost is its bound.
use Rattle.std.proofs.Common.{arith}
use Rattle.repair_greedy.proofs.Rows.{row_reaches}
use Rattle.repair_greedy.proofs.Bounds.{row_bounds}
use Rattle.repair_greedy.proofs.Working.look_at.Goals as goal

pub returns : goal.returns
returns g c =
    let cost = g.C.Cost.cost c.args.costs.now in
    let w = c.args.self.now in
    let is = c.scan_row-row.ensures.nearest in (
      row_reaches cost w.nodes w.left c.requires.2.long c.args.i _ _ _ (omega arith) is,
      c.scan_row-row.ensures.small,
      row_bounds cost w.nodes w.left c.requires.2.long c.args.lows.now c.args.i _ _ _ c.requires.3 is,
    )
