-- The odd nodes are counted where nothing is refused.
use Rattle.repair.proofs.ParityLaws.{counted_refused, counted, counted_held}
use Rattle.repair.proofs.answer.Goals as goal

pub returns-in-Err : goal.returns-in-Err
returns-in-Err c = record { parity = counted_refused c.args.n c.args.before c.args.edges.now c.args.laid c.in-Err.number c.in-Err.is; held = tt }

pub odd_nodes-after-requires : goal.odd_nodes-after-requires
odd_nodes-after-requires c = (counted_held c.args.n c.args.before c.args.edges.now c.args.laid c.in-Ok.copied c.in-Ok.is c.requires).edges

pub returns-in-Ok : goal.returns-in-Ok
returns-in-Ok c =
    let held = counted_held c.args.n c.args.before c.args.edges.now c.args.laid c.in-Ok.copied c.in-Ok.is c.requires in
    record { parity = counted c.args.n c.args.before c.args.edges.now c.args.laid c.in-Ok.copied c.in-Ok.is c.odd_nodes-after.result c.odd_nodes-after.ensures.counts; held = held }
