-- The line fits, and is written, or it does not, and nothing is.
use borrow.Author.Rules.{rules}
use Rattle.planner_output.proofs.Output.{nodes_few, emitted_short, emitted_whole}
use Rattle.planner_output.proofs.emit_line.Goals as goal

pub returns-then-output-count : goal.returns-then-output-count
returns-then-output-count c =
    let line = c.line_of-count.ensures in
    let both = emitted_short c.args.n c.args.nodes.now.xs c.args.nodes.now.ys _ _ _ _ line.node_list line.result_after c.if-output-count.true in
    record { value = both.0; output_after = both.1 }

pub write_line-requires : goal.write_line-requires
write_line-requires c = record { nodes = nodes_few _ _ _ _ c.requires.nodes.few c.line_of-count.ensures.node_list; room = search rules }

pub returns : goal.returns
returns c =
    let line = c.line_of-count.ensures in
    let both = emitted_whole c.args.n c.args.nodes.now.xs c.args.nodes.now.ys _ _ _ _ line.node_list line.result_after _ c.if-output-count.false c.write_line.ensures in
    record { value = both.0; output_after = both.1 }
