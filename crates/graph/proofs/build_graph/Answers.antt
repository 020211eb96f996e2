-- What a sound drawing gives the calls, and what they make of it.
use Rattle.std.proofs.Common.{◌≡◌, ap, ◌∙◌}
use Rattle.graph_filing.specs.Stored.{store_links}
use Rattle.graph_filed.proofs.Ends.{no_store}
use Rattle.graph.proofs.Arrays.{few_lines, few_links, links_held, low_held, starts_held, ready_held, built_held}
use Rattle.graph.proofs.build_graph.Goals as goal
use Rattle.graph.proofs.build_graph.Goals.{After-file_held}

filed : (c : After-file_held) → c.file_held.new.ends ≡ store_links c.args.drawing.now.starts c.args.drawing.now.links c.args.drawing.now.link_count 0 no_store
filed c = c.file_held.ensures ∙ ap (store_links c.args.drawing.now.starts c.args.drawing.now.links c.args.drawing.now.link_count 0) c.new-ends.ensures

pub file_held-requires : goal.file_held-requires
file_held-requires c = (few_links _ c.requires.sound, links_held _ c.requires.sound)

pub trace_filed-requires-clause-few : goal.trace_filed-requires-clause-few
trace_filed-requires-clause-few c = (few_lines _ c.requires.sound, few_links _ c.requires.sound)

pub trace_filed-requires-clause-inside : goal.trace_filed-requires-clause-inside
trace_filed-requires-clause-inside c = starts_held _ c.requires.sound

pub trace_filed-requires-clause-measurable : goal.trace_filed-requires-clause-measurable
trace_filed-requires-clause-measurable c = low_held _ c.requires.sound _ (filed (goal.at.trace_filed-requires-clause-measurable c).After-file_held) _ _ c.clear.ensures c.requires.edges

pub trace_filed-requires-clause-traceable : goal.trace_filed-requires-clause-traceable
trace_filed-requires-clause-traceable c = ready_held _ c.requires.sound _ (filed (goal.at.trace_filed-requires-clause-traceable c).After-file_held) _ _ c.clear.ensures c.requires.edges

pub returns : goal.returns
returns c = built_held _ c.requires.sound _ (filed (goal.at.returns c).After-file_held) _ _ c.clear.ensures c.requires.edges _ c.trace_filed.ensures
