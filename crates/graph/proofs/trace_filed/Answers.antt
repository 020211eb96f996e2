-- The lines come first, and the links begin anew behind them.
use Rattle.std.proofs.Common.{refl, sym, subst, ◌∙◌}
use Rattle.graph_line.specs.Follow.{Scratch}
use Rattle.graph_line.proofs.Lines.{ready_front, ready_back, anew_back}
use Rattle.graph_lines.proofs.All.{lines_anew, links_anew}
use Rattle.graph.proofs.trace_filed.Goals as goal

pub trace_lines-requires-clause-scratch : goal.trace_lines-requires-clause-scratch
trace_lines-requires-clause-scratch c = subst Scratch (sym c.new-splits.ensures) (record { keys_long = refl; xs_long = refl; ys_long = refl })

pub trace_lines-requires-clause-traceable : goal.trace_lines-requires-clause-traceable
trace_lines-requires-clause-traceable c = ready_front _ _ _ c.requires.traceable

pub trace_links-requires-clause-traceable : goal.trace_links-requires-clause-traceable
trace_links-requires-clause-traceable c = ready_back _ _ _ _ c.requires.traceable (lines_anew _ _ _ _ _) c.trace_lines.ensures

pub returns : goal.returns
returns c = c.trace_links.ensures ∙ sym (anew_back _ _ _ _ (links_anew _ _ _) c.trace_lines.ensures)
