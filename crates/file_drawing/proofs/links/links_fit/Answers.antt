-- One link after the other.
use mathlib.Core.Path.{sym, ◌∙◌}
use native.Mathlib.Nat.{sub-zero}
use Rattle.file_drawing.proofs.Fit.{held_on, held_off, held_end}
use Rattle.file_drawing.proofs.links.links_fit.Goals as goal

pub loop-i-init : goal.loop-i-init
loop-i-init c = rw sub-zero

pub returns-then-not-link_fits : goal.returns-then-not-link_fits
returns-then-not-link_fits c = held_off c.args.drawing.now.starts c.args.drawing.now.lines c.args.drawing.now.links c.args.drawing.now.link_count c.loop-i.i c.loop-i.invariant c.loop-i-test.true (sym c.link_fits.ensures ∙ c.if-not-link_fits.true)

pub loop-i-preserved : goal.loop-i-preserved
loop-i-preserved c = held_on c.args.drawing.now.starts c.args.drawing.now.lines c.args.drawing.now.links c.args.drawing.now.link_count c.loop-i.i c.loop-i.invariant c.loop-i-test.true (sym c.link_fits.ensures ∙ c.if-not-link_fits.false)

pub returns : goal.returns
returns c = held_end c.args.drawing.now.starts c.args.drawing.now.lines c.args.drawing.now.links c.args.drawing.now.link_count c.loop-i.i c.loop-i.invariant c.loop-i-test.false
