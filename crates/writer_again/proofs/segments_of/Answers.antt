-- `writer_again::segments_of` meets its contract.
use Prim.Native.Nat.{ℕ, ◌*◌}
use mathlib.Core.Path.{refl}
use lib.ListN.{get_or, replicate}
use Rattle.limits.specs.Limits.{most_links}
use Rattle.file_drawing.specs.Held.{past_end}
use Rattle.writer_again.specs.Filled.{segments_of}
use Rattle.writer_again.proofs.Filled.{fill_start, fill_turn, fill_end}
use Rattle.writer_again.proofs.segments_of.Goals as goal

pub loop-link-init : goal.loop-link-init
loop-link-init c = fill_start (λ (i : ℕ). segments_of (get_or c.args.edges.now i past_end)) 4 (replicate (4 * most_links) 0) c.args.links

pub loop-link-preserved : goal.loop-link-preserved
loop-link-preserved c = fill_turn (λ (i : ℕ). segments_of (get_or c.args.edges.now i past_end)) 4 (replicate (4 * most_links) 0) _ c.loop-link.link c.loop-link.segments c.loop-link.invariant c.loop-link-test.true refl (4 * c.loop-link.link) refl _ c.put_segments.ensures

pub returns : goal.returns
returns c = fill_end (λ (i : ℕ). segments_of (get_or c.args.edges.now i past_end)) 4 (replicate (4 * most_links) 0) _ c.loop-link.link c.loop-link.segments c.loop-link.invariant c.loop-link-test.false
