-- The start names segment 0, and the end the last.
use Rattle.std.proofs.Common.{◌≡◌, ℕ, zero, suc, ◌+◌, ◌-◌, List, get_or, sym, ap, refl, arith}
use Rattle.links_made.specs.Filled.{segment_in}
use Rattle.links_made.proofs.segment.Goals as goal

pub returns-then-end-eq0 : goal.returns-then-end-eq0
unfolding segment_in
returns-then-end-eq0 c = sym (ap (segment_in c.args.drawing.now.starts c.args.l) c.if-end-eq0.true)

at_end : (starts : List ℕ) (l e : ℕ) → (e ≡ 0 → ⊥) → segment_in starts l e ≡ get_or starts (l + 1) 0 - get_or starts l 0 - 2
unfolding segment_in
at_end starts l zero d = absurd (d refl)
at_end starts l (suc e) d = refl

pub returns : goal.returns
returns c = omega (arith, at_end c.args.drawing.now.starts c.args.l c.args.end c.if-end-eq0.false)
