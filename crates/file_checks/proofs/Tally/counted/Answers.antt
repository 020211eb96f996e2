-- A record's kind says what it adds.
use Rattle.std.proofs.Common.{◌≡◌, ◌&&◌, arith, refl, inl, inr}
use Rattle.std.proofs.lemmas.Grind.{common_steps}
use Rattle.file_checks.specs.Tally.{counted_as, length_fits, lines_in, points_of, links_in}
use Rattle.file_checks.proofs.Tally.counted.Goals as goal
use Rattle.file_checks.proofs.Tally.counted.Goals.{in-Line, in-Link, in-Settings, then-self, else-self}

pub returns : goal.returns
unfolding counted_as
returns c =
    let l : c.if-self.result ≡ (c.args.self.lengths && length_fits c.args.kind c.args.size) =
    elim c.if-self.branch [ then-self w ↦ grind (arith, common_steps) | else-self w ↦ grind (arith, common_steps) ] in
    let a : (c.match-kind.lines.0 ≡ lines_in c.args.kind) × (c.match-kind.lines.1 ≡ points_of c.args.kind c.args.size) × (c.match-kind.lines.2 ≡ links_in c.args.kind) =
    elim c.match-kind.branch [
      | in-Line w ↦ rw (w.in-Line.is, w.lines-is) (refl, refl, refl)
      | in-Link w ↦ rw (w.in-Link.is, w.lines-is) (refl, refl, refl)
      | in-Settings w ↦ elim w.in-Settings.is [ inl e ↦ rw (e, w.lines-is) (refl, refl, refl) | inr e ↦ rw (e, w.lines-is) (refl, refl, refl) ]
    ] in
    rw (l, a.0, a.1, a.2, c.after.ensures)
