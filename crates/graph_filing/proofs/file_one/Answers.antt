-- The end is filed under the segment, whose place is behind its line's start.
use Rattle.std.proofs.Common.{◌≡◌, ℕ, ap, ◌∙◌, get_or, arith}
use Rattle.graph_splits.specs.Next.{at}
use Rattle.graph_filing.proofs.Stored.{end_stored}
use Rattle.graph_filing.proofs.file_one.Goals as goal

pub returns : goal.returns
returns c =
    let start : c.from-first.result ≡ get_or c.args.starts.now c.args.line 0 = c.from-first.ensures ∙ ap (λ (k : ℕ). get_or c.args.starts.now k 0) c.from.ensures in
    end_stored _ _ _ (at c.args.p.x c.args.p.y) _ _ (omega arith) c.file_end.ensures
