-- The links that are left, filed, give what all of them give.
use Rattle.std.proofs.Common.{◌≡◌, ◌-◌, length}
use Rattle.graph_filing.specs.Stored.{store_links}
use Rattle.graph_filing_lent.proofs.file_lent.Given as goal

abbrev pub invariant-loop-i : goal.invariant-loop-i
invariant-loop-i l = store_links l.starts l.links (length l.links - l.i) l.i l.ends ≡ store_links l.starts l.links (length l.links) 0 l.initial.ends
