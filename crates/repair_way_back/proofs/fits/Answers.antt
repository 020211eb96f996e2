-- `repair_way_back::fits` meets its contract.
use mathlib.Core.Path.{ap, ◌∙◌}
use mathlib.Core.Bool.{not}
use Rattle.repair_way_back.proofs.Back.{fitting_seen, fitting_back}
use Rattle.repair_way_back.proofs.fits.Goals as goal

pub returns-then-not-seen-u : goal.returns-then-not-seen-u
returns-then-not-seen-u c =
    let a = c.args in
    c.on_way_back.ensures ∙ fitting_back a.edges.now a.dist.now a.seen.now a.v a.k _ c.from-u.ensures c.if-not-seen-u.true _ c.edge_number.ensures

pub returns-else-not-seen-u : goal.returns-else-not-seen-u
returns-else-not-seen-u c = let a = c.args in ap not c.if-not-seen-u.false ∙ fitting_seen a.edges.now a.dist.now a.seen.now a.v a.k _ c.from-u.ensures c.if-not-seen-u.false
