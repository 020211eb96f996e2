-- `repair_table::choose` meets its contract.
use native.Mathlib.Omega.{arith}
use Rattle.repair_table.proofs.FillLaws.{others_left, chosen_entry}
use mathlib.Core.Path.{◌∙◌}
use Rattle.repair_table.proofs.choose.Goals as goal

pub try_partners-requires : goal.try_partners-requires
try_partners-requires c =
    let pre = c.requires.m_nonzero in
    let h = others_left _ _ _ _ c.lowest-i.ensures.place c.power.ensures.0 pre.0 pre.1 pre.2 pre.3 in
    omega arith

pub returns : goal.returns
returns c =
    (c.try_partners.ensures.0 ∙ chosen_entry c.args.table.now c.args.n c.args.m _ _ _ c.lowest-i.ensures.place c.power.ensures.0 c.row_of-row.ensures.0, c.try_partners.ensures.1)
