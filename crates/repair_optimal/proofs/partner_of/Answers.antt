-- `repair_optimal::partner_of` meets its contract.
use Rattle.repair_optimal.proofs.partner_of.Goals as goal

pub returns : goal.returns
returns c =
    let h = c.requires.partnered _ c.requires.m_nonzero.0 c.requires.m_nonzero.1 c.requires.m_nonzero.2 c.requires.m_nonzero.3 in
    (c.from.ensures, rw c.from.ensures h.0, rw c.from.ensures h.1)
