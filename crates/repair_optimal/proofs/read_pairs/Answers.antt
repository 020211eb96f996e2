-- The steps.
use Rattle.std.proofs.Common.{arith}
use Rattle.repair_masks.proofs.Masks.{some_places}
use Rattle.repair_optimal.proofs.Turns.{pair_out, reading_start, reading_turn, reading_over}
use Rattle.repair_optimal.proofs.read_pairs.Goals as goal

pub loop-init : goal.loop-init
loop-init c =
    let a = c.args in
    let kept = c.requires.partnered in
    (omega arith, omega arith, c.requires.n_le_most_odd.5, reading_start a.odd.now a.partners.now a.count a.mask a.pairs.now kept.2 kept.1)

pub lowest-i-requires : goal.lowest-i-requires
lowest-i-requires c = let h = some_places c.loop.m (omega arith) in omega arith

pub partner_of-j-requires : goal.partner_of-j-requires
partner_of-j-requires c = let h = some_places c.loop.m (omega arith) in record { m_nonzero = (omega arith); partnered = c.requires.partnered.0 }

pub push-requires : goal.push-requires
push-requires c = omega (arith, c.loop.invariant.3.read)

pub overflow_sub-m-in-loop : goal.overflow_sub-m-in-loop
overflow_sub-m-in-loop c =
    let some = some_places c.loop.m (omega arith) in
    let out = pair_out c.args.n c.loop.m _ _ _ _ c.loop.invariant.0 c.requires.n_le_most_odd.0 some c.lowest-i.ensures.place c.power.ensures.0 c.power-in-loop.ensures.0 c.partner_of-j.ensures.2 c.loop.invariant.2 in
    omega arith

pub loop-preserved : goal.loop-preserved
loop-preserved c =
    let at = c.loop in
    let low = c.lowest-i in
    let with = c.partner_of-j in
    let some = some_places at.m (omega arith) in
    let out = pair_out c.args.n at.m _ _ _ _ at.invariant.0 c.requires.n_le_most_odd.0 some low.ensures.place c.power.ensures.0 c.power-in-loop.ensures.0 with.ensures.2 at.invariant.2 in (
      omega arith,
      omega arith,
      out.2,
      rw c.push.ensures (reading_turn c.args.odd.now c.args.partners.now c.args.count c.args.mask at.counter at.m low.result with.result _ _ at.pairs (omega arith) c.requires.n_le_most_odd.3 low.ensures.place with.ensures.0
          c.power.ensures.0 c.power-in-loop.ensures.0 at.invariant.3),
    )

pub returns : goal.returns
returns c =
    let a = c.args in
    let at = c.loop in
    reading_over a.odd.now a.partners.now a.count a.mask at.counter at.m at.pairs (omega arith) at.invariant.3
