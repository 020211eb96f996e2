-- Each turn stores one byte more.
use Rattle.number_bytes.proofs.Stored.{storing_none, storing_more, storing_all}
use Rattle.number_bytes.proofs.write_number.Goals as goal

pub loop-place-init : goal.loop-place-init
loop-place-init c = storing_none _ _ _ _

pub loop-place-preserved : goal.loop-place-preserved
loop-place-preserved c = storing_more _ _ _ _ _ _ _ c.loop-place-test.true c.loop-place.invariant

pub returns : goal.returns
returns c = storing_all _ _ _ _ _ _ _ c.loop-place-test.false c.loop-place.invariant
