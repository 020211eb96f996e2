-- `save::main` meets its contract.
use mathlib.Core.Path.{refl}
use Rattle.save.proofs.Printed.{written_in, written_long}
use Rattle.save.proofs.main.Goals as goal

pub slice_bounds-destination-end : goal.slice_bounds-destination-end
slice_bounds-destination-end c = written_in _ _ _ c.save_again.new.destination c.in-Ok.ensures.cleaned _ refl

pub slice_bounds-write_all-end : goal.slice_bounds-write_all-end
slice_bounds-write_all-end c = written_long _ _ _ c.save_again.new.destination c.in-Ok.ensures.cleaned _ refl
