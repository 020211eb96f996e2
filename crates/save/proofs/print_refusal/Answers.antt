-- `save::print_refusal` meets its contract.
use mathlib.Core.Path.{sym}
use Prim.Native.Nat.{◌≤◌}
use lib.ListN.{length}
use lib.Seq.{length-take-le}
use borrow.Author.Rules.{rules}
use Rattle.save.proofs.print_refusal.Goals as goal

pub slice_bounds-write_all-end : goal.slice_bounds-write_all-end
slice_bounds-write_all-end c =
    let few : c.put_refusal-k.result ≤ length c.put_refusal-k.new.text = search rules in
    sym (length-take-le c.put_refusal-k.result c.put_refusal-k.new.text few)
