-- `length::whole_root` meets its contract. The loop's invariant: m's root is no more than `root`, which has 32 digits at most. The measure is `root`.
use Prim.Native.Nat.{◌+◌, ◌^◌, ◌<◌}
use Rattle.length.specs.Root.{square}
use Rattle.length.proofs.whole_root.Given as goal

abbrev pub invariant-loop-root : goal.invariant-loop-root
invariant-loop-root l = (l.root < 2 ^ 32) × (l.m < square (l.root + 1))

abbrev pub decreases-loop-root : goal.decreases-loop-root
decreases-loop-root l = l.root
