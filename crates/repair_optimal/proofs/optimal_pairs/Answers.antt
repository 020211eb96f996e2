-- `repair_optimal::optimal_pairs` meets its contract.
use native.Mathlib.Omega.{arith}
use mathlib.Core.Path.{refl, ap, ◌∙◌}
use mathlib.Core.List.{map}
use Rattle.repair_masks.specs.Places.{node_at, pair_of}
use Rattle.repair_optimal.proofs.Turns.{filled_partnered, filled_left, filled_optimal}
use borrow.Author.Rules.{rules}
use Rattle.repair_optimal.proofs.optimal_pairs.Goals as goal

pub read_pairs-requires : goal.read_pairs-requires
read_pairs-requires c =
    let pre = c.requires.le_n in
    let f = c.fill.ensures in
    let l = filled_left _ _ _ _ pre.2 pre.0 pre.1 f in
    record {
      n_le_most_odd = (pre.1, rw c.left_out-mask.ensures l.0, search rules, omega arith, rw c.left_out-mask.ensures l.1, rw c.left_out-mask.ensures l.2);
      partnered = (filled_partnered _ _ _ _ pre.2 pre.0 pre.1 f, pre.3, refl);
    }

pub returns : goal.returns
returns c =
    let pre = c.requires.le_n in
    let f = c.fill.ensures in
    let o = filled_optimal _ _ _ _ pre.2 pre.0 pre.1 f _ c.left_out-mask.ensures in
    c.read_pairs.ensures ∙ ap (map (pair_of (node_at c.args.odd.now))) o
