-- The list is filled whole.
use Rattle.std.proofs.Common.{◌≡◌, ℕ, ◌*◌, length, replicate, ap, ◌∙◌, rules}
use lib.Ieee.{of_bits, Float, binary64}
use Rattle.limits.specs.Limits.{most_nodes}
use Rattle.repair_tournament.specs.Tree.{no_values, infinity}
use Rattle.repair_tournament.proofs.Tournament.clear.Goals as goal

pub returns : goal.returns
unfolding of_bits
returns c =
    let e : c.fill.new.self ≡ replicate (length c.args.self.now.values) infinity = search rules in
    let l : length c.args.self.now.values ≡ 2 * most_nodes = search rules in
    e ∙ ap (λ (n : ℕ). replicate n infinity) l
