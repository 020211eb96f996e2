-- Each list is filled whole.
use Rattle.std.proofs.Common.{◌≡◌, ℕ, List, length, replicate, ap, ◌∙◌, refl, rules}
use Rattle.graph_nodes.specs.Table.{Table, bucket_count}
use Rattle.limits.specs.Limits.{most_nodes}
use Rattle.graph_nodes.proofs.Table.clear.Goals as goal

filled : (v : ℕ) {xs : List ℕ} {n m : ℕ} → xs ≡ replicate n v → n ≡ m → xs ≡ replicate m v
filled v e l = e ∙ ap (λ (n : ℕ). replicate n v) l

pub returns : goal.returns
returns c =
    let t : Table = c.args.self.now in
    let x : c.fill.new.self ≡ replicate (length t.xs) 0 = search rules in
    let y : c.fill-2.new.self ≡ replicate (length t.ys) 0 = search rules in
    let n : c.fill-3.new.self ≡ replicate (length t.next) most_nodes = search rules in
    let b : c.fill-4.new.self ≡ replicate (length t.buckets) most_nodes = search rules in
    let lx : length t.xs ≡ most_nodes = search rules in
    let ly : length t.ys ≡ most_nodes = search rules in
    let ln : length t.next ≡ most_nodes = search rules in
    let lb : length t.buckets ≡ bucket_count = search rules in
    rw (filled 0 x lx) (rw (filled 0 y ly) (rw (filled most_nodes n ln) (rw (filled most_nodes b lb))))
