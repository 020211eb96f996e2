-- The two ways out: the node is there, or it is put in.
use Rattle.std.proofs.Common.{ℕ, refl, sym, ◌∙◌}
use Rattle.graph_nodes.specs.Table.{Table, seek}
use Rattle.graph_nodes.proofs.TableLaws.{known_low, known_high, old_node, room_left, new_node}
use Rattle.graph_nodes.proofs.Table.get_or_insert.Goals as goal

-- what was looked for in the bucket
abbrev sought : Table → ℕ → ℕ → ℕ → ℕ → ℕ
sought t n x y start = seek n t.xs t.ys t.next x y start

pub returns-in-Some : goal.returns-in-Some
returns-in-Some c =
    let t = c.args.self.now in
    let f = known_low (sought t c.args.n c.args.p.x c.args.p.y c.from-start.result) c.in-Some.found (sym c.find_node.ensures ∙ c.in-Some.is) in
    let o = old_node c.args.n c.args.p.x c.args.p.y t c.hash.result c.from-start.result c.in-Some.found c.hash.ensures.0 c.from-start.ensures f.0 f.1 in
    record { number = o.0; nodes = o.1 }

pub insert-requires : goal.insert-requires
insert-requires c =
    let t = c.args.self.now in
    let s = sought t c.args.n c.args.p.x c.args.p.y c.from-start.result in
    room_left c.args.n c.args.p.x c.args.p.y t c.hash.result c.from-start.result s c.hash.ensures.0 c.from-start.ensures refl (known_high s (sym c.find_node.ensures ∙ c.in-None.is)) c.requires

pub returns-in-None : goal.returns-in-None
returns-in-None c =
    let t = c.args.self.now in
    let s = sought t c.args.n c.args.p.x c.args.p.y c.from-start.result in
    let o = new_node c.args.n c.args.p.x c.args.p.y t c.hash.result c.from-start.result s c.hash.ensures.0 c.from-start.ensures refl (known_high s (sym c.find_node.ensures ∙ c.in-None.is)) _ c.insert.ensures in
    record { number = o.0; nodes = o.1 }
