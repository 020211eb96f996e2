-- A turn of the walk goes along a free edge or takes an entry off; past a used edge the cursor goes on.
use mathlib.Core.Path.{sym, ◌∙◌}
use native.Mathlib.Omega.{arith}
use borrow.Author.Rules.{rules}
use Rattle.walk_marks.specs.Marks.{marks_in}
use Rattle.walk_circuit.proofs.Standing.{Stand, Within, stand}
use Rattle.walk_circuit.proofs.Walks.{Over, ArcIn, looks_arc, walks_within, walks_turn, walks_look, pass_looks, push_walks, pop_walks, over_walks, out_walks, over_put, start_walks}
use Rattle.walk_circuit.proofs.circuit.Lts.{else-walk-test, then-walk-test+else-loop-k-test+then-depth-eq0}
use Rattle.walk_circuit.proofs.circuit.Goals as goal
use Rattle.walk_circuit.proofs.circuit.Goals.{At-walk, At-loop-k, In-loop-k, Left-walk}

-- where the walk stands at the head of each loop
abbrev stood : At-walk → Stand
stood c = stand (marks_in c.walk.used.words) c.walk.cursors c.walk.entries.nodes c.walk.entries.bys c.walk.depth c.walk.node c.walk.by c.walk.place

abbrev looked : At-loop-k → Stand
looked c = stand (marks_in c.loop-k.used.words) c.loop-k.cursors c.loop-k.entries.nodes c.loop-k.entries.bys c.loop-k.depth c.loop-k.node c.loop-k.by c.walk.place

-- the arc that is looked at
arc : (c : In-loop-k) → ArcIn c.args.edges.now c.loop-k.node c.loop-k.k
arc c = looks_arc _ _ _ c.requires.edges _ (looked c.before) c.loop-k-test.true c.loop-k.invariant.2

-- both ways out of the walk
over : (c : Left-walk) → Within c.args.n c.walk-test.entries.nodes c.walk-test.entries.bys c.walk-test.depth c.walk-test.node c.walk.place
    × Over c.args.n c.args.m c.args.edges.now c.args.s c.walk-test.entries.nodes c.walk-test.entries.bys c.walk-test.node c.walk-test.by c.walk.place
over c = elim c.walk-test.branch [
  | else-walk-test w ↦ rw (w.entries-is, w.depth-is, w.node-is, w.by-is) (c.walk.invariant.0, out_walks _ _ _ c.requires.edges _ _ (stood c.before) (omega (arith, w.walk-test.false)) c.walk.invariant.1)
  | then-walk-test+else-loop-k-test+then-depth-eq0 w ↦ rw (w.entries-is, w.depth-is, w.node-is, w.by-is) (
    w.loop-k.invariant.0,
    over_walks _ _ _ c.requires.edges _ _ _
        (stand (marks_in w.loop-k.used.words) w.loop-k.cursors w.loop-k.entries.nodes w.loop-k.entries.bys w.loop-k.depth w.loop-k.node w.loop-k.by c.walk.place)
        w.loop-k-test.false w.if-depth-eq0.true w.loop-k.invariant.1 w.loop-k.invariant.2,
  )
]

pub walk-init : goal.walk-init
walk-init c =
    let w = start_walks _ _ _ c.requires.edges _ _ _ c.args.entries.now.nodes c.args.entries.now.bys c.new-used.ensures.none c.first_arcs-cursors.ensures c.requires.start (omega arith) (omega arith) in
    (walks_within _ _ _ c.requires.edges _ _ _ w, w)

pub loop-k-init : goal.loop-k-init
loop-k-init c =
    let t = stood (goal.at.loop-k-init c).At-walk in
    (c.walk.invariant.0, walks_turn _ _ _ c.requires.edges _ _ _ t (omega (arith, c.walk-test.true)) c.walk.invariant.1, walks_look _ _ _ c.requires.edges _ _ _ t c.walk.invariant.1 c.from-k.ensures)

pub next_arc-after-requires : goal.next_arc-after-requires
next_arc-after-requires c = (search rules, (arc (goal.at.next_arc-after-requires c).In-loop-k).within, search rules)

pub is_used-unused-requires : goal.is_used-unused-requires
is_used-unused-requires c = omega (arith, (arc (goal.at.is_used-unused-requires c).In-loop-k).is_edge, c.edge_number-i.ensures)

pub mark_used-requires : goal.mark_used-requires
mark_used-requires c = omega (arith, (arc (goal.at.mark_used-requires c).In-loop-k).is_edge, c.edge_number-i.ensures)

pub overflow_cast-cursors : goal.overflow_cast-cursors
overflow_cast-cursors c =
    let there = arc (goal.at.overflow_cast-cursors c).In-loop-k in
    record { fits = omega (arith, there.within, there.falls, c.next_arc-after.ensures) }

pub offset_bounds-edges-k : goal.offset_bounds-edges-k
offset_bounds-edges-k c = omega (arith, (arc (goal.at.offset_bounds-edges-k c).In-loop-k).within)

pub bounds-edges-k : goal.bounds-edges-k
bounds-edges-k c = omega (arith, (arc (goal.at.bounds-edges-k c).In-loop-k).within)

pub overflow_add-by : goal.overflow_add-by
overflow_add-by c = omega (arith, (arc (goal.at.overflow_add-by c).In-loop-k).is_edge, c.edge_number-i.ensures)

pub overflow_cast-by : goal.overflow_cast-by
overflow_cast-by c = omega (arith, (arc (goal.at.overflow_cast-by c).In-loop-k).is_edge, c.edge_number-i.ensures)

pub walk-preserved-then-unused : goal.walk-preserved-then-unused
walk-preserved-then-unused c =
    let t = looked (goal.at.walk-preserved-then-unused c).At-loop-k in
    let w = push_walks _ _ _ c.requires.edges _ _ _ _ _ _ t c.loop-k-test.true c.edge_number-i.ensures c.next_arc-after.ensures c.from-node.ensures c.loop-k.invariant.1 c.loop-k.invariant.2 (sym c.is_used-unused.ensures ∙ c.if-unused.true) in
    rw c.mark_used.ensures.marks_after (walks_within _ _ _ c.requires.edges _ _ _ w, w)

pub loop-k-smaller : goal.loop-k-smaller
loop-k-smaller c = omega (arith, (arc (goal.at.loop-k-smaller c).In-loop-k).falls, c.next_arc-after.ensures)

pub loop-k-preserved : goal.loop-k-preserved
loop-k-preserved c = (
  c.loop-k.invariant.0,
  c.loop-k.invariant.1,
  pass_looks _ _ _ c.requires.edges _ _ _ _ _ (looked (goal.at.loop-k-preserved c).At-loop-k) c.loop-k-test.true c.edge_number-i.ensures c.next_arc-after.ensures c.loop-k.invariant.1 c.loop-k.invariant.2 (sym c.is_used-unused.ensures ∙ c.if-unused.false),
)

pub walk-preserved : goal.walk-preserved
walk-preserved c =
    let t = looked (goal.at.walk-preserved c).At-loop-k in
    let w = pop_walks _ _ _ c.requires.edges _ _ _ _ t c.loop-k-test.false c.if-depth-eq0.false c.from-below.ensures c.loop-k.invariant.1 c.loop-k.invariant.2 in
    (walks_within _ _ _ c.requires.edges _ _ _ w, w)

pub returns-clause-bys_after : goal.returns-clause-bys_after
returns-clause-bys_after c = let o = over (goal.at.returns-clause-bys_after c).Left-walk in over_put _ _ _ _ _ _ _ o.0 _ c.args.edges.now _ o.1
