-- `repair_retrace::apply_pair` meets its contract.
use Prim.Native.Nat.{◌<◌}
use native.Mathlib.Omega.{arith}
use Rattle.limits.specs.Limits.{most_nodes}
use Rattle.graph_arrays.specs.Arrays.{edges_in}
use Rattle.repair_retrace.proofs.Path.{first_inside, nodes_inside, neighbours_apart}
use Rattle.repair_retrace.proofs.Answer.{answers_missing, answers_over, answers_laid}
use Rattle.repair_retrace.proofs.apply_pair.Goals as goal
use Rattle.repair_retrace.proofs.apply_pair.Goals.{In-Some}

-- where a way is found: its place in the array
place_inside : (c : In-Some) → c.in-Some.first < most_nodes
place_inside c =
    first_inside c.args.n (edges_in c.args.m c.args.edges.now) c.requires.edges_held.edges.inside c.args.from c.args.to c.requires.from_lt_n.0 _ c.shortest_path.ensures.kept.0 _ c.in-Some.ensures.way

pub returns-in_default-clause-answer : goal.returns-in_default-clause-answer
returns-in_default-clause-answer c =
    let a = c.args in
    answers_missing a.most a.number a.n a.m a.from a.to a.sum a.edges.now _ c.in_default.ensures.way

pub overflow_sub-count-2 : goal.overflow_sub-count-2
overflow_sub-count-2 c = omega (arith, place_inside (goal.at.overflow_sub-count-2 c).In-Some)

pub returns-then-past_most-clause-answer : goal.returns-then-past_most-clause-answer
returns-then-past_most-clause-answer c =
    let a = c.args in
    answers_over a.most a.number a.n a.m a.from a.to a.sum a.edges.now _ _ c.shortest_path.ensures.kept.0 c.in-Some.first c.in-Some.ensures.way c.if-past_most.true

pub lay_path-total-requires-clause-first_lt_most_nodes : goal.lay_path-total-requires-clause-first_lt_most_nodes
lay_path-total-requires-clause-first_lt_most_nodes c =
    let a = c.args in (
      place_inside (goal.at.lay_path-total-requires-clause-first_lt_most_nodes c).In-Some,
      omega (arith, c.if-past_most.false, c.requires.from_lt_n.2),
      c.shortest_path.ensures.kept.0,
      nodes_inside a.n (edges_in a.m a.edges.now) c.requires.edges_held.edges.inside a.from a.to c.requires.from_lt_n.0 _ c.shortest_path.ensures.kept.0 _ c.in-Some.ensures.way,
    )

pub lay_path-total-requires-clause-apart : goal.lay_path-total-requires-clause-apart
lay_path-total-requires-clause-apart c =
    let a = c.args in
    neighbours_apart a.n (edges_in a.m a.edges.now) c.requires.edges_held.edges.inside a.from a.to c.requires.from_lt_n.0 _ c.shortest_path.ensures.kept.0 _ c.in-Some.ensures.way c.requires.edges_held.edges.apart

pub returns-clause-answer : goal.returns-clause-answer
returns-clause-answer c =
    let a = c.args in
    answers_laid a.most a.number a.n a.m a.from a.to a.sum a.edges.now _ _ c.shortest_path.ensures.kept.0 c.in-Some.first c.in-Some.ensures.way c.requires.from_lt_n.2 c.requires.edges_held (omega (arith, c.if-past_most.false))
    c.lay_path-total.result c.lay_path-total.ensures.laid c.lay_path-total.ensures.linked
