-- Each way out is one law of Phases.
use Rattle.std.proofs.Common.{◌∙◌, length}
use Rattle.file_records.specs.Meaning.{settings_of}
use Rattle.phases_c.proofs.Phases.{graph_stops, apart_stops, odd_stops, pairs_stop, repair_stops}
use Rattle.phases_c.proofs.phase_of_graph.Goals as goal

pub returns-then-last-eq-GRAPH : goal.returns-then-last-eq-GRAPH
returns-then-last-eq-GRAPH c =
    let a = c.args in c.made.ensures ∙ graph_stops a.n a.m a.nodes.now.xs a.nodes.now.ys a.edges.now (settings_of a.settings) (length a.floats.now) (length a.bytes.now) a.last c.if-last-eq-GRAPH.true

pub returns-then-not-reached : goal.returns-then-not-reached
returns-then-not-reached c =
    let a = c.args in
    let r = c.all_reached-reached in
    c.refused.ensures
    ∙ apart_stops a.n a.m a.nodes.now.xs a.nodes.now.ys a.edges.now (settings_of a.settings) (length a.floats.now) (length a.bytes.now) a.last c.if-last-eq-GRAPH.false r.result r.ensures c.if-not-reached.true

pub returns-then-last-eq-ODD : goal.returns-then-last-eq-ODD
returns-then-last-eq-ODD c =
    let a = c.args in
    let r = c.all_reached-reached in
    odd_stops a.n a.m a.nodes.now.xs a.nodes.now.ys a.edges.now (settings_of a.settings) (length a.floats.now) (length a.bytes.now) a.last c.if-last-eq-GRAPH.false r.result r.ensures c.if-not-reached.false c.if-last-eq-ODD.true _ c.end_of_odd.ensures

pub returns-then-before_repair : goal.returns-then-before_repair
returns-then-before_repair c =
    let a = c.args in
    let r = c.all_reached-reached in
    pairs_stop a.n a.m a.nodes.now.xs a.nodes.now.ys a.edges.now (settings_of a.settings) (length a.floats.now) (length a.bytes.now) a.last c.if-last-eq-GRAPH.false r.result r.ensures c.if-not-reached.false c.if-last-eq-ODD.false
    c.if-before_repair.true _ c.end_of_pairs.ensures

pub returns : goal.returns
returns c =
    let a = c.args in
    let r = c.all_reached-reached in
    repair_stops a.n a.m a.nodes.now.xs a.nodes.now.ys a.edges.now (settings_of a.settings) (length a.floats.now) (length a.bytes.now) a.last c.if-last-eq-GRAPH.false r.result r.ensures c.if-not-reached.false c.if-last-eq-ODD.false
    c.if-before_repair.false _ c.end_of_repair.ensures
