-- Laws of specs/Along: what the code makes of the flat lists is the graph along the moves. Assumes nothing.
use mathlib.Core.Path.{◌≡◌, refl, subst}
use mathlib.Core.List.{List, [], ◌∷◌, ◌++◌, map-append}
use native.Mathlib.Omega.{arith}
use Rattle.drawing_spec.specs.Drawing.{Point}
use Rattle.lists.specs.Members.{All}
use Rattle.lists.proofs.Members.{all_front}
use Rattle.graph_spec.specs.Graph.{Graph}
use Rattle.graph_moves.specs.Moves.{Move, start, on, to, moved, along, Stands}
use Rattle.graph_moves.proofs.Moves.{end_of, along_append}
use Rattle.graph_moves.specs.Built.{uses_in}
use Rattle.graph_moves.proofs.Built.{stands_next}
use Rattle.graph_moves.specs.Room.{Room}
use Rattle.graph_moves.proofs.Room.{along_room}
use Rattle.graph_splits.specs.Points.{Measurable}
use Rattle.graph_strokes.specs.Step.{NodeReady, StepReady, Traced, TracedTo}
use Rattle.graph_strokes.proofs.StepLaws.{node_ready, step_traced, begin_traced}
use Rattle.graph_chain.specs.Along.{Traceable, traced_along, traced_by}

pub traced_append : (p : Point) (ms ks : List Move) (s : Traced) → traced_along p (ms ++ ks) s ≡ traced_along (end_of p ms) ks (traced_along p ms s)
unfolding traced_along end_of
traced_append p [] ks s = refl
traced_append p (m ∷ ms) ks s = traced_append (to m) ms ks (traced_by p m s)

-- ---- what one move needs

pub step_ready : (p q : Point) (ms : List Move) (s : Traced) → Traceable p (on q ∷ ms) s → StepReady p q s
unfolding along moved
step_ready p q ms s t =
    let g = t.so_far in
    let r = along_room p (on q ∷ ms) g t.room in
    record {
      node_ready = node_ready g.nodes g.edges p q s t.held (along_room q ms (moved p (on q) g) t.room).0 r.0;
      edges_fit = omega (arith, r.1, t.held.edges_counted);
      node_fits = omega (arith, r.0, t.held.node_is, t.stands);
      from_low = t.here;
      to_low = t.places.0;
    }

pub begin_ready : (p q : Point) (ms : List Move) (s : Traced) → Traceable p (start q ∷ ms) s → NodeReady q s.node_count s.table
unfolding along moved
begin_ready p q ms s t =
    let g = t.so_far in
    node_ready g.nodes g.edges p q s t.held (along_room q ms (moved p (start q) g) t.room).0 (along_room p (start q ∷ ms) g t.room).0

-- ---- and what it leaves

moved_held : (p : Point) (m : Move) (ms : List Move) (s : Traced) (g : Graph) → TracedTo g.nodes g.edges p s → Stands g.nodes p (m ∷ ms) → Room (moved p m g)
    → TracedTo (moved p m g).nodes (moved p m g).edges (to m) (traced_by p m s)
unfolding moved traced_by
moved_held p (start q) ms s g h n r = begin_traced g.nodes g.edges p q s h r.0
moved_held p (on q) ms s g h n r = step_traced g.nodes g.edges p q s h r.0 n

moved_stands : (p : Point) (m : Move) (ms : List Move) (g : Graph) → Stands (moved p m g).nodes (to m) ms
unfolding moved
moved_stands p (start q) ms g = stands_next g.nodes p (start q) ms
moved_stands p (on q) ms g = stands_next g.nodes p (on q) ms

pub traceable_next : (p : Point) (m : Move) (ms : List Move) (s : Traced) → Traceable p (m ∷ ms) s → Traceable (to m) ms (traced_by p m s)
unfolding along
traceable_next p m ms s t =
    let g = t.so_far in
    record {
      so_far = moved p m g;
      held = moved_held p m ms s g t.held t.stands (along_room (to m) ms (moved p m g) t.room);
      stands = moved_stands p m ms g;
      room = t.room;
      here = t.places.0;
      places = t.places.1;
    }

-- ---- many moves

stands_front : (ns : List Point) (p : Point) (ms ks : List Move) → Stands ns p (ms ++ ks) → Stands ns p ms
stands_front ns p [] ks h = tt
stands_front ns p (start q ∷ ms) ks h = h
stands_front ns p (on q ∷ ms) ks h = h

pub traceable_front : (p : Point) (ms ks : List Move) (s : Traced) → Traceable p (ms ++ ks) s → Traceable p ms s
traceable_front p ms ks s t = record {
  so_far = t.so_far;
  held = t.held;
  stands = stands_front t.so_far.nodes p ms ks t.stands;
  room = along_room (end_of p ms) ks (along p ms t.so_far) (subst Room (along_append p ms ks t.so_far) t.room);
  here = t.here;
  places = all_front Measurable (uses_in ms) (uses_in ks) (subst (All Measurable) (map-append to ms ks) t.places);
}

pub traceable_back : (p : Point) (ms ks : List Move) (s : Traced) → Traceable p (ms ++ ks) s → Traceable (end_of p ms) ks (traced_along p ms s)
unfolding traced_along end_of
traceable_back p [] ks s t = t
traceable_back p (m ∷ ms) ks s t = traceable_back (to m) ms ks (traced_by p m s) (traceable_next p m (ms ++ ks) s t)

-- after all moves the flat lists are those of the graph along them
pub held_along : (p : Point) (ms : List Move) (s : Traced) (t : Traceable p ms s) → TracedTo (along p ms t.so_far).nodes (along p ms t.so_far).edges (end_of p ms) (traced_along p ms s)
unfolding along end_of traced_along moved traceable_next
held_along p [] s t = t.held
held_along p (m ∷ ms) s t = held_along (to m) ms (traced_by p m s) (traceable_next p m ms s t)
