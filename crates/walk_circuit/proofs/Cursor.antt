-- A node's cursor: an arc of its list before which every edge is used. Edges that are used stay so, and so the first unused edge from the cursor on is the first of the whole list.
use mathlib.Core.Path.{◌≡◌, refl, ap, ◌∙◌}
use mathlib.Core.Logic.{inl, inr}
use mathlib.Core.List.{List, [], ◌∷◌}
use mathlib.Core.Bool.{Bool, true, false}
use Prim.Native.Nat.{ℕ, zero, suc, ◌-◌, ◌≤◌, ◌<◌}
use native.Mathlib.Omega.{arith}
use lib.ListN.{length, get_or, set}
use Rattle.limits.specs.Limits.{arc_room}
use Rattle.graph_spec.specs.Graph.{Edge, Arc, edges_at}
use Rattle.lists.specs.Members.{In}
use Rattle.graph_spec.proofs.EdgesAt.{edges_at_arc}
use Rattle.graph_adjacency.specs.Lists.{Adjacency, next_arc, edge_number, arc_at}
use Rattle.graph_adjacency.specs.Follow.{Follows}
use Rattle.graph_adjacency.proofs.Follow.{follows_none, follows_arc, follows_next}
use Rattle.walk_spec.specs.Walk.{spent, along, next_of}

-- what is used by the first marks is used by the later ones
abbrev pub StaysUsed : List Bool → List Bool → Type 0
StaysUsed marks later = (j : ℕ) → get_or marks j true ≡ true → get_or later j true ≡ true

pub stays_set : (marks : List Bool) (i : ℕ) → StaysUsed marks (set marks i true)
stays_set [] i j h = h
stays_set (b ∷ bs) zero zero h = refl
stays_set (b ∷ bs) zero (suc j) h = h
stays_set (b ∷ bs) (suc i) zero h = h
stays_set (b ∷ bs) (suc i) (suc j) h = stays_set bs i j h

-- an arc that is used is passed over, one that is not is the next
next_used : (marks : List Bool) (r : Arc) (rs : List Arc) → get_or marks r.number true ≡ true → next_of marks (r ∷ rs) ≡ next_of marks rs
unfolding next_of
next_used marks r rs h = rw (next_of, h)

next_free : (marks : List Bool) (r : Arc) (rs : List Arc) → get_or marks r.number true ≡ false → next_of marks (r ∷ rs) ≡ along r.number r.to
unfolding next_of
next_free marks r rs h = rw (next_of, h)

-- k is the cursor of the node v, whose arcs are `all`
pub record Cursor (g : Adjacency) (all : List Arc) (marks : List Bool) (v k : ℕ) : Type 0 where
  pub rest : List Arc
  pub follows : Follows g v k rest
  pub within : (r : Arc) → In r rest → In r all
  pub same : (later : List Bool) → StaysUsed marks later → next_of later all ≡ next_of later rest

module _ (g : Adjacency) (all : List Arc) (marks : List Bool) (v : ℕ) where
  -- the first arc
  pub cursor_first : (k : ℕ) → Follows g v k all → Cursor g all marks v k
  cursor_first k f = record { rest = all; follows = f; within = λ r i. i; same = λ later h. refl }

  -- more edges used
  pub cursor_later : (later : List Bool) (k : ℕ) → StaysUsed marks later → Cursor g all marks v k → Cursor g all later v k
  cursor_later later k m c = record { rest = c.rest; follows = c.follows; within = c.within; same = λ more h. c.same more (λ j u. h j (m j u)) }

  -- past a used arc
  pub cursor_pass : (k : ℕ) → 0 < k → get_or marks (edge_number k) true ≡ true → Cursor g all marks v k → Cursor g all marks v (next_arc g.next g.heads v k)
  unfolding arc_at
  cursor_pass k p u c = go c.rest c.follows c.within c.same
    where
      go : (rest : List Arc) → Follows g v k rest → ((r : Arc) → In r rest → In r all) → ((later : List Bool) → StaysUsed marks later → next_of later all ≡ next_of later rest)
          → Cursor g all marks v (next_arc g.next g.heads v k)
      go [] f w s = absurd (omega (arith, follows_none g v k f))
      go (r ∷ rs) f w s =
          let number : edge_number k ≡ r.number = ap (λ (x : Arc). x.number) (follows_arc g v k r rs f).is in
          record {
            rest = rs;
            follows = follows_next g v k r rs f;
            within = λ x i. w x (inr i);
            same = λ later h. s later h ∙ next_used later r rs (h r.number (rw number at u));
          }

  -- at the end nothing is left
  pub cursor_none : Cursor g all marks v 0 → next_of marks all ≡ spent
  unfolding next_of
  cursor_none c = c.same marks (λ j h. h) ∙ go c.rest c.follows
    where
      go : (rest : List Arc) → Follows g v 0 rest → next_of marks rest ≡ spent
      go [] f = refl
      go (r ∷ rs) f = absurd (omega (arith, (follows_arc g v 0 r rs f).some))

  -- a free arc is the next
  pub cursor_free : (k : ℕ) → 0 < k → get_or marks (edge_number k) true ≡ false → Cursor g all marks v k → next_of marks all ≡ along (edge_number k) (get_or g.ends (k - 1) 0)
  unfolding arc_at
  cursor_free k p u c = c.same marks (λ j h. h) ∙ go c.rest c.follows
    where
      go : (rest : List Arc) → Follows g v k rest → next_of marks rest ≡ along (edge_number k) (get_or g.ends (k - 1) 0)
      go [] f = absurd (omega (arith, follows_none g v k f))
      go (r ∷ rs) f =
          let is = (follows_arc g v k r rs f).is in
          let number : edge_number k ≡ r.number = ap (λ (x : Arc). x.number) is in
          let to : get_or g.ends (k - 1) 0 ≡ r.to = ap (λ (x : Arc). x.to) is in
          rw (number, to) (next_free marks r rs (rw number at u))

-- what is known of an arc at a cursor
pub record ArcThere (es : List Edge) (g : Adjacency) (v k : ℕ) : Type 0 where
  pub within : k ≤ arc_room
  pub falls : next_arc g.next g.heads v k < k
  pub is_edge : edge_number k < length es

pub cursor_arc : (es : List Edge) (g : Adjacency) (marks : List Bool) (v k : ℕ) → 0 < k → Cursor g (edges_at es v) marks v k → ArcThere es g v k
unfolding arc_at
cursor_arc es g marks v k p c = go c.rest c.follows c.within
  where
    go : (rest : List Arc) → Follows g v k rest → ((r : Arc) → In r rest → In r (edges_at es v)) → ArcThere es g v k
    go [] f w = absurd (omega (arith, follows_none g v k f))
    go (r ∷ rs) f w =
        let a = follows_arc g v k r rs f in
        let number : edge_number k ≡ r.number = ap (λ (x : Arc). x.number) a.is in
        record { within = a.within; falls = a.falls; is_edge = rw number (edges_at_arc es v r (w r (inl refl))).is_edge }

-- whether or not there is an arc
pub cursor_within : (g : Adjacency) (all : List Arc) (marks : List Bool) (v k : ℕ) → Cursor g all marks v k → k ≤ arc_room
cursor_within g all marks v k c = go c.rest c.follows
  where
    go : (rest : List Arc) → Follows g v k rest → k ≤ arc_room
    go [] f = omega (arith, follows_none g v k f)
    go (r ∷ rs) f = (follows_arc g v k r rs f).within
