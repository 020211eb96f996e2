-- What holds while the walk goes on. Let r be the node that has to be taken off next: the start, then the node below each entry taken off.
-- At every node v the free degree, and 1 more where v is the top and 1 more where v is r, come to an even number. Where the top has no free edge that forces the top to be r,
-- so each entry taken off is joined with the one taken off before it.
use mathlib.Core.Path.{◌≡◌, refl, sym, ap, ◌∙◌, subst}
use mathlib.Core.List.{List, [], ◌∷◌}
use mathlib.Core.Bool.{Bool, true}
use Prim.Native.Nat.{ℕ, zero, suc, ◌+◌, ◌*◌, ◌%◌, ◌<◌}
use native.Mathlib.Nat.{zero-add, not-suc-le-zero}
use native.Mathlib.Omega.{arith}
use lib.ListN.{length, set}
use Rattle.lists.specs.Members.{All}
use Rattle.lists.proofs.Members.{all_imp}
use Rattle.graph_spec.specs.Graph.{Edge}
use Rattle.graph_spec.specs.Odd.{hit}
use Rattle.graph_spec.specs.Count.{sum_over}
use Rattle.graph_spec.specs.Ways.{Joins}
use Rattle.graph_spec.proofs.Sums.{hit_same, hit_le, hit_eq, joins_hit}
use Rattle.graph_spec.proofs.EdgesAt.{edge_at}
use Rattle.walk_spec.specs.Walk.{By, start, Entry, Next, spent, along, next, walk}
use Rattle.walk_spec.proofs.Free.{Weight, all_sum, free_sum, free_sum_use}
use Rattle.walk_spec.proofs.Next.{at_node, Leads, Fits, next_fits}

-- what an entry's edge counts
abbrev pub by_weight : List Edge → Weight → By → ℕ
by_weight es g start = 0
by_weight es g (By.edge i) = g i (edge_at es i)

abbrev pub by_sum : List Edge → Weight → List Entry → ℕ
by_sum es g ts = sum_over (λ (t : Entry). by_weight es g t.by) ts

-- t was entered from the node u, by an edge that joins them
pub record Entered (es : List Edge) (u : ℕ) (t : Entry) : Type 0 where
  pub number : ℕ
  pub is_edge : number < length es
  pub by_is : t.by ≡ By.edge number
  pub joins : Joins (edge_at es number) u t.node

-- The entries after t, each entered from the one before; the last node is s.
abbrev pub Trail : List Edge → ℕ → Entry → List Entry → Type 0
Trail es s t [] = t.node ≡ s
Trail es s t (u ∷ us) = Entered es t.node u × Trail es s u us

-- the stack, its top first: each entered from the one below, the lowest is the start
abbrev pub Stacked : List Edge → ℕ → Entry → List Entry → Type 0
Stacked es s t [] = (t.node ≡ s) × (t.by ≡ start)
Stacked es s t (u ∷ us) = Entered es u.node t × Stacked es s u us

-- what is taken off goes on from the node r
abbrev pub From : List Edge → ℕ → ℕ → List Entry → Type 0
From es s r [] = r ≡ s
From es s r (u ∷ us) = Entered es r u × Trail es s u us

-- none of these nodes has a free edge
abbrev pub Done : List Edge → List Bool → List Entry → Type 0
Done es used ts = All (λ (t : Entry). free_sum (at_node t.node) 0 es used ≡ 0) ts

pub record Walking (es : List Edge) (s r : ℕ) (used : List Bool) (top : Entry) (stack out : List Entry) : Type 0 where
  pub each : (g : Weight) → by_sum es g (top ∷ stack) + by_sum es g out + free_sum g 0 es used ≡ all_sum g 0 es
  pub even : (v : ℕ) → (free_sum (at_node v) 0 es used + hit top.node v + hit r v) % 2 ≡ 0
  pub stacked : Stacked es s top stack
  pub from : From es s r out
  pub done : Done es used out

-- the walk is over: its entries, and which edges it used
pub record Walked (es : List Edge) (s : ℕ) (o : List Entry) : Type 0 where
  pub first : Entry
  pub rest : List Entry
  pub used : List Bool
  pub is : o ≡ first ∷ rest
  pub begins : first.node ≡ s
  pub by_start : first.by ≡ start
  pub trail : Trail es s first rest
  pub each : (g : Weight) → by_sum es g rest + free_sum g 0 es used ≡ all_sum g 0 es
  pub done : Done es used (first ∷ rest)

module _ (es : List Edge) (s : ℕ) where
  done_use : (used : List Bool) (u i v : ℕ) (ts : List Entry) → Leads es used u i v → Done es used ts → Done es (set used i true) ts
  done_use used u i v ts l d = all_imp _ _ (λ t z. omega (arith, free_sum_use (at_node t.node) 0 es used i l.is_edge l.free)) ts d

  -- along an edge
  push : (r : ℕ) (used : List Bool) (top : Entry) (stack out : List Entry) (i v : ℕ) → Walking es s r used top stack out → Leads es used top.node i v
      → Walking es s r (set used i true) (record { node = v; by = By.edge i }) (top ∷ stack) out
  unfolding sum_over
  push r used top stack out i v w l = record {
    each = λ g. omega (arith, w.each g, rw zero-add at (free_sum_use g 0 es used i l.is_edge l.free));
    even = λ x. omega (arith, w.even x, free_sum_use (at_node x) 0 es used i l.is_edge l.free, joins_hit (edge_at es i) top.node v x l.joins);
    stacked = (record { number = i; is_edge = l.is_edge; by_is = refl; joins = l.joins }, w.stacked);
    from = w.from;
    done = done_use used top.node i v out l w.done;
  }

  -- a top with no free edge is r
  is_next : (r : ℕ) (used : List Bool) (top : Entry) (stack out : List Entry) → Walking es s r used top stack out → free_sum (at_node top.node) 0 es used ≡ 0 → r ≡ top.node
  is_next r used top stack out w z = hit_eq r top.node (omega (arith, w.even top.node, hit_same top.node, hit_le r top.node))

  trail_from : (r : ℕ) (t : Entry) (out : List Entry) → r ≡ t.node → From es s r out → Trail es s t out
  trail_from r t [] e f = sym e ∙ f
  trail_from r t (u ∷ us) e f = (subst (λ (n : ℕ). Entered es n u) e f.0, f.1)

  -- off the stack
  pop : (r : ℕ) (used : List Bool) (top below : Entry) (stack out : List Entry) → Walking es s r used top (below ∷ stack) out → free_sum (at_node top.node) 0 es used ≡ 0
      → Walking es s below.node used below stack (top ∷ out)
  unfolding sum_over
  pop r used top below stack out w z =
      let e = is_next r used top (below ∷ stack) out w z in
      record {
        each = λ g. omega (arith, w.each g);
        even = λ v. omega (arith, w.even v, ap (λ (n : ℕ). hit n v) e);
        stacked = w.stacked.1;
        from = (w.stacked.0, trail_from r top out e w.from);
        done = (z, w.done);
      }

  finish : (r : ℕ) (used : List Bool) (top : Entry) (out : List Entry) → Walking es s r used top [] out → free_sum (at_node top.node) 0 es used ≡ 0 → Walked es s (top ∷ out)
  unfolding sum_over
  finish r used top out w z = record {
    first = top;
    rest = out;
    used = used;
    is = refl;
    begins = w.stacked.0;
    by_start = w.stacked.1;
    trail = trail_from r top out (is_next r used top [] out w z) w.from;
    each = λ g. omega (arith, w.each g, ap (by_weight es g) w.stacked.1);
    done = (z, w.done);
  }

  -- every edge once
  abbrev unit : Weight
  unit i e = 1

  -- each edge is yet to be gone along and then taken off, each entry of the stack to be taken off
  abbrev Enough : ℕ → List Bool → List Entry → Type 0
  Enough k used stack = 2 * free_sum unit 0 es used + length stack < k

  step : (k r : ℕ) (used : List Bool) (top : Entry) (stack out : List Entry) (N : Next) → Fits es used top.node N → Walking es s r used top stack out → Enough (suc k) used stack
      → ((r' : ℕ) (used' : List Bool) (top' : Entry) (stack' out' : List Entry) → Walking es s r' used' top' stack' out' → Enough k used' stack' → Walked es s (walk k es used' top' stack' out'))
      → Walked es s (elim N [
        | along i v ↦ walk k es (set used i true) (record { node = v; by = By.edge i }) (top ∷ stack) out
        | spent ↦ elim stack [ [] ↦ top ∷ out | below ∷ rest ↦ walk k es used below rest (top ∷ out) ]
      ])
  step k r used top [] out spent z w m rec = finish r used top out w z
  step k r used top (below ∷ rest) out spent z w m rec = rec below.node used below rest (top ∷ out) (pop r used top below rest out w z) (omega arith)
  step k r used top stack out (along i v) l w m rec =
      rec r (set used i true) (record { node = v; by = By.edge i }) (top ∷ stack) out (push r used top stack out i v w l)
      (omega (arith, free_sum_use unit 0 es used i l.is_edge l.free))

  pub run : (k r : ℕ) (used : List Bool) (top : Entry) (stack out : List Entry) → Walking es s r used top stack out → Enough k used stack → Walked es s (walk k es used top stack out)
  unfolding walk
  run zero r used top stack out w m = absurd (not-suc-le-zero m)
  run (suc k) r used top stack out w m =
      step k r used top stack out (next es used top.node) (next_fits es used top.node) w m (λ r' used' top' stack' out' w' m'. run k r' used' top' stack' out' w' m')
