-- The cut: of a circuit that goes along one more edge x, the line that is left when the step by x is cut. It loses that step and no other, and runs from one end of x to the other.
use mathlib.Core.Path.{◌≡◌, refl, sym, ap, ◌∙◌, subst}
use mathlib.Core.List.{List, [], ◌∷◌, ◌++◌, map-append, reverse, reverse-cons, append-nil, append_assoc}
use mathlib.Core.Bool.{Bool, true, false, true≢false}
use Prim.Native.Nat.{ℕ, ◌+◌, ◌<◌}
use native.Mathlib.Nat.{not-suc-le-zero}
use native.Mathlib.Omega.{arith}
use lib.ListN.{length, drop, length-append}
use lib.Seq.{get_or-append_seam}
use borrow.Author.Tests.{eqb-true}
use Rattle.graph_spec.specs.Graph.{Edge}
use Rattle.graph_spec.specs.Odd.{one, hit}
use Rattle.graph_spec.specs.Count.{sum_over}
use Rattle.graph_spec.specs.Ways.{Joins}
use Rattle.graph_spec.proofs.Sums.{hit_same, hit_other, sum_over_append}
use Rattle.graph_spec.proofs.EdgesAt.{edge_at}
use Rattle.walk_spec.specs.EulerLine.{Step, Leads, times}
use Rattle.walk_spec.specs.Walk.{By, start, Entry, nodes_of}
use Rattle.walk_spec.specs.VirtualStep.{is_by, cut_at}
use Rattle.walk_spec.proofs.EulerLine.{nodes_to, leads_append, leads_split, leads_without}
use Rattle.walk_spec.proofs.Trail.{by_weight, by_sum}
use Rattle.walk_spec.proofs.Circuit.{Circuit, is_number, step_of, steps_of, steps_of_nodes, trail_leads, trail_times}

-- ---- what `cut_at` finds

pub record Found (i : ℕ) (before ts : List Entry) : Type 0 where
  pub front : List Entry
  pub step : Entry
  pub back : List Entry
  pub is : ts ≡ front ++ (step ∷ back)
  pub by_is : step.by ≡ By.edge i
  pub cut : cut_at i before ts ≡ (step ∷ back) ++ drop 1 (reverse before ++ front)

is_by_is : (i : ℕ) (b : By) → is_by i b ≡ true → b ≡ By.edge i
unfolding is_by
is_by_is i start h = absurd (true≢false (sym h))
is_by_is i (By.edge j) h = ap By.edge (eqb-true j i h)

is_by_weight : (es : List Edge) (i : ℕ) (b : By) → by_weight es (is_number i) b ≡ one (is_by i b)
unfolding is_by
is_by_weight es i start = refl
is_by_weight es i (By.edge j) = refl

-- an entry that was not entered by the edge i is passed over
cut_at_later : (i : ℕ) (before : List Entry) (t : Entry) (ts : List Entry) → is_by i t.by ≡ false → cut_at i before (t ∷ ts) ≡ cut_at i (t ∷ before) ts
unfolding cut_at
cut_at_later i before t ts e = rw (cut_at, e)

-- where some entry was entered by the edge i
cut_finds : (es : List Edge) (i : ℕ) (before ts : List Entry) → 0 < by_sum es (is_number i) ts → Found i before ts
unfolding sum_over cut_at
cut_finds es i before [] h = absurd (not-suc-le-zero h)
cut_finds es i before (t ∷ ts) h = go (is_by i t.by) refl (cut_finds es i (t ∷ before) ts)
  where
    go : (b : Bool) → is_by i t.by ≡ b → (0 < by_sum es (is_number i) ts → Found i (t ∷ before) ts) → Found i before (t ∷ ts)
    go true e rec = record { front = []; step = t; back = ts; is = refl; by_is = is_by_is i t.by e; cut = rw (cut_at, e, append-nil) }
    go false e rec =
        let f = rec (omega (arith, h, is_by_weight es i t.by, ap one e)) in
        record {
          front = t ∷ f.front;
          step = f.step;
          back = f.back;
          is = ap (λ (l : List Entry). t ∷ l) f.is;
          by_is = f.by_is;
          cut = cut_at_later i before t ts e ∙ f.cut ∙ rw (reverse-cons t before, append_assoc);
        }

-- ---- the cut of a circuit that goes along x, the last edge

-- a line that goes once along every edge but x, from one end of x to the other
pub record CutLine (es : List Edge) (x : Edge) (line : List ℕ) : Type 0 where
  pub first : ℕ
  pub steps : List Step
  pub last : ℕ
  pub is : line ≡ first ∷ nodes_to steps
  pub leads : Leads es first steps last
  pub once : (i : ℕ) → i < length es → times i steps ≡ 1
  pub joins : Joins x last first

module _ (es : List Edge) (x : Edge) (s : ℕ) (o : List Entry) (c : Circuit (es ++ (x ∷ [])) s o) (f : Found (length es) (c.first ∷ []) c.rest) where
  abbrev more : List Edge
  more = es ++ (x ∷ [])

  abbrev front : List Step
  front = steps_of f.front

  abbrev step : Step
  step = step_of f.step

  abbrev back : List Step
  back = steps_of f.back

  rest_is : steps_of c.rest ≡ front ++ (step ∷ back)
  rest_is = ap steps_of f.is ∙ map-append step_of f.front (f.step ∷ f.back)

  -- the circuit is closed, so from behind the step by x it leads to before it
  parts : (v : ℕ) × Leads more s front v × Leads more v (step ∷ back) s
  parts =
      leads_split more s s front (step ∷ back)
      (subst (λ (u : ℕ). Leads more u (front ++ (step ∷ back)) s) c.begins (rw rest_is at (trail_leads more s c.first c.rest c.trail)))

  number_is : step.number ≡ length es
  number_is = rw f.by_is

  -- each edge of all once, and so once in what is left if it is not x
  counted : (i : ℕ) → i < length more → times i (back ++ front) + hit step.number i ≡ 1
  unfolding sum_over
  counted i l =
      let g : Step → ℕ = λ t. hit t.number i in
      omega (
        arith,
        c.once i l,
        trail_times more s c.first c.rest i c.trail,
        ap (times i) rest_is,
        sum_over_append g front (step ∷ back),
        sum_over_append g back front,
      )

  last_edge : length es < length more
  last_edge = rw (length-append es (x ∷ [])) (omega arith)

  left_once : (i : ℕ) → i < length es → times i (back ++ front) ≡ 1
  left_once i l = omega (arith, counted i (omega (arith, last_edge)), hit_other step.number i (λ e. omega (arith, number_is)))

  left_leads : Leads es step.to (back ++ front) parts.0
  left_leads =
      leads_without es x step.to parts.0 (back ++ front) (leads_append more step.to s parts.0 back front parts.2.1 parts.1)
      (omega (arith, counted (length es) last_edge, ap (λ (k : ℕ). hit k (length es)) number_is, hit_same (length es)))

  -- the step goes along x
  step_joins : Joins x parts.0 step.to
  step_joins = subst (λ (e : Edge). Joins e parts.0 step.to) (ap (edge_at more) number_is ∙ get_or-append_seam es x [] _) parts.2.0.joins

  cut_is : nodes_of (cut_at (length es) [] o) ≡ step.to ∷ nodes_to (back ++ front)
  unfolding is_by
  cut_is =
      ap (λ (ts : List Entry). nodes_of (cut_at (length es) [] ts)) c.is
      ∙ ap nodes_of (cut_at_later (length es) [] c.first c.rest (rw c.by_start) ∙ f.cut)
      ∙ sym (steps_of_nodes ((f.step ∷ f.back) ++ f.front))
      ∙ ap nodes_to (map-append step_of (f.step ∷ f.back) f.front)

  cut_found : CutLine es x (nodes_of (cut_at (length es) [] o))
  cut_found = record { first = step.to; steps = back ++ front; last = parts.0; is = cut_is; leads = left_leads; once = left_once; joins = step_joins }

-- x is gone along, so its step is found
pub cut_line : (es : List Edge) (x : Edge) (s : ℕ) (o : List Entry) → Circuit (es ++ (x ∷ [])) s o → CutLine es x (nodes_of (cut_at (length es) [] o))
cut_line es x s o c =
    let l : length es < length (es ++ (x ∷ [])) = rw (length-append es (x ∷ [])) (omega arith) in
    cut_found es x s o c (cut_finds (es ++ (x ∷ [])) (length es) (c.first ∷ []) c.rest (omega (arith, c.once (length es) l)))
