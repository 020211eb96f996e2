-- Retraces laid one after the other: the graph with a copy along each of their steps, in which only the nodes of the pairs have changed parity.
use Prim.Native.Nat.{ℕ, ◌+◌, ◌-◌, ◌%◌, ◌≤◌, ◌<◌}
use native.Mathlib.Omega.{arith}
use mathlib.Core.Path.{◌≡◌, refl, sym, subst}
use mathlib.Core.Logic.{◌⊎◌, inl, inr}
use mathlib.Core.List.{List, [], ◌∷◌, ◌++◌}
use mathlib.Core.Bool.{Bool, true, false, true≢false}
use lib.ListN.{length}
use lib.Dec.{leb}
use borrow.Author.Tests.{leb-true}
use Rattle.limits.specs.Limits.{refused_path}
use Rattle.lists.proofs.Members.{all_append}
use Rattle.graph_spec.specs.Graph.{Edge}
use Rattle.graph_spec.specs.Odd.{hit, degree}
use Rattle.graph_spec.specs.Count.{sum_over, line_sum, joint, joining}
use Rattle.graph_spec.specs.Ways.{Inside, Joined, Walks}
use Rattle.lists.specs.Members.{All}
use Rattle.graph_spec.proofs.Sums.{hit_same, sum_over_append}
use Rattle.graph_spec.proofs.Connected.{joins_inside}
use Rattle.graph_spec.proofs.Occurs.{count}
use Rattle.repair_spec.specs.Retrace.{Path, found, error, shortest_path}
use Rattle.repair_spec.specs.Copies.{Laid, lay, lay_path}
use Rattle.repair_spec.proofs.Along.{shortest_along}
use Rattle.repair_spec.proofs.Copies.{lay_count, lay_joining, lay_degree, lay_parity, lay_drawn, lay_old, lay_inside}
use Rattle.repair_spec.specs.Pairing.{Pair, pair, ends}
use Rattle.repair_spec.specs.Repair.{Repair, stopped, repaired, retraced, apply_matching}

-- ---- copies along a list of ways

-- The edges fs are es, of n nodes, with a copy along each step of each of `ways`, at most `most` of them.
pub record WithCopies (most n : ℕ) (es fs : List Edge) (ways : List (List ℕ)) : Type 0 where
  -- copies are counted from the ways
  pub joining_is : (u v : ℕ) → joining u v fs ≡ joining u v es + sum_over (λ (way : List ℕ). line_sum (joint u v) way) ways
  pub degree_is : (v : ℕ) → degree fs v ≡ degree es v + sum_over (λ (way : List ℕ). line_sum (λ (a b : ℕ). hit a v + hit b v) way) ways
  -- one edge more for each step of each way
  pub length_is : length fs ≡ length es + sum_over (λ (way : List ℕ). length way - 1) ways
  -- no copy lies where nothing was drawn, and nothing drawn is lost
  pub on_drawn : (u v : ℕ) → Joined fs u v → Joined es u v
  pub old : (u v : ℕ) → Joined es u v → Joined fs u v
  pub inside : Inside n fs
  pub ways_inside : All (All (λ (v : ℕ). v < n)) ways
  -- the limit of edges holds after each retrace
  pub limit : (length fs ≤ most) ⊎ (fs ≡ es)

pub nothing_copied : (most n : ℕ) (es : List Edge) → Inside n es → WithCopies most n es es []
unfolding sum_over
nothing_copied most n es h = record {
  joining_is = λ u v. omega arith;
  degree_is = λ v. omega arith;
  length_is = omega arith;
  on_drawn = λ u v j. j;
  old = λ u v j. j;
  inside = h;
  ways_inside = tt;
  limit = inr refl;
}

sum_snoc : {A : Type 0} (g : A → ℕ) (xs : List A) (y : A) → sum_over g (xs ++ (y ∷ [])) ≡ sum_over g xs + g y
unfolding sum_over
sum_snoc g xs y = omega (arith, sum_over_append g xs (y ∷ []))

-- a walk that starts at one of the n nodes stays among them
pub walk_inside : (n : ℕ) (es : List Edge) (u : ℕ) (vs : List ℕ) (t : ℕ) → Inside n es → u < n → Walks es u vs t → All (λ (v : ℕ). v < n) (u ∷ vs)
walk_inside n es u [] t h l w = (l, tt)
walk_inside n es u (v ∷ vs) t h l w =
    let j = w.0 in
    (l, walk_inside n es v vs t h (joins_inside n es h j.by u v j.is_in j.joins) w.1)

one_more : (most n : ℕ) (es : List Edge) (ways : List (List ℕ)) (u : ℕ) (vs : List ℕ) (t : ℕ) (l : Laid) → u < n → Walks l.edges u vs t
    → length (lay u vs l).edges ≤ most → WithCopies most n es l.edges ways → WithCopies most n es (lay u vs l).edges (ways ++ ((u ∷ vs) ∷ []))
one_more most n es ways u vs t l below w fits c = record {
  joining_is = λ x y. omega (arith, c.joining_is x y, lay_joining u vs l x y, sum_snoc (λ (way : List ℕ). line_sum (joint x y) way) ways (u ∷ vs));
  degree_is = λ v. omega (arith, c.degree_is v, lay_degree u vs l v, sum_snoc (λ (way : List ℕ). line_sum (λ (a b : ℕ). hit a v + hit b v) way) ways (u ∷ vs));
  length_is = omega (arith, c.length_is, lay_count u vs l, sum_snoc (λ (way : List ℕ). length way - 1) ways (u ∷ vs));
  on_drawn = λ x y j. c.on_drawn x y (lay_drawn u vs l t w x y j);
  old = λ x y j. lay_old u vs l x y (c.old x y j);
  inside = lay_inside u vs l t w n c.inside;
  ways_inside = all_append (All (λ (v : ℕ). v < n)) ways ((u ∷ vs) ∷ []) c.ways_inside (walk_inside n l.edges u vs t c.inside below w, tt);
  limit = inl fits;
}

-- ---- what apply_matching does

-- r' is r with the retraces of the pairs ps, each of which changes the parity of its two nodes only
pub record Applied (most n : ℕ) (es : List Edge) (ps : List Pair) (r r' : Repair) : Type 0 where
  pub copied : WithCopies most n es r'.edges r'.retraces
  pub flips : (v : ℕ) → (degree r'.edges v + degree r.edges v + count v (ends ps)) % 2 ≡ 0

-- of one pair
pair_applied : (most n : ℕ) (es : List Edge) (s t : ℕ) (path : List ℕ) (r : Repair) → s < n → shortest_path n r.edges s t ≡ found path
    → length (retraced path r).edges ≤ most → WithCopies most n es r.edges r.retraces → Applied most n es (pair s t ∷ []) r (retraced path r)
unfolding lay_path count ends
pair_applied most n es s t path r below is fits c =
    let along = shortest_along n r.edges s t path is in
    subst (λ (p : List ℕ). length (retraced p r).edges ≤ most → Applied most n es (pair s t ∷ []) r (retraced p r)) (sym along.1) (walked along.0 along.2) fits
  where
    laid : Laid
    laid = record { edges = r.edges; sum = r.sum }

    walked : (rest : List ℕ) → Walks r.edges s rest t → length (retraced (s ∷ rest) r).edges ≤ most → Applied most n es (pair s t ∷ []) r (retraced (s ∷ rest) r)
    walked rest w fits = record { copied = one_more most n es r.retraces s rest t laid below w fits c; flips = λ v. omega (arith, lay_parity s rest laid t w v) }

pub same_repair : (r r' : Repair) → repaired r ≡ repaired r' → r ≡ r'
same_repair r r' e = cc

-- how a first pair and the others were applied
pub record Applies (most number n : ℕ) (p : Pair) (ps : List Pair) (r r' : Repair) : Type 0 where
  pub path : List ℕ
  pub is_path : shortest_path n r.edges p.from p.to ≡ found path
  pub fits : length (retraced path r).edges ≤ most
  pub rest : apply_matching most number n ps (retraced path r) ≡ repaired r'

pub applies : (most number n : ℕ) (p : Pair) (ps : List Pair) (r r' : Repair) → apply_matching most number n (p ∷ ps) r ≡ repaired r' → Applies most number n p ps r r'
unfolding apply_matching
applies most number n p ps r r' e = go (shortest_path n r.edges p.from p.to) refl e
  where
    fit : (path : List ℕ) → shortest_path n r.edges p.from p.to ≡ found path → (t : Bool) → leb (length (retraced path r).edges) most ≡ t
        → elim t [ false ↦ stopped number | true ↦ apply_matching most number n ps (retraced path r) ] ≡ repaired r' → Applies most number n p ps r r'
    fit path f false t e = absurd (true≢false (cc))
    fit path f true t e = record { path = path; is_path = f; fits = leb-true (length (retraced path r).edges) most t; rest = e }

    go : (x : Path) → shortest_path n r.edges p.from p.to ≡ x
        → elim x [
          | error ↦ stopped refused_path
          | found path ↦ elim (leb (length (retraced path r).edges) most) [ false ↦ stopped number | true ↦ apply_matching most number n ps (retraced path r) ]
        ] ≡ repaired r' → Applies most number n p ps r r'
    go error f e = absurd (true≢false (cc))
    go (found path) f e = fit path f (leb (length (retraced path r).edges) most) refl e

pub applied : (most number n : ℕ) (es : List Edge) (ps : List Pair) (r r' : Repair) → apply_matching most number n ps r ≡ repaired r' → ((v : ℕ) → 0 < count v (ends ps) → v < n)
    → WithCopies most n es r.edges r.retraces → Applied most n es ps r r'
unfolding apply_matching count ends
applied most number n es [] r r' e below c = subst (Applied most n es [] r) (same_repair r r' e) (record { copied = c; flips = λ v. omega arith })
applied most number n es (p ∷ ps) r r' e below c =
    let a = applies most number n p ps r r' e in
    let first = pair_applied most n es p.from p.to a.path r (below p.from (omega (arith, hit_same p.from))) a.is_path a.fits c in
    let others = applied most number n es ps (retraced a.path r) r' a.rest (λ v h. below v (omega arith)) first.copied in
    record { copied = others.copied; flips = λ v. omega (arith, first.flips v, others.flips v) }
