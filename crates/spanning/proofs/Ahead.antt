-- The kept edges against any other edges that span: place by place none comes later, so their weights have the least sum.
-- Along all edges in order, beside what is kept, go the edges ts that are to be compared. D is by how many edges more were kept than there were of ts: the groups that ts makes are within those
-- that all edges make, so they have no fewer roots, and as each edge of ts makes one root less, D is never below 0.
use mathlib.Core.Path.{◌≡◌, refl, sym, ap, subst}
use mathlib.Core.Logic.{◌⊎◌, inl, inr}
use mathlib.Core.List.{List, [], ◌∷◌}
use mathlib.Core.Bool.{Bool, true}
use Prim.Native.Nat.{ℕ, zero, suc, ◌+◌, ◌-◌, ◌≤◌, ◌<◌}
use native.Mathlib.Omega.{arith}
use lib.ListN.{length, drop}
use lib.Seq.{drop-nil}
use Rattle.lists.specs.Members.{In, All}
use Rattle.lists.proofs.Members.{all_in, in_all}
use Rattle.graph_spec.specs.Count.{sum_over}
use Rattle.spanning.specs.Edges.{count, Joins, Leads, here, on, Spans}
use Rattle.spanning.specs.Greedy.{kept, kept_of}
use Rattle.spanning.specs.Order.{StrictOrder, Rising, NotLater, sort}
use Rattle.spanning.proofs.Groups.{Groups, apart, roots, Within, Alike, label_alike, roots_le, roots_apart, roots_one, roots_some, unite_same, unite_keeps, unite_groups, unite_within, unite_less}
use Rattle.spanning.proofs.Kept.{groups, joined, Ends, step, leads_group, kept_in, kept_groups, kept_le, kept_size, groups_groups, groups_within}
use Rattle.spanning.proofs.Sorted.{Part, end, skip, keep, part_of, part_all, sort_all, sort_in, sort_le}

-- place by place, as far as the second goes
abbrev pub Ahead : {A : Type 0} → (A → A → Bool) → List A → List A → Type 0
Ahead before ks [] = Unit {0}
Ahead before [] (t ∷ ts) = ⊥
Ahead before (k ∷ ks) (t ∷ ts) = NotLater before k t × Ahead before ks ts

module _ {A : Type 0} (low high : A → ℕ) (before : A → A → Bool) (n : ℕ) (is_vertex : ℕ → Bool) (inside : (v : ℕ) → is_vertex v ≡ true → v < n) where
  -- one more is kept: it is ahead of the next of ts
  one_ahead : (k : A) (ks ts : List A) (D : ℕ) → All (λ (t : A). before k t ≡ true) ts → Ahead before ks (drop (suc D) ts) → Ahead before (k ∷ ks) (drop D ts)
  one_ahead k ks [] zero a h = tt
  one_ahead k ks [] (suc D) a h = tt
  one_ahead k ks (t ∷ ts) zero a h = (inr a.0, h)
  one_ahead k ks (t ∷ ts) (suc D) a h = one_ahead k ks ts D a.1 h

  both_ahead : (k : A) (ks ts : List A) (D : ℕ) → All (λ (t : A). before k t ≡ true) ts → Ahead before ks (drop D ts) → Ahead before (k ∷ ks) (drop D (k ∷ ts))
  both_ahead k ks ts zero a h = (inl refl, h)
  both_ahead k ks ts (suc D) a h = one_ahead k ks ts D a h

  -- two labellings: c of what is kept, d of ts
  pub record Beside (c d : ℕ → ℕ) (D : ℕ) : Type 0 where
    pub wide : Groups is_vertex c
    pub fine : Groups is_vertex d
    pub within : Within d (λ (u v : ℕ). c u ≡ c v)
    pub more : roots n is_vertex d ≡ D + roots n is_vertex c

  module _ (c d : ℕ → ℕ) (D : ℕ) (B : Beside c d D) (k : A) (ends : Ends low high n is_vertex inside k) where
    -- kept, and none of ts
    beside_kept : (c (low k) ≡ c (high k) → ⊥) → Beside (joined low high c k) d (suc D)
    beside_kept a = record {
      wide = unite_groups c (low k) (high k) is_vertex B.wide ends.0 ends.1;
      fine = B.fine;
      within = λ u v e. unite_keeps c (low k) (high k) u v (B.within u v e);
      more = omega (arith, B.more, unite_less c (low k) (high k) is_vertex B.wide n inside ends.0 ends.1 a);
    }

    -- of ts, and not kept
    beside_other : c (low k) ≡ c (high k) → (d (low k) ≡ d (high k) → ⊥) → (E : ℕ) × (D ≡ suc E) × Beside c (joined low high d k) E
    beside_other e a =
        let P = unite_groups d (low k) (high k) is_vertex B.fine ends.0 ends.1 in
        let W : Within (joined low high d k) (λ (u v : ℕ). c u ≡ c v) = unite_within d (low k) (high k) is_vertex B.fine (λ (u v : ℕ). c u ≡ c v) (label_alike c) B.within e in
        let less = unite_less d (low k) (high k) is_vertex B.fine n inside ends.0 ends.1 a in
        let le = roots_le n is_vertex (joined low high d k) c P B.wide W in
        (D - 1, omega (arith, less, le, B.more), record { wide = B.wide; fine = P; within = W; more = omega (arith, less, le, B.more) })

    -- both
    beside_both : (c (low k) ≡ c (high k) → ⊥) → (d (low k) ≡ d (high k) → ⊥) → Beside (joined low high c k) (joined low high d k) D
    beside_both a b = record {
      wide = unite_groups c (low k) (high k) is_vertex B.wide ends.0 ends.1;
      fine = unite_groups d (low k) (high k) is_vertex B.fine ends.0 ends.1;
      within = unite_within d (low k) (high k) is_vertex B.fine (λ (u v : ℕ). joined low high c k u ≡ joined low high c k v) (label_alike (joined low high c k))
          (λ u v e. unite_keeps c (low k) (high k) u v (B.within u v e)) (unite_same c (low k) (high k));
      more = omega (arith, B.more, unite_less c (low k) (high k) is_vertex B.wide n inside ends.0 ends.1 a, unite_less d (low k) (high k) is_vertex B.fine n inside ends.0 ends.1 b);
    }

  -- each of ts would be kept by itself
  abbrev Free : (ℕ → ℕ) → List A → Type 0
  Free d ts = length ts ≤ length (kept low high d ts)

  free_next : (d : ℕ → ℕ) (k : A) (ts : List A) → Free d (k ∷ ts) → (d (low k) ≡ d (high k) → ⊥) × Free (joined low high d k) ts
  free_next d k ts f = elim (step low high d k ts) [
    | inl s ↦ absurd (omega (arith, ap length s.none, kept_le low high d ts))
    | inr t ↦ (t.apart, omega (arith, ap length t.more))
  ]

  ahead : (c d : ℕ → ℕ) (D : ℕ) (ts es : List A) → Part ts es → Beside c d D → Rising before es → All (Ends low high n is_vertex inside) es → Free d ts → Ahead before (kept low high c es) (drop D ts)
  ahead c d D ts es end B r a f = subst (Ahead before (kept low high c [])) (sym (drop-nil D)) tt
  ahead c d D ts es (skip {x = k} {es = fs} p) B r a f = elim (step low high c k fs) [
    | inl s ↦ rw s.none (ahead c d D ts fs p B r.1 a.1 f)
    | inr t ↦ rw t.more
        (one_ahead k (kept low high (joined low high c k) fs) ts D (part_all (λ (x : A). before k x ≡ true) p r.0)
        (ahead (joined low high c k) d (suc D) ts fs p (beside_kept c d D B k a.0 t.apart) r.1 a.1 f))
  ]
  ahead c d D ts es (keep {x = k} {ts = us} {es = fs} p) B r a f =
      let g = free_next d k us f in
      elim (step low high c k fs) [
        | inl s ↦
            let o = beside_other c d D B k a.0 s.same g.0 in
            rw (s.none, o.1) (ahead c (joined low high d k) o.0 us fs p o.2 r.1 a.1 g.1)
        | inr t ↦ rw t.more
            (both_ahead k (kept low high (joined low high c k) fs) us D (part_all (λ (x : A). before k x ≡ true) p r.0)
            (ahead (joined low high c k) (joined low high d k) D us fs p (beside_both c d D B k a.0 t.apart g.0) r.1 a.1 g.1))
      ]

-- ---- ways go back and on

module _ {A : Type 0} (low high : A → ℕ) (ks : List A) where
  joins_back : (k : A) (u v : ℕ) → Joins low high k u v → Joins low high k v u
  joins_back k u v (inl p) = inr p
  joins_back k u v (inr p) = inl p

  leads_on : (u v w : ℕ) → Leads low high ks u v → Leads low high ks v w → Leads low high ks u w
  leads_on u v w p here = p
  leads_on u v w p (on {u = x} k q i j) = on k (leads_on u v x p q) i j

  leads_back : (u v : ℕ) → Leads low high ks u v → Leads low high ks v u
  leads_back u v here = here
  leads_back u v (on {u = x} k q i j) = leads_on v x u (on k here i (joins_back k x v j)) (leads_back u x q)

  pub leads_alike : Alike (Leads low high ks)
  leads_alike = record { back = leads_back; along = leads_on }

-- ---- what is kept of rising edges es that lead from each vertex to each other

module _ {A : Type 0} (low high : A → ℕ) (before : A → A → Bool) (O : StrictOrder before) (n : ℕ) (is_vertex : ℕ → Bool) (inside : (v : ℕ) → is_vertex v ≡ true → v < n)
    (es : List A) (rising : Rising before es) (ends : All (Ends low high n is_vertex inside) es) where
  -- the groups of edges that span: one root, where there is a vertex
  spans_free : (ts : List A) → All (Ends low high n is_vertex inside) ts → Spans low high n is_vertex ts → length ts ≤ length (kept_of low high ts)
  spans_free ts a S =
      omega (
        arith,
        S.size,
        kept_size low high n is_vertex inside (λ (v : ℕ). v) ts (apart is_vertex) a,
        roots_apart n is_vertex,
        roots_one n is_vertex (groups low high (λ (v : ℕ). v) ts) (λ u v p q. leads_group low high (λ (v : ℕ). v) ts u v (S.leads u v p q)),
      )

  pub kept_ahead : (ts : List A) → Rising before ts → ((t : A) → In t ts → In t es) → Spans low high n is_vertex ts → Ahead before (kept_of low high es) ts
  kept_ahead ts r h S =
      ahead low high before n is_vertex inside (λ (v : ℕ). v) (λ (v : ℕ). v) 0 ts es (part_of before O ts es r rising h)
      (record { wide = apart is_vertex; fine = apart is_vertex; within = λ u v e. e; more = omega arith })
      rising ends
      (spans_free ts (in_all (Ends low high n is_vertex inside) ts (λ t i. all_in (Ends low high n is_vertex inside) es ends t (h t i))) S)

  pub kept_spans : ((u v : ℕ) → is_vertex u ≡ true → is_vertex v ≡ true → Leads low high es u v) → Spans low high n is_vertex (kept_of low high es)
  kept_spans h =
      let one_group : (u v : ℕ) → is_vertex u ≡ true → is_vertex v ≡ true → groups low high (λ (v : ℕ). v) es u ≡ groups low high (λ (v : ℕ). v) es v
      = λ u v p q. leads_group low high (λ (v : ℕ). v) es u v (h u v p q) in
      let P = groups_groups low high n is_vertex inside (λ (v : ℕ). v) es (apart is_vertex) ends in
      let sum = kept_size low high n is_vertex inside (λ (v : ℕ). v) es (apart is_vertex) ends in
      let most = roots_one n is_vertex (groups low high (λ (v : ℕ). v) es) one_group in
      let all = roots_apart n is_vertex in
      record {
        size = elim (zero_or (count is_vertex n)) [
          | inl z ↦ omega (arith, sum, all, z)
          | inr s ↦ omega (arith, sum, all, most, s, roots_some n is_vertex (groups low high (λ (v : ℕ). v) es) inside P s)
        ];
        leads = λ u v p q.
            groups_within low high n is_vertex inside (Leads low high (kept_of low high es)) (leads_alike low high (kept_of low high es)) (λ (v : ℕ). v) (kept_of low high es) (apart is_vertex)
            (in_all (Ends low high n is_vertex inside) (kept_of low high es) (λ k i. all_in (Ends low high n is_vertex inside) es ends k (kept_in low high (λ (v : ℕ). v) es k i)))
            (λ x y e. subst (Leads low high (kept_of low high es) x) e here)
            (in_all (λ (k : A). Leads low high (kept_of low high es) (low k) (high k)) (kept_of low high es) (λ k i. on k here i (inl (refl, refl))))
            u v (subst (λ (f : ℕ → ℕ). f u ≡ f v) (sym (kept_groups low high (λ (v : ℕ). v) es)) (one_group u v p q));
      }
    where
      zero_or : (m : ℕ) → (m ≡ 0) ⊎ (1 ≤ m)
      zero_or zero = inl refl
      zero_or (suc m) = inr (omega arith)

-- ---- edges that span, in any order

module _ {A : Type 0} (low high : A → ℕ) (before : A → A → Bool) (O : StrictOrder before) (n : ℕ) (is_vertex : ℕ → Bool) (inside : (v : ℕ) → is_vertex v ≡ true → v < n) where
  -- fewer edges than the vertices less 1 do not lead from each to each
  leads_most : (ts : List A) → All (Ends low high n is_vertex inside) ts → ((u v : ℕ) → is_vertex u ≡ true → is_vertex v ≡ true → Leads low high ts u v) → count is_vertex n - 1 ≤ length ts
  leads_most ts a h =
      omega (
        arith,
        kept_le low high (λ (v : ℕ). v) ts,
        kept_size low high n is_vertex inside (λ (v : ℕ). v) ts (apart is_vertex) a,
        roots_apart n is_vertex,
        roots_one n is_vertex (groups low high (λ (v : ℕ). v) ts) (λ u v p q. leads_group low high (λ (v : ℕ). v) ts u v (h u v p q)),
      )

  leads_sorted : (ts : List A) (u v : ℕ) → Leads low high ts u v → Leads low high (sort before ts) u v
  leads_sorted ts u v here = here
  leads_sorted ts u v (on {u = w} k l i j) = on k (leads_sorted ts u w l) (sort_in before O k ts i) j

  -- so none stands there twice, and put in order they span too
  pub spans_sorted : (ts : List A) → All (Ends low high n is_vertex inside) ts → Spans low high n is_vertex ts → Spans low high n is_vertex (sort before ts)
  spans_sorted ts a S =
      let leads : (u v : ℕ) → is_vertex u ≡ true → is_vertex v ≡ true → Leads low high (sort before ts) u v = λ u v p q. leads_sorted ts u v (S.leads u v p q) in
      record {
        size = omega (arith, S.size, sort_le before O ts, leads_most (sort before ts) (sort_all before O (Ends low high n is_vertex inside) ts a) leads);
        leads = leads;
      }

-- ---- what being ahead comes to

module _ {A : Type 0} (before : A → A → Bool) where
  -- the sum is no larger, for a weight that never falls
  pub ahead_sum : (weight : A → ℕ) → ((x y : A) → before x y ≡ true → weight x ≤ weight y)
      → (ks ts : List A) → length ks ≤ length ts → Ahead before ks ts → sum_over weight ks ≤ sum_over weight ts
  unfolding sum_over
  ahead_sum weight h [] ts l a = omega arith
  ahead_sum weight h (k ∷ ks) [] l a = absurd (omega arith)
  ahead_sum weight h (k ∷ ks) (t ∷ ts) l a = omega (arith, le a.0, ahead_sum weight h ks ts (omega arith) a.1)
    where
      le : NotLater before k t → weight k ≤ weight t
      le (inl e) = omega (arith, ap weight e)
      le (inr b) = h k t b
