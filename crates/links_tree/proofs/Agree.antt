-- The order of candidates in flat arrays is their rank, among the lines whose ends the arrays have.
use mathlib.Core.Path.{◌≡◌, refl, sym, ap, ◌∙◌, subst}
use mathlib.Core.Logic.{◌⊎◌, inl, inr}
use mathlib.Core.List.{List, [], ◌∷◌, map}
use mathlib.Core.Bool.{Bool, true, false, false≢true, true≢false}
use Prim.Native.Nat.{ℕ, zero, suc, ◌+◌, ◌*◌, ◌/◌, ◌%◌, ◌≤◌, ◌<◌}
use native.Mathlib.Nat.{div-div-eq-div-mul}
use native.Mathlib.Omega.{arith}
use lib.ListN.{length}
use lib.Dec.{ltb}
use borrow.Author.Tests.{ltb-true, ltb-false}
use Rattle.limits.specs.Limits.{most_lines}
use Rattle.lists.specs.Members.{In, All}
use Rattle.lists.proofs.Tabulate.{tabulate_length, tabulate_at}
use Rattle.drawing_spec.specs.Drawing.{Point}
use Rattle.drawing_spec.proofs.Same.{same_tests}
use Rattle.graph_spec.specs.Chain.{squared}
use Rattle.spanning.specs.Order.{Rising, insert}
use Rattle.spanning.proofs.Counts.{same_or_not}
use Rattle.spanning.proofs.Sorted.{insert_cases, insert_none}
use Rattle.links_spec.specs.Candidates.{Candidate, candidate, IsCandidate, line_at, has_points, end_point, squared_length, ranks_before, less}
use Rattle.links_spec.proofs.Grown.{first_of, nearest, nearest_of}
use Rattle.links_spec.proofs.Rank.{less_front, less_now, less_later, rank_order}
use Rattle.links_spec.proofs.Candidates.{there}
use Rattle.links_tree.specs.declared.Ranked.{Ranked}
use Rattle.links_tree.specs.declared.Ends.{Ends}
use Rattle.links_tree.specs.Packed.{codes, candidate_of, candidate_in, code_of, end_in, ends_in, ranked, before, first_of as first_ranked, nearest_of as nearest_ranked, nearest_between, nearest_in, is_marked, end_lines, insert_in}
use Rattle.links_tree.proofs.Cases.{less_or, not_true}
use Rattle.links_tree.proofs.Marks.{marked_in}
use Rattle.links_tree.proofs.Ranks.{before_key, key_before}

-- ---- a candidate's number

-- the number is that of the candidate
pack : (c : ℕ) → c ≡ c / 1024 * 1024 + c / 4 % 256 * 4 + c / 2 % 2 * 2 + c % 2
pack c = omega (arith, div-div-eq-div-mul c 4 256, div-div-eq-div-mul c 2 2)

in_2 : (c : ℕ) → c % 2 < 2
in_2 c = omega arith

in_256 : (c : ℕ) → c / 4 % 256 < 256
in_256 c = omega arith

-- by fields as by number
module _ (a b e f p q r s : ℕ) (lb : b < 256) (le : e < 2) (lf : f < 2) (lq : q < 256) (lr : r < 2) (ls : s < 2) where
  fields_less : (less (a ∷ b ∷ e ∷ f ∷ []) (p ∷ q ∷ r ∷ s ∷ []) ≡ true → a * 1024 + b * 4 + e * 2 + f < p * 1024 + q * 4 + r * 2 + s)
      × (a * 1024 + b * 4 + e * 2 + f < p * 1024 + q * 4 + r * 2 + s → less (a ∷ b ∷ e ∷ f ∷ []) (p ∷ q ∷ r ∷ s ∷ []) ≡ true)
  unfolding less
  fields_less = (
    λ h. elim (less_front a (b ∷ e ∷ f ∷ []) p (q ∷ r ∷ s ∷ []) h) [
      | inl l ↦ omega arith
      | inr x ↦ elim (less_front b (e ∷ f ∷ []) q (r ∷ s ∷ []) x.1) [
        | inl l ↦ omega (arith, x.0)
        | inr y ↦ elim (less_front e (f ∷ []) r (s ∷ []) y.1) [
          | inl l ↦ omega (arith, x.0, y.0)
          | inr z ↦ elim (less_front f [] s [] z.1) [ inl l ↦ omega (arith, x.0, y.0, z.0) | inr w ↦ absurd (false≢true w.1) ]
        ]
      ]
    ],
    λ l. elim (same_or_not a p) [
      | inr d ↦ less_now a (b ∷ e ∷ f ∷ []) p (q ∷ r ∷ s ∷ []) (omega arith)
      | inl x ↦ less_later a (b ∷ e ∷ f ∷ []) p (q ∷ r ∷ s ∷ []) x (elim (same_or_not b q) [
        | inr d ↦ less_now b (e ∷ f ∷ []) q (r ∷ s ∷ []) (omega arith)
        | inl y ↦ less_later b (e ∷ f ∷ []) q (r ∷ s ∷ []) y (elim (same_or_not e r) [
          | inr d ↦ less_now e (f ∷ []) r (s ∷ []) (omega arith)
          | inl z ↦ less_later e (f ∷ []) r (s ∷ []) z (less_now f [] s [] (omega arith))
        ])
      ])
    ],
  )

module _ (n : ℕ) (has : List Bool) (es : List Ends) where
  abbrev pub lines : List (List Point)
  lines = end_lines n has es

  pub lines_length : length lines ≡ n
  unfolding end_lines
  lines_length = tabulate_length (λ (l : ℕ). elim (is_marked n has l) [ true ↦ end_in es l 0 ∷ end_in es l 1 ∷ [] | false ↦ [] ]) n 0

  line_is : (l : ℕ) → l < n → line_at lines l ≡ elim (is_marked n has l) [ true ↦ end_in es l 0 ∷ end_in es l 1 ∷ [] | false ↦ [] ]
  unfolding end_lines
  line_is l h = tabulate_at (λ (l : ℕ). elim (is_marked n has l) [ true ↦ end_in es l 0 ∷ end_in es l 1 ∷ [] | false ↦ [] ]) n l [] h

  pub line_two : (l : ℕ) → is_marked n has l ≡ true → line_at lines l ≡ end_in es l 0 ∷ end_in es l 1 ∷ []
  line_two l o = line_is l (marked_in n has l o).0 ∙ ap (λ (t : Bool). elim t [ true ↦ end_in es l 0 ∷ end_in es l 1 ∷ [] | false ↦ [] ]) o

  pub has_points_lem : (l : ℕ) → has_points lines l ≡ is_marked n has l
  unfolding has_points
  has_points_lem l = go (is_marked n has l) refl
    where
      go : (t : Bool) → is_marked n has l ≡ t → ltb 0 (length (line_at lines l)) ≡ t
      go true o = rw (line_two l o)
      go false o = elim (less_or l n) [
        | inl h ↦ ap (λ (ps : List Point). ltb 0 (length ps)) (line_is l h ∙ ap (λ (t : Bool). elim t [ true ↦ end_in es l 0 ∷ end_in es l 1 ∷ [] | false ↦ [] ]) o)
        | inr h ↦ not_true (ltb 0 (length (line_at lines l))) (λ e. omega (arith, h, lines_length, there lines l e))
      ]

  end_is : (l e : ℕ) → has_points lines l ≡ true → e < 2 → end_point (line_at lines l) e ≡ end_in es l e
  unfolding end_point
  end_is l zero h b = rw (line_two l (sym (has_points_lem l) ∙ h))
  end_is l (suc zero) h b = rw (line_two l (sym (has_points_lem l) ∙ h))
  end_is l (suc (suc e)) h b = absurd (omega arith)

  -- a candidate of these lines, with its length
  pub record Valid (r : Ranked) : Type 0 where
    pub is : IsCandidate lines (candidate_of r.code)
    pub long : r.squared ≡ squared_length lines (candidate_of r.code)

  -- ---- rank by number

  -- the rest of the rank, without the length
  abbrev tail : ℕ → List ℕ
  tail c = c / 1024 ∷ c / 4 % 256 ∷ c / 2 % 2 ∷ c % 2 ∷ []

  tail_less : (j k : ℕ) → less (tail j) (tail k) ≡ true → j < k
  tail_less j k h = omega (arith, pack j, pack k, (fields_less (j / 1024) (j / 4 % 256) (j / 2 % 2) (j % 2) (k / 1024) (k / 4 % 256) (k / 2 % 2) (k % 2) (in_256 j) (in_2 (j / 2)) (in_2 j) (in_256 k) (in_2 (k / 2)) (in_2 k)).0 h)

  less_tail : (j k : ℕ) → j < k → less (tail j) (tail k) ≡ true
  less_tail j k l = (fields_less (j / 1024) (j / 4 % 256) (j / 2 % 2) (j % 2) (k / 1024) (k / 4 % 256) (k / 2 % 2) (k % 2) (in_256 j) (in_2 (j / 2)) (in_2 j) (in_256 k) (in_2 (k / 2)) (in_2 k)).1 (rw (← (pack j), ← (pack k)) l)

  pub before_is : (a b : Ranked) → Valid a → Valid b → before a b ≡ ranks_before lines (candidate_in a) (candidate_in b)
  before_is a b A B =
      let la = A.long in
      let lb = B.long in
      let j = a.code in
      let k = b.code in
      same_tests (before a b) (ranks_before lines (candidate_of j) (candidate_of k))
      (λ h. elim (before_key a b h) [
        | inl l ↦ less_now (squared_length lines (candidate_of j)) (tail j) (squared_length lines (candidate_of k)) (tail k) (omega (arith, la, lb))
        | inr p ↦ less_later (squared_length lines (candidate_of j)) (tail j) (squared_length lines (candidate_of k)) (tail k) (sym la ∙ p.0 ∙ lb) (less_tail j k p.1)
      ])
      (λ h. key_before a b (elim (less_front (squared_length lines (candidate_of j)) (tail j) (squared_length lines (candidate_of k)) (tail k) h) [
        | inl l ↦ inl (omega (arith, la, lb))
        | inr p ↦ inr (la ∙ p.0 ∙ sym lb, tail_less j k p.1)
      ]))

  -- ---- the first of two, of four

  pub first_valid : (a b : Ranked) → Valid a → Valid b → Valid (first_ranked a b) × (candidate_in (first_ranked a b) ≡ first_of lines (candidate_in a) (candidate_in b))
  unfolding first_ranked first_of
  first_valid a b A B = go (before b a) (ranks_before lines (candidate_in b) (candidate_in a)) (before_is b a B A)
    where
      go : (s t : Bool) → s ≡ t → Valid (elim s [ true ↦ b | false ↦ a ]) × (candidate_in (elim s [ true ↦ b | false ↦ a ]) ≡ elim t [ true ↦ candidate_in b | false ↦ candidate_in a ])
      go true true e = (B, refl)
      go true false e = absurd (true≢false e)
      go false true e = absurd (false≢true e)
      go false false e = (A, refl)

  module _ (few : n ≤ most_lines) where
    -- a candidate has its number below 2^18
    pub valid_small : (r : Ranked) → Valid r → r.code < codes
    valid_small r W = omega (arith, few, lines_length, there lines (r.code / 1024) W.is.low_there)

    module _ (l h : ℕ) (hl : has_points lines l ≡ true) (hh : has_points lines h ≡ true) (o : l < h) where
      small_lines : (l < 256) × (h < 256)
      small_lines = let a = (marked_in n has h (sym (has_points_lem h) ∙ hh)).0 in (omega (arith, a), omega (arith, a))

      code_is : (a b e : ℕ) → a < 2 → b < 2 → e ≡ a * 2 + b → candidate_of (code_of l h + e) ≡ candidate l h a b
      code_is a b e p q r =
          let s = small_lines in
          let c = code_of l h + e in
          let w : c ≡ l * 1024 + h * 4 + a * 2 + b = omega (arith, r) in
          let e1 : c / 1024 ≡ l = omega (arith, s.0, s.1) in
          let e4 : c / 4 ≡ l * 256 + h = omega (arith, s.0, s.1) in
          let e2 : c / 2 ≡ (l * 256 + h) * 2 + a = omega (arith, s.0, s.1) in
          let f2 : c / 4 % 256 ≡ h = omega (arith, s.0, s.1) in
          let f3 : c / 2 % 2 ≡ a = omega (arith, s.0, s.1) in
          let f4 : c % 2 ≡ b = omega (arith, s.0, s.1) in
          λ i. candidate (e1 i) (f2 i) (f3 i) (f4 i)

      abbrev Stands : Ranked → Candidate → Type 0
      Stands r k = Valid r × (candidate_in r ≡ k)

      code_stands : (a b e d : ℕ) → a < 2 → b < 2 → e ≡ a * 2 + b → d ≡ squared (end_in es l a) (end_in es h b) → Stands (ranked d (code_of l h + e)) (candidate l h a b)
      code_stands a b e d p q r z =
          let k = code_is a b e p q r in (
            record {
              is = rw k (record { ordered = o; low_there = hl; high_there = hh; low_end = p; high_end = q });
              long = z ∙ (λ i. squared (sym (end_is l a hl p) i) (sym (end_is h b hh q) i)) ∙ ap (squared_length lines) (sym k);
            },
            k,
          )

      first_stands : (x y : Ranked) (j k : Candidate) → Stands x j → Stands y k → Stands (first_ranked x y) (first_of lines j k)
      first_stands x y j k J K = let f = first_valid x y J.0 K.0 in (f.0, f.1 ∙ ap (λ (z : Candidate). first_of lines z (candidate_in y)) J.1 ∙ ap (first_of lines j) K.1)

      nearest_stands : Stands (nearest_ranked (ends_in es l) (ends_in es h) (code_of l h)) (nearest lines l h)
      unfolding nearest_ranked nearest
      nearest_stands =
          let none_more : code_of l h + 0 ≡ code_of l h = omega arith in
          let d0 = squared (end_in es l 0) (end_in es h 0) in
          let d1 = squared (end_in es l 0) (end_in es h 1) in
          let d2 = squared (end_in es l 1) (end_in es h 0) in
          let d3 = squared (end_in es l 1) (end_in es h 1) in
          let c0 : Stands (ranked d0 (code_of l h)) (candidate l h 0 0) =
          subst (λ (c : ℕ). Stands (ranked d0 c) (candidate l h 0 0)) none_more (code_stands 0 0 0 d0 (omega arith) (omega arith) refl refl) in
          let c1 = code_stands 0 1 1 d1 (omega arith) (omega arith) refl refl in
          let c2 = code_stands 1 0 2 d2 (omega arith) (omega arith) refl refl in
          let c3 = code_stands 1 1 3 d3 (omega arith) (omega arith) refl refl in
          let two = first_stands (ranked d0 (code_of l h)) (ranked d1 (code_of l h + 1)) (candidate l h 0 0) (candidate l h 0 1) c0 c1 in
          let three = first_stands (first_ranked (ranked d0 (code_of l h)) (ranked d1 (code_of l h + 1))) (ranked d2 (code_of l h + 2)) (first_of lines (candidate l h 0 0) (candidate l h 0 1)) (candidate l h 1 0) two c2 in
          first_stands (first_ranked (first_ranked (ranked d0 (code_of l h)) (ranked d1 (code_of l h + 1))) (ranked d2 (code_of l h + 2))) (ranked d3 (code_of l h + 3))
          (first_of lines (first_of lines (candidate l h 0 0) (candidate l h 0 1)) (candidate l h 1 0)) (candidate l h 1 1) three c3

    pub nearest_valid : (u w : ℕ) → has_points lines u ≡ true → has_points lines w ≡ true → (u ≡ w → ⊥) → Valid (nearest_in es u w) × (candidate_in (nearest_in es u w) ≡ nearest_of lines u w)
    unfolding nearest_between nearest_of
    nearest_valid u w hu hw d = go (ltb u w) refl
      where
        up : Ranked
        up = nearest_ranked (ends_in es u) (ends_in es w) (code_of u w)

        down : Ranked
        down = nearest_ranked (ends_in es w) (ends_in es u) (code_of w u)

        strict : (u w : ℕ) → (u ≡ w → ⊥) → w ≤ u → w < u
        strict u w d l = omega arith

        go : (t : Bool) → ltb u w ≡ t → Valid (elim t [ true ↦ up | false ↦ down ]) × (candidate_in (elim t [ true ↦ up | false ↦ down ]) ≡ elim t [ true ↦ nearest lines u w | false ↦ nearest lines w u ])
        go true e = nearest_stands u w hu hw (ltb-true u w e)
        go false e = nearest_stands w u hw hu (strict u w d (ltb-false u w e))

  -- ---- insertion

  asym : (j k : Candidate) → ranks_before lines j k ≡ true → ranks_before lines k j ≡ false
  asym j k h = go (ranks_before lines k j) refl
    where
      go : (t : Bool) → ranks_before lines k j ≡ t → t ≡ false
      go true e = absurd ((rank_order lines).irreflexive j ((rank_order lines).transitive j k j h e))
      go false e = refl

  insert_first : (x : Ranked) (cs : List Ranked) → Valid x → All Valid cs → Rising (ranks_before lines) (candidate_in x ∷ map candidate_in cs) → insert_in x cs ≡ x ∷ cs
  unfolding insert_in
  insert_first x [] X A r = refl
  insert_first x (c ∷ cs) X A r = rw (before_is x c X A.0 ∙ r.0.0, insert_in) (ap (◌∷◌ x) (insert_first c cs A.0 A.1 r.1))

  pub insert_is : (x : Ranked) (cs : List Ranked) → Valid x → All Valid cs → Rising (ranks_before lines) (map candidate_in cs) → (In (candidate_in x) (map candidate_in cs) → ⊥)
      → (map candidate_in (insert_in x cs) ≡ insert (ranks_before lines) (candidate_in x) (map candidate_in cs)) × All Valid (insert_in x cs)
  unfolding insert_in
  insert_is x [] X A r d = (sym (insert_none (ranks_before lines) (rank_order lines) (candidate_in x)), (X, tt))
  insert_is x (c ∷ cs) X A r d = go (insert_cases (ranks_before lines) (rank_order lines) (candidate_in x) (candidate_in c) (map candidate_in cs)) (insert_is x cs X A.1 r.1 (λ i. d (inr i)))
    where
      go : ((ranks_before lines (candidate_in x) (candidate_in c) ≡ true) × (insert (ranks_before lines) (candidate_in x) (candidate_in c ∷ map candidate_in cs) ≡ candidate_in x ∷ candidate_in c ∷ map candidate_in cs))
          ⊎ (((ranks_before lines (candidate_in c) (candidate_in x) ≡ true) × (insert (ranks_before lines) (candidate_in x) (candidate_in c ∷ map candidate_in cs) ≡ candidate_in c ∷ insert (ranks_before lines) (candidate_in x) (map candidate_in cs)))
          ⊎ ((candidate_in x ≡ candidate_in c) × (insert (ranks_before lines) (candidate_in x) (candidate_in c ∷ map candidate_in cs) ≡ candidate_in c ∷ map candidate_in cs)))
          → (map candidate_in (insert_in x cs) ≡ insert (ranks_before lines) (candidate_in x) (map candidate_in cs)) × All Valid (insert_in x cs)
          → (map candidate_in (insert_in x (c ∷ cs)) ≡ insert (ranks_before lines) (candidate_in x) (candidate_in c ∷ map candidate_in cs)) × All Valid (insert_in x (c ∷ cs))
      go (inl p) h =
          let e : insert_in x (c ∷ cs) ≡ x ∷ c ∷ cs = rw (before_is x c X A.0 ∙ p.0, insert_in) (ap (◌∷◌ x) (insert_first c cs A.0 A.1 r)) in
          rw e (sym p.1, (X, A))
      go (inr (inl p)) h =
          let not_first : ranks_before lines (candidate_in x) (candidate_in c) ≡ false = asym (candidate_in c) (candidate_in x) p.0 in
          let e : insert_in x (c ∷ cs) ≡ c ∷ insert_in x cs = rw (before_is x c X A.0 ∙ not_first, insert_in) in
          rw e (ap (◌∷◌ (candidate_in c)) h.0 ∙ sym p.1, (A.0, h.1))
      go (inr (inr p)) h = absurd (d (inl p.0))
