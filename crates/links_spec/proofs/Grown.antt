-- How the set made is found: from one line on, the first candidate that leaves the lines joined so far joins one line more (Prim, Bell Syst. Tech. J. 36, 1957). What grows so is the set made.
use mathlib.Core.Path.{◌≡◌, refl, sym, ap, ◌∙◌, subst}
use mathlib.Core.Logic.{inl, inr}
use mathlib.Core.List.{List, [], ◌∷◌}
use mathlib.Core.Bool.{Bool, true, false, true≢false, false≢true}
use Prim.Native.Nat.{ℕ, zero, suc, ◌+◌, ◌≤◌, ◌<◌}
use native.Mathlib.Omega.{arith}
use lib.ListN.{length}
use lib.Dec.{ltb}
use borrow.Author.Tests.{ltb-true, ltb-false}
use Rattle.lists.specs.Members.{In}
use Rattle.lists.proofs.Members.{all_in, in_all}
use Rattle.drawing_spec.specs.Drawing.{Point}
use Rattle.spanning.specs.Edges.{count, Joins}
use Rattle.spanning.specs.Order.{StrictOrder, Rising, NotLater, insert}
use Rattle.spanning.proofs.Counts.{same_or_not, count_less, count_none}
use Rattle.spanning.proofs.Sorted.{insert_all, insert_rising, insert_size}
use Rattle.spanning.proofs.Cut.{first_leaving, all_kept}
use Rattle.links_spec.specs.Candidates.{Candidate, candidate, low_of, high_of, has_points, IsCandidate, ranks_before}
use Rattle.links_spec.specs.Made.{made}
use Rattle.links_spec.proofs.Rank.{rank_order}
use Rattle.links_spec.proofs.Candidates.{there}
use Rattle.links_spec.proofs.Made.{ranked, ranked_rising, ranked_are, ranked_in, ranked_ends, made_is, made_rising, made_links_all}

-- ---- what is known while it grows

module _ (ls : List (List Point)) where
  -- the first of two candidates
  unfoldable pub first_of : Candidate → Candidate → Candidate
  first_of j k = elim (ranks_before ls k j) [ true ↦ k | false ↦ j ]

  -- the first of those between the lower line l and the higher line h
  unfoldable pub nearest : ℕ → ℕ → Candidate
  unfolding first_of
  nearest l h = first_of (first_of (first_of (candidate l h 0 0) (candidate l h 0 1)) (candidate l h 1 0)) (candidate l h 1 1)

  -- of two lines in either order
  unfoldable pub nearest_of : ℕ → ℕ → Candidate
  unfolding nearest
  nearest_of u w = elim (ltb u w) [ true ↦ nearest u w | false ↦ nearest w u ]

  -- of the candidates between the open line w and a line that is not open, k is the first
  pub record Near (is_open : ℕ → Bool) (w : ℕ) (k : Candidate) : Type 0 where
    pub is : IsCandidate ls k
    pub other : ℕ
    pub joins : Joins low_of high_of k w other
    pub shut : is_open other ≡ false
    pub first : (j : Candidate) (u : ℕ) → IsCandidate ls j → Joins low_of high_of j w u → is_open u ≡ false → NotLater (ranks_before ls) k j

  -- Lines with points are open until they are joined; `best` has the first candidate from each open line to those joined, and ks what joins these.
  pub record Grown (is_open : ℕ → Bool) (best : ℕ → Candidate) (ks : List Candidate) : Type 0 where
    pub there : (v : ℕ) → is_open v ≡ true → has_points ls v ≡ true
    pub near : (w : ℕ) → is_open w ≡ true → Near is_open w (best w)
    pub rising : Rising (ranks_before ls) ks
    pub from : (k : Candidate) → In k ks → In k (made ls) × (is_open k.low ≡ false) × (is_open k.high ≡ false)
    pub size : suc (length ks) + count is_open (length ls) ≡ count (has_points ls) (length ls)

-- ---- its laws

not_later_trans : {A : Type 0} (before : A → A → Bool) → StrictOrder before → (x y z : A) → NotLater before x y → NotLater before y z → NotLater before x z
not_later_trans {A} before O x y z (inl p) q = subst (λ (w : A). NotLater before w z) (sym p) q
not_later_trans {A} before O x y z (inr p) (inl q) = inr (subst (λ (w : A). before x w ≡ true) q p)
not_later_trans before O x y z (inr p) (inr q) = inr (O.transitive x y z p q)

module _ (ls : List (List Point)) where
  -- ---- the first of two, of four

  -- it is one of the two, and later than neither
  first_of_lem : (j k : Candidate) (Q : Candidate → Type 0) → Q j → Q k → Q (first_of ls j k)
  unfolding first_of
  first_of_lem j k Q q r = go (ranks_before ls k j) refl
    where
      go : (t : Bool) → ranks_before ls k j ≡ t → Q (elim t [ true ↦ k | false ↦ j ])
      go true e = r
      go false e = q

  first_left : (j k : Candidate) → NotLater (ranks_before ls) (first_of ls j k) j
  unfolding first_of
  first_left j k = go (ranks_before ls k j) refl
    where
      go : (t : Bool) → ranks_before ls k j ≡ t → NotLater (ranks_before ls) (elim t [ true ↦ k | false ↦ j ]) j
      go true e = inr e
      go false e = inl refl

  first_right : (j k : Candidate) → NotLater (ranks_before ls) (first_of ls j k) k
  unfolding first_of
  first_right j k = go (ranks_before ls k j) refl (ranks_before ls j k) refl
    where
      go : (t : Bool) → ranks_before ls k j ≡ t → (s : Bool) → ranks_before ls j k ≡ s → NotLater (ranks_before ls) (elim t [ true ↦ k | false ↦ j ]) k
      go true e s f = inl refl
      go false e true f = inr f
      go false e false f = inl ((rank_order ls).total j k f e)

  trans : (x y z : Candidate) → NotLater (ranks_before ls) x y → NotLater (ranks_before ls) y z → NotLater (ranks_before ls) x z
  trans x y z p q = not_later_trans (ranks_before ls) (rank_order ls) x y z p q

  module _ (l h : ℕ) where
    nearest_of_lem : (Q : Candidate → Type 0) → ((a b : ℕ) → a < 2 → b < 2 → Q (candidate l h a b)) → Q (nearest ls l h)
    unfolding nearest
    nearest_of_lem Q f =
        first_of_lem (first_of ls (first_of ls (candidate l h 0 0) (candidate l h 0 1)) (candidate l h 1 0)) (candidate l h 1 1) Q
        (first_of_lem (first_of ls (candidate l h 0 0) (candidate l h 0 1)) (candidate l h 1 0) Q
        (first_of_lem (candidate l h 0 0) (candidate l h 0 1) Q (f 0 0 (omega arith) (omega arith)) (f 0 1 (omega arith) (omega arith))) (f 1 0 (omega arith) (omega arith))) (f 1 1 (omega arith) (omega arith))

    nearest_first : (a b : ℕ) → a < 2 → b < 2 → NotLater (ranks_before ls) (nearest ls l h) (candidate l h a b)
    unfolding nearest
    nearest_first a b p q = go a b p q
      where
        c00 : Candidate
        c00 = candidate l h 0 0

        c01 : Candidate
        c01 = candidate l h 0 1

        c10 : Candidate
        c10 = candidate l h 1 0

        c11 : Candidate
        c11 = candidate l h 1 1

        two : Candidate
        two = first_of ls c00 c01

        three : Candidate
        three = first_of ls two c10

        to_three : NotLater (ranks_before ls) (first_of ls three c11) three
        to_three = first_left three c11

        to_two : NotLater (ranks_before ls) (first_of ls three c11) two
        to_two = trans (first_of ls three c11) three two to_three (first_left two c10)

        go : (a b : ℕ) → a < 2 → b < 2 → NotLater (ranks_before ls) (first_of ls three c11) (candidate l h a b)
        go zero zero p q = trans (first_of ls three c11) two c00 to_two (first_left c00 c01)
        go zero (suc zero) p q = trans (first_of ls three c11) two c01 to_two (first_right c00 c01)
        go zero (suc (suc b)) p q = absurd (omega arith)
        go (suc zero) zero p q = trans (first_of ls three c11) three c10 to_three (first_right two c10)
        go (suc zero) (suc zero) p q = first_right three c11
        go (suc zero) (suc (suc b)) p q = absurd (omega arith)
        go (suc (suc a)) b p q = absurd (omega arith)

  module _ (u w : ℕ) (hu : has_points ls u ≡ true) (hw : has_points ls w ≡ true) (d : u ≡ w → ⊥) where
    near_two : (IsCandidate ls (nearest_of ls u w)) × (Joins low_of high_of (nearest_of ls u w) w u)
        × ((k : Candidate) → IsCandidate ls k → Joins low_of high_of k w u → NotLater (ranks_before ls) (nearest_of ls u w) k)
    unfolding nearest_of
    near_two = go (ltb u w) refl
      where
        is : (l h : ℕ) → l < h → has_points ls l ≡ true → has_points ls h ≡ true → IsCandidate ls (nearest ls l h)
        is l h o hl hh = nearest_of_lem l h (IsCandidate ls) (λ a b p q. record { ordered = o; low_there = hl; high_there = hh; low_end = p; high_end = q })

        first : (l h : ℕ) (k : Candidate) → IsCandidate ls k → k.low ≡ l → k.high ≡ h → NotLater (ranks_before ls) (nearest ls l h) k
        first l h k C e f = rw (← e, ← f) (nearest_first k.low k.high k.low_end k.high_end C.low_end C.high_end)

        go : (t : Bool) → ltb u w ≡ t
            → (IsCandidate ls (elim t [ true ↦ nearest ls u w | false ↦ nearest ls w u ])) × (Joins low_of high_of (elim t [ true ↦ nearest ls u w | false ↦ nearest ls w u ]) w u)
            × ((k : Candidate) → IsCandidate ls k → Joins low_of high_of k w u → NotLater (ranks_before ls) (elim t [ true ↦ nearest ls u w | false ↦ nearest ls w u ]) k)
        go true e =
            let o : u < w = ltb-true u w e in (
              is u w o hu hw,
              nearest_of_lem u w (λ (k : Candidate). Joins low_of high_of k w u) (λ a b p q. inr (refl, refl)),
              λ k C j. elim j [ inl p ↦ absurd (omega (arith, p.0, p.1, C.ordered)) | inr p ↦ first u w k C p.0 p.1 ],
            )
        go false e =
            let o : w < u = strict u w d (ltb-false u w e) in (
              is w u o hw hu,
              nearest_of_lem w u (λ (k : Candidate). Joins low_of high_of k w u) (λ a b p q. inl (refl, refl)),
              λ k C j. elim j [ inl p ↦ first w u k C p.0 p.1 | inr p ↦ absurd (omega (arith, p.0, p.1, C.ordered)) ],
            )
          where
            strict : (u w : ℕ) → (u ≡ w → ⊥) → w ≤ u → w < u
            strict u w d l = omega arith

  -- ---- one line by itself: every other is open

  module _ (is_open : ℕ → Bool) (best : ℕ → Candidate) (v : ℕ) (hv : has_points ls v ≡ true) (shut : is_open v ≡ false) (rest : (w : ℕ) → (w ≡ v → ⊥) → is_open w ≡ has_points ls w)
      (near : (w : ℕ) → is_open w ≡ true → best w ≡ nearest_of ls v w) where
    not_v : (w : ℕ) → is_open w ≡ true → w ≡ v → ⊥
    not_v w o e = false≢true (sym shut ∙ ap is_open (sym e) ∙ o)

    pub grown_start : Grown ls is_open best []
    grown_start = record {
      there = λ w o. sym (rest w (not_v w o)) ∙ o;
      near = λ w o.
          let d = not_v w o in
          let hw : has_points ls w ≡ true = sym (rest w d) ∙ o in
          let T = near_two v w hv hw (λ e. d (sym e)) in
          rw (near w o) (record {
            is = T.0;
            other = v;
            joins = T.1;
            shut = shut;
            first = λ j u C J s.
                let e : u ≡ v = elim (same_or_not u v) [ inl e ↦ e | inr x ↦ absurd (false≢true (sym s ∙ rest u x ∙ far j w u C J)) ] in
                T.2 j C (subst (Joins low_of high_of j w) e J);
          });
      rising = tt;
      from = λ k i. absurd i;
      size = omega (arith, count_less (has_points ls) is_open (length ls) v (there ls v hv) hv shut (λ w d. sym (rest w d)));
    }
      where
        far : (j : Candidate) (w u : ℕ) → IsCandidate ls j → Joins low_of high_of j w u → has_points ls u ≡ true
        far j w u C (inl p) = rw (← p.1) C.high_there
        far j w u C (inr p) = rw (← p.0) C.low_there

  -- ---- one line more

  module _ (is_open : ℕ → Bool) (best : ℕ → Candidate) (ks : List Candidate) (G : Grown ls is_open best ks)
      (v : ℕ) (open_v : is_open v ≡ true) (chosen : (w : ℕ) → is_open w ≡ true → NotLater (ranks_before ls) (best v) (best w)) where
    chosen_joins : Near ls is_open v (best v)
    chosen_joins = G.near v open_v

    -- the ends of the candidate chosen: one is open, one is not
    chosen_ends : (Q : ℕ → Type 0) → Q v → Q chosen_joins.other → Q (best v).low × Q (best v).high
    chosen_ends Q p q = elim chosen_joins.joins [ inl e ↦ (rw e.0 p, rw e.1 q) | inr e ↦ (rw e.0 q, rw e.1 p) ]

    pub chosen_leaves : is_open (best v).low ≡ is_open (best v).high → ⊥
    chosen_leaves e = elim chosen_joins.joins [
      | inl p ↦ true≢false (sym open_v ∙ ap is_open (sym p.0) ∙ e ∙ ap is_open p.1 ∙ chosen_joins.shut)
      | inr p ↦ false≢true (sym chosen_joins.shut ∙ ap is_open (sym p.0) ∙ e ∙ ap is_open p.1 ∙ open_v)
    ]

    chosen_first : (x : Candidate) → In x (ranked ls) → (is_open x.low ≡ is_open x.high → ⊥) → NotLater (ranks_before ls) (best v) x
    chosen_first x i d = go (is_open x.low) refl (is_open x.high) refl
      where
        C : IsCandidate ls x
        C = all_in (IsCandidate ls) (ranked ls) (ranked_are ls) x i

        go : (s : Bool) → is_open x.low ≡ s → (t : Bool) → is_open x.high ≡ t → NotLater (ranks_before ls) (best v) x
        go true e true f = absurd (d (e ∙ sym f))
        go true e false f = trans (best v) (best x.low) x (chosen x.low e) ((G.near x.low e).first x x.high C (inl (refl, refl)) f)
        go false e true f = trans (best v) (best x.high) x (chosen x.high f) ((G.near x.high f).first x x.low C (inr (refl, refl)) e)
        go false e false f = absurd (d (e ∙ sym f))

    chosen_made : In (best v) (made ls)
    chosen_made = rw (made_is ls)
        (first_leaving low_of high_of (ranks_before ls) (rank_order ls) (length ls) (has_points ls) (there ls) is_open (ranked ls) (ranked_rising ls) (ranked_ends ls) (best v)
        (ranked_in ls (best v) chosen_joins.is) chosen_leaves chosen_first)

    chosen_new : In (best v) ks → ⊥
    chosen_new i = let f = G.from (best v) i in chosen_leaves (f.1 ∙ sym f.2)

    module _ (now_open : ℕ → Bool) (now_best : ℕ → Candidate) (shut : now_open v ≡ false) (rest : (w : ℕ) → (w ≡ v → ⊥) → now_open w ≡ is_open w)
        (near : (w : ℕ) → now_open w ≡ true → now_best w ≡ first_of ls (best w) (nearest_of ls v w)) where
      still_shut : (u : ℕ) → is_open u ≡ false → now_open u ≡ false
      still_shut u s = rest u (λ e. true≢false (sym open_v ∙ ap is_open (sym e) ∙ s)) ∙ s

      other_line : (w : ℕ) → now_open w ≡ true → w ≡ v → ⊥
      other_line w o e = false≢true (sym shut ∙ ap now_open (sym e) ∙ o)

      abbrev Beyond : ℕ → Candidate → Type 0
      Beyond w k = IsCandidate ls k × ((u : ℕ) × Joins low_of high_of k w u × (now_open u ≡ false))

      near_now : (w : ℕ) → now_open w ≡ true → Near ls now_open w (now_best w)
      near_now w o =
          let d = other_line w o in
          let was : is_open w ≡ true = sym (rest w d) ∙ o in
          let N = G.near w was in
          let T = near_two v w (G.there v open_v) (G.there w was) (λ e. d (sym e)) in
          let B : Beyond w (first_of ls (best w) (nearest_of ls v w)) =
          first_of_lem (best w) (nearest_of ls v w) (Beyond w) (N.is, (N.other, N.joins, still_shut N.other N.shut)) (T.0, (v, T.1, shut)) in
          rw (near w o) (record {
            is = B.0;
            other = B.1.0;
            joins = B.1.1;
            shut = B.1.2;
            first = λ j u C J s. elim (same_or_not u v) [
              | inl e ↦ trans (first_of ls (best w) (nearest_of ls v w)) (nearest_of ls v w) j (first_right (best w) (nearest_of ls v w)) (T.2 j C (subst (Joins low_of high_of j w) e J))
              | inr x ↦ trans (first_of ls (best w) (nearest_of ls v w)) (best w) j (first_left (best w) (nearest_of ls v w)) (N.first j u C J (sym (rest u x) ∙ s))
            ];
          })

      abbrev FromNow : Candidate → Type 0
      FromNow k = In k (made ls) × (now_open k.low ≡ false) × (now_open k.high ≡ false)

      pub grown_more : Grown ls now_open now_best (insert (ranks_before ls) (best v) ks)
      grown_more = record {
        there = λ w o. G.there w (sym (rest w (other_line w o)) ∙ o);
        near = near_now;
        rising = insert_rising (ranks_before ls) (rank_order ls) (best v) ks G.rising;
        from = λ k i. all_in FromNow (insert (ranks_before ls) (best v) ks) (insert_all (ranks_before ls) (rank_order ls) FromNow (best v) ks
            (let e = chosen_ends (λ (u : ℕ). now_open u ≡ false) shut (still_shut chosen_joins.other chosen_joins.shut) in (chosen_made, e.0, e.1))
            (in_all FromNow ks (λ x j. let f = G.from x j in (f.0, still_shut x.low f.1, still_shut x.high f.2)))) k i;
        size = omega (
          arith,
          G.size,
          insert_size (ranks_before ls) (rank_order ls) (best v) ks chosen_new,
          count_less is_open now_open (length ls) v (there ls v (G.there v open_v)) open_v shut (λ w d. sym (rest w d)),
        );
      }

  -- ---- no line is open

  pub grown_all : (is_open : ℕ → Bool) (best : ℕ → Candidate) (ks : List Candidate) → Grown ls is_open best ks → ((w : ℕ) → w < length ls → is_open w ≡ true → ⊥) → ks ≡ made ls
  grown_all is_open best ks G none =
      all_kept (ranks_before ls) (rank_order ls) (made ls) ks G.rising (made_rising ls) (λ k i. (G.from k i).0)
      (omega (arith, G.size, (made_links_all ls).spans.size, count_none is_open (length ls) none))

  -- no line has points: no link is made
  pub none_made : ((l : ℕ) → has_points ls l ≡ true → ⊥) → made ls ≡ []
  none_made none = go (made ls) (omega (arith, (made_links_all ls).spans.size, count_none (has_points ls) (length ls) (λ l h. none l)))
    where
      go : (ks : List Candidate) → length ks ≡ 0 → ks ≡ []
      go [] e = refl
      go (k ∷ ks) e = absurd (omega arith)
