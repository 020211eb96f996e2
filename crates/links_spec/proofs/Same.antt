-- The links made depend only on which lines have points, and on their ends.
use mathlib.Core.Path.{◌≡◌, refl, sym, ap, ◌∙◌, fun_ext}
use mathlib.Core.List.{List, [], ◌∷◌, ◌++◌}
use mathlib.Core.Bool.{Bool, true, false}
use Prim.Native.Nat.{ℕ, zero, suc}
use lib.ListN.{length}
use Rattle.drawing_spec.specs.Drawing.{Point}
use Rattle.graph_spec.specs.Chain.{squared}
use Rattle.spanning.specs.Greedy.{kept_of}
use Rattle.spanning.specs.Order.{sort}
use Rattle.links_spec.specs.Candidates.{Candidate, low_of, high_of, line_at, has_points, end_point, low_point, high_point, squared_length, between, to_higher, among, candidates, less, rank, ranks_before}
use Rattle.links_spec.specs.Made.{made}
use Rattle.links_spec.proofs.Made.{made_is}

module _ (ls ms : List (List Point)) (long : length ls ≡ length ms) (has : (l : ℕ) → has_points ls l ≡ has_points ms l) (ends : (l e : ℕ) → end_point (line_at ls l) e ≡ end_point (line_at ms l) e) where
  higher_same : (l n h : ℕ) → to_higher ls l n h ≡ to_higher ms l n h
  unfolding to_higher
  higher_same l zero h = refl
  higher_same l (suc n) h =
      ap (λ (t : Bool). elim t [ true ↦ between ls l h ++ to_higher ls l n (suc h) | false ↦ to_higher ls l n (suc h) ]) (has h)
      ∙ ap (λ (ks : List Candidate). elim (has_points ms h) [ true ↦ between ls l h ++ ks | false ↦ ks ]) (higher_same l n (suc h))

  among_same : (n l : ℕ) → among ls n l ≡ among ms n l
  unfolding among
  among_same zero l = refl
  among_same (suc n) l =
      ap (λ (t : Bool). elim t [ true ↦ to_higher ls l n (suc l) ++ among ls n (suc l) | false ↦ among ls n (suc l) ]) (has l)
      ∙ ap (λ (ks : List Candidate). elim (has_points ms l) [ true ↦ ks ++ among ls n (suc l) | false ↦ among ls n (suc l) ]) (higher_same l n (suc l))
      ∙ ap (λ (ks : List Candidate). elim (has_points ms l) [ true ↦ to_higher ms l n (suc l) ++ ks | false ↦ ks ]) (among_same n (suc l))

  candidates_same : candidates ls ≡ candidates ms
  unfolding candidates
  candidates_same = ap (λ (n : ℕ). among ls n 0) long ∙ among_same (length ms) 0

  length_same : (k : Candidate) → squared_length ls k ≡ squared_length ms k
  length_same k = ap (λ (p : Point). squared p (high_point ls k)) (ends k.low k.low_end) ∙ ap (squared (low_point ms k)) (ends k.high k.high_end)

  before_same : ranks_before ls ≡ ranks_before ms
  before_same = fun_ext (λ j. fun_ext (λ k.
      ap (λ (s : ℕ). less (s ∷ j.low ∷ j.high ∷ j.low_end ∷ j.high_end ∷ []) (rank ls k)) (length_same j)
      ∙ ap (λ (s : ℕ). less (rank ms j) (s ∷ k.low ∷ k.high ∷ k.low_end ∷ k.high_end ∷ [])) (length_same k)))

  pub made_same : made ls ≡ made ms
  made_same =
      made_is ls
      ∙ ap (λ (b : Candidate → Candidate → Bool). kept_of low_of high_of (sort b (candidates ls))) before_same
      ∙ ap (λ (cs : List Candidate). kept_of low_of high_of (sort (ranks_before ms) cs)) candidates_same
      ∙ sym (made_is ms)
