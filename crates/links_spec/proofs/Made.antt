-- The links that are made are a set that may be made.
use mathlib.Core.Path.{◌≡◌, refl, subst}
use mathlib.Core.Logic.{inl, inr}
use mathlib.Core.List.{List}
use mathlib.Core.Bool.{Bool, true, false}
use Prim.Native.Nat.{ℕ, ◌≤◌, ◌<◌}
use native.Mathlib.Omega.{arith}
use lib.ListN.{length}
use lib.Dec.{ltb}
use borrow.Author.Tests.{ltb-true, ltb-false}
use Rattle.lists.specs.Members.{In, All}
use Rattle.lists.proofs.Members.{all_in, in_all, all_imp}
use Rattle.drawing_spec.specs.Drawing.{Point}
use Rattle.graph_spec.specs.Count.{sum_over}
use Rattle.spanning.specs.Edges.{Leads, here, on}
use Rattle.spanning.specs.Greedy.{kept_of}
use Rattle.spanning.specs.Order.{Rising, sort}
use Rattle.spanning.proofs.Kept.{Ends, kept_in, kept_rising}
use Rattle.spanning.proofs.Sorted.{sort_rising, sort_all, sort_in, sort_sum}
use Rattle.spanning.proofs.Ahead.{Ahead, kept_ahead, kept_spans, ahead_sum, spans_sorted}
use Rattle.links_spec.specs.Candidates.{Candidate, candidate, low_of, high_of, has_points, IsCandidate, candidates, squared_length, ranks_before}
use Rattle.links_spec.specs.Allowed.{LinksAll, Allowed}
use Rattle.links_spec.specs.Made.{made}
use Rattle.links_spec.proofs.Rank.{rank_order, rank_length}
use Rattle.links_spec.proofs.Candidates.{there, candidates_are, candidate_in}

module _ (ls : List (List Point)) where
  -- the candidates in rank order
  abbrev pub ranked : List Candidate
  ranked = sort (ranks_before ls) (candidates ls)

  pub ranked_rising : Rising (ranks_before ls) ranked
  ranked_rising = sort_rising (ranks_before ls) (rank_order ls) (candidates ls)

  pub ranked_are : All (IsCandidate ls) ranked
  ranked_are = sort_all (ranks_before ls) (rank_order ls) (IsCandidate ls) (candidates ls) (candidates_are ls)

  pub ranked_in : (k : Candidate) → IsCandidate ls k → In k ranked
  ranked_in k C = sort_in (ranks_before ls) (rank_order ls) k (candidates ls) (candidate_in ls k C)

  pub ranked_ends : All (Ends low_of high_of (length ls) (has_points ls) (there ls)) ranked
  ranked_ends = all_imp (IsCandidate ls) (Ends low_of high_of (length ls) (has_points ls) (there ls)) (λ k C. (C.low_there, C.high_there)) ranked ranked_are

  -- the candidates lead from each line to each other: those of two lines do
  ranked_leads : (u v : ℕ) → has_points ls u ≡ true → has_points ls v ≡ true → Leads low_of high_of ranked u v
  ranked_leads u v p q = go (ltb u v) refl (ltb v u) refl
    where
      one : (l h : ℕ) → l < h → has_points ls l ≡ true → has_points ls h ≡ true → In (candidate l h 0 0) ranked
      one l h o a b = ranked_in (candidate l h 0 0) (record { ordered = o; low_there = a; high_there = b; low_end = omega arith; high_end = omega arith })

      go : (s : Bool) → ltb u v ≡ s → (t : Bool) → ltb v u ≡ t → Leads low_of high_of ranked u v
      go true e t f = on (candidate u v 0 0) here (one u v (ltb-true u v e) p q) (inl (refl, refl))
      go false e true f = on (candidate v u 0 0) here (one v u (ltb-true v u f) q p) (inr (refl, refl))
      go false e false f = subst (Leads low_of high_of ranked u) (omega (arith, ltb-false u v e, ltb-false v u f)) here

  pub made_is : made ls ≡ kept_of low_of high_of ranked
  unfolding made
  made_is = refl

  pub made_rising : Rising (ranks_before ls) (made ls)
  made_rising = rw made_is (kept_rising low_of high_of (ranks_before ls) (λ (v : ℕ). v) ranked ranked_rising)

  kept_links : LinksAll ls (kept_of low_of high_of ranked)
  kept_links = record {
    are = in_all (IsCandidate ls) (kept_of low_of high_of ranked) (λ k i. all_in (IsCandidate ls) ranked ranked_are k (kept_in low_of high_of (λ (v : ℕ). v) ranked k i));
    spans = kept_spans low_of high_of (ranks_before ls) (rank_order ls) (length ls) (has_points ls) (there ls) ranked ranked_rising ranked_ends ranked_leads;
  }

  pub made_links_all : LinksAll ls (made ls)
  made_links_all = rw made_is kept_links

  -- ---- against any other set

  -- place by place, no candidate of another set, put in rank order, ranks before that of the set made
  pub made_ahead : (ts : List Candidate) → Rising (ranks_before ls) ts → LinksAll ls ts → Ahead (ranks_before ls) (made ls) ts
  made_ahead ts r L = rw made_is
      (kept_ahead low_of high_of (ranks_before ls) (rank_order ls) (length ls) (has_points ls) (there ls) ranked ranked_rising ranked_ends ts r
      (λ t i. ranked_in t (all_in (IsCandidate ls) ts L.are t i)) L.spans)

  in_rank_order : (ts : List Candidate) → LinksAll ls ts → LinksAll ls (sort (ranks_before ls) ts)
  in_rank_order ts L = record {
    are = sort_all (ranks_before ls) (rank_order ls) (IsCandidate ls) ts L.are;
    spans = spans_sorted low_of high_of (ranks_before ls) (rank_order ls) (length ls) (has_points ls) (there ls) ts
        (all_imp (IsCandidate ls) (Ends low_of high_of (length ls) (has_points ls) (there ls)) (λ k C. (C.low_there, C.high_there)) ts L.are) L.spans;
  }

  made_least : (ts : List Candidate) → LinksAll ls ts → sum_over (squared_length ls) (made ls) ≤ sum_over (squared_length ls) ts
  made_least ts L =
      let us = sort (ranks_before ls) ts in
      let M = in_rank_order ts L in
      omega (
        arith,
        ahead_sum (ranks_before ls) (squared_length ls) (rank_length ls) (made ls) us (omega (arith, made_links_all.spans.size, M.spans.size)) (made_ahead us (sort_rising (ranks_before ls) (rank_order ls) ts) M),
        sort_sum (ranks_before ls) (rank_order ls) (squared_length ls) ts,
      )

  pub made_allowed : Allowed ls (made ls)
  made_allowed = record { links_all = made_links_all; least = made_least }
