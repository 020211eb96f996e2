-- How closing ends, by what code finds: whether the line is to be closed, the odd nodes, and the answer of the last retrace.
use mathlib.Core.Path.{◌≡◌, refl, sym, ap, subst, ◌∙◌}
use mathlib.Core.List.{List, [], ◌∷◌}
use mathlib.Core.Bool.{Bool, true, false}
use Prim.Native.Nat.{ℕ, ◌<◌}
use native.Mathlib.Omega.{arith}
use lib.ListN.{length, get_or}
use lib.Seq.{get_or-take}
use lib.Dec.{eqb}
use lib.Ieee.{Float, binary64, add}
use borrow.Author.Tests.{eq-eqb, ne_eqb}
use Rattle.graph_spec.specs.Graph.{Edge}
use Rattle.graph_spec.specs.Odd.{odd_nodes}
use Rattle.graph_adjacency.specs.Lists.{Adjacency}
use Rattle.graph_arrays.specs.Arrays.{edges_in, EdgesHeld, Front}
use Rattle.repair_spec.specs.Distance.{zero_length}
use Rattle.repair_spec.specs.Pairing.{Pair, pair}
use Rattle.repair_spec.specs.PairsIn.{pairs_in}
use Rattle.repair_spec.specs.Repair.{Repair, Repairing, stopped, repaired, with_sum, add_sum, apply_matching, close, close_if}
use Rattle.repair_spec.proofs.Repaired.{odd_at}
use Rattle.repair_copies.specs.Laying.{laid_of}
use Rattle.repair_retrace.specs.Outcome.{RepairOutcome, refused, done, outcome, so_far}
use Rattle.std.specs.Prelude.{Result, Ok, Err}
use Rattle.repair_retrace.specs.declared.Laid.{Laid}
use Rattle.repair_retrace.specs.Answer.{Answers}
use Rattle.repair_retrace.proofs.Outcome.{forget}

-- x and then the sum of what was laid
abbrev added : Float → RepairOutcome → RepairOutcome
added x (refused k) = refused k
added x (done l) = done (laid_of l.edges (add binary64 x l.sum))

added_same : (x : Float) (r : Repairing) → outcome (add_sum x r) ≡ added x (outcome r)
added_same x (stopped k) = refl
added_same x (repaired r) = refl

-- the two nodes that are left odd
abbrev last_pair : ℕ → List Edge → Pair
last_pair n es = pair (get_or (odd_nodes n es) 0 0) (get_or (odd_nodes n es) 1 0)

module _ (most number n : ℕ) where
  -- ---- by the count of odd nodes

  abbrev ByCount : Repair → Bool → Repairing
  ByCount r t = elim t as (λ t. Repairing) [ false ↦ repaired r | true ↦ add_sum r.sum (apply_matching most number n (last_pair n r.edges ∷ []) (with_sum zero_length r)) ]

  close_is : (r : Repair) → close_if true most number n (repaired r) ≡ ByCount r (eqb (length (odd_nodes n r.edges)) 2)
  unfolding close_if close
  close_is r = refl

  open_is : (r : Repair) → close_if false most number n (repaired r) ≡ repaired r
  unfolding close_if
  open_is r = refl

  -- ---- the retraces before do not count

  forget_close : (b : Bool) (r : Repair) → outcome (close_if b most number n (repaired r)) ≡ outcome (close_if b most number n (repaired (so_far r.edges r.sum)))
  forget_close false r = ap outcome (open_is r) ∙ sym (ap outcome (open_is (so_far r.edges r.sum)))
  forget_close true r = ap outcome (close_is r) ∙ go (eqb (length (odd_nodes n r.edges)) 2) ∙ sym (ap outcome (close_is (so_far r.edges r.sum)))
    where
      last : List Pair
      last = last_pair n r.edges ∷ []

      go : (t : Bool) → outcome (ByCount r t) ≡ outcome (ByCount (so_far r.edges r.sum) t)
      go false = refl
      go true =
          added_same r.sum (apply_matching most number n last (with_sum zero_length r)) ∙ ap (added r.sum) (forget most number n last (with_sum zero_length r))
          ∙ sym (added_same r.sum (apply_matching most number n last (so_far r.edges zero_length)))

  -- after the pairs, whose repair is x
  pub close_refused : (b : Bool) (x : Repairing) (k : ℕ) (a : Adjacency) → Answers n x (Err k) a → Answers n (close_if b most number n x) (Err k) a
  unfolding close_if
  close_refused b (stopped j) k a A = record { is = A.is; held = tt }
  close_refused b (repaired r) k a A = let e = A.is in let w : ◌≡◌ {A = ℕ} 0 1 = cc in absurd (omega arith)

  pub close_after : (b : Bool) (x : Repairing) (l : Laid) (a : Adjacency) → Answers n x (Ok l) a → (answer : Result Laid ℕ) (a' : Adjacency)
      → Answers n (close_if b most number n (repaired (so_far (edges_in l.edges a) l.sum))) answer a' → Answers n (close_if b most number n x) answer a'
  close_after b (stopped j) l a A answer a' C = let e = A.is in let w : ◌≡◌ {A = ℕ} 0 1 = cc in absurd (omega arith)
  close_after b (repaired r) l a A answer a' C = record { is = C.is ∙ sym (forget_close b r ∙ sym (ap again A.is)); held = C.held }
    where
      again : RepairOutcome → RepairOutcome
      again (refused k) = refused k
      again (done l) = outcome (close_if b most number n (repaired (so_far l.edges l.sum)))

  -- ---- the code's branches

  module _ (m : ℕ) (sum : Float) (a : Adjacency) (H : EdgesHeld n m a) (b : Bool) where
    abbrev es : List Edge
    es = edges_in m a

    abbrev whole : Repairing
    whole = close_if b most number n (repaired (so_far es sum))

    pub answers_open : b ≡ false → Answers n whole (Ok (record { sum = sum; edges = m })) a
    answers_open e = record { is = sym (ap outcome (ap (λ (b : Bool). close_if b most number n (repaired (so_far es sum))) e ∙ open_is (so_far es sum))); held = H }

    -- nor are there pairs
    pub answers_nothing : b ≡ false → sum ≡ zero_length → (fs ss : List ℕ) (pairs : ℕ) → pairs ≡ 0
        → Answers n (close_if b most number n (apply_matching most number n (pairs_in fs ss 0 pairs) (so_far es zero_length))) (Ok (record { sum = sum; edges = m })) a
    unfolding apply_matching pairs_in
    answers_nothing e z fs ss pairs none = rw (none, sym z) (answers_open e)

    module _ (on : b ≡ true) (odd : List ℕ) (count : ℕ) (F : Front (odd_nodes n es) odd count) where
      by_count : (t : Bool) → eqb (length (odd_nodes n es)) 2 ≡ t → outcome (ByCount (so_far es sum) t) ≡ outcome whole
      by_count t e = sym (ap outcome (ap (λ (b : Bool). close_if b most number n (repaired (so_far es sum))) on ∙ close_is (so_far es sum) ∙ ap (ByCount (so_far es sum)) e))

      pub answers_none : (count ≡ 2 → ⊥) → Answers n whole (Ok (record { sum = sum; edges = m })) a
      answers_none h = record { is = by_count false (ne_eqb (length (odd_nodes n es)) 2 (λ e. h (F.counts ∙ e))); held = H }

      node : (j : ℕ) → j < count → get_or odd j 0 ≡ get_or (odd_nodes n es) j 0
      node j h = sym (get_or-take count odd j 0 h) ∙ ap (λ (vs : List ℕ). get_or vs j 0) F.are

      pub node_below : (j : ℕ) → j < count → get_or odd j 0 < n
      node_below j h = subst (λ (v : ℕ). v < n) (sym (node j h)) (odd_at n es j (omega (arith, F.counts)))

      module _ (two : count ≡ 2) (u v : ℕ) (is_u : u ≡ get_or odd 0 0) (is_v : v ≡ get_or odd 1 0) where
        is_last : pair u v ≡ last_pair n es
        is_last = ap (λ (x : ℕ). pair x v) (is_u ∙ node 0 (omega arith)) ∙ ap (pair (get_or (odd_nodes n es) 0 0)) (is_v ∙ node 1 (omega arith))

        -- the last retrace, summed by itself
        abbrev last : Repairing
        last = apply_matching most number n (pair u v ∷ []) (so_far es zero_length)

        joined : (o : RepairOutcome) → o ≡ outcome last → added sum o ≡ outcome whole
        joined o e =
            ap (added sum) (e ∙ ap (λ (p : Pair). outcome (apply_matching most number n (p ∷ []) (so_far es zero_length))) is_last)
            ∙ sym (added_same sum (apply_matching most number n (last_pair n es ∷ []) (so_far es zero_length)))
            ∙ by_count true (eq-eqb (length (odd_nodes n es)) 2 (sym F.counts ∙ two))

        pub answers_refused : (k : ℕ) (a' : Adjacency) → Answers n last (Err k) a' → Answers n whole (Err k) a'
        answers_refused k a' A = record { is = joined _ A.is; held = tt }

        pub answers_joined : (l : Laid) (a' : Adjacency) → Answers n last (Ok l) a' → Answers n whole (Ok (record { sum = add binary64 sum l.sum; edges = l.edges })) a'
        answers_joined l a' A = record { is = joined _ A.is; held = A.held }
