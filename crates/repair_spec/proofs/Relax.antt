-- Laws of specs/Relax.
use mathlib.Core.Path.{◌≡◌, refl, sym, ap, ◌∙◌}
use mathlib.Core.Logic.{◌⊎◌, inl, inr, ◌↔◌}
use mathlib.Core.List.{List, [], ◌∷◌}
use mathlib.Core.Bool.{Bool, true, false}
use Prim.Native.Nat.{ℕ, ◌≤◌, ◌<◌}
use native.Mathlib.Nat.{le_trans, le_of_eq, le_of_lt}
use lib.ListN.{length, set, length-set}
use lib.Seq.{get_or-set_same}
use lib.Dec.{eqb}
use lib.Ieee.{Float, binary64, add, lt}
use borrow.Author.Tests.{eqb-true, eqb-false}
use Rattle.sums.specs.Key.{Nonneg, key}
use Rattle.sums.proofs.KeyLaws.{lt_true, lt_false}
use Rattle.sums.proofs.Sum.{add_nonneg}
use Rattle.lists.proofs.Elements.{set_cases}
use Rattle.graph_spec.specs.Graph.{Edge}
use Rattle.graph_spec.specs.Ways.{Joins}
use Rattle.lists.specs.Members.{In}
use Rattle.repair_spec.specs.Distance.{infinity, distance_at, improve, relax, relax_all}
use Rattle.graph_spec.specs.Weights.{Weights}
use Rattle.repair_spec.specs.Relax.{AllNonneg, key_at}

-- of the costs that are offered for nodes, each that is lower is taken, and nothing else changes
pub record Improved (Offer : ℕ → Float → Type 0) (old new : List Float) : Type 0 where
  pub same : length new ≡ length old
  pub change : (x : ℕ) → (distance_at new x ≡ distance_at old x) ⊎ (Offer x (distance_at new x) × (key_at new x < key_at old x))
  pub taken : (x : ℕ) (c : Float) → Offer x c → x < length old → key_at new x ≤ key binary64 c

pub no_higher : {P : ℕ → Float → Type 0} {old new : List Float} → Improved P old new → (x : ℕ) → key_at new x ≤ key_at old x
no_higher I x = elim (I.change x) [ inl h ↦ le_of_eq (ap (λ (d : Float). key binary64 d) h) | inr q ↦ le_of_lt q.1 ]

-- where no offer is lower
pub kept : {P : ℕ → Float → Type 0} {ds : List Float} → ((x : ℕ) (c : Float) → P x c → key_at ds x ≤ key binary64 c) → Improved P ds ds
kept h = record { same = refl; change = λ x. inl refl; taken = λ x c o l. h x c o }

module _ {P : ℕ → Float → Type 0} {old new : List Float} (I : Improved P old new) where
  pub still_nonneg : AllNonneg old → ((x : ℕ) (c : Float) → P x c → Nonneg binary64 c) → AllNonneg new
  still_nonneg g offers x = elim (I.change x) [ inl h ↦ rw h (g x) | inr q ↦ offers x (distance_at new x) q.0 ]

  -- the same offers in other words
  pub offers_iff : {Q : ℕ → Float → Type 0} → ((x : ℕ) (c : Float) → P x c ↔ Q x c) → Improved Q old new
  offers_iff f =
      record {
        same = I.same;
        change = λ x. elim (I.change x) [ inl h ↦ inl h | inr q ↦ inr ((f x (distance_at new x)).0 q.0, q.1) ];
        taken = λ x c o. I.taken x c ((f x c).1 o);
      }

  -- more offers after these
  pub and_then : {Q : ℕ → Float → Type 0} {last : List Float} → Improved Q new last → Improved (λ x c. P x c ⊎ Q x c) old last
  and_then J =
      record {
        same = J.same ∙ I.same;
        change = λ x. elim (J.change x) [
          | inl h ↦ elim (I.change x) [ inl g ↦ inl (h ∙ g) | inr q ↦ inr (inl (rw h q.0), rw h q.1) ]
          | inr r ↦ inr (inr r.0, le_trans r.1 (no_higher I x))
        ];
        taken = λ x c o l. elim o [ inl p ↦ le_trans (no_higher J x) (I.taken x c p l) | inr q ↦ J.taken x c q (rw I.same l) ];
      }

-- ---- one cost offered for one node
pub improve_is : (ds : List Float) (v : ℕ) (c : Float) → AllNonneg ds → Nonneg binary64 c → Improved (λ x k. (x ≡ v) × (k ≡ c)) ds (improve ds v c)
unfolding improve
improve_is ds v c g n = go (lt c (distance_at ds v)) refl
  where
    go : (t : Bool) → lt c (distance_at ds v) ≡ t → Improved (λ x k. (x ≡ v) × (k ≡ c)) ds (elim t [ true ↦ set ds v c | false ↦ ds ])
    go true h =
        record {
          same = length-set ds v c;
          change = λ x. elim (set_cases ds v c infinity x) [ inl p ↦ inr ((p.0, p.1), rw (p.1, p.0) (lt_true c (distance_at ds v) n (g v) h)) | inr q ↦ inl q ];
          taken = λ x k o l. rw (o.0, o.1) (le_of_eq (ap (λ (d : Float). key binary64 d) (get_or-set_same ds v c infinity (rw o.0 at l))));
        }
    go false h = kept (λ x k o. rw (o.0, o.1) (lt_false c (distance_at ds v) n (g v) h))

-- an edge that leads from a to b: its offer counts where a is u, which is at the distance d
abbrev Offered : ℕ → Float → ℕ → ℕ → Float → ℕ → Float → Type 0
Offered u d a b w x c = (a ≡ u) × (b ≡ x) × (c ≡ add binary64 d w)

relax_is : (u : ℕ) (d : Float) (a b : ℕ) (w : Float) (ds : List Float) → AllNonneg ds → Nonneg binary64 d → Nonneg binary64 w → Improved (Offered u d a b w) ds (relax u d a b w ds)
unfolding relax
relax_is u d a b w ds g n m = go (eqb a u) refl
  where
    go : (t : Bool) → eqb a u ≡ t → Improved (Offered u d a b w) ds (elim t [ true ↦ improve ds b (add binary64 d w) | false ↦ ds ])
    go true h = offers_iff (improve_is ds b (add binary64 d w) g (add_nonneg binary64 d w n m)) (λ x c. (λ o. (eqb-true a u h, sym o.0, o.1), λ o. (sym o.1, o.2)))
    go false h = kept (λ x c o. absurd (eqb-false a u h o.0))

-- ---- all edges of u

-- a cost for x by way of u, which is at the distance d, and one edge
abbrev pub Next : ℕ → Float → List Edge → ℕ → Float → Type 0
Next u d es x c = (e : Edge) × In e es × Joins e u x × (c ≡ add binary64 d e.weight)

next_iff : (u : ℕ) (d : Float) (e : Edge) (es : List Edge) (x : ℕ) (c : Float)
    → ((Offered u d e.a e.b e.weight x c ⊎ Offered u d e.b e.a e.weight x c) ⊎ Next u d es x c) ↔ Next u d (e ∷ es) x c
next_iff u d e es x c = (to, λ o. from o.0 o.1 o.2 o.3)
  where
    to : (Offered u d e.a e.b e.weight x c ⊎ Offered u d e.b e.a e.weight x c) ⊎ Next u d es x c → Next u d (e ∷ es) x c
    to (inl (inl o)) = (e, inl refl, inl (o.0, o.1), o.2)
    to (inl (inr o)) = (e, inl refl, inr (o.1, o.0), o.2)
    to (inr o) = (o.0, inr o.1, o.2, o.3)

    from : (f : Edge) → In f (e ∷ es) → Joins f u x → c ≡ add binary64 d f.weight → (Offered u d e.a e.b e.weight x c ⊎ Offered u d e.b e.a e.weight x c) ⊎ Next u d es x c
    from f (inl h) (inl j) k = inl (inl (rw (← h) (j.0, j.1, k)))
    from f (inl h) (inr j) k = inl (inr (rw (← h) (j.1, j.0, k)))
    from f (inr i) j k = inr (f, i, j, k)

module _ (u : ℕ) (d : Float) (n : Nonneg binary64 d) where
  pub next_nonneg : (es : List Edge) → Weights es → (x : ℕ) (c : Float) → Next u d es x c → Nonneg binary64 c
  next_nonneg es weights x c o = rw o.3 (add_nonneg binary64 d o.0.weight n (weights o.0 o.1))

  pub relax_all_is : (es : List Edge) (ds : List Float) → Weights es → AllNonneg ds → Improved (Next u d es) ds (relax_all u d es ds)
  unfolding relax_all
  relax_all_is [] ds weights g = kept (λ x c o. absurd o.1)
  relax_all_is (e ∷ es) ds weights g =
      let m = weights e (inl refl) in
      let sum = add_nonneg binary64 d e.weight n m in
      let I = relax_is u d e.a e.b e.weight ds g n m in
      let g' = still_nonneg I g (λ x c o. rw o.2 sum) in
      let J = relax_is u d e.b e.a e.weight (relax u d e.a e.b e.weight ds) g' n m in
      let K = relax_all_is es _ (λ f i. weights f (inr i)) (still_nonneg J g' (λ x c o. rw o.2 sum)) in
      offers_iff (and_then (and_then I J) K) (next_iff u d e es)
