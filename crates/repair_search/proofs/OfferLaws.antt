-- Laws of specs/Offer.
use mathlib.Core.Path.{◌≡◌, refl, sym, ap, ◌∙◌}
use mathlib.Core.Logic.{inl, inr}
use mathlib.Core.List.{List}
use mathlib.Core.Bool.{Bool, true, false}
use Prim.Native.Nat.{ℕ, ◌≤◌, ◌<◌}
use native.Mathlib.Nat.{le_antisymm}
use native.Mathlib.Decide.{dec_le}
use native.Mathlib.Omega.{arith}
use lib.ListN.{length, get_or, set, length-set}
use lib.Seq.{get_or-set_same, get_or-set_other}
use lib.Ieee.{Float, nan, binary64, lt}
use Rattle.limits.specs.Limits.{most_nodes}
use Rattle.lists.proofs.Elements.{get_d_inside}
use Rattle.sums.specs.Key.{Nonneg}
use Rattle.sums.proofs.KeyLaws.{lt_true}
use Rattle.repair_tournament.specs.Tree.{Stored}
use Rattle.repair_spec.specs.Distance.{infinity, distance_at, improve}
use Rattle.repair_spec.proofs.Relax.{still_nonneg, improve_is}
use Rattle.repair_search.specs.Offer.{Held, Offered, Together}

pub together_same : (n : ℕ) (ds t : List Float) → Together n ds t ds t
together_same n ds t w l = inl (refl, refl)

pub together_then : (n : ℕ) (ds t ds' t' ds'' t'' : List Float) → Together n ds t ds' t' → Together n ds' t' ds'' t'' → Together n ds t ds'' t''
together_then n ds t ds' t' ds'' t'' f g w l = elim (g w l) [
  | inl q ↦ elim (f w l) [ inl p ↦ inl (q.0 ∙ p.0, q.1 ∙ p.1) | inr p ↦ inr (q.1 ∙ p.0 ∙ sym q.0, rw q.0 p.1) ]
  | inr q ↦ elim (f w l) [ inl p ↦ inr (q.0, rw p.0 at q.1) | inr p ↦ inr (q.0, omega (arith, q.1, p.1)) ]
]

pub improve_lower : (ds : List Float) (v : ℕ) (c : Float) → lt c (distance_at ds v) ≡ true → improve ds v c ≡ set ds v c
unfolding improve
improve_lower ds v c h = ap (λ (b : Bool). elim b [ true ↦ set ds v c | false ↦ ds ]) h

pub improve_not : (ds : List Float) (v : ℕ) (c : Float) → lt c (distance_at ds v) ≡ false → improve ds v c ≡ ds
unfolding improve
improve_not ds v c h = ap (λ (b : Bool). elim b [ true ↦ set ds v c | false ↦ ds ]) h

module _ (n v : ℕ) (c : Float) (ds t : List Float) (few : n ≤ most_nodes) (is_node : v < n) (H : Held n ds t) where
  room : v < length ds
  room = omega (arith, H.long)

  pub offer_not : lt c (get_or ds v nan) ≡ false → Offered n v c ds t ds t
  offer_not h = record {
    improved = sym (improve_not ds v c (ap (lt c) (get_d_inside ds v infinity nan room) ∙ h));
    held = H;
    together = together_same n ds t;
  }

  pub offer_lower : Nonneg binary64 c → lt c (get_or ds v nan) ≡ true → (t' : List Float) → Stored n v c t t' → Offered n v c ds t (set ds v c) t'
  offer_lower p h t' S =
      let lower : lt c (distance_at ds v) ≡ true = ap (lt c) (get_d_inside ds v infinity nan room) ∙ h in
      let is = improve_lower ds v c lower in
      let new : distance_at (set ds v c) v ≡ c = get_or-set_same ds v c infinity room in
      record {
        improved = sym is;
        held = record {
          tree = S.tree;
          long = length-set ds v c ∙ H.long;
          nonneg = rw is at (still_nonneg (improve_is ds v c H.nonneg p) H.nonneg (λ x k o. rw o.1 p));
        };
        together = λ w l. elim (dec_le w v) [
          | yes a ↦ elim (dec_le v w) [
            | yes b ↦ let e : w ≡ v = le_antisymm a b in inr (rw (e, new) S.new, rw (e, new) (lt_true c (distance_at ds v) p (H.nonneg v) lower))
            | no b ↦ inl (get_or-set_other ds v w c infinity (omega arith), S.others w (omega arith))
          ]
          | no a ↦ inl (get_or-set_other ds v w c infinity (omega arith), S.others w (omega arith))
        ];
      }
