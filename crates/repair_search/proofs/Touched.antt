-- Laws of specs/Touched: a node is listed once, when it gets its first distance, so the list never outgrows its room; resetting what is listed resets all.
use mathlib.Core.Path.{◌≡◌, refl, sym, ap, subst, ◌∙◌}
use mathlib.Core.Logic.{◌⊎◌, inl, inr}
use mathlib.Core.List.{List, [], ◌∷◌}
use mathlib.Core.Bool.{Bool, true, false, true≢false}
use Prim.Native.Nat.{ℕ, zero, suc, ◌+◌, ◌*◌, ◌≤◌, ◌<◌}
use native.Mathlib.Nat.{le_antisymm, le_trans, le_of_suc-le-suc, not-suc-le-zero}
use native.Mathlib.Numerals.{add-one}
use native.Mathlib.Decide.{dec_le}
use native.Mathlib.Omega.{arith}
use lib.ListN.{length, get_or, set, replicate, length-set, length-replicate, get_or-replicate}
use lib.Seq.{get_or-set_same, get_or-set_other, ext_get_or}
use lib.Ieee.{Float, nan, binary64, lt}
use borrow.Author.Tests.{lt-ltb}
use Rattle.limits.specs.Limits.{most_nodes}
use Rattle.sums.specs.Key.{Nonneg, key}
use Rattle.sums.proofs.KeyLaws.{key_top, lt_key, lt_true}
use Rattle.sums.proofs.Sum.{inf_nonneg}
use Rattle.lists.proofs.Elements.{get_d_same}
use Rattle.repair_tournament.specs.Tree.{value, no_values, Tree, Stored}
use Rattle.repair_tournament.proofs.Tree.{tree_none}
use Rattle.repair_spec.specs.Distance.{infinity, zero_length, distance_at}
use Rattle.repair_search.specs.declared.Search.{Search}
use Rattle.repair_search.specs.Touched.{reached, Listed, ListedWith, Touched, Unreached}
use Rattle.lists.proofs.Elements.{get_d_inside}

-- a search by its three arrays
abbrev pub searched : List Float → List Float → List ℕ → Search
searched ds t touched = record { dist = ds; tree = record { values = t }; touched = touched }

-- ---- below infinity

-- what is less than something is less than infinity
pub below_infinity : (c d : Float) → Nonneg binary64 c → Nonneg binary64 d → lt c d ≡ true → lt c infinity ≡ true
below_infinity c d p q h =
    lt_key binary64 c infinity p (inf_nonneg binary64) ∙ lt-ltb (key binary64 c) (key binary64 infinity) (le_trans (lt_true c d p q h) (key_top binary64 d q))

pub zero_below : lt zero_length infinity ≡ true
unfolding lt
zero_below = refl

far_not : lt infinity infinity ≡ false
unfolding lt
far_not = refl

-- ---- how many are reached

reached_none : (k : ℕ) → reached (replicate k infinity) ≡ 0
unfolding reached
reached_none zero = refl
reached_none (suc k) = ap (λ (b : Bool). elim b [ true ↦ suc (reached (replicate k infinity)) | false ↦ reached (replicate k infinity) ]) far_not ∙ reached_none k

reached_low : (ds : List Float) → reached ds ≤ length ds
unfolding reached
reached_low [] = omega arith
reached_low (d ∷ ds) = go (lt d infinity) (reached_low ds)
  where
    go : (b : Bool) → reached ds ≤ length ds → elim b [ true ↦ suc (reached ds) | false ↦ reached ds ] ≤ suc (length ds)
    go true h = omega arith
    go false h = omega arith

-- a first distance is one more
reached_more : (ds : List Float) (v : ℕ) (c : Float) → v < length ds → lt (distance_at ds v) infinity ≡ false → lt c infinity ≡ true → reached (set ds v c) ≡ suc (reached ds)
unfolding reached
reached_more [] v c l h k = absurd (not-suc-le-zero l)
reached_more (d ∷ ds) zero c l h k =
    ap (λ (b : Bool). elim b [ true ↦ suc (reached ds) | false ↦ reached ds ]) k ∙ sym (ap (λ (b : Bool). suc (elim b [ true ↦ suc (reached ds) | false ↦ reached ds ])) h)
reached_more (d ∷ ds) (suc v) c l h k = go (lt d infinity) (reached_more ds v c (le_of_suc-le-suc l) h k)
  where
    go : (b : Bool) → reached (set ds v c) ≡ suc (reached ds) → elim b [ true ↦ suc (reached (set ds v c)) | false ↦ reached (set ds v c) ] ≡ suc (elim b [ true ↦ suc (reached ds) | false ↦ reached ds ])
    go true e = ap suc e
    go false e = e

-- another is not
reached_same : (ds : List Float) (v : ℕ) (c : Float) → v < length ds → lt (distance_at ds v) infinity ≡ true → lt c infinity ≡ true → reached (set ds v c) ≡ reached ds
unfolding reached
reached_same [] v c l h k = absurd (not-suc-le-zero l)
reached_same (d ∷ ds) zero c l h k =
    ap (λ (b : Bool). elim b [ true ↦ suc (reached ds) | false ↦ reached ds ]) k ∙ sym (ap (λ (b : Bool). elim b [ true ↦ suc (reached ds) | false ↦ reached ds ]) h)
reached_same (d ∷ ds) (suc v) c l h k = go (lt d infinity) (reached_same ds v c (le_of_suc-le-suc l) h k)
  where
    go : (b : Bool) → reached (set ds v c) ≡ reached ds → ◌≡◌ {A = ℕ} (elim b [ true ↦ suc (reached (set ds v c)) | false ↦ reached (set ds v c) ]) (elim b [ true ↦ suc (reached ds) | false ↦ reached ds ])
    go true e = ap suc e
    go false e = e

-- ---- listing

same_or_not : (w v : ℕ) → (w ≡ v) ⊎ (w ≡ v → ⊥)
same_or_not w v = elim (dec_le w v) [ yes a ↦ elim (dec_le v w) [ yes b ↦ inl (le_antisymm a b) | no b ↦ inr (λ e. omega arith) ] | no a ↦ inr (λ e. omega arith) ]

pub listed_none : (n : ℕ) (touched : List ℕ) → length touched ≡ most_nodes → Listed n (replicate most_nodes infinity) touched 0
listed_none n touched h = record {
  long = h;
  counts = sym (reached_none most_nodes);
  nodes = λ j l. absurd (not-suc-le-zero l);
  covers = λ v. inl (get_d_same most_nodes v infinity);
}

module _ (n : ℕ) (few : n ≤ most_nodes) (ds : List Float) (long : length ds ≡ most_nodes) (touched : List ℕ) (count : ℕ) (L : Listed n ds touched count) (v : ℕ) (is_node : v < n) where
  inside : v < length ds
  inside = omega arith

  -- v has a distance
  pub listed_again : lt (get_or ds v nan) infinity ≡ true → ListedWith n v ds touched count
  listed_again h c k =
      let was : lt (distance_at ds v) infinity ≡ true = ap (λ (x : Float). lt x infinity) (get_d_inside ds v infinity nan inside) ∙ h in
      record {
        long = L.long;
        counts = L.counts ∙ sym (reached_same ds v c inside was k);
        nodes = L.nodes;
        covers = λ w. elim (same_or_not w v) [
          | inl e ↦ elim (L.covers v) [
            | inl f ↦ absurd (true≢false (sym was ∙ ap (λ (x : Float). lt x infinity) f ∙ far_not))
            | inr q ↦ inr (q.0, q.1, q.2 ∙ sym e)
          ]
          | inr o ↦ elim (L.covers w) [ inl f ↦ inl (get_or-set_other ds v w c infinity o ∙ f) | inr q ↦ inr q ]
        ];
      }

  -- or gets its first
  module _ (h : lt (get_or ds v nan) infinity ≡ false) where
    was : lt (distance_at ds v) infinity ≡ false
    was = ap (λ (x : Float). lt x infinity) (get_d_inside ds v infinity nan inside) ∙ h

    -- there is room for it
    pub listed_room : count < most_nodes
    listed_room =
        let one : reached (set ds v zero_length) ≡ suc (reached ds) = reached_more ds v zero_length inside was zero_below in
        omega (arith, reached_low (set ds v zero_length), length-set ds v zero_length, L.counts)

    pub listed_first : ListedWith n v ds (set touched count v) (count + 1)
    listed_first c k = record {
      long = length-set touched count v ∙ L.long;
      counts = add-one count ∙ ap suc L.counts ∙ sym (reached_more ds v c inside was k);
      nodes = λ j l. elim (same_or_not j count) [
        | inl e ↦ subst (λ (x : ℕ). x < n) (sym (ap (λ (i : ℕ). get_or (set touched count v) i 0) e ∙ placed)) is_node
        | inr o ↦ subst (λ (x : ℕ). x < n) (sym (get_or-set_other touched count j v 0 o)) (L.nodes j (earlier j l o))
      ];
      covers = λ w. elim (same_or_not w v) [
        | inl e ↦ inr (count, omega arith, placed ∙ sym e)
        | inr o ↦ elim (L.covers w) [
          | inl f ↦ inl (get_or-set_other ds v w c infinity o ∙ f)
          | inr q ↦ inr (q.0, later q.0 q.1, get_or-set_other touched count q.0 v 0 (other q.0 q.1) ∙ q.2)
        ]
      ];
    }
      where
        placed : get_or (set touched count v) count 0 ≡ v
        placed = get_or-set_same touched count v 0 (omega (arith, listed_room, L.long))

        earlier : (j : ℕ) → j < count + 1 → (j ≡ count → ⊥) → j < count
        earlier j l o = elim (dec_le count j) [ yes b ↦ absurd (o (le_antisymm (omega arith) b)) | no b ↦ omega arith ]

        later : (j : ℕ) → j < count → j < count + 1
        later j l = omega arith

        other : (j : ℕ) → j < count → j ≡ count → ⊥
        other j l e = omega arith

-- no more nodes are listed than there are
pub listed_few : (n : ℕ) (ds : List Float) (touched : List ℕ) (count : ℕ) → Listed n ds touched count → length ds ≡ most_nodes → count ≤ most_nodes
listed_few n ds touched count L long = omega (arith, reached_low ds, L.counts)

-- ---- clearing

-- what is listed from the place j on is all that is left
pub record Clearing (n : ℕ) (touched : List ℕ) (count : ℕ) (j : ℕ) (ds t : List Float) : Type 0 where
  pub most : j ≤ count
  pub long : length ds ≡ most_nodes
  pub tree : Tree n t
  pub values : (w : ℕ) → w < n → distance_at ds w ≡ infinity → value n t w ≡ infinity
  pub left : (v : ℕ) → (distance_at ds v ≡ infinity) ⊎ ((i : ℕ) × (j ≤ i) × (i < count) × (get_or touched i 0 ≡ v))

module _ (n : ℕ) (few : n ≤ most_nodes) (touched : List ℕ) (count : ℕ) where
  pub clearing_begin : (ds t : List Float) → Touched n (searched ds t touched) count → Clearing n touched count 0 ds t
  clearing_begin ds t T = record {
    most = omega arith;
    long = T.long;
    tree = T.tree;
    values = T.values;
    left = λ v. elim (T.listed.covers v) [ inl e ↦ inl e | inr q ↦ inr (q.0, omega arith, q.1, q.2) ];
  }

  module _ (j : ℕ) (ds t : List Float) (C : Clearing n touched count j ds t) where
    pub clearing_step : j < count → (v : ℕ) → v ≡ get_or touched j 0 → v < n → (t' : List Float) → Stored n v infinity t t'
        → Clearing n touched count (j + 1) (set ds v infinity) t'
    clearing_step l v is is_node t' S = record {
      most = omega arith;
      long = length-set ds v infinity ∙ C.long;
      tree = S.tree;
      values = λ w h e. elim (same_or_not w v) [
        | inl q ↦ ap (λ (x : ℕ). value n t' x) q ∙ S.new
        | inr o ↦ S.others w o ∙ C.values w h (sym (get_or-set_other ds v w infinity infinity o) ∙ e)
      ];
      left = λ w. elim (same_or_not w v) [
        | inl q ↦ inl (ap (λ (x : ℕ). distance_at (set ds v infinity) x) q ∙ get_or-set_same ds v infinity infinity (omega (arith, C.long)))
        | inr o ↦ elim (C.left w) [
          | inl e ↦ inl (get_or-set_other ds v w infinity infinity o ∙ e)
          | inr q ↦ elim (same_or_not q.0 j) [
            | inl e ↦ absurd (o (sym q.3 ∙ ap (λ (i : ℕ). get_or touched i 0) e ∙ sym is))
            | inr p ↦ inr (q.0, behind q.0 q.1 p, q.2, q.3)
          ]
        ]
      ];
    }
      where
        behind : (i : ℕ) → j ≤ i → (i ≡ j → ⊥) → j + 1 ≤ i
        behind i h p = elim (dec_le i j) [ yes b ↦ absurd (p (le_antisymm b h)) | no b ↦ omega arith ]

    pub clearing_end : (j < count → ⊥) → length touched ≡ most_nodes → Unreached n (searched ds t touched)
    clearing_end h room =
        let all : (v : ℕ) → distance_at ds v ≡ infinity = λ v. elim (C.left v) [ inl e ↦ e | inr q ↦ absurd (h (le_trans (suc_mono j q.0 q.1) q.2)) ] in
        record {
          none = ext_get_or infinity ds (replicate most_nodes infinity) (C.long ∙ sym (length-replicate most_nodes infinity)) (λ i l. all i ∙ sym (get_d_same most_nodes i infinity));
          tree = C.tree;
          values = λ w l. C.values w l (all w);
          room = room;
        }
      where
        suc_mono : (a b : ℕ) → a ≤ b → suc a ≤ suc b
        suc_mono a b h = omega arith

-- arrays that were never searched in
pub unreached_new : (n : ℕ) → n ≤ most_nodes → Unreached n (searched (replicate most_nodes infinity) no_values (replicate most_nodes 0))
unreached_new n few = record { none = refl; tree = tree_none n few; values = λ w l. get_or-replicate (2 * most_nodes) (n + w) infinity nan (omega arith); room = length-replicate {A = ℕ} most_nodes 0 }
