-- Laws of specs/Held: the answers of a table that holds the nodes of a list are those of the list. Assumes nothing.
use mathlib.Core.Path.{◌≡◌, refl, sym, ap, subst, ◌∙◌}
use mathlib.Core.Logic.{inl, inr}
use mathlib.Core.List.{List, [], ◌∷◌, ◌++◌, map, map-append}
use mathlib.Core.Bool.{Bool, true, false, ◌&&◌, cond}
use Prim.Native.Nat.{ℕ, zero, suc, ◌+◌, ◌-◌, ◌≤◌, ◌<◌}
use native.Mathlib.Nat.{mod-lt, not-suc-le-zero}
use native.Mathlib.Decide.{dec_le}
use native.Mathlib.Omega.{arith}
use lib.ListN.{length, get_or, set, replicate, length-set, length-append, length-replicate, length-map, get_or-replicate}
use lib.Seq.{sets, length-sets, get_or-set_same, get_or-set_other}
use lib.Dec.{eqb, ltb, lit<}
use borrow.Author.Tests.{lt-ltb, le-ltb, ltb-true, ltb-false, eqb-true, eqb-false, eq-eqb, ne_eqb}
use Rattle.limits.specs.Limits.{most_nodes}
use Rattle.lists.proofs.Parts.{sets_append}
use Rattle.drawing_spec.specs.Drawing.{Point, same}
use Rattle.drawing_spec.proofs.Same.{same_true, same_false, differ}
use Rattle.graph_spec.specs.Graph.{find, node_of, get_or_insert}
use Rattle.graph_spec.proofs.Nodes.{front, behind, neither}
use Rattle.graph_nodes.specs.Table.{Table, bucket_count, HasRoom, no_nodes, hash_of, is_at, seek, found_in, inserted, number_in, table_with, count_with}
use Rattle.graph_nodes.proofs.TableLaws.{seek_hit, seek_on, seek_none, number_found, number_new, with_found, with_new}
use Rattle.graph_nodes.specs.Held.{Held, Inside, answer}

inside_more : (m k : ℕ) → Inside m k → Inside (suc m) k
inside_more m k (inl h) = inl (omega arith)
inside_more m k (inr h) = inr h

hash_below : (x y : ℕ) → hash_of x y < bucket_count
unfolding hash_of
hash_below x y = mod-lt _ (lit< tt)

pub held_none : Held no_nodes []
unfolding find
held_none = record {
  room = omega arith;
  xs_are = refl;
  ys_are = refl;
  next_long = length-replicate {A = ℕ} most_nodes most_nodes;
  buckets_long = length-replicate {A = ℕ} bucket_count most_nodes;
  next_inside = λ j h. absurd (not-suc-le-zero h);
  buckets_inside = λ b h. inr (omega (arith, get_or-replicate {A = ℕ} bucket_count b most_nodes 0 h));
  found = λ p fuel h. seek_none _ _ _ p.x p.y fuel _ (omega (arith, get_or-replicate {A = ℕ} bucket_count (hash_of p.x p.y) most_nodes 0 (hash_below p.x p.y)));
}

-- ---- one node more

filled : (f : Point → ℕ) (ns : List Point) (p : Point) (l : List ℕ) → l ≡ sets (replicate most_nodes 0) 0 (map f ns)
    → set l (length ns) (f p) ≡ sets (replicate most_nodes 0) 0 (map f (ns ++ (p ∷ [])))
filled f ns p l e =
    let at : length ns ≡ 0 + length (map f ns) = omega (arith, length-map ns f) in
    ap (λ (k : List ℕ). set k (length ns) (f p)) e ∙ ap (λ (k : ℕ). set (sets (replicate most_nodes 0) 0 (map f ns)) k (f p)) at
    ∙ sym (sets_append (replicate most_nodes 0) 0 (map f ns) (f p ∷ [])) ∙ ap (sets (replicate most_nodes 0) 0) (sym (map-append f ns (p ∷ [])))

long : (f : Point → ℕ) (ns : List Point) (l : List ℕ) → l ≡ sets (replicate most_nodes 0) 0 (map f ns) → length l ≡ most_nodes
long f ns l e = ap length e ∙ length-sets (replicate most_nodes 0) 0 (map f ns) ∙ length-replicate {A = ℕ} most_nodes 0

-- the answer for another point than the new one
answer_kept : (ns : List Point) (p q : Point) → same p q ≡ false → answer ns p ≡ answer (ns ++ (q ∷ [])) p
answer_kept ns p q d = go (ltb (node_of ns p) (length ns)) refl
  where
    more : length (ns ++ (q ∷ [])) ≡ length ns + 1
    more = length-append ns (q ∷ [])

    go : (b : Bool) → ltb (node_of ns p) (length ns) ≡ b → cond b (node_of ns p) most_nodes ≡ answer (ns ++ (q ∷ [])) p
    go true e =
        let low : node_of ns p < length ns = ltb-true _ _ e in
        let is = front ns (q ∷ []) p low in
        let below : node_of (ns ++ (q ∷ [])) p < length (ns ++ (q ∷ [])) = omega (arith, is, more) in
        sym (ap (λ (b : Bool). cond b (node_of (ns ++ (q ∷ [])) p) most_nodes) (lt-ltb _ _ below) ∙ is)
    go false e =
        let is = neither ns p q (ltb-false _ _ e) d in
        let past : length (ns ++ (q ∷ [])) ≤ node_of (ns ++ (q ∷ [])) p = omega (arith, is, more) in
        sym (ap (λ (b : Bool). cond b (node_of (ns ++ (q ∷ [])) p) most_nodes) (le-ltb _ _ past))

answer_new : (ns : List Point) (q : Point) → length ns ≤ node_of ns q → answer (ns ++ (q ∷ [])) q ≡ length ns
answer_new ns q h =
    let is = behind ns q h in
    let below : node_of (ns ++ (q ∷ [])) q < length (ns ++ (q ∷ [])) = omega (arith, is, length-append ns (q ∷ [])) in
    ap (λ (b : Bool). cond b (node_of (ns ++ (q ∷ [])) q) most_nodes) (lt-ltb _ _ below) ∙ is

module _ (t : Table) (ns : List Point) (H : Held t ns) (q : Point) (new : length ns ≤ node_of ns q) (has : length ns < most_nodes) where
  -- a search among the older nodes goes on as before
  kept : (fuel x y i : ℕ) → Inside (length ns) i → seek fuel (set t.xs (length ns) q.x) (set t.ys (length ns) q.y) (set t.next (length ns) (get_or t.buckets (hash_of q.x q.y) 0)) x y i
      ≡ seek fuel t.xs t.ys t.next x y i
  unfolding seek
  kept zero x y i h = refl
  kept (suc fuel) x y i (inr h) =
      seek_none (set t.xs (length ns) q.x) (set t.ys (length ns) q.y) (set t.next (length ns) (get_or t.buckets (hash_of q.x q.y) 0)) x y (suc fuel) i h
      ∙ sym (seek_none t.xs t.ys t.next x y (suc fuel) i h)
  kept (suc fuel) x y i (inl h) =
      let off : i ≡ length ns → ⊥ = omega arith in
      let xs' = set t.xs (length ns) q.x in
      let ys' = set t.ys (length ns) q.y in
      let head = get_or t.buckets (hash_of q.x q.y) 0 in
      let ns' = set t.next (length ns) head in
      let x_is = get_or-set_other t.xs (length ns) i q.x 0 off in
      let y_is = get_or-set_other t.ys (length ns) i q.y 0 off in
      let n_is = get_or-set_other t.next (length ns) i head 0 off in
      ap (λ (k : ℕ). cond (ltb i most_nodes) (cond (eqb k x && eqb (get_or ys' i 0) y) i (seek fuel xs' ys' ns' x y (get_or ns' i 0))) most_nodes) x_is
      ∙ ap (λ (k : ℕ). cond (ltb i most_nodes) (cond (eqb (get_or t.xs i 0) x && eqb k y) i (seek fuel xs' ys' ns' x y (get_or ns' i 0))) most_nodes) y_is
      ∙ ap (λ (k : ℕ). cond (ltb i most_nodes) (cond (is_at t.xs t.ys x y i) i k) most_nodes)
      (ap (seek fuel xs' ys' ns' x y) n_is ∙ kept fuel x y (get_or t.next i 0) (H.next_inside i h))

  next_now : (j : ℕ) → j < length (ns ++ (q ∷ [])) → Inside (suc (length ns)) (get_or (set t.next (length ns) (get_or t.buckets (hash_of q.x q.y) 0)) j 0)
  next_now j h = elim (dec_le (suc j) (length ns)) [ yes i ↦ old i | no i ↦ last (omega (arith, length-append ns (q ∷ []), i)) ]
    where
      head : ℕ
      head = get_or t.buckets (hash_of q.x q.y) 0

      old : j < length ns → Inside (suc (length ns)) (get_or (set t.next (length ns) (get_or t.buckets (hash_of q.x q.y) 0)) j 0)
      old i =
          let off : j ≡ length ns → ⊥ = omega arith in
          subst (Inside (suc (length ns))) (sym (get_or-set_other t.next (length ns) j _ 0 off)) (inside_more _ _ (H.next_inside j i))

      last : j ≡ length ns → Inside (suc (length ns)) (get_or (set t.next (length ns) (get_or t.buckets (hash_of q.x q.y) 0)) j 0)
      last e =
          subst (Inside (suc (length ns)))
          (sym (ap (λ (k : ℕ). get_or (set t.next (length ns) (get_or t.buckets (hash_of q.x q.y) 0)) k 0) e ∙ get_or-set_same t.next (length ns) _ 0 (omega (arith, H.next_long))))
          (inside_more _ _ (H.buckets_inside (hash_of q.x q.y) (hash_below q.x q.y)))

  -- the head of a bucket: the new node, or the old head
  head_new : (b : ℕ) → b ≡ hash_of q.x q.y → get_or (set t.buckets (hash_of q.x q.y) (length ns)) b 0 ≡ length ns
  head_new b e =
      let low : hash_of q.x q.y < length t.buckets = omega (arith, hash_below q.x q.y, H.buckets_long) in
      ap (λ (k : ℕ). get_or (set t.buckets (hash_of q.x q.y) (length ns)) k 0) e ∙ get_or-set_same t.buckets (hash_of q.x q.y) (length ns) 0 low

  buckets_now : (b : ℕ) → b < bucket_count → Inside (suc (length ns)) (get_or (set t.buckets (hash_of q.x q.y) (length ns)) b 0)
  buckets_now b h = go (eqb b (hash_of q.x q.y)) refl
    where
      go : (e : Bool) → eqb b (hash_of q.x q.y) ≡ e → Inside (suc (length ns)) (get_or (set t.buckets (hash_of q.x q.y) (length ns)) b 0)
      go true e = inl (omega (arith, head_new b (eqb-true _ _ e)))
      go false e = subst (Inside (suc (length ns))) (sym (get_or-set_other t.buckets (hash_of q.x q.y) b (length ns) 0 (eqb-false _ _ e))) (inside_more _ _ (H.buckets_inside b h))

  -- a search that starts at the new node
  from_new : (p : Point) (fuel : ℕ) → length ns < fuel → hash_of p.x p.y ≡ hash_of q.x q.y
      → seek fuel (set t.xs (length ns) q.x) (set t.ys (length ns) q.y) (set t.next (length ns) (get_or t.buckets (hash_of q.x q.y) 0)) p.x p.y (length ns)
      ≡ answer (ns ++ (q ∷ [])) p
  from_new p fuel f e = go (same q p) refl
    where
      xs' : List ℕ
      xs' = set t.xs (length ns) q.x

      x_is : get_or (set t.xs (length ns) q.x) (length ns) 0 ≡ q.x
      x_is = get_or-set_same t.xs (length ns) q.x 0 (omega (arith, long (λ (p : Point). p.x) ns t.xs H.xs_are))

      y_is : get_or (set t.ys (length ns) q.y) (length ns) 0 ≡ q.y
      y_is = get_or-set_same t.ys (length ns) q.y 0 (omega (arith, long (λ (p : Point). p.y) ns t.ys H.ys_are))

      at_is : is_at (set t.xs (length ns) q.x) (set t.ys (length ns) q.y) p.x p.y (length ns) ≡ same q p
      at_is = ap (λ (k : ℕ). eqb k p.x && eqb (get_or (set t.ys (length ns) q.y) (length ns) 0) p.y) x_is ∙ ap (λ (k : ℕ). eqb q.x p.x && eqb k p.y) y_is

      go : (b : Bool) → same q p ≡ b
          → seek fuel (set t.xs (length ns) q.x) (set t.ys (length ns) q.y) (set t.next (length ns) (get_or t.buckets (hash_of q.x q.y) 0)) p.x p.y (length ns)
          ≡ answer (ns ++ (q ∷ [])) p
      go true d =
          seek_hit _ _ _ p.x p.y fuel (length ns) (omega arith) has (at_is ∙ d)
          ∙ sym (answer_new ns q new) ∙ ap (answer (ns ++ (q ∷ []))) (same_true q p d)
      go false d =
          let apart : same p q ≡ false = same_false p q (λ z. differ q p d (sym z)) in
          let next_is : get_or (set t.next (length ns) (get_or t.buckets (hash_of q.x q.y) 0)) (length ns) 0 ≡ get_or t.buckets (hash_of p.x p.y) 0 =
          get_or-set_same t.next (length ns) _ 0 (omega (arith, H.next_long)) ∙ ap (λ (k : ℕ). get_or t.buckets k 0) (sym e) in
          seek_on _ _ _ p.x p.y fuel (length ns) (omega arith) has (at_is ∙ d)
          ∙ ap (seek (fuel - 1) (set t.xs (length ns) q.x) (set t.ys (length ns) q.y) (set t.next (length ns) (get_or t.buckets (hash_of q.x q.y) 0)) p.x p.y) next_is
          ∙ kept (fuel - 1) p.x p.y _ (H.buckets_inside (hash_of p.x p.y) (hash_below p.x p.y))
          ∙ H.found p (fuel - 1) (omega arith) ∙ answer_kept ns p q apart

  found_now : (p : Point) (fuel : ℕ) → length ns < fuel → found_in fuel p.x p.y (inserted (length ns) q.x q.y t) ≡ answer (ns ++ (q ∷ [])) p
  unfolding inserted
  found_now p fuel f = go (eqb (hash_of p.x p.y) (hash_of q.x q.y)) refl
    where
      go : (b : Bool) → eqb (hash_of p.x p.y) (hash_of q.x q.y) ≡ b → found_in fuel p.x p.y (inserted (length ns) q.x q.y t) ≡ answer (ns ++ (q ∷ [])) p
      go true e =
          let is = eqb-true (hash_of p.x p.y) (hash_of q.x q.y) e in
          ap (seek fuel (set t.xs (length ns) q.x) (set t.ys (length ns) q.y) (set t.next (length ns) (get_or t.buckets (hash_of q.x q.y) 0)) p.x p.y) (head_new (hash_of p.x p.y) is)
          ∙ from_new p fuel f is
      go false e =
          let off = eqb-false (hash_of p.x p.y) (hash_of q.x q.y) e in
          let apart : same p q ≡ false = same_false p q (λ z. off (ap (λ (r : Point). hash_of r.x r.y) z)) in
          ap (seek fuel (set t.xs (length ns) q.x) (set t.ys (length ns) q.y) (set t.next (length ns) (get_or t.buckets (hash_of q.x q.y) 0)) p.x p.y)
          (get_or-set_other t.buckets (hash_of q.x q.y) (hash_of p.x p.y) (length ns) 0 off)
          ∙ kept fuel p.x p.y _ (H.buckets_inside (hash_of p.x p.y) (hash_below p.x p.y))
          ∙ H.found p fuel (omega arith) ∙ answer_kept ns p q apart

  held_new : Held (inserted (length ns) q.x q.y t) (ns ++ (q ∷ []))
  unfolding inserted
  held_new =
      let more : length (ns ++ (q ∷ [])) ≡ length ns + 1 = length-append ns (q ∷ []) in
      let one : suc (length ns) ≡ length (ns ++ (q ∷ [])) = omega arith in
      record {
        room = omega arith;
        xs_are = filled (λ (p : Point). p.x) ns q t.xs H.xs_are;
        ys_are = filled (λ (p : Point). p.y) ns q t.ys H.ys_are;
        next_long = length-set t.next (length ns) _ ∙ H.next_long;
        buckets_long = length-set t.buckets _ (length ns) ∙ H.buckets_long;
        next_inside = λ j h. subst (λ (k : ℕ). Inside k (get_or (set t.next (length ns) (get_or t.buckets (hash_of q.x q.y) 0)) j 0)) one (next_now j h);
        buckets_inside = λ b h. subst (λ (k : ℕ). Inside k (get_or (set t.buckets (hash_of q.x q.y) (length ns)) b 0)) one (buckets_now b h);
        found = λ p fuel h. found_now p fuel (omega arith);
      }

-- ---- the code's answers are the list's

pub get_or_insert_lem : (t : Table) (ns : List Point) (p : Point) → Held t ns → length (get_or_insert ns p) ≤ most_nodes
    → (number_in (length ns) p.x p.y t ≡ node_of (get_or_insert ns p) p) × Held (table_with (length ns) p.x p.y t) (get_or_insert ns p)
unfolding get_or_insert
get_or_insert_lem t ns p H r = go (ltb (node_of ns p) (length ns)) refl r
  where
    is : found_in (length ns) p.x p.y t ≡ answer ns p
    is = H.found p (length ns) (omega arith)

    go : (b : Bool) → ltb (node_of ns p) (length ns) ≡ b → length {A = Point} (elim b [ true ↦ ns | false ↦ ns ++ (p ∷ []) ]) ≤ most_nodes
        → (number_in (length ns) p.x p.y t ≡ node_of (elim b [ true ↦ ns | false ↦ ns ++ (p ∷ []) ]) p)
        × Held (table_with (length ns) p.x p.y t) (elim b [ true ↦ ns | false ↦ ns ++ (p ∷ []) ])
    go true e r =
        let at : found_in (length ns) p.x p.y t ≡ node_of ns p = is ∙ ap (λ (b : Bool). cond b (node_of ns p) most_nodes) e in
        let low : found_in (length ns) p.x p.y t < most_nodes = omega (arith, ltb-true (node_of ns p) (length ns) e, H.room) in
        (number_found (length ns) p.x p.y t low ∙ at, subst (λ (u : Table). Held u ns) (sym (with_found (length ns) p.x p.y t low)) H)
    go false e r =
        let at : found_in (length ns) p.x p.y t ≡ most_nodes = is ∙ ap (λ (b : Bool). cond b (node_of ns p) most_nodes) e in
        let high : most_nodes ≤ found_in (length ns) p.x p.y t = omega arith in
        let fits : length ns < most_nodes = omega (arith, length-append ns (p ∷ [])) in
        let new = ltb-false (node_of ns p) (length ns) e in (
          number_new (length ns) p.x p.y t high ∙ sym (behind ns p new),
          subst (λ (u : Table). Held u (ns ++ (p ∷ []))) (sym (with_new (length ns) p.x p.y t high)) (held_new t ns H p new fits),
        )

-- where the list of nodes fits, there is room for each of its points
pub held_room : (t : Table) (ns : List Point) (p : Point) → Held t ns → length (get_or_insert ns p) ≤ most_nodes → HasRoom (length ns) p.x p.y t
unfolding get_or_insert
held_room t ns p H r = go (ltb (node_of ns p) (length ns)) refl r
  where
    is : found_in (length ns) p.x p.y t ≡ answer ns p
    is = H.found p (length ns) (omega arith)

    go : (b : Bool) → ltb (node_of ns p) (length ns) ≡ b → length {A = Point} (elim b [ true ↦ ns | false ↦ ns ++ (p ∷ []) ]) ≤ most_nodes → HasRoom (length ns) p.x p.y t
    go true e r = inl (omega (arith, is ∙ ap (λ (b : Bool). cond b (node_of ns p) most_nodes) e, ltb-true (node_of ns p) (length ns) e, H.room))
    go false e r = inr (omega (arith, length-append ns (p ∷ [])))

-- the number of nodes with the point
pub counted : (ns : List Point) (p : Point) → count_with (length ns) (node_of (get_or_insert ns p) p) ≡ length (get_or_insert ns p)
unfolding get_or_insert count_with
counted ns p = go (ltb (node_of ns p) (length ns)) refl
  where
    go : (b : Bool) → ltb (node_of ns p) (length ns) ≡ b
        → count_with (length ns) (node_of (elim b [ true ↦ ns | false ↦ ns ++ (p ∷ []) ]) p) ≡ length {A = Point} (elim b [ true ↦ ns | false ↦ ns ++ (p ∷ []) ])
    go true e = let low = ltb-true (node_of ns p) (length ns) e in ap (λ (b : Bool). cond b (length ns + 1) (length ns)) (ne_eqb (node_of ns p) (length ns) (omega arith))
    go false e =
        let new = ltb-false (node_of ns p) (length ns) e in
        ap (λ (b : Bool). cond b (length ns + 1) (length ns)) (eq-eqb (node_of (ns ++ (p ∷ [])) p) (length ns) (behind ns p new)) ∙ sym (length-append ns (p ∷ []))
