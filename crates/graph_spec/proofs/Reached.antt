-- Check 9 is what document 01 says: it passes exactly when every node can be reached from node 0.
use mathlib.Core.Path.{◌≡◌, refl, sym, ap, ◌∙◌, subst}
use mathlib.Core.Logic.{◌⊎◌, inl, inr}
use mathlib.Core.List.{List, [], ◌∷◌}
use mathlib.Core.Bool.{Bool, true, false, false≢true}
use Prim.Native.Nat.{ℕ, zero, suc, ◌+◌, ◌≤◌, ◌<◌, suc-le-suc}
use native.Mathlib.Nat.{not-suc-le-zero, le_of_suc-le-suc}
use native.Mathlib.Omega.{arith}
use lib.ListN.{length, get_or, set, replicate, length-set, length-replicate}
use lib.Seq.{get_or-set_same}
use Rattle.lists.specs.Members.{In, All}
use Rattle.lists.proofs.Members.{all_in}
use Rattle.lists.proofs.Elements.{set_cases, get_d_same, set_keeps}
use Rattle.graph_spec.specs.Graph.{Edge}
use Rattle.graph_spec.specs.Odd.{one}
use Rattle.graph_spec.specs.Count.{sum_over}
use Rattle.graph_spec.specs.Ways.{Joins, Joined, Inside, Reach, here, on}
use Rattle.graph_spec.specs.Reach.{spread, sweep, sweeps, all_true, all_reached}

-- the node v is marked
abbrev Marked : List Bool → ℕ → Type 0
Marked ms v = get_or ms v false ≡ true

-- ---- spreading and sweeping

-- the mark goes on from u where it stands there
spread_case : (ms : List Bool) (u v : ℕ) (P : List Bool → Type 0) → P ms → (Marked ms u → P (set ms v true)) → P (spread ms u v)
unfolding spread
spread_case ms u v P no_mark mark = go (get_or ms u false) refl
  where
    go : (t : Bool) → get_or ms u false ≡ t → P (elim t [ true ↦ set ms v true | false ↦ ms ])
    go true e = mark e
    go false e = no_mark

spread_length : (ms : List Bool) (u v : ℕ) → length (spread ms u v) ≡ length ms
spread_length ms u v = spread_case ms u v (λ (k : List Bool). length k ≡ length ms) refl (λ m. length-set ms v true)

sweep_length : (es : List Edge) (ms : List Bool) → length (sweep es ms) ≡ length ms
unfolding sweep
sweep_length [] ms = refl
sweep_length (e ∷ es) ms =
    let n = spread ms e.a e.b in
    sweep_length es (spread n e.b e.a) ∙ spread_length n e.b e.a ∙ spread_length ms e.a e.b

sweeps_length : (k : ℕ) (es : List Edge) (ms : List Bool) → length (sweeps k es ms) ≡ length ms
unfolding sweeps
sweeps_length zero es ms = refl
sweeps_length (suc k) es ms = sweeps_length k es (sweep es ms) ∙ sweep_length es ms

-- of n nodes the first is marked before the first sweep
started : (n : ℕ) → length (set (replicate n false) 0 true) ≡ n
started n = length-set (replicate n false) 0 true ∙ length-replicate n false

-- ---- every node that can be reached is marked: each sweep marks one more, or the marks are closed under edges, and there are only n to mark

sweep_keeps : (es : List Edge) (ms : List Bool) (v : ℕ) → Marked ms v → Marked (sweep es ms) v
unfolding sweep
sweep_keeps [] ms v m = m
sweep_keeps (e ∷ es) ms v m =
    let n = spread ms e.a e.b in
    sweep_keeps es (spread n e.b e.a) v (kept n e.b e.a (kept ms e.a e.b m))
  where
    kept : (ms : List Bool) (u w : ℕ) → Marked ms v → Marked (spread ms u w) v
    kept ms u w m = spread_case ms u w (λ (k : List Bool). Marked k v) m (λ h. set_keeps ms w true false v m)

sweeps_keep : (k : ℕ) (es : List Edge) (ms : List Bool) (v : ℕ) → Marked ms v → Marked (sweeps k es ms) v
unfolding sweeps
sweeps_keep zero es ms v m = m
sweeps_keep (suc k) es ms v m = sweeps_keep k es (sweep es ms) v (sweep_keeps es ms v m)

-- how many nodes are marked
abbrev count : List Bool → ℕ
count ms = sum_over one ms

count_le : (ms : List Bool) → count ms ≤ length ms
unfolding sum_over
count_le [] = omega arith
count_le (true ∷ ms) = omega (arith, count_le ms)
count_le (false ∷ ms) = omega (arith, count_le ms)

-- from ms to ks: the marks stay and P holds, or there are more of them
abbrev Grows : List Bool → List Bool → Type 0 → Type 0
Grows ms ks P = ((ks ≡ ms) × P) ⊎ (count ms < count ks)

-- one such change and then another
both : (ms ks ls : List Bool) (P : Type 0) (Q : List Bool → Type 0) → Grows ms ks P → Grows ks ls (Q ks) → Grows ms ls (P × Q ms)
both ms ks ls P Q (inl h) (inl k) = inl (k.0 ∙ h.0, (h.1, subst Q h.0 k.1))
both ms ks ls P Q (inl h) (inr k) = inr (rw h.0 at k)
both ms ks ls P Q (inr h) (inl k) = inr (rw k.0 h)
both ms ks ls P Q (inr h) (inr k) = inr (omega arith)

set_grows : (ms : List Bool) (v : ℕ) → Grows ms (set ms v true) Unit
unfolding sum_over
set_grows [] v = inl (refl, tt)
set_grows (true ∷ ms) zero = inl (refl, tt)
set_grows (false ∷ ms) zero = inr (omega arith)
set_grows (b ∷ ms) (suc v) = elim (set_grows ms v) [ inl h ↦ inl (ap (λ (k : List Bool). b ∷ k) h.0, tt) | inr h ↦ inr (omega arith) ]

spread_grows : (ms : List Bool) (u v : ℕ) → v < length ms → Grows ms (spread ms u v) (Marked ms u → Marked ms v)
unfolding spread
spread_grows ms u v l = go (get_or ms u false) refl
  where
    go : (t : Bool) → get_or ms u false ≡ t → Grows ms (elim t [ true ↦ set ms v true | false ↦ ms ]) (Marked ms u → Marked ms v)
    go true e = elim (set_grows ms v) [ inl h ↦ inl (h.0, λ m. subst (λ (k : List Bool). Marked k v) h.0 (get_or-set_same ms v true false l)) | inr h ↦ inr h ]
    go false e = inl (refl, λ m. absurd (false≢true (sym e ∙ m)))

-- along an edge the mark goes both ways
abbrev Carries : List Bool → Edge → Type 0
Carries ms e = (Marked ms e.a → Marked ms e.b) × (Marked ms e.b → Marked ms e.a)

sweep_grows : (es : List Edge) (ms : List Bool) → Inside (length ms) es → Grows ms (sweep es ms) (All (Carries ms) es)
unfolding sweep
sweep_grows [] ms i = inl (refl, tt)
sweep_grows (e ∷ es) ms i =
    let n = spread ms e.a e.b in
    let k = spread n e.b e.a in
    let ln = spread_length ms e.a e.b in
    let lk : length k ≡ length ms = spread_length n e.b e.a ∙ ln in
    let inside = i e (inl refl) in
    both ms k (sweep es k) (Carries ms e) (λ (m : List Bool). All (Carries m) es)
    (both ms n k (Marked ms e.a → Marked ms e.b) (λ (m : List Bool). Marked m e.b → Marked m e.a)
    (spread_grows ms e.a e.b inside.1) (spread_grows n e.b e.a (rw ln inside.0)))
    (sweep_grows es k (λ x j. rw lk (i x (inr j))))

sweeps_still : (k : ℕ) (es : List Edge) (ms : List Bool) → sweep es ms ≡ ms → sweeps k es ms ≡ ms
unfolding sweeps
sweeps_still zero es ms e = refl
sweeps_still (suc k) es ms e = rw e (sweeps_still k es ms e)

sweeps_grow : (k : ℕ) (es : List Edge) (ms : List Bool) → Inside (length ms) es → All (Carries (sweeps k es ms)) es ⊎ (count ms + k ≤ count (sweeps k es ms))
unfolding sweeps
sweeps_grow zero es ms i = inr (omega arith)
sweeps_grow (suc k) es ms i = go (sweep_grows es ms i) (sweeps_grow k es (sweep es ms) (rw (sweep_length es ms) i))
  where
    go : Grows ms (sweep es ms) (All (Carries ms) es) → All (Carries (sweeps k es (sweep es ms))) es ⊎ (count (sweep es ms) + k ≤ count (sweeps k es (sweep es ms)))
        → All (Carries (sweeps k es (sweep es ms))) es ⊎ (count ms + suc k ≤ count (sweeps k es (sweep es ms)))
    go (inl h) r = inl (rw (h.0, sweeps_still k es ms h.0) h.1)
    go (inr h) (inl c) = inl c
    go (inr h) (inr g) = inr (omega arith)

carried : (es : List Edge) (ms : List Bool) → All (Carries ms) es → Marked ms 0 → (v : ℕ) → Reach es 0 v → Marked ms v
carried es ms c m v here = m
carried es ms c m v (on {u = u} r j) = go j.joins (all_in (Carries ms) es c j.by j.is_in) (carried es ms c m u r)
  where
    go : Joins j.by u v → Carries ms j.by → Marked ms u → Marked ms v
    go (inl p) c h = rw p.1 at (c.0 (rw p.0 h))
    go (inr p) c h = rw p.0 at (c.1 (rw p.1 h))

marked_all : (ms : List Bool) → ((v : ℕ) → v < length ms → Marked ms v) → all_true ms ≡ true
unfolding all_true
marked_all [] h = refl
marked_all (b ∷ ms) h = rw (h 0 (omega arith)) (marked_all ms (λ v l. h (suc v) (suc-le-suc l)))

-- check 9 passes where every node can be reached
pub reached_all : (n : ℕ) (es : List Edge) → Inside n es → ((v : ℕ) → v < n → Reach es 0 v) → all_reached n es ≡ true
unfolding all_reached sum_over
reached_all zero es i r = refl
reached_all (suc n) es i r =
    let ms = set (replicate (suc n) false) 0 true in
    let ks = sweeps (suc n) es ms in
    let l : length ms ≡ suc n = started (suc n) in
    let lk : length ks ≡ suc n = sweeps_length (suc n) es ms ∙ l in
    marked_all ks (λ v h. elim (sweeps_grow (suc n) es ms (rw l i)) [
      | inl c ↦ carried es ks c (sweeps_keep (suc n) es ms 0 refl) v (r v (rw lk at h))
      | inr g ↦ absurd (omega (arith, count_le ks))
    ])

-- ---- only nodes that can be reached are marked

set_marks : (ms : List Bool) (u v : ℕ) → Marked (set ms u true) v → (v ≡ u) ⊎ Marked ms v
set_marks ms u v m = elim (set_cases ms u true false v) [ inl p ↦ inl p.0 | inr e ↦ inr (sym e ∙ m) ]

abbrev Sound : List Edge → List Bool → Type 0
Sound es ms = (v : ℕ) → Marked ms v → Reach es 0 v

module _ (all : List Edge) where
  spread_sound : (ms : List Bool) (u v : ℕ) → Joined all u v → Sound all ms → Sound all (spread ms u v)
  spread_sound ms u v j s =
      spread_case ms u v (Sound all) s
      (λ m w k. elim (set_marks ms v w k) [ inl e ↦ subst (λ (n : ℕ). Reach all 0 n) (sym e) (on (s u m) j) | inr h ↦ s w h ])

  sweep_sound : (es : List Edge) (ms : List Bool) → ((e : Edge) → In e es → In e all) → Sound all ms → Sound all (sweep es ms)
  unfolding sweep
  sweep_sound [] ms sub s = s
  sweep_sound (e ∷ es) ms sub s =
      sweep_sound es (spread (spread ms e.a e.b) e.b e.a) (λ x i. sub x (inr i))
      (spread_sound (spread ms e.a e.b) e.b e.a (record { by = e; is_in = sub e (inl refl); joins = inr (refl, refl) })
      (spread_sound ms e.a e.b (record { by = e; is_in = sub e (inl refl); joins = inl (refl, refl) }) s))

  sweeps_sound : (k : ℕ) (ms : List Bool) → Sound all ms → Sound all (sweeps k all ms)
  unfolding sweeps
  sweeps_sound zero ms s = s
  sweeps_sound (suc k) ms s = sweeps_sound k (sweep all ms) (sweep_sound all ms (λ e i. i) s)

  start_sound : (n : ℕ) → Sound all (set (replicate n false) 0 true)
  start_sound n v m = elim (set_marks (replicate n false) 0 v m) [ inl e ↦ subst (λ (k : ℕ). Reach all 0 k) (sym e) here | inr h ↦ absurd (false≢true (sym (get_d_same n v false) ∙ h)) ]

all_marked : (ms : List Bool) → all_true ms ≡ true → (v : ℕ) → v < length ms → Marked ms v
unfolding all_true
all_marked [] e v h = absurd (not-suc-le-zero h)
all_marked (true ∷ ms) e zero h = refl
all_marked (true ∷ ms) e (suc v) h = all_marked ms e v (le_of_suc-le-suc h)
all_marked (false ∷ ms) e v h = absurd (false≢true e)

-- and where it passes every node can be
pub all_reached_lem : (n : ℕ) (es : List Edge) → all_reached n es ≡ true → (v : ℕ) → v < n → Reach es 0 v
unfolding all_reached
all_reached_lem n es e v h =
    let ms = set (replicate n false) 0 true in
    sweeps_sound es n ms (start_sound es n) v (all_marked (sweeps n es ms) e v (rw (sweeps_length n es ms, started n) h))
