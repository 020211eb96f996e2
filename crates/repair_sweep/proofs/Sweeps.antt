-- Laws of specs/Sweeps: why distances that sweeps have settled are the least.
use mathlib.Core.Path.{◌≡◌, refl, sym, ap, subst, ◌∙◌}
use mathlib.Core.Logic.{◌⊎◌, inl, inr}
use mathlib.Core.List.{List}
use mathlib.Core.Bool.{true, false}
use Prim.Native.Nat.{ℕ, suc, ◌+◌, ◌≤◌, ◌<◌, zero-le}
use native.Mathlib.Nat.{le_trans, le_of_eq, le_antisymm, not-le_of_lt, not-suc-le-zero}
use native.Mathlib.Decide.{dec_le, ℕ_discrete}
use native.Mathlib.Omega.{arith}
use lib.ListN.{length, get_or, set, replicate, length-set, length-replicate}
use lib.Seq.{get_or-set_same, get_or-set_other, ext_get_or}
use lib.Ieee.{Float, nan, binary64, add, lt}
use Rattle.limits.specs.Limits.{most_nodes}
use Rattle.sums.specs.Key.{Nonneg, key}
use Rattle.sums.proofs.KeyLaws.{key_top, key_inj, lt_true, lt_false}
use Rattle.sums.proofs.Sum.{add_above, add_mono, zero_key, inf_nonneg}
use Rattle.lists.proofs.Elements.{get_d_same, get_d_inside, set_cases}
use Rattle.graph_spec.specs.Graph.{Edge, edges_at}
use Rattle.graph_spec.specs.Ways.{Joins}
use Rattle.graph_spec.specs.Weights.{Weights}
use Rattle.graph_spec.proofs.Connected.{joins_inside}
use Rattle.graph_adjacency.specs.Lists.{Adjacency}
use Rattle.graph_arrays.specs.Arrays.{edges_in, EdgesHeld}
use Rattle.repair_spec.specs.Distance.{infinity, zero_length, distance_at}
use Rattle.repair_spec.specs.Relax.{key_at, AllNonneg}
use Rattle.repair_spec.specs.Cost.{Way, here, step, Least}
use Rattle.repair_spec.proofs.Cost.{way_nonneg}
use Rattle.repair_spec.proofs.Relax.{Improved, Next, no_higher}
use Rattle.repair_search.specs.Touched.{Listed}
use Rattle.repair_search.specs.Relaxing.{relax_arcs}
use Rattle.repair_search.specs.Search.{Found}
use Rattle.repair_search.proofs.Arcs.{relaxed}
use Rattle.repair_search.proofs.Searching.{start_nonneg}
use Rattle.repair_sweep.specs.declared.Sweep.{Sweep}
use Rattle.repair_sweep.specs.Sweeps.{Reached, Looked, Sweeping, GoesOn, Settled, Unswept}

-- sweeps by their three arrays
abbrev pub swept : List Float → List Float → List ℕ → Sweep
swept ds done touched = record { dist = ds; done = done; touched = touched }

-- ---- before the first sweep

module _ (s : ℕ) (is_node : s < most_nodes) (ds done : List Float) (touched : List ℕ) (N : Unswept (swept ds done touched)) where
  pub unswept_long : length ds ≡ most_nodes
  unswept_long = ap length N.none ∙ length-replicate most_nodes infinity

  never_at : (u : ℕ) → distance_at done u ≡ infinity
  never_at u = ap (λ (x : List Float). distance_at x u) N.never ∙ get_d_same most_nodes u infinity

  begun_nonneg : AllNonneg (set ds s zero_length)
  begun_nonneg = subst (λ (x : List Float). AllNonneg (set x s zero_length)) (sym N.none) (start_nonneg most_nodes s)

  pub looked_begin : (n : ℕ) (touched' : List ℕ) (count : ℕ) → Listed n (set ds s zero_length) touched' count → Looked n (swept (set ds s zero_length) done touched') count
  looked_begin n touched' count L = record {
    reached = record { long = length-set ds s zero_length ∙ unswept_long; nonneg = begun_nonneg; listed = L };
    long = ap length N.never ∙ length-replicate most_nodes infinity;
    nonneg = λ v. rw (never_at v) (inf_nonneg binary64);
    lower = λ v. rw (never_at v) (key_top binary64 (distance_at (set ds s zero_length) v) (begun_nonneg v));
  }

  pub sweeping_begin : (es : List Edge) → Weights es → Sweeping es s (set ds s zero_length) done
  sweeping_begin es weights = record {
    source = get_or-set_same ds s zero_length infinity (omega (arith, unswept_long));
    ways = λ v. elim (set_cases ds s zero_length infinity v) [
      | inl q ↦ inr (rw (q.1, q.0) here)
      | inr q ↦ inl (q ∙ ap (λ (x : List Float). distance_at x v) N.none ∙ get_d_same most_nodes v infinity)
    ];
    along = λ e i u v j.
        rw (never_at u) (le_trans (key_top binary64 (distance_at (set ds s zero_length) v) (begun_nonneg v)) (add_above binary64 infinity e.weight (inf_nonneg binary64) (weights e i)));
  }

-- ---- a visit of the node u, which has come nearer

module _ (n m : ℕ) (a : Adjacency) (H : EdgesHeld n m a) (ds done : List Float) (touched : List ℕ) (count : ℕ) (K : Looked n (swept ds done touched) count) (u : ℕ) (is_node : u < n) where
  abbrev es : List Edge
  es = edges_in m a

  in_room : u < most_nodes
  in_room = omega (arith, H.edges.few_nodes)

  -- as code reads it
  pub read_distance : get_or ds u nan ≡ distance_at ds u
  read_distance = get_d_inside ds u nan infinity (omega (arith, in_room, K.reached.long))

  module _ (d : Float) (is : d ≡ distance_at ds u) where
    pub visit_nonneg : Nonneg binary64 d
    visit_nonneg = rw is (K.reached.nonneg u)

    looked_at : distance_at (set done u d) u ≡ d
    looked_at = get_or-set_same done u d infinity (omega (arith, in_room, K.long))

    module _ (ds' : List Float) (R : ds' ≡ relax_arcs d (edges_at es u) ds) where
      improved : Improved (Next u d es) ds ds'
      improved = subst (Improved (Next u d es) ds) (sym R) (relaxed d visit_nonneg es H.searchable.weights u ds K.reached.nonneg)

      pub visit_looked : (touched' : List ℕ) (count' : ℕ) → Reached n ds' touched' count' → Looked n (swept ds' (set done u d) touched') count'
      visit_looked touched' count' Q = record {
        reached = Q;
        long = length-set done u d ∙ K.long;
        nonneg = λ v. elim (set_cases done u d infinity v) [ inl q ↦ rw q.1 visit_nonneg | inr q ↦ rw q (K.nonneg v) ];
        lower = λ v. elim (set_cases done u d infinity v) [
          | inl q ↦ rw (q.1, is, q.0) (no_higher improved u)
          | inr q ↦ rw q (le_trans (no_higher improved v) (K.lower v))
        ];
      }

      module _ (near : lt d (get_or done u nan) ≡ true) where
        -- it was reached
        below : key binary64 d < key binary64 infinity
        below =
            le_trans
            (lt_true d (distance_at done u) visit_nonneg (K.nonneg u) (ap (lt d) (get_d_inside done u infinity nan (omega (arith, in_room, K.long))) ∙ near))
            (key_top binary64 (distance_at done u) (K.nonneg u))

        pub visit_goes_on : (touched' : List ℕ) → GoesOn es (swept ds done touched) (swept ds' (set done u d) touched')
        visit_goes_on touched' s S = record {
          source = elim (improved.change s) [
            | inl e ↦ e ∙ S.source
            | inr q ↦ absurd (not-suc-le-zero (rw (S.source, zero_key binary64) at q.1))
          ];
          ways = λ v. elim (improved.change v) [
            | inl e ↦ rw e (S.ways v)
            | inr q ↦ elim (S.ways u) [
              | inl far ↦ absurd (not-le_of_lt below (le_of_eq (ap (key binary64) (sym (is ∙ far)))))
              | inr w ↦ inr (rw q.0.3 (step (rw (← is) at w) q.0.0 q.0.1 q.0.2))
            ]
          ];
          along = λ e i x v j. elim (set_cases done u d infinity x) [
            | inl q ↦ rw q.1 (improved.taken v (add binary64 d e.weight) (e, i, subst (λ (y : ℕ). Joins e y v) q.0 j, refl) (omega (arith, K.reached.long, H.edges.few_nodes, joins_inside n es H.searchable.inside e x v i j)))
            | inr q ↦ rw q (le_trans (no_higher improved v) (S.along e i x v j))
          ];
        }

-- ---- the end: what is settled is the least

module _ (es : List Edge) (weights : Weights es) (s : ℕ) (ds done : List Float) (nonneg : AllNonneg done) (S : Sweeping es s ds done) (E : (v : ℕ) → key_at done v ≤ key_at ds v) where
  -- no way costs less, since each of its edges was looked along from a node no farther than the way is there
  no_way_below : {v : ℕ} {c : Float} → Way es s v c → key_at ds v ≤ key binary64 c
  no_way_below here = le_of_eq (ap (key binary64) S.source)
  no_way_below (step {u = u} {v} {c} w e i j) =
      le_trans (S.along e i u v j)
      (add_mono binary64 (distance_at done u) c e.weight (nonneg u) (way_nonneg es weights s w) (weights e i) (le_trans (E u) (no_way_below w)))

  settled_least : (v : ℕ) → Least es s v (distance_at ds v)
  settled_least v = record { below = λ c w. no_way_below w; reached = S.ways v }

pub settled_found : (n m : ℕ) (a : Adjacency) → EdgesHeld n m a → (s : ℕ) (ds done : List Float) (touched : List ℕ) (count : ℕ) → Looked n (swept ds done touched) count → Sweeping (edges_in m a) s ds done → Settled (swept ds done touched)
    → (goal : ℕ) → Found (edges_in m a) s goal ds
settled_found n m a H s ds done touched count K S E goal =
    let least : (v : ℕ) → Least (edges_in m a) s v (distance_at ds v) = settled_least (edges_in m a) H.searchable.weights s ds done K.nonneg S E in
    record {
      long = K.reached.long;
      nonneg = K.reached.nonneg;
      up_to = λ v. record { near = λ h. least v; far = λ h c w. le_trans h ((least v).below c w) };
    }

-- ---- the loop that asks whether it is settled

-- none of the first j listed nodes has come nearer
abbrev pub Seen : List ℕ → List Float → List Float → ℕ → Type 0
Seen touched ds done j = (i : ℕ) → i < j → lt (get_or ds (get_or touched i 0) nan) (get_or done (get_or touched i 0) nan) ≡ false

pub seen_none : (touched : List ℕ) (ds done : List Float) → Seen touched ds done 0
seen_none touched ds done i l = absurd (not-suc-le-zero l)

pub seen_turn : (touched : List ℕ) (ds done : List Float) (j u : ℕ) → Seen touched ds done j → u ≡ get_or touched j 0 → lt (get_or ds u nan) (get_or done u nan) ≡ false → Seen touched ds done (j + 1)
seen_turn touched ds done j u S is h i l = elim (ℕ_discrete i j) [
  | yes e ↦ rw (e, ← is) h
  | no d ↦ S i (omega arith)
]

pub seen_all : (n : ℕ) → n ≤ most_nodes → (ds done : List Float) (touched : List ℕ) (count : ℕ) → Looked n (swept ds done touched) count → Seen touched ds done count → Settled (swept ds done touched)
seen_all n few ds done touched count K S v = elim (K.reached.listed.covers v) [
  | inl far ↦ rw far (key_top binary64 (distance_at done v) (K.nonneg v))
  | inr q ↦ listed q.0 q.1 q.2
]
  where
    listed : (j : ℕ) → j < count → get_or touched j 0 ≡ v → key_at done v ≤ key_at ds v
    listed j l is =
        let node : v < most_nodes = omega (arith, K.reached.listed.nodes j l) in
        let far : lt (get_or ds v nan) (get_or done v nan) ≡ false = rw is at (S j l) in
        lt_false (distance_at ds v) (distance_at done v) (K.reached.nonneg v) (K.nonneg v)
        (ap (λ (x : Float). lt x (distance_at done v)) (get_d_inside ds v infinity nan (omega (arith, K.reached.long))) ∙ ap (lt (get_or ds v nan)) (get_d_inside done v infinity nan (omega (arith, K.long))) ∙ far)

-- ---- clearing

-- what is listed from the place j on is all that is left
pub record Clearing (touched : List ℕ) (count j : ℕ) (ds done : List Float) : Type 0 where
  pub most : j ≤ count
  pub long : length ds ≡ most_nodes
  pub looked_long : length done ≡ most_nodes
  pub nonneg : AllNonneg done
  pub lower : (v : ℕ) → key_at ds v ≤ key_at done v
  pub left : (v : ℕ) → (distance_at ds v ≡ infinity) ⊎ ((i : ℕ) × (j ≤ i) × (i < count) × (get_or touched i 0 ≡ v))

pub clearing_begin : (n : ℕ) (touched : List ℕ) (count : ℕ) (ds done : List Float) → Looked n (swept ds done touched) count → Clearing touched count 0 ds done
clearing_begin n touched count ds done K = record {
  most = omega arith;
  long = K.reached.long;
  looked_long = K.long;
  nonneg = K.nonneg;
  lower = K.lower;
  left = λ v. elim (K.reached.listed.covers v) [ inl e ↦ inl e | inr q ↦ inr (q.0, zero-le, q.1, q.2) ];
}

module _ (touched : List ℕ) (count j : ℕ) (ds done : List Float) (C : Clearing touched count j ds done) where
  pub clearing_step : j < count → (v : ℕ) → v ≡ get_or touched j 0 → v < most_nodes → Clearing touched count (j + 1) (set ds v infinity) (set done v infinity)
  clearing_step l v is is_node = record {
    most = omega arith;
    long = length-set ds v infinity ∙ C.long;
    looked_long = length-set done v infinity ∙ C.looked_long;
    nonneg = λ w. elim (set_cases done v infinity infinity w) [ inl q ↦ rw q.1 (inf_nonneg binary64) | inr q ↦ rw q (C.nonneg w) ];
    lower = λ w. elim (ℕ_discrete w v) [
      | yes e ↦ le_of_eq (ap (key binary64) (ap (distance_at (set ds v infinity)) e ∙ new ds C.long ∙ sym (ap (distance_at (set done v infinity)) e ∙ new done C.looked_long)))
      | no o ↦ rw (get_or-set_other ds v w infinity infinity o, get_or-set_other done v w infinity infinity o) (C.lower w)
    ];
    left = λ w. elim (ℕ_discrete w v) [
      | yes e ↦ inl (ap (distance_at (set ds v infinity)) e ∙ new ds C.long)
      | no o ↦ elim (C.left w) [
        | inl e ↦ inl (get_or-set_other ds v w infinity infinity o ∙ e)
        | inr q ↦ elim (ℕ_discrete q.0 j) [
          | yes e ↦ absurd (o (sym q.3 ∙ ap (λ (i : ℕ). get_or touched i 0) e ∙ sym is))
          | no p ↦ inr (q.0, behind q.0 q.1 p, q.2, q.3)
        ]
      ]
    ];
  }
    where
      new : (xs : List Float) → length xs ≡ most_nodes → distance_at (set xs v infinity) v ≡ infinity
      new xs h = get_or-set_same xs v infinity infinity (omega arith)

      behind : (i : ℕ) → j ≤ i → (i ≡ j → ⊥) → j + 1 ≤ i
      behind i h p = elim (dec_le i j) [ yes b ↦ absurd (p (le_antisymm b h)) | no b ↦ omega arith ]

  pub clearing_end : (j < count → ⊥) → length touched ≡ most_nodes → Unswept (swept ds done touched)
  clearing_end h room =
      let all : (v : ℕ) → distance_at ds v ≡ infinity = λ v. elim (C.left v) [ inl e ↦ e | inr q ↦ absurd (h (le_trans (suc_mono j q.0 q.1) q.2)) ] in
      record {
        none = same ds C.long all;
        never = same done C.looked_long (λ v. key_inj binary64 (distance_at done v) infinity (C.nonneg v) (inf_nonneg binary64)
            (le_antisymm (key_top binary64 (distance_at done v) (C.nonneg v)) (subst (λ (x : Float). key binary64 x ≤ key_at done v) (all v) (C.lower v))));
        room = room;
      }
    where
      suc_mono : (a b : ℕ) → a ≤ b → suc a ≤ suc b
      suc_mono a b h = omega arith

      same : (xs : List Float) → length xs ≡ most_nodes → ((v : ℕ) → distance_at xs v ≡ infinity) → xs ≡ replicate most_nodes infinity
      same xs long all = ext_get_or infinity xs (replicate most_nodes infinity) (long ∙ sym (length-replicate most_nodes infinity)) (λ i l. all i ∙ sym (get_d_same most_nodes i infinity))

-- arrays that were never swept
pub unswept_new : Unswept (swept (replicate most_nodes infinity) (replicate most_nodes infinity) (replicate most_nodes 0))
unswept_new = record { none = refl; never = refl; room = length-replicate {A = ℕ} most_nodes 0 }
