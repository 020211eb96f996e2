-- Records in the order of check 3, and the bodies of a kind among them.
use Prim.Native.Nat.{ℕ, ◌%◌}
use native.Mathlib.Omega.{arith}
use mathlib.Core.Path.{◌≡◌, refl, ◌∙◌}
use mathlib.Core.List.{List, [], ◌∷◌}
use mathlib.Core.Bool.{Bool, true, ◌&&◌}
use lib.ListN.{length}
use lib.Dec.{eqb}
use borrow.Author.Tests.{eqb-true, eq-eqb, ne_eqb}
use Rattle.limits.specs.Limits.{kind_settings, kind_line, kind_link, settings_size, point_size, link_size}
use Rattle.drawing_spec.specs.Read.{Record, bodies, every, all_links, lines_then_links, kinds_fit, lengths_fit}
use Rattle.drawing_spec.proofs.Same.{both}

-- ---- bodies of a kind, at the front

pub bodies_here : (k : ℕ) (r : Record) (rs : List Record) → r.kind ≡ k → bodies k (r ∷ rs) ≡ r.body ∷ bodies k rs
unfolding bodies
bodies_here k r rs e = rw (eq-eqb r.kind k e, bodies)

pub bodies_other : (k : ℕ) (r : Record) (rs : List Record) → (r.kind ≡ k → ⊥) → bodies k (r ∷ rs) ≡ bodies k rs
unfolding bodies
bodies_other k r rs e = rw (ne_eqb r.kind k e, bodies)

-- ---- what stands behind the first record

-- the settings come first
pub settings_next : (r : Record) (rs : List Record) → kinds_fit (r ∷ rs) ≡ true → (r.kind ≡ kind_settings) × (lines_then_links rs ≡ true)
unfolding kinds_fit
settings_next r rs h = let t = both (eqb r.kind kind_settings) (lines_then_links rs) h in (eqb-true r.kind kind_settings t.0, t.1)

pub links_cons : (r : Record) (rs : List Record) → all_links (r ∷ rs) ≡ true → (r.kind ≡ kind_link) × (all_links rs ≡ true)
unfolding every
links_cons r rs h = let t = both (eqb r.kind kind_link) (all_links rs) h in (eqb-true r.kind kind_link t.0, t.1)

pub links_no_lines : (rs : List Record) → all_links rs ≡ true → bodies kind_line rs ≡ []
unfolding bodies
links_no_lines [] h = refl
links_no_lines (r ∷ rs) h = let t = links_cons r rs h in let k = t.0 in bodies_other kind_line r rs (λ q. omega arith) ∙ links_no_lines rs t.1

-- ---- check 4, kind by kind

abbrev pub settings_long : List Record → Bool
settings_long rs = every (λ (b : List ℕ). eqb (length b) settings_size) (bodies kind_settings rs)

abbrev pub lines_long : List Record → Bool
lines_long rs = every (λ (b : List ℕ). eqb (length b % point_size) 0) (bodies kind_line rs)

abbrev pub links_long : List Record → Bool
links_long rs = every (λ (b : List ℕ). eqb (length b) link_size) (bodies kind_link rs)

pub lengths_parts : (rs : List Record) → lengths_fit rs ≡ true → (settings_long rs ≡ true) × (lines_long rs ≡ true) × (links_long rs ≡ true)
unfolding lengths_fit
lengths_parts rs h =
    let t = both (settings_long rs && lines_long rs) (links_long rs) h in
    let u = both (settings_long rs) (lines_long rs) t.0 in
    (u.0, u.1, t.1)
