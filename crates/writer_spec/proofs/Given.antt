-- Laws of specs/Given: how long the lists of the sketch are, and what it means that the lists handed in fit one another.
use mathlib.Core.Path.{◌≡◌, refl, sym, ap, ◌∙◌}
use mathlib.Core.List.{List, [], ◌∷◌, map}
use mathlib.Core.Bool.{true, ◌&&◌}
use Prim.Native.Nat.{ℕ, zero, suc, ◌+◌, ◌*◌, ◌/◌, ◌%◌}
use lib.ListN.{length, get_or, drop, get_or-map}
use lib.Dec.{eqb}
use borrow.Author.Tests.{eqb-true, eq-eqb}
use Rattle.drawing_spec.proofs.Same.{both}
use Rattle.grid.specs.Grid.{clean}
use Rattle.lists.proofs.Parts.{drop_map}
use Rattle.drawing_spec.specs.Drawing.{PointOf, Pattern, over_point, over_link}
use Rattle.drawing_spec.specs.Cleaned.{clean_pattern, cleaned}
use Rattle.drawing_spec.specs.Read.{total}
use Rattle.writer_spec.specs.Given.{Given, given, fitting, point_at, points_given, lines_given, links_given, sketch_given}

-- ---- a list's first element

pub total_cons : (n : ℕ) (ns : List ℕ) → total (n ∷ ns) ≡ n + total ns
unfolding total
total_cons n ns = refl

pub total_nil : total [] ≡ 0
unfolding total
total_nil = refl

-- ---- lengths

pub points_long : (n : ℕ) (cs : List ℕ) → length (points_given n cs) ≡ n
unfolding points_given
points_long zero cs = refl
points_long (suc n) cs = ap suc (points_long n (drop 2 cs))

pub lines_long : (ns cs : List ℕ) → length (lines_given ns cs) ≡ length ns
unfolding lines_given
lines_long [] cs = refl
lines_long (n ∷ ns) cs = ap suc (lines_long ns (drop (2 * n) cs))

pub sizes_are : (ns cs : List ℕ) → map (λ (l : List (PointOf Pattern)). length l) (lines_given ns cs) ≡ ns
unfolding lines_given
sizes_are [] cs = refl
sizes_are (n ∷ ns) cs = λ i. points_long n cs i ∷ sizes_are ns (drop (2 * n) cs) i

pub line_long : (ns cs : List ℕ) (i : ℕ) → length (get_or (lines_given ns cs) i []) ≡ get_or ns i 0
unfolding lines_given
line_long [] cs i = refl
line_long (n ∷ ns) cs zero = points_long n cs
line_long (n ∷ ns) cs (suc i) = line_long ns (drop (2 * n) cs) i

pub links_long : (k : ℕ) (ss cs : List ℕ) → length (links_given k ss cs) ≡ k
unfolding links_given
links_long zero ss cs = refl
links_long (suc k) ss cs = ap suc (links_long k (drop 4 ss) (drop 4 cs))

-- ---- lists that fit one another

pub record Fitting (g : Given) : Type 0 where
  pub points : 2 * total g.sizes ≡ length g.coordinates
  pub fours : length g.segments % 4 ≡ 0
  pub alike : length g.segments ≡ length g.ends

pub fits : (g : Given) → fitting g.sizes g.coordinates g.segments g.ends ≡ true → Fitting g
unfolding fitting
fits g h =
    let a = eqb (2 * total g.sizes) (length g.coordinates) in
    let b = eqb (length g.segments % 4) 0 in
    let t = both (a && b) (eqb (length g.segments) (length g.ends)) h in
    let u = both a b t.0 in
    record { points = eqb-true _ _ u.0; fours = eqb-true _ _ u.1; alike = eqb-true _ _ t.1 }

pub fitting_true : (g : Given) → Fitting g → fitting g.sizes g.coordinates g.segments g.ends ≡ true
unfolding fitting
fitting_true g f =
    let a = eq-eqb (2 * total g.sizes) (length g.coordinates) f.points in
    let b = eq-eqb (length g.segments % 4) 0 f.fours in
    let c = eq-eqb (length g.segments) (length g.ends) f.alike in
    λ v. (a v && b v) && c v

-- ---- the lists with a plain zero for each minus zero are those of the cleaned sketch

abbrev pub cleaned_given : Given → Given
cleaned_given g = given g.settings g.sizes (map clean g.coordinates) g.segments (map clean g.ends)

-- past the end of a list this reads 0, which is clean
point_cleaned : (i : ℕ) (cs : List ℕ) → point_at i (map clean cs) ≡ over_point clean_pattern (point_at i cs)
unfolding clean
point_cleaned i cs = λ v. record { x = record { bits = get_or-map clean cs i 0 v }; y = record { bits = get_or-map clean cs (suc i) 0 v } }

points_cleaned : (n : ℕ) (cs : List ℕ) → points_given n (map clean cs) ≡ map (over_point clean_pattern) (points_given n cs)
unfolding points_given
points_cleaned zero cs = refl
points_cleaned (suc n) cs = λ v. point_cleaned 0 cs v ∷ (ap (points_given n) (drop_map clean 2 cs) ∙ points_cleaned n (drop 2 cs)) v

lines_cleaned : (ns cs : List ℕ) → lines_given ns (map clean cs) ≡ map (map (over_point clean_pattern)) (lines_given ns cs)
unfolding lines_given
lines_cleaned [] cs = refl
lines_cleaned (n ∷ ns) cs = λ v. points_cleaned n cs v ∷ (ap (lines_given ns) (drop_map clean (2 * n) cs) ∙ lines_cleaned ns (drop (2 * n) cs)) v

links_cleaned : (k : ℕ) (ss cs : List ℕ) → links_given k ss (map clean cs) ≡ map (over_link clean_pattern) (links_given k ss cs)
unfolding links_given
links_cleaned zero ss cs = refl
links_cleaned (suc k) ss cs =
    let a = point_cleaned 0 cs in
    let b = point_cleaned 2 cs in
    λ v. record { first = record { line = get_or ss 0 0; segment = get_or ss 1 0; point = a v }; second = record { line = get_or ss 2 0; segment = get_or ss 3 0; point = b v } } ∷ (ap (links_given k (drop 4 ss)) (drop_map clean 4 cs) ∙ links_cleaned k (drop 4 ss) (drop 4 cs)) v

pub cleaned_given_lem : (g : Given) → cleaned (sketch_given g) ≡ sketch_given (cleaned_given g)
unfolding cleaned sketch_given
cleaned_given_lem g =
    let lines = lines_cleaned g.sizes g.coordinates in
    let links = links_cleaned (length g.segments / 4) g.segments g.ends in
    sym (λ v. record { settings = g.settings; lines = lines v; links = links v })
