-- The source's squared distances from the centre are exact: they are `from_center_on_grid` half steps squared, and so in the same order. Proved for every grid of 1 / 2 ^ g with g at
-- most 11, on which the sum of two squares has at most 51 digits. Assumes nothing.
use mathlib.Core.Path.{◌≡◌, refl, sym, ap, ap₂, ◌∙◌, subst}
use Prim.Native.Nat.{ℕ, suc, ◌+◌, ◌-◌, ◌*◌, ◌^◌, ◌≤◌, ◌<◌}
use native.Mathlib.Nat.{mul-sub, mul_comm, mul-mul-mul_comm, mul-pos, mul-le-mul, mul-le-mul_right, mul-lt-mul_of_pos_right, lt_of_mul-lt-mul_right, eq_of_mul-eq-mul_right, pow-succ'}
use native.Mathlib.Omega.{arith}
use mathlib.Core.Bool.{Bool, true, false, not, ◌&&◌, beq, cond}
use lib.Dec.{T, ltb, ltb→lt, lt→ltb, nltb→le, lit≤}
use lib.Pow.{pow-add, pow_pos, pow_mono}
use lib.Ieee.{Float, nan, inf, fin, binary64, up, down, unlike, round, sum, neg, add, sub, mul, below, lt}
use lib.Ieee.Fits.{down_pos}
use lib.Ieee.Digits.{Equals}
use lib.Ieee.Exact.{HasValue}
use lib.Ieee.Scale.{round_same}
use Rattle.grid.specs.Grid.{origin_of_grid, gap, coordinate_on_grid}
use Rattle.grid.proofs.Same.{same_test}
use Rattle.grid.proofs.Back.{exact_fraction, coordinate_value}
use Rattle.grid.proofs.Quotient.{quotient}
use Rattle.limits.specs.Limits.{most_side}
use Rattle.center.specs.Center.{from_middle_on_grid, from_center_on_grid, better, WithinGrid}
use Rattle.center.proofs.Source.{middle, fused_mul_add, distance_squared, node_distance, end_distance, better_float, worst}

-- ---- an operation on two values turns on their fractions alone

-- the order of A / C and B / C is that of a / c and b / c
same_order : (A B C a b c : ℕ) → 0 < C → 0 < c → A * c ≡ a * C → B * c ≡ b * C → ltb A B ≡ ltb a b
same_order A B C a b c P p h k =
    same_test (ltb A B) (ltb a b)
    (λ t. lt→ltb a b (lt_of_mul-lt-mul_right C (omega (arith, mul-lt-mul_of_pos_right (ltb→lt A B t) p))))
    (λ t. lt→ltb A B (lt_of_mul-lt-mul_right c (omega (arith, mul-lt-mul_of_pos_right (ltb→lt a b t) P))))

less_times : (m n c : ℕ) → (m - n) * c ≡ m * c - n * c
less_times m n c = mul_comm (m - n) c ∙ mul-sub c m n ∙ ap₂ (λ (x y : ℕ). x - y) (mul_comm c m) (mul_comm c n)

same_less : (A B C a b c : ℕ) → A * c ≡ a * C → B * c ≡ b * C → (A - B) * c ≡ (a - b) * C
same_less A B C a b c h k = less_times A B c ∙ ap₂ (λ (x y : ℕ). x - y) h k ∙ sym (less_times a b C)

same_sum : (s t : Bool) (A B C a b c : ℕ) → 0 < C → 0 < c → A * c ≡ a * C → B * c ≡ b * C → sum binary64 s A t B C ≡ sum binary64 s a t b c
unfolding sum
same_sum s t A B C a b c P p h k =
    ap₂ (λ (x y : Float). cond (beq s t) x y) (round_same binary64 s (A + B) C (a + b) c P p (omega arith))
    (ap (λ (u : Bool). cond u (round binary64 t (B - A) C) (round binary64 (s && ltb B A) (A - B) C)) (same_order A B C a b c P p h k)
    ∙ ap₂ (λ (x y : Float). cond (ltb a b) x y) (round_same binary64 t (B - A) C (b - a) c P p (same_less B A C b a c k h))
    (ap (λ (u : Bool). round binary64 (s && u) (A - B) C) (same_order B A C b a c P p k h) ∙ round_same binary64 (s && ltb b a) (A - B) C (a - b) c P p (same_less A B C a b c h k)))

-- ---- the difference of two values, by their signs

-- n fractions of one size, each with a sign: how many they come to
abbrev together : Bool → ℕ → Bool → ℕ → ℕ
together s a t b = cond (beq s t) (a + b) (gap a b)

size_of : (x : Float) (s : Bool) (a c : ℕ) → HasValue x s a c → Equals x a c
size_of nan s a c v = v
size_of (inf t) s a c v = v
size_of (fin t m e) s a c v = v.1

exact_sum : (s t : Bool) (a b g : ℕ) → g ≤ 40 → a + b < 2 ^ 53 → Equals (sum binary64 s a t b (2 ^ g)) (together s a t b) (2 ^ g)
unfolding sum
exact_sum s t a b g G h = go (beq s t) (ltb a b) (ltb→lt a b) (nltb→le a b)
  where
    one : (u : Bool) (n : ℕ) → n < 2 ^ 53 → Equals (round binary64 u n (2 ^ g)) n (2 ^ g)
    one u n l = size_of (round binary64 u n (2 ^ g)) u n (2 ^ g) (exact_fraction binary64 u n g (omega arith) l)

    is : (u : Bool) (n k : ℕ) → n < 2 ^ 53 → n ≡ k → Equals (round binary64 u n (2 ^ g)) k (2 ^ g)
    is u n k l e = subst (λ (x : ℕ). Equals (round binary64 u n (2 ^ g)) x (2 ^ g)) e (one u n l)

    go : (u v : Bool) → (T v → a < b) → (T (not v) → b ≤ a)
        → Equals (cond u (round binary64 s (a + b) (2 ^ g)) (cond v (round binary64 t (b - a) (2 ^ g)) (round binary64 (s && ltb b a) (a - b) (2 ^ g)))) (cond u (a + b) (gap a b)) (2 ^ g)
    go true v l k = one s (a + b) h
    go false true l k = let below : a < b = l tt in is t (b - a) (gap a b) (omega arith) (omega arith)
    go false false l k = let above : b ≤ a = k tt in is (s && ltb b a) (a - b) (gap a b) (omega arith) (omega arith)

-- x - y, for x of a and y of b fractions 1 / 2 ^ g
exact_sub : (x y : Float) (s t : Bool) (a b g : ℕ) → g ≤ 40 → a + b < 2 ^ 53 → HasValue x s a (2 ^ g) → HasValue y t b (2 ^ g) → Equals (sub binary64 x y) (together s a (not t) b) (2 ^ g)
unfolding sub add neg
exact_sub nan y s t a b g G h v w = absurd v
exact_sub (inf r) y s t a b g G h v w = absurd v
exact_sub (fin r m e) nan s t a b g G h v w = absurd w
exact_sub (fin r m e) (inf q) s t a b g G h v w = absurd w
exact_sub (fin r m e) (fin q n d) s t a b g G h v w =
    let C = down e * down d in
    let is : sum binary64 r (m * up e * down d) (not q) (n * up d * down e) C ≡ sum binary64 s a (not t) b (2 ^ g) =
    ap₂ (λ (u u' : Bool). sum binary64 u (m * up e * down d) (not u') (n * up d * down e) C) v.0 w.0
    ∙ same_sum s (not t) (m * up e * down d) (n * up d * down e) C a b (2 ^ g) (mul-pos (down_pos e) (down_pos d)) (pow_pos g)
    (omega (arith, ap (λ (x : ℕ). x * down d) v.1))
    (omega (arith, ap (λ (x : ℕ). x * down e) w.1)) in
    subst (λ (x : Float). Equals x (together s a (not t) b) (2 ^ g)) (sym is) (exact_sum s (not t) a b g G h)

-- ---- squares and their sum

unlike_self : (s : Bool) → unlike s s ≡ false
unlike_self true = refl
unlike_self false = refl

squared : (u c n d : ℕ) → u * c ≡ n * d → u * u * (c * c) ≡ n * n * (d * d)
squared u c n d h = mul-mul-mul_comm u u c c ∙ ap₂ (λ (x y : ℕ). x * y) h h ∙ mul-mul-mul_comm n d n d

square : (x : Float) (n c : ℕ) → 0 < c → Equals x n c → mul binary64 x x ≡ round binary64 false (n * n) (c * c)
unfolding mul
square nan n c p v = absurd v
square (inf s) n c p v = absurd v
square (fin s m e) n c p v =
    let u = m * up e in
    ap (λ (t : Bool). round binary64 t (u * u) (down e * down e)) (unlike_self s)
    ∙ round_same binary64 false (u * u) (down e * down e) (n * n) (c * c) (mul-pos (down_pos e) (down_pos e)) (mul-pos p p)
    (squared u c n (down e) v)

-- x * x + z, for a z that is not negative
square_and : (x z : Float) (n k c : ℕ) → 0 < c → Equals x n c → HasValue z false k (c * c) → fused_mul_add x x z ≡ round binary64 false (n * n + k) (c * c)
unfolding fused_mul_add
square_and nan z n k c p v w = absurd v
square_and (inf s) z n k c p v w = absurd v
square_and (fin s m e) nan n k c p v w = absurd w
square_and (fin s m e) (inf t) n k c p v w = absurd w
square_and (fin s m e) (fin t l d) n k c p v w =
    let u = m * up e in
    let D = down e * down e in
    let h : u * u * (c * c) ≡ n * n * D = squared u c n (down e) v in
    ap₂ (λ (q r : Bool). sum binary64 q (u * u * down d) r (l * up d * D) (D * down d)) (unlike_self s) w.0
    ∙ same_sum false false (u * u * down d) (l * up d * D) (D * down d) (n * n) k (c * c) (mul-pos (mul-pos (down_pos e) (down_pos e)) (down_pos d)) (mul-pos p p)
    (omega (arith, ap (λ (x : ℕ). x * down d) h))
    (omega (arith, ap (λ (x : ℕ). x * D) w.1))

-- ---- the order of two values that are not negative

lt_values : (x y : Float) (a b c : ℕ) → 0 < c → HasValue x false a c → HasValue y false b c → lt x y ≡ ltb a b
unfolding lt
lt_values nan y a b c p v w = absurd v
lt_values (inf s) y a b c p v w = absurd v
lt_values (fin s m e) nan a b c p v w = absurd w
lt_values (fin s m e) (inf t) a b c p v w = absurd w
lt_values (fin s m e) (fin t n d) a b c p v w =
    ap₂ (λ (q r : Bool). below q (m * up e * down d) r (n * up d * down e)) v.0 w.0
    ∙ same_order (m * up e * down d) (n * up d * down e) (down e * down d) a b c (mul-pos (down_pos e) (down_pos d)) p
    (omega (arith, ap (λ (x : ℕ). x * down d) v.1))
    (omega (arith, ap (λ (x : ℕ). x * down e) w.1))

-- ---- on a grid of 1 / 2 ^ g, in half steps

-- from one fraction to another of the same size
rescaled : (x : Float) (s : Bool) (a c b d : ℕ) → 0 < c → b * c ≡ a * d → HasValue x s a c → HasValue x s b d
rescaled nan s a c b d p h v = v
rescaled (inf t) s a c b d p h v = v
rescaled (fin t m e) s a c b d p h v = (v.0, eq_of_mul-eq-mul_right c p (m * up e * d) (b * down e) (omega (arith, ap (λ (x : ℕ). x * d) v.1, ap (λ (x : ℕ). x * down e) h)))

-- how many squared half steps come to 1
abbrev pub unit : ℕ → ℕ
unit g = 2 ^ suc g * 2 ^ suc g

module _ (g : ℕ) (G : g ≤ 11) where
  steps_small : 2 ^ g ≤ 2 ^ 11
  steps_small = pow_mono G

  place_value : (p : ℕ) → p ≤ 2 * origin_of_grid g → HasValue (coordinate_on_grid g p) (ltb p (origin_of_grid g)) (2 * gap p (origin_of_grid g)) (2 ^ suc g)
  place_value p h =
      let o = origin_of_grid g in
      rescaled (coordinate_on_grid g p) (ltb p o) (gap p o) (2 ^ g) (2 * gap p o) (2 ^ suc g) (pow_pos g) (omega (arith, ap (λ (x : ℕ). gap p o * x) (pow-succ' 2 g)))
      (coordinate_value g p (omega arith) (omega (arith, steps_small)))

  middle_is : (side : ℕ) → side < 2 ^ 53 → middle side ≡ round binary64 false side (2 ^ 1)
  unfolding middle
  middle_is side h = quotient false side 1 h

  middle_value : (side : ℕ) → side ≤ most_side → HasValue (middle side) false (side * 2 ^ g) (2 ^ suc g)
  middle_value side h =
      rescaled (middle side) false side (2 ^ 1) (side * 2 ^ g) (2 ^ suc g) (lit≤ tt) (omega (arith, ap (λ (x : ℕ). side * x) (pow-succ' 2 g)))
      (subst (λ (x : Float). HasValue x false side (2 ^ 1)) (sym (middle_is side (omega arith))) (exact_fraction binary64 false side 1 (lit≤ tt) (omega arith)))

  -- a side's 2 ^ g * side is at most 2 ^ g * 8,192
  side_small : (side : ℕ) → side ≤ most_side → side * 2 ^ g ≤ 8192 * 2 ^ g
  side_small side h = mul-le-mul_right (2 ^ g) h

  -- along one axis, taken either way round
  module _ (side place : ℕ) (S : side ≤ most_side) (P : place ≤ 2 * origin_of_grid g) where
    room : 2 * gap place (origin_of_grid g) + side * 2 ^ g < 2 ^ 53
    room = omega (arith, steps_small, side_small side S)

    along : (s : Bool) → (T s → place < origin_of_grid g) → (T (not s) → origin_of_grid g ≤ place)
        → (together s (2 * gap place (origin_of_grid g)) true (side * 2 ^ g) ≡ from_middle_on_grid g side place) × (together false (side * 2 ^ g) (not s) (2 * gap place (origin_of_grid g)) ≡ from_middle_on_grid g side place)
    along true l k = let below : place < origin_of_grid g = l tt in (omega arith, omega arith)
    along false l k = let above : origin_of_grid g ≤ place = k tt in (omega arith, omega arith)

    to_middle : Equals (sub binary64 (coordinate_on_grid g place) (middle side)) (from_middle_on_grid g side place) (2 ^ suc g)
    to_middle =
        let o = origin_of_grid g in
        subst (λ (n : ℕ). Equals (sub binary64 (coordinate_on_grid g place) (middle side)) n (2 ^ suc g)) (along (ltb place o) (ltb→lt place o) (nltb→le place o)).0
        (exact_sub (coordinate_on_grid g place) (middle side) (ltb place o) false (2 * gap place o) (side * 2 ^ g) (suc g) (omega arith) room (place_value place P) (middle_value side S))

    from_middle : Equals (sub binary64 (middle side) (coordinate_on_grid g place)) (from_middle_on_grid g side place) (2 ^ suc g)
    from_middle =
        let o = origin_of_grid g in
        subst (λ (n : ℕ). Equals (sub binary64 (middle side) (coordinate_on_grid g place)) n (2 ^ suc g)) (along (ltb place o) (ltb→lt place o) (nltb→le place o)).1
        (exact_sub (middle side) (coordinate_on_grid g place) false (ltb place o) (side * 2 ^ g) (2 * gap place o) (suc g) (omega arith) (omega (arith, room)) (middle_value side S) (place_value place P))

    square_small : from_middle_on_grid g side place * from_middle_on_grid g side place ≤ 2 ^ 50
    square_small =
        let n = from_middle_on_grid g side place in
        let h : n ≤ 2 ^ 25 = omega (arith, steps_small, side_small side S) in
        mul-le-mul h h

  exact_square : (n : ℕ) → n < 2 ^ 53 → HasValue (round binary64 false n (unit g)) false n (unit g)
  exact_square n h = subst (λ (d : ℕ). HasValue (round binary64 false n d) false n d) (pow-add 2 (suc g) (suc g)) (exact_fraction binary64 false n (suc g + suc g) (omega arith) h)

  squares : (dx dy : Float) (n k : ℕ) → k * k ≤ 2 ^ 50 → Equals dx n (2 ^ suc g) → Equals dy k (2 ^ suc g)
      → fused_mul_add dx dx (mul binary64 dy dy) ≡ round binary64 false (n * n + k * k) (unit g)
  squares dx dy n k K v w =
      let c = 2 ^ suc g in
      square_and dx (mul binary64 dy dy) n (k * k) c (pow_pos (suc g)) v
      (subst (λ (x : Float). HasValue x false (k * k) (c * c)) (sym (square dy k c (pow_pos (suc g)) w)) (exact_square (k * k) (omega arith)))

  -- ---- the source's distances

  module _ (width height x y : ℕ) (W : WithinGrid g width height x y) where
    -- `hierholzer` takes the centre from the point
    distance_of_node : node_distance g width height x y ≡ round binary64 false (from_center_on_grid g width height x y) (unit g)
    unfolding distance_squared from_center_on_grid
    distance_of_node =
        squares (sub binary64 (coordinate_on_grid g x) (middle width)) (sub binary64 (coordinate_on_grid g y) (middle height)) (from_middle_on_grid g width x) (from_middle_on_grid g height y)
        (square_small height y W.high W.along) (to_middle width x W.wide W.across) (to_middle height y W.high W.along)

    -- `orient_path` takes the point from the centre
    distance_of_end : end_distance g width height x y ≡ round binary64 false (from_center_on_grid g width height x y) (unit g)
    unfolding distance_squared from_center_on_grid
    distance_of_end =
        squares (sub binary64 (middle width) (coordinate_on_grid g x)) (sub binary64 (middle height) (coordinate_on_grid g y)) (from_middle_on_grid g width x) (from_middle_on_grid g height y)
        (square_small height y W.high W.along) (from_middle width x W.wide W.across) (from_middle height y W.high W.along)

    center_small : from_center_on_grid g width height x y < 2 ^ 53
    unfolding from_center_on_grid
    center_small = omega (arith, square_small width x W.wide W.across, square_small height y W.high W.along)

    distance_exact : HasValue (round binary64 false (from_center_on_grid g width height x y) (unit g)) false (from_center_on_grid g width height x y) (unit g)
    distance_exact = exact_square (from_center_on_grid g width height x y) center_small

    -- nothing is rounded: both are so many squared half steps
    pub node_exact : HasValue (node_distance g width height x y) false (from_center_on_grid g width height x y) (unit g)
    node_exact = subst (λ (d : Float). HasValue d false (from_center_on_grid g width height x y) (unit g)) (sym distance_of_node) distance_exact

    pub end_exact : HasValue (end_distance g width height x y) false (from_center_on_grid g width height x y) (unit g)
    end_exact = subst (λ (d : Float). HasValue d false (from_center_on_grid g width height x y) (unit g)) (sym distance_of_end) distance_exact

  -- ---- so the source's choices are those of the whole numbers

  unit_pos : 0 < unit g
  unit_pos = mul-pos (pow_pos (suc g)) (pow_pos (suc g))

  same_choice : (inside : Bool) (d e : Float) (a b : ℕ) → HasValue d false a (unit g) → HasValue e false b (unit g) → better_float inside d e ≡ better inside a b
  same_choice true d e a b v w = lt_values d e a b (unit g) unit_pos v w
  same_choice false d e a b v w = lt_values e d b a (unit g) unit_pos w v

  module _ (inside : Bool) (width height x y p q : ℕ) (A : WithinGrid g width height x y) (B : WithinGrid g width height p q) where
    -- `hierholzer`: whether the node at x and y takes the place of the one at p and q
    pub same_start : better_float inside (node_distance g width height x y) (node_distance g width height p q) ≡ better inside (from_center_on_grid g width height x y) (from_center_on_grid g width height p q)
    same_start = same_choice inside _ _ _ _ (node_exact width height x y A) (node_exact width height p q B)

    -- `orient_path`: whether the end at x and y is better than the one at p and q
    pub same_turn : better_float inside (end_distance g width height x y) (end_distance g width height p q) ≡ better inside (from_center_on_grid g width height x y) (from_center_on_grid g width height p q)
    same_turn = same_choice inside _ _ _ _ (end_exact width height x y A) (end_exact width height p q B)

  finite_better : (inside : Bool) (d : Float) (a : ℕ) → HasValue d false a (unit g) → better_float inside d (worst inside) ≡ true
  unfolding lt
  finite_better inside nan a v = absurd v
  finite_better inside (inf s) a v = absurd v
  finite_better true (fin s m e) a v = refl
  finite_better false (fin s m e) a v = refl

  -- `hierholzer`'s first candidate is always taken
  pub first_taken : (inside : Bool) (width height x y : ℕ) → WithinGrid g width height x y → better_float inside (node_distance g width height x y) (worst inside) ≡ true
  first_taken inside width height x y W = finite_better inside (node_distance g width height x y) (from_center_on_grid g width height x y) (node_exact width height x y W)
