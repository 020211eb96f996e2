-- The steps to the root. Heron's step: the mean of s and m / s is no less than the whole root of m. Zimmermann's (INRIA report 3805, 1999): from the root of m to the
-- root of m * 4 ^ 21, by a quotient of the rest by the doubled root.
use Rattle.std.specs.Prelude.{◌≡◌, ℕ, ◌+◌, ◌*◌, ◌≤◌}
use Rattle.length.specs.Root.{square}

-- the whole root of n, and what its square leaves
pub record Rooted (n root rest : ℕ) : Type 0 where
  pub whole : square root + rest ≡ n
  pub small : rest ≤ 2 * root
