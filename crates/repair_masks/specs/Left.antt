-- Which two places are left out: each with each later one in turn, by the costs of the masks without the two.
use Rattle.std.specs.Prelude.{ℕ, zero, suc, ◌-◌, ◌^◌, Float}
use Rattle.repair_masks.specs.Table.{Least, least, lesser}

-- k later places from v on, left out with one that `mask` is without
unfoldable pub leave_from : ℕ → (ℕ → Float) → ℕ → ℕ → Least → Least
unfolding lesser
leave_from zero cost mask v b = b
leave_from (suc k) cost mask v b = leave_from k cost mask (suc v) (lesser b (cost (mask - 2 ^ v)) (mask - 2 ^ v))

-- k places from u on, each with each later one; `full` is the mask of all
unfoldable pub leave_each : ℕ → (ℕ → Float) → ℕ → ℕ → Least → Least
unfolding leave_from
leave_each zero cost full u b = b
leave_each (suc k) cost full u b = leave_each k cost full (suc u) (leave_from k cost (full - 2 ^ u) (suc u) b)

-- the mask without the two places that are left out, of n places: first 0 and 1, then 0 with the others, then the others
unfoldable pub left_out : ℕ → (ℕ → Float) → Least
unfolding leave_each
left_out n cost =
    let full = 2 ^ n - 1 in
    leave_each (n - 1) cost full 1 (leave_from (n - 2) cost (full - 1) 2 (least (cost (full - 3)) (full - 3)))
