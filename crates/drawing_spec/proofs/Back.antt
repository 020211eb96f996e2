-- A number written in n bytes is read back from them.
use mathlib.Core.Path.{◌≡◌, refl, ap}
use mathlib.Core.List.{List, ◌++◌}
use Prim.Native.Nat.{ℕ, zero, suc, ◌/◌, ◌^◌, ◌<◌}
use native.Mathlib.Nat.{div-lt_iff_lt-mul, pow-suc}
use native.Mathlib.Omega.{arith}
use lib.ListN.{length, drop}
use lib.Seq.{drop_at}
use lib.Dec.{lit<}
use Rattle.drawing_spec.specs.Bytes.{number, bytes}

pub number_bytes : (n v : ℕ) (rest : List ℕ) → v < 256 ^ n → number n (bytes n v ++ rest) ≡ v
unfolding number bytes
number_bytes zero v rest h = omega arith
number_bytes (suc n) v rest h =
    let high : v / 256 < 256 ^ n = (div-lt_iff_lt-mul (lit< tt)).1 (rw pow-suc at h) in
    omega (arith, number_bytes n (v / 256) rest high)

pub bytes_length : (n v : ℕ) → length (bytes n v) ≡ n
unfolding bytes
bytes_length zero v = refl
bytes_length (suc n) v = ap suc (bytes_length n (v / 256))

-- and what stands behind them is left
pub drop_bytes : (n v : ℕ) (rest : List ℕ) → drop n (bytes n v ++ rest) ≡ rest
drop_bytes n v rest = drop_at (bytes n v) rest n (bytes_length n v)
