-- One number after another in a list of bytes: what is read at a place, and what stands behind it.
use mathlib.Core.Path.{◌≡◌, ap, ◌∙◌}
use mathlib.Core.List.{List, ◌++◌}
use Prim.Native.Nat.{ℕ, ◌+◌, ◌^◌, ◌<◌}
use lib.ListN.{drop}
use Rattle.lists.proofs.Parts.{drop_on}
use Rattle.drawing_spec.specs.Bytes.{number, bytes}
use Rattle.drawing_spec.proofs.Back.{number_bytes, drop_bytes}

-- the number v in n bytes at the place m, and what stands behind it
pub record At (m n v : ℕ) (bs rest : List ℕ) : Type 0 where
  pub is : number n (drop m bs) ≡ v
  pub behind : drop (m + n) bs ≡ rest

pub read_at : (m n v : ℕ) (bs rest : List ℕ) → v < 256 ^ n → drop m bs ≡ bytes n v ++ rest → At m n v bs rest
read_at m n v bs rest h e = record { is = ap (number n) e ∙ number_bytes n v rest h; behind = drop_on m n bs (bytes n v ++ rest) rest e (drop_bytes n v rest) }
