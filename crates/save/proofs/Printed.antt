-- What was saved stands in the destination, so that as many bytes can be printed.
use mathlib.Core.Path.{◌≡◌, sym, ap, subst}
use mathlib.Core.List.{List}
use Prim.Native.Nat.{ℕ, ◌≤◌}
use native.Mathlib.Omega.{arith}
use lib.ListN.{length, take, drop, length-append}
use lib.Seq.{length-take-le}
use Rattle.drawing_spec.specs.Cleaned.{cleaned_file}
use Rattle.drawing_spec.proofs.CleanedFile.{cleaned_length}
use Rattle.std.proofs.Common.{Result, Ok}
use Rattle.limits.specs.declared.Refusal.{Refusal}
use Rattle.writer_again.specs.Again.{WritesCleaned}

module _ (r : Result ℕ Refusal) (file before after : List ℕ) (w : WritesCleaned r file before after) (n : ℕ) (e : r ≡ Ok n) where
  pub written_in : n ≤ length after
  written_in =
      let is : WritesCleaned (Ok n) file before after = subst (λ (a : Result ℕ Refusal). WritesCleaned a file before after) e w in
      omega (arith, is.0, ap (λ (l : List ℕ). length l) is.1, length-append (cleaned_file file) (drop (length (cleaned_file file)) before), cleaned_length file)

  pub written_long : n ≡ length (take n after)
  written_long = sym (length-take-le n after written_in)
