-- Which records are left.
use Prim.Native.Nat.{ℕ, ◌<◌}
use native.Mathlib.Omega.{arith}
use mathlib.Core.Path.{◌≡◌, refl, sym, ap, ◌∙◌}
use mathlib.Core.List.{List, [], ◌∷◌}
use mathlib.Core.Bool.{Bool, true, false}
use lib.ListN.{length}
use lib.Dec.{eqb, leb}
use borrow.Author.Tests.{eqb-true, leb-true, leb-false}
use Rattle.drawing_spec.specs.Read.{Record, bodies, every, all_links, lines_then_links}
use Rattle.drawing_spec.proofs.Records.{bodies_here, links_no_lines}
use Rattle.file_records.specs.Walk.{records_from}
use Rattle.file_records.proofs.Walk.{none_left}
use Rattle.file_checks.proofs.TallyLaws.{or_false}

-- while bodies of lines are left, a line is next
pub line_next : (r : Record) (rs : List Record) → lines_then_links (r ∷ rs) ≡ true → 0 < length (bodies 2 (r ∷ rs)) → (r.kind ≡ 2) × (lines_then_links rs ≡ true)
unfolding lines_then_links every
line_next r rs h some = go (eqb r.kind 2) refl (eqb r.kind 3) refl
  where
    go : (b : Bool) → eqb r.kind 2 ≡ b → (d : Bool) → eqb r.kind 3 ≡ d → (r.kind ≡ 2) × (lines_then_links rs ≡ true)
    go true e true f = let k = eqb-true r.kind 2 e in let l = eqb-true r.kind 3 f in absurd (omega arith)
    go true e false f = (eqb-true r.kind 2 e, sym (or_false (lines_then_links rs)) ∙ sym (rw (e, f)) ∙ h)
    go false e d f =
        let all : all_links (r ∷ rs) ≡ true = sym (rw e) ∙ h in
        let z = ap length (links_no_lines (r ∷ rs) all) in
        absurd (omega arith)

-- once none is left, only links are
pub links_next : (rs : List Record) → lines_then_links rs ≡ true → length (bodies 2 rs) ≡ 0 → all_links rs ≡ true
unfolding lines_then_links every
links_next [] h none = refl
links_next (r ∷ rs) h none = go (eqb r.kind 2) refl
  where
    go : (b : Bool) → eqb r.kind 2 ≡ b → all_links (r ∷ rs) ≡ true
    go true e = let z = ap length (bodies_here 2 r rs (eqb-true r.kind 2 e)) in absurd (omega arith)
    go false e = sym (rw e) ∙ h

-- where bodies are left, so are bytes
pub some_left : (k : ℕ) (file : List ℕ) (at : ℕ) → 0 < length (bodies k (records_from file at)) → at < length file
unfolding bodies
some_left k file at some = go (leb (length file) at) refl
  where
    go : (b : Bool) → leb (length file) at ≡ b → at < length file
    go true e =
        let z : length (bodies k (records_from file at)) ≡ 0 = ap (λ (rs : List Record). length (bodies k rs)) (none_left file at (leb-true (length file) at e)) in
        absurd (omega arith)
    go false e = leb-false (length file) at e
