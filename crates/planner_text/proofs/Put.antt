-- Laws of specs/Put: one run of bytes behind another, and a word byte by byte.
use mathlib.Core.Path.{◌≡◌, refl, sym, ap, ap₂, subst, ◌∙◌}
use borrow.Rule.Slice.PartMut.{put_mid}
use mathlib.Core.List.{List, [], ◌++◌, append_assoc}
use Prim.Native.Nat.{ℕ, ◌+◌, ◌-◌, ◌≤◌}
use native.Mathlib.Omega.{arith}
use lib.ListN.{length, take, drop, length-append}
use lib.Seq.{sets, sets-eq, length-sets, drop-drop}
use Rattle.lists.proofs.Parts.{sets_append}
use Rattle.planner_text.specs.Put.{Put}

pub put_both : {t₀ t₁ t₂ xs ys : List ℕ} {a b c : ℕ} → Put t₀ a xs t₁ b → Put t₁ b ys t₂ c → Put t₀ a (xs ++ ys) t₂ c
put_both {t₀} {t₁} {t₂} {xs} {ys} {a} {b} {c} p q = record {
  is = q.is ∙ ap₂ (λ (t : List ℕ) (k : ℕ). sets t k ys) p.is p.ends ∙ sym (sets_append t₀ a xs ys);
  ends = omega (arith, p.ends, q.ends, length-append xs ys);
}

pub put_as : {t₀ t₁ xs ys : List ℕ} {a b : ℕ} → xs ≡ ys → Put t₀ a xs t₁ b → Put t₀ a ys t₁ b
put_as {t₀} {t₁} {xs} {ys} {a} {b} e p = subst (λ (zs : List ℕ). Put t₀ a zs t₁ b) e p

pub put_length : {t₀ t₁ xs : List ℕ} {a b : ℕ} → Put t₀ a xs t₁ b → length t₁ ≡ length t₀
put_length {t₀} {t₁} {xs} {a} {b} p = ap length p.is ∙ length-sets t₀ a xs

pub put_none : (t : List ℕ) (a : ℕ) → Put t a [] t a
put_none t a = record { is = refl; ends = omega arith }

-- A word that was copied over a part of the text.
pub put_copied : (text word : List ℕ) (at : ℕ) → at + length word ≤ length text → Put text at word (put_mid at (at + length word - at) text word) (at + length word)
put_copied text word at h =
    let long : at + length word - at ≡ length word = omega arith in
    record {
      is = ap (λ (k : ℕ). put_mid at k text word) long ∙ ap (λ (l : List ℕ). take at text ++ (word ++ l)) (drop-drop (length word) at text) ∙ sym (append_assoc (take at text) word (drop (at + length word) text)) ∙ sym (sets-eq word text at h);
      ends = refl;
    }
