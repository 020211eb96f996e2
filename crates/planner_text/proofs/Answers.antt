-- The text of each kind of answer.
use mathlib.Core.Path.{◌≡◌, sym, ap, subst, ◌∙◌}
use mathlib.Core.List.{List, ◌++◌}
use Prim.Native.Nat.{ℕ, ◌+◌, ◌*◌, ◌≤◌}
use native.Mathlib.Nat.{zero-add}
use native.Mathlib.Omega.{arith}
use lib.ListN.{length, take, drop}
use lib.Ieee.{Float, binary64, to_bits}
use lib.Seq.{sets-eq, take_at}
use Rattle.io.specs.Counts.{IsPrefixLen}
use Rattle.limits.specs.Limits.{most_edges}
use Rattle.sums.specs.Key.{Nonneg}
use Rattle.drawing_spec.specs.Read.{points}
use Rattle.drawing_spec.specs.Bytes.{in_front}
use Rattle.planner_graph.specs.Answer.{answer_of}
use Rattle.planner_graph.specs.declared.Answer.{Answer}
use Rattle.planner_graph.specs.declared.Answer.TheVariants.{Refused, Planned}
use Rattle.planner_text.specs.Text.{refused_word, line_end, field, first_line, points_text, printed}
use Rattle.planner_text.specs.Put.{Put, Printable}
use Rattle.planner_text.proofs.Put.{put_length}

-- what was put at the front of a text that has room is what stands there, in front of the bytes that stood there
pub front : (t₀ xs t₁ : List ℕ) (r : ℕ) → Put t₀ 0 xs t₁ r → r ≤ length t₀ → (t₁ ≡ in_front xs t₀) × ((r ≡ length xs) × IsPrefixLen r t₁)
front t₀ xs t₁ r p h =
    let size : r ≡ length xs = omega (arith, p.ends) in
    let fits : 0 + length xs ≤ length t₀ = omega arith in
    let is : t₁ ≡ in_front xs t₀ = p.is ∙ sets-eq xs t₀ 0 fits ∙ ap (λ (k : ℕ). xs ++ drop k t₀) (zero-add (length xs)) in
    let taken : take r t₁ ≡ xs = ap (take r) is ∙ take_at xs (drop (length xs) t₀) r (sym size) in
    (is, (size, (omega (arith, put_length p), omega (arith, ap length taken))))

module _ (a : Answer) (output : List ℕ) where
  pub refused_text : (k : ℕ) → a ≡ Refused k → refused_word ++ field k line_end ≡ printed (answer_of a) output
  unfolding printed
  refused_text k e = sym (ap (λ (b : Answer). printed (answer_of b) output) e)

  module _ (x : Float) (before after count : ℕ) (e : a ≡ Planned x before after count) where
    pub planned_text : (bits : ℕ) → bits ≡ to_bits binary64 x → first_line bits before after count ++ points_text (points count (drop 6 output)) ≡ printed (answer_of a) output
    unfolding printed
    planned_text bits f = ap (λ (b : ℕ). first_line b before after count ++ points_text (points count (drop 6 output))) f ∙ sym (ap (λ (b : Answer). printed (answer_of b) output) e)

    pub planned_printable : Printable a output → Nonneg binary64 x × (count ≤ most_edges + 1) × (6 + 16 * count ≤ length output)
    planned_printable p = subst (λ (b : Answer). Printable b output) e p
