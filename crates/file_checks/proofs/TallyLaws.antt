-- Laws of specs/Tally.
use Prim.Native.Nat.{ℕ, ◌+◌, ◌%◌, ◌≤◌, ◌<◌}
use native.Mathlib.Nat.{add-zero, zero-add}
use native.Mathlib.Numerals.{one-add}
use native.Mathlib.Omega.{arith}
use mathlib.Core.Path.{◌≡◌, refl, sym, ap, ◌∙◌}
use mathlib.Core.List.{List, [], ◌∷◌}
use mathlib.Core.Bool.{Bool, true, false, ◌&&◌, ◌||◌}
use lib.ListN.{length}
use lib.Dec.{eqb}
use borrow.Author.Tests.{eqb-true, ne_eqb}
use Rattle.drawing_spec.specs.Read.{Record, bodies, every, total, lines_then_links, kinds_fit, lengths_fit, records_of, is_cut}
use Rattle.drawing_spec.proofs.Records.{bodies_here, bodies_other}
use Rattle.file_records.specs.declared.Kind.{Kind}
use Rattle.file_records.specs.declared.Kind.TheVariants as kind
use Rattle.file_records.specs.Kind.{kind_of}
use Rattle.file_records.specs.Walk.{size_at, kind_at, next_at, records_from, cut_from}
use Rattle.file_records.proofs.KindsLaws.{Number, first, second, third, none, number_of}
use Rattle.file_records.proofs.Walk.{none_left, room, still_whole, record_here, body_long}
use Rattle.file_reader.specs.Part.{behind_at}
use Rattle.file_reader.proofs.Part.{behind_is}
use Rattle.file_checks.specs.declared.Order.{Order}
use Rattle.file_checks.specs.declared.Order.TheVariants.{Settings, Lines, Links, Broken}
use Rattle.file_checks.specs.declared.Tally.{Tally}
use Rattle.file_checks.specs.Tally.{after, counted_as, length_fits, lines_in, links_in, no_tally, order_fits, points_of, points_in, tallied}

-- ---- the order of the records is check 3

ordered : List Record → Order → Order
ordered [] o = o
ordered (r ∷ rs) o = ordered rs (after o (kind_of r.kind))

order_is : (rs : List Record) (t : Tally) → (tallied rs t).order ≡ ordered rs t.order
unfolding tallied counted_as ordered
order_is [] t = refl
order_is (r ∷ rs) t = order_is rs (counted_as t (kind_of r.kind) (length r.body))

broken : (rs : List Record) → order_fits (ordered rs Broken) ≡ false
unfolding ordered
broken [] = refl
broken (r ∷ rs) = broken rs

links_only : (rs : List Record) → order_fits (ordered rs Links) ≡ every (λ (l : Record). eqb l.kind 3) rs
unfolding ordered every
links_only [] = refl
links_only (r ∷ rs) = go (number_of r.kind) (links_only rs)
  where
    go : Number r.kind → order_fits (ordered rs Links) ≡ every (λ (l : Record). eqb l.kind 3) rs
        → order_fits (ordered rs (after Links (kind_of r.kind))) ≡ eqb r.kind 3 && every (λ (l : Record). eqb l.kind 3) rs
    go (first e) ih = rw e (broken rs)
    go (second e) ih = rw e (broken rs)
    go (third e) ih = rw e ih
    go (none p q s o) ih = rw (o, ne_eqb r.kind 3 s) (broken rs)

pub or_false : (b : Bool) → b || false ≡ b
or_false true = refl
or_false false = refl

lines_first : (rs : List Record) → order_fits (ordered rs Lines) ≡ lines_then_links rs
unfolding ordered lines_then_links every
lines_first [] = refl
lines_first (r ∷ rs) = go (number_of r.kind) (lines_first rs)
  where
    go : Number r.kind → order_fits (ordered rs Lines) ≡ lines_then_links rs
        → order_fits (ordered rs (after Lines (kind_of r.kind))) ≡ (eqb r.kind 2 && lines_then_links rs) || (eqb r.kind 3 && every (λ (l : Record). eqb l.kind 3) rs)
    go (first e) ih = rw e (broken rs)
    go (second e) ih = rw e (ih ∙ sym (or_false (lines_then_links rs)))
    go (third e) ih = rw e (links_only rs)
    go (none p q s o) ih = rw (o, ne_eqb r.kind 2 q, ne_eqb r.kind 3 s) (broken rs)

pub kinds : (rs : List Record) → order_fits (tallied rs no_tally).order ≡ kinds_fit rs
unfolding ordered kinds_fit
kinds rs = ap order_fits (order_is rs no_tally) ∙ whole rs
  where
    begins : (r : Record) (rs : List Record) → Number r.kind → order_fits (ordered rs (after Settings (kind_of r.kind))) ≡ eqb r.kind 1 && lines_then_links rs
    begins r rs (first e) = rw e (lines_first rs)
    begins r rs (second e) = rw e (broken rs)
    begins r rs (third e) = rw e (broken rs)
    begins r rs (none p q s o) = rw (o, ne_eqb r.kind 1 p) (broken rs)

    whole : (rs : List Record) → order_fits (ordered rs Settings) ≡ kinds_fit rs
    whole [] = refl
    whole (r ∷ rs) = begins r rs (number_of r.kind)

-- ---- check 4

-- of three tests over bodies, a record adds to that of its kind
shift1 : (x a b c : Bool) → (x && a) && b && c ≡ x && (a && b && c)
shift1 true a b c = refl
shift1 false a b c = refl

shift2 : (x a b c : Bool) → a && (x && b) && c ≡ x && (a && b && c)
shift2 true a b c = refl
shift2 false true b c = refl
shift2 false false b c = refl

shift3 : (x a b c : Bool) → a && b && (x && c) ≡ x && (a && b && c)
shift3 true a b c = refl
shift3 false true true c = refl
shift3 false true false c = refl
shift3 false false b c = refl

pub lengths_cons : (r : Record) (rs : List Record) → lengths_fit (r ∷ rs) ≡ length_fits (kind_of r.kind) (length r.body) && lengths_fit rs
unfolding lengths_fit every
lengths_cons r rs = go (number_of r.kind)
  where
    one : List Record → Bool
    one rs = every (λ (b : List ℕ). eqb (length b) 10) (bodies 1 rs)

    two : List Record → Bool
    two rs = every (λ (b : List ℕ). eqb (length b % 16) 0) (bodies 2 rs)

    three : List Record → Bool
    three rs = every (λ (b : List ℕ). eqb (length b) 40) (bodies 3 rs)

    go : Number r.kind → lengths_fit (r ∷ rs) ≡ length_fits (kind_of r.kind) (length r.body) && lengths_fit rs
    go (first e) = rw (bodies_here 1 r rs e, bodies_other 2 r rs (λ q. omega arith), bodies_other 3 r rs (λ q. omega arith), e) (shift1 (eqb (length r.body) 10) (one rs) (two rs) (three rs))
    go (second e) = rw (bodies_other 1 r rs (λ q. omega arith), bodies_here 2 r rs e, bodies_other 3 r rs (λ q. omega arith), e) (shift2 (eqb (length r.body % 16) 0) (one rs) (two rs) (three rs))
    go (third e) = rw (bodies_other 1 r rs (λ q. omega arith), bodies_other 2 r rs (λ q. omega arith), bodies_here 3 r rs e, e) (shift3 (eqb (length r.body) 40) (one rs) (two rs) (three rs))
    go (none p q s o) = rw (bodies_other 1 r rs p, bodies_other 2 r rs q, bodies_other 3 r rs s, o)

pub and_assoc : (a b c : Bool) → (a && b) && c ≡ a && (b && c)
and_assoc true b c = refl
and_assoc false b c = refl

and_true : (b : Bool) → b ≡ b && true
and_true true = refl
and_true false = refl

pub lengths : (rs : List Record) (t : Tally) → (tallied rs t).lengths ≡ t.lengths && lengths_fit rs
unfolding tallied counted_as lengths_fit bodies every
lengths [] t = and_true t.lengths
lengths (r ∷ rs) t =
    lengths rs (counted_as t (kind_of r.kind) (length r.body))
    ∙ and_assoc t.lengths (length_fits (kind_of r.kind) (length r.body)) (lengths_fit rs)
    ∙ ap (λ (b : Bool). t.lengths && b) (sym (lengths_cons r rs))

-- ---- the counts of check 6

lines_cons : (r : Record) (rs : List Record) → length (bodies 2 (r ∷ rs)) ≡ lines_in (kind_of r.kind) + length (bodies 2 rs)
lines_cons r rs = go (number_of r.kind)
  where
    go : Number r.kind → length (bodies 2 (r ∷ rs)) ≡ lines_in (kind_of r.kind) + length (bodies 2 rs)
    go (first e) = rw (bodies_other 2 r rs (λ q. omega arith), e) (sym (zero-add (length (bodies 2 rs))))
    go (second e) = rw (bodies_here 2 r rs e, e) (sym (one-add (length (bodies 2 rs))))
    go (third e) = rw (bodies_other 2 r rs (λ q. omega arith), e) (sym (zero-add (length (bodies 2 rs))))
    go (none p q s o) = rw (bodies_other 2 r rs q, o) (sym (zero-add (length (bodies 2 rs))))

links_cons : (r : Record) (rs : List Record) → length (bodies 3 (r ∷ rs)) ≡ links_in (kind_of r.kind) + length (bodies 3 rs)
links_cons r rs = go (number_of r.kind)
  where
    go : Number r.kind → length (bodies 3 (r ∷ rs)) ≡ links_in (kind_of r.kind) + length (bodies 3 rs)
    go (first e) = rw (bodies_other 3 r rs (λ q. omega arith), e) (sym (zero-add (length (bodies 3 rs))))
    go (second e) = rw (bodies_other 3 r rs (λ q. omega arith), e) (sym (zero-add (length (bodies 3 rs))))
    go (third e) = rw (bodies_here 3 r rs e, e) (sym (one-add (length (bodies 3 rs))))
    go (none p q s o) = rw (bodies_other 3 r rs s, o) (sym (zero-add (length (bodies 3 rs))))

points_cons : (r : Record) (rs : List Record) → points_in (bodies 2 (r ∷ rs)) ≡ points_of (kind_of r.kind) (length r.body) + points_in (bodies 2 rs)
unfolding total
points_cons r rs = go (number_of r.kind)
  where
    go : Number r.kind → points_in (bodies 2 (r ∷ rs)) ≡ points_of (kind_of r.kind) (length r.body) + points_in (bodies 2 rs)
    go (first e) = rw (bodies_other 2 r rs (λ q. omega arith), e) (sym (zero-add (points_in (bodies 2 rs))))
    go (second e) = rw (bodies_here 2 r rs e, e)
    go (third e) = rw (bodies_other 2 r rs (λ q. omega arith), e) (sym (zero-add (points_in (bodies 2 rs))))
    go (none p q s o) = rw (bodies_other 2 r rs q, o) (sym (zero-add (points_in (bodies 2 rs))))

pub lines_counted : (rs : List Record) (t : Tally) → (tallied rs t).lines ≡ t.lines + length (bodies 2 rs)
unfolding tallied counted_as bodies
lines_counted [] t = sym (add-zero t.lines)
lines_counted (r ∷ rs) t =
    let ih = lines_counted rs (counted_as t (kind_of r.kind) (length r.body)) in
    let e = lines_cons r rs in
    omega arith

pub points_counted : (rs : List Record) (t : Tally) → (tallied rs t).points ≡ t.points + points_in (bodies 2 rs)
unfolding tallied counted_as bodies total
points_counted [] t = sym (add-zero t.points)
points_counted (r ∷ rs) t =
    let ih = points_counted rs (counted_as t (kind_of r.kind) (length r.body)) in
    let e = points_cons r rs in
    omega arith

pub links_counted : (rs : List Record) (t : Tally) → (tallied rs t).links ≡ t.links + length (bodies 3 rs)
unfolding tallied counted_as bodies
links_counted [] t = sym (add-zero t.links)
links_counted (r ∷ rs) t =
    let ih = links_counted rs (counted_as t (kind_of r.kind) (length r.body)) in
    let e = links_cons r rs in
    omega arith

-- ---- the loop over the heads

pub lines_small : (k : Kind) → lines_in k ≤ 1
lines_small kind.Settings = omega arith
lines_small kind.Line = omega arith
lines_small kind.Link = omega arith
lines_small kind.Other = omega arith

pub links_small : (k : Kind) → links_in k ≤ 1
links_small kind.Settings = omega arith
links_small kind.Line = omega arith
links_small kind.Link = omega arith
links_small kind.Other = omega arith

pub points_small : (k : Kind) (n : ℕ) → points_of k n ≤ n
points_small kind.Settings n = omega arith
points_small kind.Line n = omega arith
points_small kind.Link n = omega arith
points_small kind.Other n = omega arith

-- at a place, with the tally of the records before it
pub record Counting (file : List ℕ) (at : ℕ) (t : Tally) : Type 0 where
  pub inside : at ≤ length file
  pub is_whole : cut_from file at ≡ false
  pub lines_few : t.lines ≤ at
  pub points_few : t.points ≤ at
  pub links_few : t.links ≤ at
  pub same : tallied (records_from file at) t ≡ tallied (records_of file) no_tally

pub count_none : (file : List ℕ) (t : Tally) → is_cut file ≡ false → t ≡ no_tally → Counting file 0 t
count_none file t w e = record {
  inside = omega arith;
  is_whole = w;
  lines_few = rw e (omega arith);
  points_few = rw e (omega arith);
  links_few = rw e (omega arith);
  same = ap (tallied (records_of file)) e;
}

pub count_end : (file : List ℕ) (at : ℕ) (t : Tally) → Counting file at t → length file ≤ at → t ≡ tallied (records_of file) no_tally
unfolding tallied
count_end file at t c h = sym (ap (λ (rs : List Record). tallied rs t) (none_left file at h)) ∙ c.same

pub count_on : (file : List ℕ) (at : ℕ) (t u : Tally) (k : Kind) (n : ℕ) → Counting file at t → at < length file → k ≡ kind_of (kind_at file at) → n ≡ size_at file at → u ≡ counted_as t k n → (next : ℕ) → next ≡ behind_at file at → Counting file next u
unfolding tallied counted_as
count_on file at t u k n c h K N U next P =
    let r = room file at h c.is_whole in
    let step : next ≡ next_at file at = P ∙ behind_is file at h c.is_whole in
    let one2 = lines_small k in
    let one3 = links_small k in
    let p = points_small k n in
    let ul = ap (λ (t : Tally). t.lines) U in
    let up = ap (λ (t : Tally). t.points) U in
    let uk = ap (λ (t : Tally). t.links) U in
    let l = c.lines_few in
    let q = c.points_few in
    let m = c.links_few in
    record {
      inside = omega arith;
      is_whole = ap (cut_from file) step ∙ still_whole file at h c.is_whole;
      lines_few = omega arith;
      points_few = omega arith;
      links_few = omega arith;
      same =
          ap (λ (a : ℕ). tallied (records_from file a) u) step
          ∙ ap (tallied (records_from file (next_at file at))) (U ∙ ap (λ (k : Kind). counted_as t k n) K ∙ ap (counted_as t (kind_of (kind_at file at))) (N ∙ sym (body_long file at h c.is_whole)))
          ∙ sym (ap (λ (rs : List Record). tallied rs t) (record_here file at h c.is_whole))
          ∙ c.same;
    }

-- ---- the lengths that the kinds ask

module _ (k n : ℕ) (h : length_fits (kind_of k) n ≡ true) where
  pub settings_size : k ≡ 1 → n ≡ 10
  settings_size e = eqb-true n 10 (sym (rw e) ∙ h)

  pub line_size : k ≡ 2 → n % 16 ≡ 0
  line_size e = eqb-true (n % 16) 0 (sym (rw e) ∙ h)

  pub link_size : k ≡ 3 → n ≡ 40
  link_size e = eqb-true n 40 (sym (rw e) ∙ h)
