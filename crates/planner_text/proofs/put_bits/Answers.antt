-- `planner_text::put_bits` meets its contract.
use mathlib.Core.Path.{◌∙◌}
use Prim.Native.Nat.{◌≤◌}
use native.Mathlib.Omega.{arith}
use Rattle.planner_text.proofs.Put.{put_as, put_both}
use Rattle.planner_text.proofs.Text.{few_digits, spelled_hex}
use Rattle.planner_text.proofs.put_bits.Goals as goal

pub put_word-behind-requires : goal.put_word-behind-requires
put_word-behind-requires c =
    omega (arith, c.hex-k.ensures.in_bounds.1, few_digits 16 16 16 c.args.bits c.hex-k.result (omega arith) (omega arith) (omega arith) c.hex-k.ensures.len)

pub put_byte-requires : goal.put_byte-requires
put_byte-requires c =
    omega (
      arith,
      c.put_word-behind.ensures.ends,
      c.hex-k.ensures.in_bounds.1,
      few_digits 16 16 16 c.args.bits c.hex-k.result (omega arith) (omega arith) (omega arith) c.hex-k.ensures.len,
    )

pub returns : goal.returns
returns c =
    let few : c.hex-k.result ≤ 16 = few_digits 16 16 16 c.args.bits c.hex-k.result (omega arith) (omega arith) (omega arith) c.hex-k.ensures.len in
    let b = c.put_byte.ensures in
    record {
      put = put_both (put_as (c.hex-k.ensures.digits ∙ spelled_hex c.hex-k.result c.args.bits (omega (arith, c.hex-k.ensures.len.0))) c.put_word-behind.ensures) b;
      short = omega (arith, c.put_word-behind.ensures.ends, c.hex-k.ensures.in_bounds.1, b.ends);
    }
