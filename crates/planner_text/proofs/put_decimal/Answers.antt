-- `planner_text::put_decimal` meets its contract.
use mathlib.Core.Path.{sym, ◌∙◌}
use Prim.Native.Nat.{◌≤◌}
use native.Mathlib.Omega.{arith}
use Rattle.planner_text.proofs.Put.{put_as}
use Rattle.planner_text.proofs.Text.{few_digits, spelled_decimal}
use Rattle.planner_text.proofs.put_decimal.Goals as goal

pub put_word-requires : goal.put_word-requires
put_word-requires c =
    omega (arith, c.decimal-k.ensures.in_bounds.1, few_digits 10 1 20 c.args.n c.decimal-k.result (omega arith) (omega arith) (omega arith) c.decimal-k.ensures.len)

pub returns : goal.returns
returns c =
    let few : c.decimal-k.result ≤ 20 = few_digits 10 1 20 c.args.n c.decimal-k.result (omega arith) (omega arith) (omega arith) c.decimal-k.ensures.len in
    let p = c.put_word.ensures in
    record {
      put = put_as (c.decimal-k.ensures.digits ∙ sym (spelled_decimal c.decimal-k.result c.args.n few c.decimal-k.ensures.len)) p;
      short = omega (arith, p.ends, c.decimal-k.ensures.in_bounds.1);
    }
