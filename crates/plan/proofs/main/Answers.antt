-- `plan::main` meets its contract.
use borrow.Author.Rules.{rules}
use Rattle.plan.proofs.Printed.{printable}
use Rattle.plan.proofs.main.Goals as goal

pub text_of-k-requires : goal.text_of-k-requires
text_of-k-requires c =
    record {
      room = search rules;
      answer = printable _ _ _ _ _ _ _ c.plan_file-answer.result c.plan_file-answer.ensures.answer c.plan_file-answer.ensures.retrace (search rules) (search rules);
    }
