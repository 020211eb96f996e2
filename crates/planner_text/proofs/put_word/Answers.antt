-- `planner_text::put_word` meets its contract.
use Rattle.planner_text.proofs.Put.{put_copied}
use Rattle.planner_text.proofs.put_word.Goals as goal

pub returns : goal.returns
returns c = rw c.copy_from_slice.ensures.after (put_copied c.args.text.now c.args.word.now c.args.at c.requires)
