-- `offset_table::listed::judge_question` meets its contract. Assumes nothing.
use Rattle.offset_table.proofs.Rules.{question-few}
use Rattle.offset_table.proofs.listed.judge_question.Goals as goal

pub layouts_kept-requires : goal.layouts_kept-requires
layouts_kept-requires c = question-few c.args.shape c.args.table.now c.args.padded _ (cc)

pub sizes_kept-requires : goal.sizes_kept-requires
sizes_kept-requires c = (question-few c.args.shape c.args.table.now c.args.padded _ (cc), cc, cc)
