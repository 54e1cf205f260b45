-- `indexing::judging::judge_map` meets its contract. Assumes nothing.
use mathlib.Core.Path.{ap}
use Rattle.refusal.specs.Number.{verdict_answer}
use Rattle.indexing.specs.Answers.{judged_map}
use Rattle.indexing.proofs.judging.judge_map.Goals as goal

pub returns : goal.returns
unfolding judged_map
returns c = ap verdict_answer c.judged.ensures
