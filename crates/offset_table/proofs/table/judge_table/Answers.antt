-- `offset_table::table::judge_table` meets its contract. Assumes nothing.
use Rattle.std.proofs.Common.{◌≡◌, ◌∙◌, true, sym, ap, arith}
use borrow.Author.Tests.{le-leb, lt-leb}
use Rattle.radix.specs.Radix.{max_count}
use Rattle.refusal.specs.Number.{done}
use Rattle.offset_table.specs.Table.{Found}
use Rattle.offset_table.specs.Answers.{found_values, is_table, table_judged}
use Rattle.offset_table.proofs.table.judge_table.Goals as goal

pub returns-then-not-good_shape : goal.returns-then-not-good_shape
unfolding table_judged
returns-then-not-good_shape c = rw (sym c.good_shape.ensures ∙ c.if-not-good_shape.true)

pub returns-then-not-is_table : goal.returns-then-not-is_table
unfolding table_judged
returns-then-not-is_table c =
    rw (sym c.good_shape.ensures ∙ c.if-not-good_shape.false, sym c.is_table.ensures ∙ c.if-not-is_table.true)

pub returns-then-padded-gt-MAX_COUNT : goal.returns-then-padded-gt-MAX_COUNT
unfolding table_judged
returns-then-padded-gt-MAX_COUNT c =
    let kept : is_table c.args.shape c.args.table.now ≡ true = (cc) in
    rw (
      sym c.good_shape.ensures ∙ c.if-not-good_shape.false,
      kept,
      lt-leb c.args.padded max_count (omega arith),
    )

pub returns : goal.returns
unfolding table_judged
returns c =
    let kept : is_table c.args.shape c.args.table.now ≡ true = (cc) in
    rw (
      sym c.good_shape.ensures ∙ c.if-not-good_shape.false,
      kept,
      le-leb c.args.padded max_count (omega arith),
    )
    (ap (λ (f : Found). done (found_values f)) c.find.ensures)
