-- What the search leaves of `words::merging::compare_words`. Assumes nothing.
use Rattle.std.proofs.Common.{sym, ap, ◌∙◌, arith, rules, pos, get_or}
use Rattle.words.specs.Words.{order_number}
use Rattle.words.proofs.WordOrder.{flag_is, turn-lt, turn-gt, turn-eq, end_lt, end-gt, end-eq}
use Rattle.words.proofs.merging.compare_words.Goals as goal

pub returns-then-x-y : goal.returns-then-x-y
unfolding order_number
returns-then-x-y c =
    let a = c.args.a.now in
    let b = c.args.b.now in
    let i = c.loop-i.i in
    sym (ap order_number (c.loop-i.invariant
    ∙ turn-lt a b i (omega (arith, c.min-i-end.ensures)) (omega (arith, c.min-i-end.ensures)) (flag_is (get_or a i (pos 0)) (get_or b i (pos 0)) _ (search rules) (search rules) c.if-x-y.true)))

pub returns-then-y-x : goal.returns-then-y-x
unfolding order_number
returns-then-y-x c =
    let a = c.args.a.now in
    let b = c.args.b.now in
    let i = c.loop-i.i in
    sym (ap order_number (c.loop-i.invariant
    ∙ turn-gt a b i (omega (arith, c.min-i-end.ensures)) (omega (arith, c.min-i-end.ensures)) (flag_is (get_or b i (pos 0)) (get_or a i (pos 0)) _ (search rules) (search rules) c.if-y-x.true)))

pub loop-i-preserved : goal.loop-i-preserved
loop-i-preserved c =
    let a = c.args.a.now in
    let b = c.args.b.now in
    let i = c.loop-i.i in
    c.loop-i.invariant
    ∙ turn-eq a b i (omega (arith, c.min-i-end.ensures)) (omega (arith, c.min-i-end.ensures)) (flag_is (get_or a i (pos 0)) (get_or b i (pos 0)) _ (search rules) (search rules) c.if-x-y.false)
    (flag_is (get_or b i (pos 0)) (get_or a i (pos 0)) _ (search rules) (search rules) c.if-y-x.false)

pub returns-then-a-b : goal.returns-then-a-b
unfolding order_number
returns-then-a-b c =
    sym (ap order_number (c.loop-i.invariant ∙ end_lt c.args.a.now c.args.b.now c.loop-i.i (omega arith) (omega arith) (omega arith) (omega arith)))

pub returns-then-b-a : goal.returns-then-b-a
unfolding order_number
returns-then-b-a c =
    sym (ap order_number (c.loop-i.invariant ∙ end-gt c.args.a.now c.args.b.now c.loop-i.i (omega arith) (omega arith) (omega arith) (omega arith)))

pub returns : goal.returns
unfolding order_number
returns c =
    sym (ap order_number (c.loop-i.invariant ∙ end-eq c.args.a.now c.args.b.now c.loop-i.i (omega arith) (omega arith) (omega arith) (omega arith)))
