-- `tree_planner::own_of` meets its contract. Assumes nothing.
use Rattle.tree_planner.proofs.Placing.{own-none, own_first, own-high, own-mid, own-low}
use Rattle.tree_planner.proofs.own_of.Goals as goal

pub returns-then-cells-size : goal.returns-then-cells-size
returns-then-cells-size c = (own-none _ _ _ _ c.requires.1 c.requires.3 c.if-cells-size.true _ c.far.ensures.0, c.far.ensures.1)

pub returns-then-i-eq0 : goal.returns-then-i-eq0
returns-then-i-eq0 c = own_first _ _ _ _ c.requires.1 c.requires.3 c.if-i-eq0.true c.if-cells-size.false

pub returns-then-i-lt22 : goal.returns-then-i-lt22
returns-then-i-lt22 c =
    own-high _ _ _ _ c.requires.1 c.requires.3 _ c.eights.ensures.upper_bound c.if-i-lt22.true c.if-cells-size.false c.eights.ensures.value

pub returns-then-i-lt43 : goal.returns-then-i-lt43
returns-then-i-lt43 c =
    let e = c.eights-then-i-lt43.ensures in
    own-mid _ _ _ _ c.requires.1 c.requires.3 _ e.upper_bound c.if-i-lt43.true c.if-cells-size.false e.value

pub returns-else-i-lt43 : goal.returns-else-i-lt43
returns-else-i-lt43 c =
    let e = c.eights-else-i-lt43.ensures in own-low _ _ _ _ c.requires.1 c.requires.3 _ e.upper_bound c.if-cells-size.false e.value
