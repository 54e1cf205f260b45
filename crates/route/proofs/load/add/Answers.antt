-- `route::load::add` meets its contract. Assumes nothing.
use Rattle.std.proofs.Common.{refl, sym, ◌∙◌}
use Rattle.radix.proofs.Tests.{and_left, and-false}
use Rattle.route.proofs.load.add.Goals.{else-loaded-via-then-loaded+else-loaded-2, else-loaded-via-else-loaded}
use Rattle.route.proofs.Entering.{fit-of, broken-numbers, broken-layouts, broken-before}
use Rattle.route.proofs.load.add.Goals as goal

pub returns-then-not-good_numbers : goal.returns-then-not-good_numbers
returns-then-not-good_numbers c = broken-numbers _ _ _ _ _ (sym c.good_numbers.ensures ∙ c.if-not-good_numbers.true)

pub returns-then-not-good_layouts : goal.returns-then-not-good_layouts
returns-then-not-good_layouts c =
    broken-layouts _ _ _ _ _ (sym c.good_numbers.ensures ∙ c.if-not-good_numbers.false)
    (sym c.good_layouts.ensures ∙ c.if-not-good_layouts.true)

pub enter-requires-clause-fit : goal.enter-requires-clause-fit
enter-requires-clause-fit c =
    c.requires.fit c.if-loaded.true c.if-loaded-2.true
    (fit-of _ _ (and_left _ _ (sym c.good_numbers.ensures ∙ c.if-not-good_numbers.false)) (sym c.good_layouts.ensures ∙ c.if-not-good_layouts.false))

pub returns-else-loaded : goal.returns-else-loaded
returns-else-loaded c =
    broken-before _ _ _ _ _ (sym c.good_numbers.ensures ∙ c.if-not-good_numbers.false) (sym c.good_layouts.ensures ∙ c.if-not-good_layouts.false)
    (elim c.else-loaded.branch [
      | else-loaded-via-then-loaded+else-loaded-2 w ↦ and-false _ w.if-loaded-2.false
      | else-loaded-via-else-loaded w ↦ rw w.if-loaded.false refl
    ])
