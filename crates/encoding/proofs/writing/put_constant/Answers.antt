-- `encoding::writing::put_constant` meets its contract. Assumes nothing.
use mathlib.Core.Path.{sym, ap, ◌∙◌}
use mir.Syntax.{w64}
use mir.Val.{to_z, of_z}
use mir.Facts.{to_z-of_z}
use Rattle.encoding.proofs.Stored.{constant-zero, constant-joined}
use Rattle.encoding.proofs.writing.put_constant.Goals as goal

pub returns-then-constant-eq0 : goal.returns-then-constant-eq0
returns-then-constant-eq0 c = constant-zero _ c.args.constant c.if-alone.false (sym (to_z-of_z c.ranges.constant) ∙ ap (to_z w64) c.if-constant-eq0.true) c.requires

pub returns : goal.returns
returns c =
    constant-joined _ c.args.constant c.if-alone.false (λ e. c.if-constant-eq0.false (ap (of_z w64) e)) c.requires
    (rw (to_z-of_z c.ranges.constant) at c.put_node-end.ensures) c.put_node-2.ensures
