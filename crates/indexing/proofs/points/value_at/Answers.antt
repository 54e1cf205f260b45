-- `indexing::points::value_at` meets its contract. Assumes nothing.
use mathlib.Core.Path.{sym, ap, ◌∙◌, subst}
use lib.IntN.{pos}
use mir.Facts.{to_z-of_z}
use Rattle.expression.specs.Machine.{Whole, first}
use Rattle.indexing.proofs.Formed.{run-here, never-cut, value-here}
use borrow.Author.Rules.{rules, sfits_of}
use Rattle.indexing.proofs.points.value_at.Goals as goal

pub value_of-requires : goal.value_of-requires
value_of-requires c =
    let m = c.args.m in
    let h = c.in-Some.ensures in
    record {
      run = run-here m c.args.i _ _ h (search rules) (search rules);
      whole = subst Whole (sym (value-here m c.args.ds.now c.args.ss.now c.requires.0 c.args.i _ _ c.requires.1 h)) tt;
    }

pub returns-in-Some : goal.returns-in-Some
returns-in-Some c =
    let v = value-here c.args.m c.args.ds.now c.args.ss.now c.requires.0 c.args.i _ _ c.requires.1 c.in-Some.ensures in
    rw (to_z-of_z (sfits_of c.value_of.type_inv)) (c.value_of.ensures ∙ ap (first (pos 0)) v)

pub returns-in-None : goal.returns-in-None
returns-in-None c = absurd (never-cut c.args.m c.args.i c.requires.0.measured.accepted.formed c.requires.1 c.in-None.ensures)
