-- `tree_sum::put_variable` meets its contract. Assumes nothing.
use borrow.Author.Rules.{rules}
use mathlib.Core.Path.{refl}
use native.Mathlib.Omega.{arith}
use mir.Syntax.{w64}
use mir.Facts.{to_z-of_z, to_z_pos}
use Rattle.words.proofs.Written.{both}
use Rattle.tree_sum.proofs.put_variable.Statement.{statement}
use Rattle.tree_sum.proofs.put_variable.Tie as tie

cast-put : tie.Need-overflow_cast-kind
cast-put c = search rules

put-requires : tie.Need-put-a-requires
put-requires c κs = search rules

cast-put-2 : tie.Need-overflow_cast-number
cast-put-2 c = search rules

put-requires-2 : tie.Need-put-b-requires
put-requires-2 c κs = search rules

put-requires-3 : tie.Need-put-c-requires
put-requires-3 c κs = search rules

put-requires-4 : tie.Need-put-d-requires
put-requires-4 c κs = search rules

put-requires-5 : tie.Need-put-e-requires
put-requires-5 c κs = search rules

put-requires-6 : tie.Need-put-requires
put-requires-6 c κs = search rules

same_length : tie.Need-shape_of-y
same_length c = search rules

returns : tie.Need-returns
returns c =
    let k6 = c.before in
    let k5 = k6.before.before.before in
    let k4 = k5.before.before.before in
    let k3 = k4.before.before.before in
    let k2 = k3.before.before.before in
    let k1 = k2.before.before.before in
    let s = k1.before.before in
    let kind = to_z_pos w64 {n = s.args.kind} (omega (arith, s.requires.0)) in
    let number = to_z_pos w64 {n = s.args.number} (omega (arith, s.requires.1)) in (
      refl,
      both _ _ _ _ _ _ _ _ (both _ _ _ _ _ _ _ _ (both _ _ _ _ _ _ _ _ (both _ _ _ _ _ _ _ _ (both _ _ _ _ _ _ _ _ (rw kind at k1.put-a.ensures) (rw number at k2.put-b.ensures))
          (rw (to_z-of_z s.ranges.lo) at k3.put-c.ensures)) (rw (to_z-of_z s.ranges.hi) at k4.put-d.ensures)) k5.put-e.ensures) k6.put.ensures,
    )

pub put_variable_spec : {M : Type 1} → statement M
put_variable_spec =
    tie.close
    (tie.spec
    cast-put
    put-requires
    cast-put-2
    put-requires-2
    put-requires-3
    put-requires-4
    put-requires-5
    put-requires-6
    same_length
    returns)
