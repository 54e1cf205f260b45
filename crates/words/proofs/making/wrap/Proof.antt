-- `words::making::wrap` meets its contract. Assumes nothing.
use native.Mathlib.Omega.{arith}
use mir.Syntax.{w64}
use mir.Facts.{to_z-of_z, to_z_pos}
use Rattle.words.proofs.Copied.{wrap-made}
use borrow.Author.Rules.{rules}
use Rattle.words.proofs.making.wrap.Statement.{statement}
use Rattle.words.proofs.making.wrap.Tie as tie

cast-put : tie.Need-overflow_cast-o
cast-put c = search rules

put-requires : tie.Need-put-a-requires
put-requires c κs = search rules

put-requires-2 : tie.Need-put-b-requires
put-requires-2 c κs = search rules

cast-put-2 : tie.Need-overflow_cast-n
cast-put-2 c = search rules

put-requires-3 : tie.Need-put-c-requires
put-requires-3 c κs = search rules

skip-requires : tie.Need-skip-q-requires
skip-requires c κs = search rules

forward-requires : tie.Need-forward-f-requires
forward-requires c κs = search rules

copy-requires : tie.Need-copy-e-requires
copy-requires c κs = search rules

put-requires-4 : tie.Need-put-g-requires
put-requires-4 c κs = search rules

put-requires-5 : tie.Need-put-h-requires
put-requires-5 c κs = search rules

put-requires-6 : tie.Need-put-i-requires
put-requires-6 c κs = search rules

put-requires-7 : tie.Need-put-requires
put-requires-7 c κs = search rules

same_length : tie.Need-shape_of-out
same_length c = search rules

returns : tie.Need-returns
returns c = let k7 = c.before in
    let k6 = k7.before.before.before in
    let k5 = k6.before.before.before in
    let k4 = k5.before.before.before in
    let y = k4.before.before.before in
    let f = y.before.before in
    let q = f.before in
    let k3 = q.before.before in
    let k2 = k3.before.before.before in
    let k1 = k2.before.before.before in
    let s = k1.before.before in
    let zo = to_z_pos w64 {n = s.args.o} (omega (arith, s.requires.1.1.0)) in
    let zn = to_z_pos w64 {n = s.args.n} (omega (arith, s.requires.1.1.1)) in
    wrap-made s.args.o s.args.d s.args.lo s.args.hi s.args.w.now _ _ _ _ _ _ _ _ _ _ _ _ _ _ _ _ _ _ _ _ _ _
    (rw zo at k1.put-a.ensures) (rw (to_z-of_z s.ranges.d) at k2.put-b.ensures) (rw zn at k3.put-c.ensures) q.skip-q.ensures f.forward-f.ensures y.copy-e.ensures
    (rw (to_z-of_z s.ranges.lo) at k4.put-g.ensures) (rw (to_z-of_z s.ranges.hi) at k5.put-h.ensures) k6.put-i.ensures k7.put.ensures

pub wrap_spec : {M : Type 1} → statement M
wrap_spec =
    tie.close
    (tie.spec
    cast-put
    put-requires
    put-requires-2
    cast-put-2
    put-requires-3
    skip-requires
    forward-requires
    copy-requires
    put-requires-4
    put-requires-5
    put-requires-6
    put-requires-7
    same_length
    returns)
