-- What the search leaves of `words::writing::copy`. Assumes nothing.
use Rattle.std.proofs.Common.{◌≡◌, ◌-◌, take, drop, get_or, pos, add-one, rules, w64, to_z, of_z}
use Rattle.std.proofs.Math.Seq.{take-suc}
use Rattle.words.proofs.Written.{both}
use Rattle.words.proofs.writing.copy.Goals as goal

pub loop-v-preserved : goal.loop-v-preserved
loop-v-preserved c =
    let xs = take (c.args.q - c.args.p) (drop c.args.p c.args.w.now) in
    let v : to_z w64 (of_z w64 (get_or xs c.loop-v.v-index (pos 0))) ≡ get_or xs c.loop-v.v-index (pos 0) = search rules in
    rw (add-one, take-suc xs c.loop-v.v-index (pos 0) c.loop-v-test.true) (both _ _ _ _ _ _ _ _ c.loop-v.invariant (rw v at c.put-e.ensures))
