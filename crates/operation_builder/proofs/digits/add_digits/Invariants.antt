-- What is left to add, and the room for it.
use Rattle.std.proofs.Common.{◌≡◌, ◌*◌, ◌≤◌, drop}
use Rattle.operation_builder.specs.ReshapeDraft.{add_digits}
use Rattle.operation_builder.proofs.digits.add_digits.Given as goal

abbrev pub invariant-loop-i : goal.invariant-loop-i
invariant-loop-i l =
    (add_digits l.sizes l.i (drop l.i l.others) l.out ≡ add_digits l.sizes 0 l.others l.fn.d) × (l.out.at ≤ 26 * l.i) × (l.out.under ≡ 0) × (l.out.map.results ≡ l.i)
