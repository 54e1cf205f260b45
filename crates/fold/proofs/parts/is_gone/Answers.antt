-- `fold::parts::is_gone` meets its contract. Assumes nothing.
use Rattle.std.proofs.Common.{◌≡◌, get_or, pos, rules, w64, to_z, of_z}
use Rattle.fold.proofs.Constraints.{goes}
use Rattle.fold.proofs.parts.is_gone.Goals as goal

pub returns : goal.returns
returns c =
    let x : to_z w64 (of_z w64 c.reckon-r.result.lo) ≡ c.reckon-r.result.lo = search rules in
    let y : to_z w64 (of_z w64 c.reckon-r.result.hi) ≡ c.reckon-r.result.hi = search rules in
    let a : to_z w64 (of_z w64 (get_or c.args.m.constraint_lower c.args.k (pos 0))) ≡ get_or c.args.m.constraint_lower c.args.k (pos 0) = search rules in
    let b : to_z w64 (of_z w64 (get_or c.args.m.constraint_upper c.args.k (pos 0))) ≡ get_or c.args.m.constraint_upper c.args.k (pos 0) = search rules in
    goes c.args.m c.args.k c.args.words.now c.args.terms _ _ _ _ c.reckon-r.ensures (rw (x, y, a, b) at c.is_inside.ensures)
