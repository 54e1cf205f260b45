-- `offset_table::table::find` meets its contract. Assumes nothing.
use Rattle.std.proofs.Common.{◌∙◌, sym, ap}
use Rattle.offset_table.specs.Table.{pair_found}
use Rattle.offset_table.proofs.Found.{found-some, found-none}
use Rattle.offset_table.proofs.table.find.Goals as goal

pub returns-in-Some : goal.returns-in-Some
returns-in-Some c = sym (found-some _ _ _ (sym c.first_outside.ensures ∙ c.in-Some.is))

pub returns-in-None : goal.returns-in-None
returns-in-None c =
    ap pair_found (sym c.in-None.is ∙ c.first_pair.ensures) ∙ sym (found-none _ _ (sym c.first_outside.ensures ∙ c.in_default.is))

pub returns-in-Some-first_pair : goal.returns-in-Some-first_pair
returns-in-Some-first_pair c =
    ap pair_found (sym c.in-Some-first_pair.is ∙ c.first_pair.ensures) ∙ sym (found-none _ _ (sym c.first_outside.ensures ∙ c.in_default.is))
