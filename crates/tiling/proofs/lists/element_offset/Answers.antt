-- `tiling::lists::element_offset` meets its contract. Assumes nothing.
use Rattle.std.proofs.Common.{refl}
use Rattle.tiling.proofs.Shaped.{shaped-under}
use Rattle.tiling.proofs.lists.element_offset.Goals as goal

pub physical_dims-d-requires-clause-under : goal.physical_dims-d-requires-clause-under
physical_dims-d-requires-clause-under c = shaped-under c.requires.ready.shaped _ refl
