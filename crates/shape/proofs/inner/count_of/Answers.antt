-- `shape::inner::count_of` meets its contract. Assumes nothing.
use Rattle.std.proofs.Common.{rules}
use Rattle.shape.proofs.Limits.{limits, whole}
use Rattle.shape.proofs.inner.count_of.Goals as goal

pub shared_ref_as_front-product : goal.shared_ref_as_front-product
shared_ref_as_front-product c = (limits c.args.shape (search rules) c.requires).rank

pub product-requires : goal.product-requires
product-requires c = (limits c.args.shape (search rules) c.requires).sizes

pub returns : goal.returns
returns c = whole _ (limits c.args.shape (search rules) c.requires) c.product.ensures
