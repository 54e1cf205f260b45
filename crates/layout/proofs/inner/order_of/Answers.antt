-- `layout::inner::order_of` meets its contract. Assumes nothing.
use Rattle.std.proofs.Common.{rules}
use Rattle.layout.proofs.Accepted.{kept_of, order-held}
use Rattle.layout.proofs.inner.order_of.Goals as goal

pub shared_ref_as_front-reverse_into : goal.shared_ref_as_front-reverse_into
shared_ref_as_front-reverse_into c = (kept_of c.args.rank c.args.layout (record { order = search rules; lens = search rules; tile = search rules }) c.requires).few

pub returns : goal.returns
returns c =
    order-held (kept_of c.args.rank c.args.layout (record { order = search rules; lens = search rules; tile = search rules }) c.requires) c.reverse_into.new.out c.reverse_into.ensures
