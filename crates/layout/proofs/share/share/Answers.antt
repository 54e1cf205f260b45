-- `layout::share::share` meets its contract. Assumes nothing.
use Rattle.layout.specs.Share.{share_of}
use Rattle.layout.proofs.Ratio.{div-counts}
use Rattle.layout.proofs.share.share.Goals as goal

pub returns : goal.returns
unfolding share_of
returns c = let p = c.requires in div-counts _ _ p.0 p.2 p.1
