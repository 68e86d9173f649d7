use Rattle.bd_transitive.proofs.Places.{unwrap_or-position}
use Rattle.bd_lift.proofs.decode.place_of.Goals as goal

pub returns : goal.returns
returns c = let e = unwrap_or-position c.args.vertices.now.keys c.args.vertex in cc
