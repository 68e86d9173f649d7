use Rattle.bd_transitive.proofs.Meeting.{classes_meet}
use Rattle.bd_transitive.proofs.laws.classes_meet_triangles.Goals as goal

pub returns : goal.returns
returns c = classes_meet
