use Rattle.bd_slice.proofs.Followings.{each_at}
use Rattle.bd_slice.proofs.line.StatePath.at.Goals as goal

pub returns : goal.returns
returns c = λ o states f. rw c.as_slice-kept.ensures (each_at o states c.args.self.now.passed c.args.place _ f.passed c.get-state.ensures)
