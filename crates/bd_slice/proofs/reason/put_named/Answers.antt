use Rattle.bd_slice.proofs.Collecting.{front_same, inserted_there}
use Rattle.bd_slice.proofs.reason.put_named.Goals as goal

pub returns-in_ok-insert-in-Rests-clause-among : goal.returns-in_ok-insert-in-Rests-clause-among
returns-in_ok-insert-in-Rests-clause-among c = rw c.in-Rests.is (inserted_there _ _ _ c.in_ok-insert-in-Rests.ensures.keys)

pub returns-in-Chosen-clause-front : goal.returns-in-Chosen-clause-front
returns-in-Chosen-clause-front c = front_same _

pub returns-in-Decided-clause-front : goal.returns-in-Decided-clause-front
returns-in-Decided-clause-front c = front_same _

pub returns-in-Met-clause-front : goal.returns-in-Met-clause-front
returns-in-Met-clause-front c = front_same _

pub returns-in-Passed-clause-front : goal.returns-in-Passed-clause-front
returns-in-Passed-clause-front c = front_same _

pub returns-in-Applied-clause-front : goal.returns-in-Applied-clause-front
returns-in-Applied-clause-front c = front_same _
