use Rattle.bd_slice.proofs.Accounting.{entry_reason}
use Rattle.bd_slice.proofs.reason.Run.entry.Goals as goal

pub returns-in_ok-next-in-Some : goal.returns-in_ok-next-in-Some
returns-in_ok-next-in-Some c = λ history has. entry_reason _ _ c.args.column c.args.entry c.args.address _ (c.in_ok-next-in-Some.ensures history has)
