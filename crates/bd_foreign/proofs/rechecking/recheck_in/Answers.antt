use Rattle.bd_model.specs.DesignView.{design_view}
use Rattle.bd_foreign.proofs.Right.{fault-over, read-over, refutes-over, right-over}
use Rattle.bd_foreign.proofs.rechecking.recheck_in.Goals as goal

pub returns-clause-read : goal.returns-clause-read
returns-clause-read c = read-over (design_view c.args.design.now) c.in_ok-cnf.cnf c.args.bytes.now c.args.mode c.checked.result c.in_ok-cnf.ensures.kept c.checked.ensures.read

pub returns-clause-refutes : goal.returns-clause-refutes
returns-clause-refutes c = refutes-over (design_view c.args.design.now) c.in_ok-cnf.cnf c.args.bytes.now c.checked.result c.checked.ensures.read

pub returns-clause-right : goal.returns-clause-right
returns-clause-right c = right-over (design_view c.args.design.now) c.in_ok-cnf.cnf c.args.bytes.now c.checked.result c.requires c.in_ok-cnf.ensures.decides c.checked.ensures.read

pub returns-clause-fault : goal.returns-clause-fault
returns-clause-fault c = fault-over (design_view c.args.design.now) c.in_ok-cnf.cnf c.args.bytes.now c.args.mode c.checked.result c.in_ok-cnf.ensures.kept c.checked.ensures.fault
