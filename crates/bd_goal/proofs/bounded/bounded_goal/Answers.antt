use Rattle.std.proofs.Common.{◌*◌, arith}
use Rattle.bd_model.specs.DesignView.{design_view}
use Rattle.bd_symbolic.specs.Widened.{widened}
use Rattle.bd_goal.specs.Formula.{address_count}
use Rattle.bd_goal.proofs.Known.{KeepsAddresses-empty, KeepsDesign-empty, Known-none, Reaches-Known}
use Rattle.bd_goal.proofs.Running.{all-fit, each-fit}
use Rattle.bd_goal.proofs.bounded.bounded_goal.Goals as goal

pub overflow_mul-addresses : goal.overflow_mul-addresses
overflow_mul-addresses c =
    let d = design_view c.args.design.now in
    let fits = each-fit d c.memory_count.result c.requires.lawful c.memory_count.ensures.few in
    omega (arith, fits)

pub overflow_mul-addresses-2 : goal.overflow_mul-addresses-2
overflow_mul-addresses-2 c =
    let d = design_view c.args.design.now in
    let fits = all-fit d c.args.cycles c.memory_count.result c.requires.lawful c.requires.few c.memory_count.ensures.few in
    omega (arith, fits)

pub right_run-requires-clause-keeps : goal.right_run-requires-clause-keeps
right_run-requires-clause-keeps c = KeepsDesign-empty (widened (design_view c.args.design.now) c.args.cycles) _ c.requires.empty

pub right_run-requires-clause-words : goal.right_run-requires-clause-words
right_run-requires-clause-words c = KeepsAddresses-empty _ c.requires.empty

pub returns-then-cycles-eq0-clause-symbols : goal.returns-then-cycles-eq0-clause-symbols
returns-then-cycles-eq0-clause-symbols c =
    let d = design_view c.args.design.now in
    let n = c.args.cycles * address_count d in
    let grows = Known-none (widened d c.args.cycles) n _ _ c.mk_true.ensures.extends c.mk_true.ensures.uses in
    rw c.memory_count.ensures.count (Reaches-Known (widened d c.args.cycles) n _ _ _ c.requires.empty grows)

pub returns-clause-symbols : goal.returns-clause-symbols
returns-clause-symbols c =
    let d = design_view c.args.design.now in
    let n = c.args.cycles * address_count d in
    rw c.memory_count.ensures.count (Reaches-Known (widened d c.args.cycles) n _ _ _ c.requires.empty c.right_run.ensures.grows)
