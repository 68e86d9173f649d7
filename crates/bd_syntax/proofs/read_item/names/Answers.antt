use Rattle.std.proofs.lemmas.Result.{err_from_is_err_and}
use Rattle.bd_text.specs.View.{nodes_of_all}
use Rattle.bd_syntax.specs.Reading.{each_form, name_form}
use Rattle.bd_syntax.proofs.EachForm.{goes_on, ends, is_done}
use Rattle.bd_syntax.proofs.read_item.names.Goals as goal

pub returns-in_err-name : goal.returns-in_err-name
returns-in_err-name c =
    let p = err_from_is_err_and c.from_residual.result c.from_residual.ensures.1 in
    rw (p.1, p.2) (ends name_form c.args.parts.now c.loop-part.names.items c.loop-part.part-index c.part-item.result (each_form name_form (nodes_of_all c.args.parts.now)) c.in_err-name.field-0.0 c.loop-part-test.true c.part-item.is c.in_err-name.ensures c.loop-part.invariant)

pub loop-part-preserved : goal.loop-part-preserved
loop-part-preserved c =
    rw c.in_ok-push.ensures.items (goes_on name_form c.args.parts.now c.loop-part.names.items c.loop-part.part-index c.part-item.result (each_form name_form (nodes_of_all c.args.parts.now)) c.in_ok-name.field-0 c.loop-part-test.true c.part-item.is c.in_ok-name.ensures c.loop-part.invariant)

pub returns : goal.returns
returns c =
    rw c.from_vec.ensures (is_done name_form c.args.parts.now c.loop-part.names.items c.loop-part.part-index (each_form name_form (nodes_of_all c.args.parts.now)) c.loop-part-test.false c.loop-part.invariant)
