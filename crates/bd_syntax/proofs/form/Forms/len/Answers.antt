use Rattle.std.proofs.Common.{ap, arith}
use Rattle.bd_syntax.specs.Forms.{expression_count}
use Rattle.bd_syntax.proofs.Views.{expression_count-expressions_of_all, expressions_of-items}
use Rattle.bd_syntax.proofs.form.Forms.len.Goals as goal

pub returns : goal.returns
returns c =
    let es = c.args.self.now in
    omega (arith, es.items.ok.0, ap expression_count (expressions_of-items es), expression_count-expressions_of_all es.items.items)
