use Rattle.std.proofs.Common.{◌≡◌, ◌∙◌, ap, rules}
use Rattle.bd_prop.specs.declared.form.Rewrite.TheVariants.{Kept}
use Rattle.bd_prop.specs.Form.{or_form, form_truth}
use Rattle.bd_prop.proofs.Forms.{truth-or}
use Rattle.bd_prop.proofs.form.or_form.Goals as goal

pub returns-then-a-b-clause-truth : goal.returns-then-a-b-clause-truth
returns-then-a-b-clause-truth c = λ v.
    let made : Kept c.args.b ≡ or_form c.args.nodes.now c.args.a c.args.b = search rules in
    ap (form_truth v c.args.nodes.now) made ∙ truth-or v c.args.nodes.now c.requires.graph c.args.a c.args.b c.requires.first c.requires.second

pub returns-then-is_false-2-clause-truth : goal.returns-then-is_false-2-clause-truth
returns-then-is_false-2-clause-truth c = λ v.
    let made : Kept c.args.a ≡ or_form c.args.nodes.now c.args.a c.args.b = search rules in
    ap (form_truth v c.args.nodes.now) made ∙ truth-or v c.args.nodes.now c.requires.graph c.args.a c.args.b c.requires.first c.requires.second
