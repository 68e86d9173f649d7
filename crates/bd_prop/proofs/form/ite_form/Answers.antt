use Rattle.std.proofs.Common.{◌≡◌, ◌∙◌, ap, rules}
use Rattle.bd_prop.specs.declared.form.Rewrite.TheVariants.{Kept}
use Rattle.bd_prop.specs.Form.{ite_form, form_truth}
use Rattle.bd_prop.proofs.Forms.{truth-ite}
use Rattle.bd_prop.proofs.form.ite_form.Goals as goal

pub returns-then-first-second-clause-truth : goal.returns-then-first-second-clause-truth
returns-then-first-second-clause-truth c = λ v.
    let made : Kept c.args.first ≡ ite_form c.args.nodes.now c.args.control c.args.first c.args.second = search rules in
    ap (form_truth v c.args.nodes.now) made ∙ truth-ite v c.args.nodes.now c.requires.graph c.args.control c.args.first c.args.second c.requires.control c.requires.first c.requires.second

pub returns-then-is_false-clause-truth : goal.returns-then-is_false-clause-truth
returns-then-is_false-clause-truth c = λ v.
    let made : Kept c.args.second ≡ ite_form c.args.nodes.now c.args.control c.args.first c.args.second = search rules in
    ap (form_truth v c.args.nodes.now) made ∙ truth-ite v c.args.nodes.now c.requires.graph c.args.control c.args.first c.args.second c.requires.control c.requires.first c.requires.second
