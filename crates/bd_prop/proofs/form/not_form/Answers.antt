use Rattle.std.proofs.Common.{◌≡◌, ◌∙◌, ap, sym}
use Rattle.bd_prop.specs.declared.form.Rewrite.TheVariants.{Kept}
use Rattle.bd_prop.specs.Form.{not_form, not_form_of, form_truth}
use Rattle.bd_prop.proofs.Forms.{truth-not, below_negation, read_node}
use Rattle.bd_prop.proofs.form.not_form.Goals as goal

pub returns-in-Not-clause-form : goal.returns-in-Not-clause-form
returns-in-Not-clause-form c =
    let nodes = c.args.nodes.now in
    sym (ap (not_form_of c.args.a) (read_node nodes c.args.a c.index-nodes-a.result c.requires.within c.index-nodes-a.is ∙ c.in-Not.is))

pub returns-in-Not-clause-below : goal.returns-in-Not-clause-below
returns-in-Not-clause-below c =
    let nodes = c.args.nodes.now in
    below_negation nodes c.args.a c.in-Not.b c.requires.graph c.requires.within (read_node nodes c.args.a c.index-nodes-a.result c.requires.within c.index-nodes-a.is ∙ c.in-Not.is)

pub returns-in-Not-clause-truth : goal.returns-in-Not-clause-truth
returns-in-Not-clause-truth c = λ v.
    ap (form_truth v c.args.nodes.now) (returns-in-Not-clause-form c) ∙ truth-not v c.args.nodes.now c.requires.graph c.args.a c.requires.within
