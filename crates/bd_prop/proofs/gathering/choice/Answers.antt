use Rattle.std.proofs.Common.{◌≡◌, ◌∙◌, ap, sym}
use Rattle.bd_prop.specs.Gathered.{choice_part}
use Rattle.bd_prop.specs.declared.gathering.Part.TheVariants.{Inside, Node}
use Rattle.bd_prop.proofs.gathering.choice.Goals as goal

pub returns-then-inside : goal.returns-then-inside
returns-then-inside c = ap Inside c.in_ok-items.ensures ∙ ap (λ b. choice_part b c.args.control c.args.yes.now c.args.no.now) (sym c.if-inside.true)

pub returns : goal.returns
returns c = ap Node c.in_ok-node.ensures ∙ ap (λ b. choice_part b c.args.control c.args.yes.now c.args.no.now) (sym c.if-inside.false)
