use Rattle.std.proofs.Common.{◌∙◌, ap, subst, sym}
use Rattle.bd_prop.specs.Graph.{IsGraph, StandsAt}
use Rattle.bd_prop.specs.Form.{Adds, HasForm}
use Rattle.bd_prop.specs.declared.form.Rewrite.TheVariants.{Fresh}
use Rattle.bd_prop.proofs.Forms.{truth-form}
use Rattle.bd_prop.proofs.Same.{inserted}
use Rattle.bd_prop.proofs.prop.Prop.make.Goals as goal

pub returns-in_ok-id-in-Fresh-clause-form : goal.returns-in_ok-id-in-Fresh-clause-form
returns-in_ok-id-in-Fresh-clause-form c =
    let stored = c.in_ok-id-in-Fresh.ensures.stored in
    subst (λ form. HasForm c.args.self.now form c.insert_full.new.self.keys c.in_ok-id-in-Fresh.id) (sym c.in-Fresh.is)
    (subst (λ old. StandsAt c.insert_full.new.self.keys c.in_ok-id-in-Fresh.id c.in-Fresh.node × Adds old c.in-Fresh.node c.insert_full.new.self.keys) c.self.view_is
    (inserted c.self.inside.nodes.keys c.insert_full.new.self.keys c.in-Fresh.node stored.0 c.in_ok-id-in-Fresh.id c.in_ok-id-in-Fresh.ensures.keys stored.1 stored.2))

pub returns-in_ok-id-in-Fresh-clause-truth : goal.returns-in_ok-id-in-Fresh-clause-truth
returns-in_ok-id-in-Fresh-clause-truth c = λ v.
    truth-form v c.args.self.now c.args.form c.insert_full.new.self.keys c.in_ok-id-in-Fresh.id (subst IsGraph c.self.view_is c.self.invariant) c.requires
    (returns-in_ok-id-in-Fresh-clause-form c)
