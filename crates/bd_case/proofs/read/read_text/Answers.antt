use Rattle.bd_text.specs.View.{nodes_of}
use Rattle.bd_syntax.proofs.Results.{given_holds}
use Rattle.std.proofs.Common.{length}
use Rattle.bd_model.specs.DesignView.{design_view}
use Rattle.bd_model.specs.Fits.{TrailFits}
use Rattle.bd_case.specs.Reading.{HasCycles, text_form}
use Rattle.bd_case.proofs.WhatIsReadFits.{text_form-fits, text_form-cycles}
use Rattle.bd_case.proofs.read.read_text.Goals as goal

pub returns-in-Ok-clause-fits : goal.returns-in-Ok-clause-fits
returns-in-Ok-clause-fits c = λ lawful.
    let d = design_view c.args.design.now in
    let trees = nodes_of c.in-Ok.trees in
    given_holds (λ t. t) (TrailFits d) c.trail_of_trees.result (text_form c.args.subject d trees) c.trail_of_trees.ensures (text_form-fits c.args.subject d trees lawful)

pub returns-in-Ok-clause-cycles : goal.returns-in-Ok-clause-cycles
returns-in-Ok-clause-cycles c =
    let d = design_view c.args.design.now in
    let trees = nodes_of c.in-Ok.trees in
    given_holds (λ t. t) (λ t. HasCycles c.args.subject (length t.inputs)) c.trail_of_trees.result (text_form c.args.subject d trees) c.trail_of_trees.ensures (text_form-cycles c.args.subject d trees)
