use Rattle.std.proofs.Common.{◌≡◌, ◌<◌, length, subst, arith}
use Rattle.std.proofs.lemmas.List.{length-map}
use Rattle.bd_model.specs.DesignView.{design_view, exact_view}
use Rattle.bd_about.specs.Changed.{without_steps}
use Rattle.bd_about.specs.Findings.{IsFinding}
use Rattle.bd_about.specs.declared.asking.Finding.TheVariants.{Right}
use Rattle.bd_about.proofs.Changed.{without_steps_lawful}
use Rattle.bd_about.proofs.Steps.{found_still}
use Rattle.bd_about.proofs.asking.on_no_steps.Goals as goal
use Rattle.bd_model.specs.Limits.{most_items}

pub found-requires : goal.found-requires
found-requires c =
    rw c.in_ok-changed.ensures (without_steps_lawful (design_view c.args.design) c.requires (omega (arith, length-map c.args.design.exact exact_view)))

pub returns : goal.returns
returns c =
    let d = design_view c.args.design in
    let f = c.in_ok-found.field-0 in
    let room : length d.exact < most_items = omega (arith, length-map c.args.design.exact exact_view) in
    let finding : IsFinding (without_steps d) c.args.given f = subst (λ e. IsFinding e c.args.given f) c.in_ok-changed.ensures c.in_ok-found.ensures in
    record {
      finding = (room, finding);
      never_steps = λ some. let right : f ≡ Right = cc in found_still d c.args.given f c.requires room finding right;
    }
