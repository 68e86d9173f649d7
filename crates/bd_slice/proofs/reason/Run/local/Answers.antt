use Rattle.std.proofs.Common.{◌∙◌, List, ap, slice_get, sym}
use Rattle.bd_model.specs.DesignView.{LocalView}
use Rattle.bd_slice.proofs.Accounting.{let_reason, no_let_reason}
use Rattle.bd_slice.proofs.reason.Run.local.Goals as goal

pub returns-in_ok-found-in-Some : goal.returns-in_ok-found-in-Some
returns-in_ok-found-in-Some c = λ history has.
    let at = c.in-Some.ensures.there in
    let view = ap (λ (ls : List LocalView). slice_get ls c.args.number) (sym c.lets-locals.ensures) in
    let_reason _ _ c.args.cycle c.args.number c.args.address at.0 _ _ (view ∙ at.1) at.2 (c.in_ok-found-in-Some.ensures history has)

pub returns-in-None : goal.returns-in-None
returns-in-None c = λ history has.
    let view = ap (λ (ls : List LocalView). slice_get ls c.args.number) (sym c.lets-locals.ensures) in
    no_let_reason _ _ c.args.cycle c.args.number c.args.address _ (view ∙ c.in-None.ensures.past) c.plain.ensures.facts (c.plain.ensures.value ∙ c.no_part.ensures)
