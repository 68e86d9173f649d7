use Rattle.std.proofs.Common.{◌∙◌, ap, slice_get, sym}
use Rattle.bd_model.specs.DesignView.{MachineView, design_view, local_view}
use Rattle.bd_slice.proofs.Accounting.{has_led, next_accounts, no_next_accounts, view_count}
use Rattle.bd_slice.proofs.reason.Run.next.Goals as goal

pub returns-in_ok-found-in-Some : goal.returns-in_ok-found-in-Some
returns-in_ok-found-in-Some c = λ history has.
    let view = ap (λ (m : MachineView). slice_get m.nexts c.args.entry) (sym c.machine-machine.ensures) in
    next_accounts _ _ c.args.cycle c.args.column _ c.args.entry c.args.address _ _ c.requires.leads (view_count local_view _ _ _ c.len-count.ensures c.lets-locals.ensures) (view ∙ c.in-Some.ensures.there)
    (c.in_ok-found-in-Some.ensures history (has_led (design_view c.args.self.design.now) c.args.cycle c.args.column c.requires.leads has))

pub returns-in-None : goal.returns-in-None
returns-in-None c = λ history has.
    let view = ap (λ (m : MachineView). slice_get m.nexts c.args.entry) (sym c.machine-machine.ensures) in
    no_next_accounts _ _ c.args.cycle c.args.column c.args.entry c.args.address _ c.requires.leads (view ∙ c.in-None.ensures.past) c.plain.ensures.facts (c.plain.ensures.value ∙ c.no_part.ensures)
