use Rattle.std.proofs.Common.{◌≡◌}
use Rattle.bd_model.specs.DesignView.{PortView, port_view}
use Rattle.bd_model.specs.Fits.{scalar_sort}
use Rattle.bd_model.proofs.Pairs.{AllZip-map_first}
use Rattle.bd_model.proofs.design.Design.inputs_fit.Goals as goal

pub returns : goal.returns
returns c =
    let views = AllZip-map_first (λ (p : PortView) x. scalar_sort x ≡ p.sort) port_view c.args.self.now.pipe.ports c.args.inputs.now in
    let ports = c.as_slice.ensures in
    let inputs = c.as_slice-2.ensures in
    let both = rw (ports, inputs) at c.scalars_fit.ensures in
    (λ t. views.1 (both.0 t), λ h. both.1 (views.0 h))
