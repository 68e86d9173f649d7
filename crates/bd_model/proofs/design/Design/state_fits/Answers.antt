use Rattle.bd_model.proofs.design.Design.state_fits.Goals as goal

pub returns : goal.returns
returns c = rw (c.as_slice.ensures, c.as_slice-2.ensures) at c.values_fit.ensures
