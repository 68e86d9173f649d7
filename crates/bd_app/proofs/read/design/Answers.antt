use Rattle.std.proofs.Common.{Ok, Err}
use Rattle.bd_app.specs.inner.Loaded.{sources_view}
use Rattle.bd_app.proofs.Sources.{denotes_same, not_read}
use Rattle.bd_app.proofs.read.design.Goals as goal

pub returns-in_err-design-clause-refused : goal.returns-in_err-design-clause-refused
returns-in_err-design-clause-refused c =
    let exact = denotes_same c.args.sources.now.premise _ _ _ _ _ _ (Err c.in_err-design.field-0.0) c.as_slice.ensures.value c.as_slice-2.ensures.value c.loaded_slice-third.ensures c.in_err-design.ensures.exact in
    not_read (sources_view c.args.sources.now) _ c.from_residual.result c.from_residual.ensures.1 exact

pub returns-clause-read : goal.returns-clause-read
returns-clause-read c =
    denotes_same c.args.sources.now.premise _ _ _ _ _ _ (Ok c.in_ok-design.design) c.as_slice.ensures.value c.as_slice-2.ensures.value c.loaded_slice-third.ensures c.in_ok-design.ensures.exact
