use Rattle.std.proofs.Common.{Ok, Err}
use Rattle.bd_app.specs.inner.Loaded.{sources_view}
use Rattle.bd_app.proofs.Completions.{completed_same, not_completed}
use Rattle.bd_app.proofs.read.completion.Goals as goal

pub returns-in_err-joined-clause-refused : goal.returns-in_err-joined-clause-refused
returns-in_err-joined-clause-refused c =
    let exact = completed_same _ _ _ _ _ _ _ _ (Err c.in_err-joined.field-0.0) c.as_slice.ensures.value c.as_slice-2.ensures.value c.as_slice-3.ensures.value c.loaded_slice-inv.ensures c.in_err-joined.ensures.exact in
    not_completed (sources_view c.args.bytes.now.sources) c.args.bytes.now.text.items _ c.from_residual.result c.from_residual.ensures.1 exact

pub returns-clause-read : goal.returns-clause-read
returns-clause-read c =
    completed_same _ _ _ _ _ _ _ _ (Ok c.in_ok-joined.joined) c.as_slice.ensures.value c.as_slice-2.ensures.value c.as_slice-3.ensures.value c.loaded_slice-inv.ensures c.in_ok-joined.ensures.exact
