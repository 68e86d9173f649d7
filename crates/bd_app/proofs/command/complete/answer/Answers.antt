use Rattle.bd_app.specs.Complete.{complete_of}
use Rattle.bd_app.specs.inner.Loaded.{sources_view}
use Rattle.bd_app.proofs.Completions.{complete_done}
use Rattle.bd_app.proofs.Effects.{load_failed, loaded_stand}
use Rattle.bd_app.proofs.command.complete.answer.Goals as goal

pub returns-in_err-bytes : goal.returns-in_err-bytes
returns-in_err-bytes g c = load_failed _ _ _ _ c.from_residual.result c.from_residual.ensures.1 c.in_err-bytes.ensures.left

pub returns : goal.returns
returns g c =
    let loads = c.in_ok-bytes.ensures in
    let bytes = c.in_ok-bytes.bytes in
    complete_done (complete_of c.args.options) _ _ (sources_view bytes.sources) bytes.text.items c.answer_on_bytes.result (loaded_stand loads.left) loads.loaded loads.loaded_text c.answer_on_bytes.ensures
