use Rattle.bd_app.specs.Retrace.{retrace_of, IsRetraced}
use Rattle.bd_app.specs.Texts.{trail_kind}
use Rattle.bd_app.specs.inner.Loaded.{sources_view}
use Rattle.bd_app.proofs.Effects.{load_failed, loaded_stand}
use Rattle.bd_app.proofs.Sources.{text_done, retraced_plain}
use Rattle.bd_app.proofs.command.retrace.answer.Goals as goal

pub returns-in_err-bytes : goal.returns-in_err-bytes
returns-in_err-bytes g c = load_failed _ _ _ _ c.from_residual.result c.from_residual.ensures.1 c.in_err-bytes.ensures.left

pub returns : goal.returns
returns g c =
    let loads = c.in_ok-bytes.ensures in
    let bytes = c.in_ok-bytes.bytes in
    text_done trail_kind (retrace_of c.args.options) IsRetraced _ _ (sources_view bytes.sources) bytes.text.items c.judged_bytes.result retraced_plain (loaded_stand loads.left) loads.loaded loads.loaded_text c.judged_bytes.ensures
