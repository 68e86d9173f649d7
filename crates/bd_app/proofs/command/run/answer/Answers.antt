use Rattle.bd_app.specs.Run.{run_names, run_of, IsTrace}
use Rattle.bd_app.specs.Texts.{case_kind}
use Rattle.bd_app.specs.inner.Loaded.{sources_view}
use Rattle.bd_app.proofs.Effects.{load_failed, loaded_stand}
use Rattle.bd_app.proofs.Sources.{text_done, trace_plain}
use Rattle.bd_app.proofs.command.run.answer.Goals as goal

pub returns-in_err-bytes : goal.returns-in_err-bytes
returns-in_err-bytes g c = load_failed _ _ _ _ c.from_residual.result c.from_residual.ensures.1 c.in_err-bytes.ensures.left

pub returns : goal.returns
returns g c =
    let loads = c.in_ok-bytes.ensures in
    let bytes = c.in_ok-bytes.bytes in
    let cycles = c.args.options.cycles in
    text_done case_kind (run_names (run_of c.args.options)) (IsTrace cycles) _ _ (sources_view bytes.sources) bytes.text.items c.ran_bytes.result (trace_plain cycles) (loaded_stand loads.left) loads.loaded loads.loaded_text
    c.ran_bytes.ensures
