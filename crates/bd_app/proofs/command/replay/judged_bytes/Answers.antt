use Rattle.bd_app.specs.Replay.{IsJudgement}
use Rattle.bd_app.specs.Texts.{case_kind}
use Rattle.bd_app.specs.inner.Loaded.{sources_view}
use Rattle.bd_app.specs.inner.Done.{IsSaidOf, IsTextRefused}
use Rattle.bd_app.proofs.Sources.{on_sources, sources_refused}
use Rattle.bd_app.proofs.command.replay.judged_bytes.Goals as goal

pub returns-in_err-design : goal.returns-in_err-design
returns-in_err-design c =
    sources_refused (IsSaidOf case_kind IsJudgement) (IsTextRefused case_kind) (sources_view c.args.bytes.now.sources) c.args.bytes.now.text.items _ c.from_residual.result c.from_residual.ensures.1 c.in_err-design.ensures.refused

pub returns : goal.returns
returns c =
    on_sources (IsSaidOf case_kind IsJudgement) (IsTextRefused case_kind) (sources_view c.args.bytes.now.sources) c.args.bytes.now.text.items _ c.judged.result c.in_ok-design.ensures.read (rw c.as_slice.ensures.value at c.judged.ensures)
