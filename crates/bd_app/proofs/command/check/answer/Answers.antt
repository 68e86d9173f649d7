use Rattle.std.proofs.Common.{refl, [], true}
use Rattle.bd_app.specs.Check.{check_meaning, check_of}
use Rattle.bd_app.specs.inner.Loaded.{sources_view}
use Rattle.bd_app.proofs.Effects.{load_failed, loaded_stand, save_failed}
use Rattle.bd_app.proofs.Sources.{check_done, check_memory, check_texts, check_verdict}
use Rattle.bd_app.proofs.command.check.answer.Goals as goal

pub returns-in_err-sources : goal.returns-in_err-sources
returns-in_err-sources g c = load_failed _ _ _ _ c.from_residual.result c.from_residual.ensures.1 c.in_err-sources.ensures.left

pub returns-in_err-shown : goal.returns-in_err-shown
returns-in_err-shown g c =
    let loads = c.in_ok-sources.ensures in
    check_texts (check_of c.args.options) _ _ (sources_view c.in_ok-sources.sources) _ c.from_residual-in_err-shown.result c.from_residual-in_err-shown.ensures.1 (loaded_stand loads.left) loads.loaded
    c.in_err-shown.ensures.refused

pub returns-in_err-save_work : goal.returns-in_err-save_work
returns-in_err-save_work g c =
    let loads = c.in_ok-sources.ensures in
    let q = check_of c.args.options in
    let shown = c.in_ok-shown.shown in
    save_failed (check_meaning q) _ _ _ shown.verdict _ c.from_residual-in_err-save_work.result c.from_residual-in_err-save_work.ensures.1 (loaded_stand loads.left)
    (check_verdict q (g.F.Files.held c.args.files.now) (sources_view c.in_ok-sources.sources) true shown loads.loaded (rw c.asked.ensures at c.in_ok-shown.ensures.shown)) (rw c.work.ensures at c.in_err-save_work.ensures)

pub returns-in_err-answer : goal.returns-in_err-answer
returns-in_err-answer g c =
    let loads = c.in_ok-sources.ensures in
    check_memory (check_of c.args.options) _ _ _ (sources_view c.in_ok-sources.sources) _ c.in_ok-shown.shown c.from_residual-in_err-answer.result c.from_residual-in_err-answer.ensures.1 (loaded_stand loads.left) loads.loaded
    (rw c.asked.ensures at c.in_ok-shown.ensures.shown) (rw c.work.ensures at c.in_ok-save_work.ensures)

pub returns : goal.returns
returns g c =
    let loads = c.in_ok-sources.ensures in
    let done = c.in_ok-answer.ensures in
    check_done (check_of c.args.options) _ _ _ (sources_view c.in_ok-sources.sources) _ c.in_ok-shown.shown [] c.in_ok-answer.answer (loaded_stand loads.left) loads.loaded (rw c.asked.ensures at c.in_ok-shown.ensures.shown)
    (rw c.work.ensures at c.in_ok-save_work.ensures) refl done.ended done.report
