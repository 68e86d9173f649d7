use Rattle.std.proofs.Common.{◌∙◌, Ok, ap}
use Rattle.std.proofs.lemmas.Result.{IfOk-at_ok}
use Rattle.bd_model.specs.DesignView.{design_view}
use Rattle.bd_verify.specs.Verdict.{HasWork}
use Rattle.bd_app.specs.Verdicts.{IsVerdict}
use Rattle.bd_app.proofs.Results.{IfOk-each}
use Rattle.bd_app.proofs.Verdicts.{may_be, verdict_is}
use Rattle.bd_app.proofs.verdict.decide.Goals as goal

pub returns : goal.returns
returns c =
    let says = c.verify.ensures in
    let d = design_view c.args.design.now in
    let asked = c.args.asked in
    IfOk-each (IsVerdict d asked) c.verify.result (λ v is.
    verdict_is d asked v (λ case work same. says.correct case work (is ∙ ap (λ v. Ok v) same)) (λ case work same. says.holds case work (is ∙ ap (λ v. Ok v) same))
    (λ k case work same. says.wrong k case work (is ∙ ap (λ v. Ok v) same)) (λ work same. says.void work (is ∙ ap (λ v. Ok v) same)) (λ work same. says.met work (is ∙ ap (λ v. Ok v) same))
    (IfOk-at_ok (HasWork d asked.mode asked.budget) is says.work)
    (may_be asked.given v (λ case work same. says.carried case work (is ∙ ap (λ v. Ok v) same)) (λ work same. says.void_given work (is ∙ ap (λ v. Ok v) same)) (λ work same. says.meets_given work (is ∙ ap (λ v. Ok v) same))))
