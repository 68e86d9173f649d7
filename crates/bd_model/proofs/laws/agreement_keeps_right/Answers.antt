use Rattle.std.proofs.Common.{◌≤◌, ℕ, length, take, arith}
use Rattle.std.specs.List.{sum}
use Rattle.bd_model.specs.DesignView.{DesignView}
use Rattle.bd_model.specs.Cycle.{flushed, idle_inputs, state_after}
use Rattle.bd_model.specs.Fits.{TrailFits}
use Rattle.bd_model.specs.Laws.{AgreementKeepsRight}
use Rattle.bd_model.specs.Lawful.{IsLawful}
use Rattle.bd_model.specs.Conditions.{Abstraction}
use Rattle.bd_model.specs.Right.{Agrees, StaysInside}
use Rattle.bd_model.specs.Same.{Same}
use Rattle.bd_model.specs.declared.case.Trail.{Trail}
use Rattle.bd_model.proofs.Compose.{StateFits-state_after}
use Rattle.bd_model.proofs.NoInput.{InputsFit-idle_inputs}
use Rattle.bd_model.proofs.SameLemmas.{Same-sym, Same-trans, Same-spec_steps}
use Rattle.bd_model.proofs.laws.agreement_keeps_right.Goals as goal

-- the abstraction agrees with flushing in each state of a trail, also in the last, where the inputs may be those
-- of a flush cycle
agrees_at : (d : DesignView) (abs : Abstraction) → IsLawful d → Agrees d abs → (t : Trail) → TrailFits d t → StaysInside d t
    → (n : ℕ) → n ≤ length t.inputs → Same (abs t.interp (state_after d t n)) (flushed d t.interp (state_after d t n))
agrees_at d abs lawful agrees t fits stays n h =
    let state_fits = StateFits-state_after d t lawful fits n in
    agrees (record { interp = t.interp; state = state_after d t n; inputs = idle_inputs d.pipe t.interp (state_after d t n) })
    (record { interp = fits.interp; state = state_fits; inputs = InputsFit-idle_inputs d t.interp (state_after d t n) lawful fits.interp state_fits })
    (stays n h)

agreement : AgreementKeepsRight
agreement d abs lawful agrees right t fits inside =
    let run = right t fits inside in
    let counts = run.1.0 in
    let followed = run.1.1 in
    let same = agrees_at d abs lawful agrees t fits run.0 in (
      run.0,
      (
        counts,
        record {
          each = followed.each;
          few = followed.few;
          allowed = followed.allowed;
          stands = λ n h. Same-trans _ _ _ (same n h)
              (Same-trans _ _ _ (followed.stands n h) (Same-spec_steps (sum (take n counts)) d t.interp _ _ (Same-sym _ _ (same 0 (omega arith)))));
        },
      ),
    )

pub returns : goal.returns
returns c = agreement
