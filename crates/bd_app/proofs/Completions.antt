-- From the texts of a design and of a completion function to the answer on them.
use Rattle.std.proofs.Common.{◌≡◌, ◌∙◌, ℕ, List, sym, subst}
use Rattle.std.specs.Prelude.{Bool, Option, Result, Ok, Err, IfSome, IfErr, IsErrAnd}
use Rattle.bd_model.specs.Abstraction.{AbstractionView, abstraction_view}
use Rattle.bd_model.specs.declared.abstraction.Abstraction.{Abstraction}
use Rattle.bd_files.specs.Devices.{Held}
use Rattle.bd_model.specs.DesignView.{DesignView}
use Rattle.bd_typer.specs.Denotes.{DenotesCompleted, OnJoined}
use Rattle.bd_typer.specs.Joined.{JoinedView}
use Rattle.bd_typer.specs.Faults.{FileFault}
use Rattle.bd_typer.specs.declared.fault.Text.TheVariants.{Comp}
use Rattle.bd_typer.specs.declared.fault.TypeFault.{TypeFault}
use Rattle.bd_typer.specs.declared.fault.TypeFault.TheVariants as typer
use Rattle.bd_typer.specs.declared.joining.Joined.{Joined}
use Rattle.bd_app.specs.Answer.{HasReport}
use Rattle.bd_app.specs.Complete.{Completion, IsCompleteReport, complete_meaning}
use Rattle.bd_app.specs.Completions.{AreCompleted, Completes}
use Rattle.bd_app.specs.Files.{HoldsShort}
use Rattle.bd_app.specs.Meaning.{FilesSeen}
use Rattle.bd_app.specs.Sources.{Sources, TextSources}
use Rattle.bd_app.specs.declared.answer.Answer.{Answer}
use Rattle.bd_app.specs.declared.answer.Ended.{Ended}
use Rattle.bd_app.specs.declared.fault.Fault.{Fault}
use Rattle.bd_app.specs.declared.fault.Fault.TheVariants.{Refused, Memory}
use Rattle.bd_app.specs.inner.Completed.{AreCompletion, AreNoCompletion, OnCompletion}
use Rattle.bd_app.specs.inner.Done.{IsDone}
use Rattle.bd_app.specs.inner.Faults.{design_fault}
use Rattle.bd_app.proofs.Effects.{AreTextsRefused, IsPlain, Stand, quiet_done, texts_refused}
use Rattle.bd_app.proofs.Loads.{text_short}
use Rattle.bd_app.proofs.Results.{IfSome-both, passed}
use Rattle.bd_app.proofs.Verdicts.{no_completed}

-- texts are refused
pub on_no_completion : (Says : DesignView → AbstractionView → Ended → List ℕ → Type 0) (s : Sources) (comp : List ℕ) (e : Fault) (r : Result Answer Fault) → IsErrAnd r (λ y. y ≡ e) → AreNoCompletion s comp e → OnCompletion Says s comp r
on_no_completion Says s comp e r is fault = passed (λ z. OnCompletion Says s comp z) r e is (record { said = tt; refused = fault })

-- the answer on their design and abstraction
pub on_completion : (Says : DesignView → AbstractionView → Ended → List ℕ → Type 0) (s : Sources) (comp : List ℕ) (d : DesignView) (abs : Abstraction) (answer : Answer) → AreCompletion s comp d (abstraction_view abs)
    → Says d (abstraction_view abs) answer.ended answer.report.items → OnCompletion Says s comp (Ok answer)
on_completion Says s comp d abs answer are says =
    record { said = (d, abstraction_view abs, are, says); refused = tt }

module _ (q : Completion) (held : Option Held) (s : Sources) (comp : List ℕ) (given : IfSome held (λ h. TextSources q.names h s)) (short : IfSome held (λ h. HoldsShort h (Comp, q.names.text) comp)) where
  completed : (r : Result JoinedView FileFault) → AreCompleted s comp r → IfSome held (λ h. Completes q.names h r)
  completed r denoted = IfSome-both _ _ _ held (λ h g c. record { sources = s; given = g; comp = comp; comp_given = c; denoted = denoted }) given short

  texts_faulty : (e : Fault) → AreNoCompletion s comp e → AreTextsRefused (complete_meaning q) held e
  texts_faulty (Refused file offset code) fault = completed (Err (record { file = file; offset = offset; code = code })) fault
  texts_faulty Memory fault = tt
  texts_faulty _ fault = absurd fault

complete_plain : (agree : Bool) (budget : ℕ) (d : DesignView) (abs : AbstractionView) (e : Ended) (report : List ℕ) → IsCompleteReport agree budget d abs e report → IsPlain e
complete_plain agree budget d abs e report is = record {
  quiet = record { no_device = λ w same. cc (is.ended, same); no_verdict = λ v same. no_completed v is.answer (sym same ∙ is.ended) };
  reported = subst HasReport (sym is.ended) tt;
}

-- the answer to a question on a completion function, from what is said of its texts
pub complete_done : (q : Completion) (a b : FilesSeen) (s : Sources) (comp : List ℕ) (r : Result Answer Fault) → Stand (complete_meaning q).files a b → IfSome a.held (λ h. TextSources q.names h s)
    → IfSome a.held (λ h. HoldsShort h (Comp, q.names.text) comp) → OnCompletion (IsCompleteReport q.agree q.budget) s comp r → IsDone (complete_meaning q) a b r
complete_done q a b s comp (Ok answer) stand given short on =
    let said = on.said in
    quiet_done (complete_meaning q) a b answer stand (complete_plain q.agree q.budget said.0 said.1 answer.ended answer.report.items said.3) (record {
      design = said.0;
      abs = said.1;
      asks = completed q a.held s comp given short (Ok (record { design = said.0; abs = said.1 })) said.2;
      says = said.3;
    })
complete_done q a b s comp (Err e) stand given short on =
    texts_refused (complete_meaning q) a b e stand (IfSome-both _ _ _ a.held (λ h g c. text_short h Comp q.names s comp g c) given short) (texts_faulty q a.held s comp given short e on.refused)

-- the same texts denote the same
pub completed_same : (p u s v c k : List ℕ) (i j : Option (List ℕ)) (r : Result Joined TypeFault) → p ≡ u → s ≡ v → c ≡ k → i ≡ j → OnJoined r (DenotesCompleted p s c i) → OnJoined r (DenotesCompleted u v k j)
completed_same p u s v c k i j r pu sv ck ij h =
    subst (λ x. OnJoined r (DenotesCompleted u v k x)) ij (subst (λ x. OnJoined r (DenotesCompleted u v x i)) ck (subst (λ x. OnJoined r (DenotesCompleted u x c i)) sv (subst (λ x. OnJoined r (DenotesCompleted x s c i)) pu h)))

are_no_completion : (s : Sources) (comp : List ℕ) (e : TypeFault) → OnJoined (Err e) (AreCompleted s comp) → AreNoCompletion s comp (design_fault e)
are_no_completion s comp (typer.Bad file offset code) read = read
are_no_completion s comp typer.Memory read = tt

-- texts that aren't read are refused
pub not_completed : {T : Type 0} (s : Sources) (comp : List ℕ) (e : TypeFault) (r : Result T Fault) → IsErrAnd r (λ y. y ≡ design_fault e) → OnJoined (Err e) (AreCompleted s comp) → IfErr r (AreNoCompletion s comp)
not_completed s comp e r is read = passed (λ z. IfErr z (AreNoCompletion s comp)) r (design_fault e) is (are_no_completion s comp e read)
