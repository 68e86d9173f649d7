-- From the bytes of files to the answer to a question on them.
use Rattle.std.proofs.Common.{◌≡◌, ◌∙◌, ℕ, true, false, List, [], ◌∷◌, ◌++◌, length, drop, drop-cons, get_or, add-one, ap, ap₂, append_assoc, refl, sym, subst, inl, inr, arith, ◌<◌, ◌+◌, Bool}
use Rattle.std.specs.Prelude.{◌⊎◌, Option, Result, Ok, Err, IfSome, IfErr, IsErrAnd}
use Rattle.bd_files.specs.Devices.{Held}
use Rattle.bd_files.proofs.Called.{makes_none}
use Rattle.bd_model.specs.DesignView.{DesignView}
use Rattle.bd_model.specs.declared.case.Case.{Case}
use Rattle.bd_model.specs.declared.case.Trail.{Trail}
use Rattle.bd_model.specs.declared.table.Value.{Value}
use Rattle.bd_model.specs.declared.design.Design.{Design}
use Rattle.bd_foreign.specs.Rechecked.{IsFaultOf}
use Rattle.bd_foreign.specs.declared.fault.ProofFault.{ProofFault}
use Rattle.bd_foreign.specs.declared.fault.ProofFault.TheVariants as proofs
use Rattle.bd_typer.specs.Denotes.{DenotesWith, OnDesign as OnDesignRead}
use Rattle.bd_typer.specs.declared.premise.Premise.{Premise}
use Rattle.bd_typer.specs.declared.fault.Text.TheVariants as text
use Rattle.bd_typer.specs.declared.fault.TypeFault.{TypeFault}
use Rattle.bd_typer.specs.declared.fault.TypeFault.TheVariants as typer
use Rattle.bd_app.specs.Answer.{HasReport}
use Rattle.bd_app.specs.Bounded.{IsBoundedReport}
use Rattle.bd_app.specs.Check.{Check, CheckSources, check_asked, check_meaning, check_names}
use Rattle.bd_app.specs.Files.{DesignNames, HoldsShort, IsEither, KeepsAllBut, TextNames, loads, saves}
use Rattle.bd_app.specs.Generate.{Gen, gen_asked, gen_lead, gen_meaning, generated}
use Rattle.bd_app.specs.Meaning.{FilesSeen, IsVerdictFor}
use Rattle.bd_app.specs.Recheck.{Recheck, recheck_meaning}
use Rattle.bd_app.specs.Questions.{design_meaning, text_meaning}
use Rattle.bd_app.specs.Replay.{IsJudgement}
use Rattle.bd_app.specs.Retrace.{IsRetraced}
use Rattle.bd_app.specs.Run.{IsTrace, cycle_text, cycles_text}
use Rattle.bd_app.specs.Sources.{AreRead, HoldSources, IsDesign, Sources, TextSources}
use Rattle.bd_app.specs.Texts.{TextKind}
use Rattle.bd_app.specs.Verdicts.{ended_by, verdict_words, work_of, IsVerdictReport}
use Rattle.bd_app.specs.declared.answer.Answer.{Answer}
use Rattle.bd_app.specs.declared.answer.Ended.{Ended}
use Rattle.bd_app.specs.declared.fault.Fault.{Fault}
use Rattle.bd_app.specs.declared.fault.Fault.TheVariants.{Refused, BadText, Memory}
use Rattle.bd_app.specs.declared.verdict.Asked.{Asked}
use Rattle.bd_app.specs.declared.verdict.ShownVerdict.{ShownVerdict}
use Rattle.bd_app.specs.inner.Done.{AreDesign, AreRefused, IsBadProof, IsDone, IsProvedBy, IsSaidOf, IsShownOf, IsTextRefused, OnDesign, OnSources, OnText}
use Rattle.bd_app.specs.inner.Faults.{design_fault, proof_fault}
use Rattle.bd_app.specs.inner.Saved.{Saves}
use Rattle.bd_app.proofs.Calls.{called_then}
use Rattle.bd_app.proofs.Effects.{AreTextsRefused, IsPlain, Stand, memory_after, none_saved, quiet_done, texts_refused, unchanged, verdict_done}
use Rattle.bd_app.proofs.Loads.{sources_short, text_short}
use Rattle.bd_app.proofs.Results.{IfSome-all, IfSome-both, IfSome-weaker, no_error, passed}
use Rattle.bd_app.proofs.Saves.{keeps_same}
use Rattle.bd_app.proofs.Verdicts.{no_bounded, no_proved, no_ran, no_replayed, no_retraced, verdict_report}

-- the same texts denote the same
pub denotes_same : (premise : Premise) (p u s v : List ℕ) (i j : Option (List ℕ)) (r : Result Design TypeFault) → p ≡ u → s ≡ v → i ≡ j → OnDesignRead r (DenotesWith premise p s i) → OnDesignRead r (DenotesWith premise u v j)
denotes_same premise p u s v i j r pu sv ij h =
    subst (λ x. OnDesignRead r (DenotesWith premise u v x)) ij (subst (λ x. OnDesignRead r (DenotesWith premise u x i)) sv (subst (λ x. OnDesignRead r (DenotesWith premise x s i)) pu h))

are_refused : (s : Sources) (e : TypeFault) → OnDesignRead (Err e) (AreRead s) → AreRefused s (design_fault e)
are_refused s (typer.Bad file offset code) read = read
are_refused s typer.Memory read = tt

-- sources that aren't read are refused
pub not_read : {T : Type 0} (s : Sources) (e : TypeFault) (r : Result T Fault) → IsErrAnd r (λ y. y ≡ design_fault e) → OnDesignRead (Err e) (AreRead s) → IfErr r (AreRefused s)
not_read s e r is read = passed (λ z. IfErr z (AreRefused s)) r (design_fault e) is (are_refused s e read)

-- sources that are given so, and are this design
pub is_design : (held : Option Held) (AreGiven : Held → Sources → Type 0) (s : Sources) (d : DesignView) → IfSome held (λ h. AreGiven h s) → AreDesign s d → IfSome held (λ h. IsDesign (AreGiven h) d)
is_design held AreGiven s d given design = IfSome-weaker _ _ held (λ h g. record { sources = s; given = g; denoted = design }) given

-- ---- questions on a text

module _ {V : Type 0} (k : TextKind V) (names : TextNames) (Says : DesignView → V → Ended → List ℕ → Type 0) (held : Option Held) (s : Sources) (bytes : List ℕ)
    (given : IfSome held (λ h. TextSources names h s)) (short : IfSome held (λ h. HoldsShort h (k.file, names.text) bytes)) where
  design_refused : (e : Fault) → AreRefused s e → AreTextsRefused (text_meaning k names Says) held e
  design_refused (Refused file offset code) fault = IfSome-weaker _ _ held (λ h g. inl (record { sources = s; given = g; denoted = fault })) given
  design_refused Memory fault = tt
  design_refused _ fault = absurd fault

  text_refused : (d : DesignView) (e : Fault) → AreDesign s d → IsTextRefused k d bytes e → AreTextsRefused (text_meaning k names Says) held e
  text_refused d (Refused file offset code) design fault = IfSome-both _ _ _ held (λ h g c. inr (record {
    is_file = fault.0;
    view = d;
    design = record { sources = s; given = g; denoted = design };
    source = bytes;
    given = c;
    fault = fault.1;
  })) given short
  text_refused d Memory design fault = tt
  text_refused d _ design fault = absurd fault

  any_refused : (e : Fault) → AreRefused s e ⊎ ((d : DesignView) × AreDesign s d × IsTextRefused k d bytes e) → AreTextsRefused (text_meaning k names Says) held e
  any_refused e fault = elim fault [ inl h ↦ design_refused e h | inr h ↦ text_refused h.0 e h.1 h.2 ]

-- the answer to a question on a text, from what is said of its bytes
pub text_done : {V : Type 0} (k : TextKind V) (names : TextNames) (Says : DesignView → V → Ended → List ℕ → Type 0) (a b : FilesSeen) (s : Sources) (bytes : List ℕ) (r : Result Answer Fault)
    → ((d : DesignView) (x : V) (e : Ended) (report : List ℕ) → Says d x e report → IsPlain e) → Stand (text_meaning k names Says).files a b → IfSome a.held (λ h. TextSources names h s)
    → IfSome a.held (λ h. HoldsShort h (k.file, names.text) bytes) → OnSources (IsSaidOf k Says) (IsTextRefused k) s bytes r → IsDone (text_meaning k names Says) a b r
text_done k names Says a b s bytes (Ok answer) quiet stand given short on =
    let said = on.said.2 in
    quiet_done (text_meaning k names Says) a b answer stand (quiet _ _ _ _ said.says) (record {
      design = on.said.0;
      text = said.text;
      reads = IfSome-both _ _ _ a.held (λ h g c. record {
        design = record { sources = s; given = g; denoted = on.said.1 };
        source = bytes;
        given = c;
        read = said.read;
        fits = said.fits;
      }) given short;
      says = said.says;
    })
text_done k names Says a b s bytes (Err e) quiet stand given short on =
    texts_refused (text_meaning k names Says) a b e stand (IfSome-both _ _ _ a.held (λ h g c. text_short h k.file names s bytes g c) given short)
    (any_refused k names Says a.held s bytes given short e on.refused)

pub judgement_plain : (d : DesignView) (c : Case) (e : Ended) (report : List ℕ) → IsJudgement d c e report → IsPlain e
judgement_plain d c e report is = record {
  quiet = record { no_device = λ w same. cc (is.ended, same); no_verdict = λ v same. no_replayed v is.judgement (sym same ∙ is.ended) };
  reported = subst HasReport (sym is.ended) tt;
}

pub trace_plain : (cycles : ℕ) (d : DesignView) (c : Case) (e : Ended) (report : List ℕ) → IsTrace cycles d c e report → IsPlain e
trace_plain cycles d c e report is = record {
  quiet = record { no_device = λ w same. cc (is.ended, same); no_verdict = λ v same. no_ran v (sym same ∙ is.ended) };
  reported = subst HasReport (sym is.ended) tt;
}

pub retraced_plain : (d : DesignView) (t : Trail) (e : Ended) (report : List ℕ) → IsRetraced d t e report → IsPlain e
retraced_plain d t e report is = record {
  quiet = record { no_device = λ w same. cc (is.ended, same); no_verdict = λ v same. no_retraced v is.judgement (sym same ∙ is.ended) };
  reported = subst HasReport (sym is.ended) tt;
}

-- a text on a design is refused
pub on_no_text : (Said : DesignView → List ℕ → Answer → Type 0) (IsTextRefused : DesignView → List ℕ → Fault → Type 0) (d : DesignView) (bytes : List ℕ) (e : Fault) (r : Result Answer Fault) → IsErrAnd r (λ y. y ≡ e)
    → IsTextRefused d bytes e → OnText Said IsTextRefused d bytes r
on_no_text Said IsTextRefused d bytes e r is fault = passed (λ z. OnText Said IsTextRefused d bytes z) r e is (record { said = tt; refused = fault })

-- from a text on a design to one on sources
module _ (Said : DesignView → List ℕ → Answer → Type 0) (IsTextRefused : DesignView → List ℕ → Fault → Type 0) (s : Sources) (bytes : List ℕ) where
  pub on_sources : (d : DesignView) (r : Result Answer Fault) → AreDesign s d → OnText Said IsTextRefused d bytes r → OnSources Said IsTextRefused s bytes r
  on_sources d (Ok a) design on = record { said = (d, design, on.said); refused = tt }
  on_sources d (Err e) design on = record { said = tt; refused = inr (d, design, on.refused) }

  pub sources_refused : (e : Fault) (r : Result Answer Fault) → IsErrAnd r (λ y. y ≡ e) → AreRefused s e → OnSources Said IsTextRefused s bytes r
  sources_refused e r is fault = passed (λ z. OnSources Said IsTextRefused s bytes z) r e is (record { said = tt; refused = inl fault })

pub next_state : (d : DesignView) (n : ℕ) (states : List (List Value)) (x e : List Value) (text after whole : List ℕ) → n < length states → x ≡ get_or states n e
    → after ≡ text ++ cycle_text d n x → text ++ cycles_text d n (drop n states) ≡ whole → after ++ cycles_text d (n + 1) (drop (n + 1) states) ≡ whole
next_state d n states x e text after whole lt at is before =
    let next : drop n states ≡ x ∷ drop (n + 1) states = drop-cons states n e lt ∙ ap₂ (λ y ys. y ∷ ys) (sym at) (ap (λ k. drop k states) (sym (add-one n))) in
    ap (λ t. t ++ cycles_text d (n + 1) (drop (n + 1) states)) is ∙ append_assoc text (cycle_text d n x) (cycles_text d (n + 1) (drop (n + 1) states))
    ∙ ap (λ s. text ++ cycles_text d n s) (sym next) ∙ before

-- ---- proofs from elsewhere

-- a text that is no proof is refused
pub is_bad_proof : (d : DesignView) (bytes : List ℕ) (e : ProofFault) → IsFaultOf d bytes e → IsBadProof d bytes (proof_fault e)
is_bad_proof d bytes (proofs.Bad line column why cnf) fault = fault
is_bad_proof d bytes proofs.Memory fault = tt

module _ (q : Recheck) (held : Option Held) (s : Sources) (bytes : List ℕ) (given : IfSome held (λ h. TextSources q h s)) (proof : IfSome held (λ h. HoldsShort h (text.Proof, q.text) bytes)) where
  recheck_refused : (e : Fault) → AreRefused s e → AreTextsRefused (recheck_meaning q) held e
  recheck_refused (Refused file offset code) fault = IfSome-weaker _ _ held (λ h g. record { sources = s; given = g; denoted = fault }) given
  recheck_refused Memory fault = tt
  recheck_refused _ fault = absurd fault

  bad_proof : (d : DesignView) (e : Fault) → AreDesign s d → IsBadProof d bytes e → AreTextsRefused (recheck_meaning q) held e
  bad_proof d (BadText line column why cnf) design fault = IfSome-both _ _ _ held (λ h g p. record {
    design = d;
    denoted = record { sources = s; given = g; denoted = design };
    bytes = bytes;
    given = p;
    says = fault;
  }) given proof
  bad_proof d Memory design fault = tt
  bad_proof d _ design fault = absurd fault

  proof_refused : (e : Fault) → AreRefused s e ⊎ ((d : DesignView) × AreDesign s d × IsBadProof d bytes e) → AreTextsRefused (recheck_meaning q) held e
  proof_refused e fault = elim fault [ inl h ↦ recheck_refused e h | inr h ↦ bad_proof h.0 e h.1 h.2 ]

-- the answer to a proof, from what is said of its bytes
pub recheck_done : (q : Recheck) (a b : FilesSeen) (s : Sources) (bytes : List ℕ) (r : Result Answer Fault) → Stand (recheck_meaning q).files a b → IfSome a.held (λ h. TextSources q h s)
    → IfSome a.held (λ h. HoldsShort h (text.Proof, q.text) bytes) → OnSources IsProvedBy IsBadProof s bytes r → IsDone (recheck_meaning q) a b r
recheck_done q a b s bytes (Ok answer) stand given proof on =
    let said = on.said.2 in
    quiet_done (recheck_meaning q) a b answer stand (record {
      quiet = record { no_device = λ w same. cc (said.ended, same); no_verdict = λ v same. no_proved v said.work (sym same ∙ said.ended) };
      reported = subst HasReport (sym said.ended) tt;
    }) (record {
      work = said.work;
      ended = said.ended;
      proves = IfSome-both _ _ _ a.held (λ h g p. record {
        design = on.said.0;
        denoted = record { sources = s; given = g; denoted = on.said.1 };
        bytes = bytes;
        given = p;
        says = said.proves;
      }) given proof;
      words = said.words;
    })
recheck_done q a b s bytes (Err e) stand given proof on =
    texts_refused (recheck_meaning q) a b e stand (IfSome-both _ _ _ a.held (λ h g p. text_short h text.Proof q s bytes g p) given proof) (proof_refused q a.held s bytes given proof e on.refused)

-- ---- checks

check_refused : (q : Check) (held : Option Held) (s : Sources) (e : Fault) → IfSome held (λ h. CheckSources q h s) → AreRefused s e → AreTextsRefused (check_meaning q) held e
check_refused q held s (Refused file offset code) given fault = IfSome-weaker _ _ held (λ h g. record { sources = s; given = g; denoted = fault }) given
check_refused q held s Memory given fault = tt
check_refused q held s _ given fault = absurd fault

-- the sources of a check are refused
pub check_texts : (q : Check) (a b : FilesSeen) (s : Sources) (e : Fault) (r : Result Answer Fault) → IsErrAnd r (λ y. y ≡ e) → Stand (check_meaning q).files a b → IfSome a.held (λ h. CheckSources q h s) → AreRefused s e
    → IsDone (check_meaning q) a b r
check_texts q a b s e r is stand given fault = passed (λ z. IsDone (check_meaning q) a b z) r e is (
    texts_refused (check_meaning q) a b e stand (IfSome-weaker _ _ a.held (λ h g. sources_short h (check_names q) s g) given) (check_refused q a.held s e given fault))

-- the verdict on them
pub check_verdict : (q : Check) (held : Option Held) (s : Sources) (shows : Bool) (f : ShownVerdict) → IfSome held (λ h. CheckSources q h s) → IsShownOf s (check_asked q) shows f
    → IsVerdictFor (check_meaning q) held f.verdict
check_verdict q held s shows f given (d, design, shown) =
    record { asked = check_asked q; is_asked = refl; design = d; asks = is_design held (CheckSources q) s d given design; is_verdict = shown.verdict }

-- the answer to a check, after its work was saved
pub check_done : {T : Type 0} (q : Check) (a b c : FilesSeen) (s : Sources) (x : T) (f : ShownVerdict) (lead : List ℕ) (answer : Answer) → Stand (check_meaning q).files a b → IfSome a.held (λ h. CheckSources q h s)
    → IsShownOf s (check_asked q) true f → Saves q.cnf q.lrat (work_of f.verdict) b c (Ok x) → lead ≡ [] → answer.ended ≡ ended_by f.verdict
    → answer.report.items ≡ (lead ++ verdict_words q.budget f.verdict ++ 10 ∷ []) ++ f.case.items → IsDone (check_meaning q) a c (Ok answer)
check_done q a b c s x f lead answer stand given (d, design, shown) saved led ended report =
    let whole = subst (λ l. answer.report.items ≡ (l ++ verdict_words q.budget f.verdict ++ 10 ∷ []) ++ f.case.items) led report in
    verdict_done (check_meaning q) a c f.verdict answer ended
    (record { design = d; asks = is_design a.held (CheckSources q) s d given design; says = verdict_report d (check_asked q) true f [] answer shown ended whole })
    saved.saved (subst (λ h. KeepsAllBut h c.held (IsEither q.cnf q.lrat)) stand.held saved.others) (saved.else_keeps_blame (no_error x _) ∙ stand.blame)
    (omega (arith, stand.never_falls, saved.never_falls)) (called_then a b c (loads (check_meaning q).files) (saves q.cnf q.lrat (work_of f.verdict)) stand.called saved.called)

-- memory ran out after it was saved
pub check_memory : {T : Type 0} (q : Check) (a b c : FilesSeen) (s : Sources) (x : T) (f : ShownVerdict) (r : Result Answer Fault) → IsErrAnd r (λ y. y ≡ Memory) → Stand (check_meaning q).files a b
    → IfSome a.held (λ h. CheckSources q h s) → IsShownOf s (check_asked q) true f → Saves q.cnf q.lrat (work_of f.verdict) b c (Ok x) → IsDone (check_meaning q) a c r
check_memory q a b c s x f r is stand given shown saved = memory_after (check_meaning q) a b c x f.verdict r is stand (check_verdict q a.held s true f given shown) saved

-- ---- answers on a design

-- sources are refused
pub on_refused : (Says : DesignView → Ended → List ℕ → Type 0) (s : Sources) (e : Fault) (r : Result Answer Fault) → IsErrAnd r (λ y. y ≡ e) → AreRefused s e → OnDesign Says s r
on_refused Says s e r is fault = passed (λ z. OnDesign Says s z) r e is (record { said = tt; refused = fault })

-- a verdict on their design
pub verdict_on_sources : (asked : Asked) (shows : Bool) (lead : List ℕ) (s : Sources) (f : ShownVerdict) (answer : Answer) → IsShownOf s asked shows f → answer.ended ≡ ended_by f.verdict
    → answer.report.items ≡ (lead ++ verdict_words asked.budget f.verdict ++ 10 ∷ []) ++ f.case.items → OnDesign (IsVerdictReport asked shows lead) s (Ok answer)
verdict_on_sources asked shows lead s f answer (d, design, shown) ended report =
    record { said = (d, design, verdict_report d asked shows f lead answer shown ended report); refused = tt }

-- where nothing is saved and no verdict given
module _ (names : DesignNames) (Says : DesignView → Ended → List ℕ → Type 0) where
  sources_faulty : (held : Option Held) (s : Sources) (e : Fault) → IfSome held (λ h. HoldSources h names s) → AreRefused s e → AreTextsRefused (design_meaning names Says) held e
  sources_faulty held s (Refused file offset code) given fault = IfSome-weaker _ _ held (λ h g. record { sources = s; given = g; denoted = fault }) given
  sources_faulty held s Memory given fault = tt
  sources_faulty held s _ given fault = absurd fault

  pub design_done : (a b : FilesSeen) (s : Sources) (r : Result Answer Fault) → ((d : DesignView) (e : Ended) (report : List ℕ) → Says d e report → IsPlain e) → Stand (design_meaning names Says).files a b → IfSome a.held (λ h. HoldSources h names s)
      → OnDesign Says s r → IsDone (design_meaning names Says) a b r
  design_done a b s (Ok answer) quiet stand given on =
      quiet_done (design_meaning names Says) a b answer stand (quiet _ _ _ on.said.2) (record { design = on.said.0; asks = is_design a.held (λ h. HoldSources h names) s on.said.0 given on.said.1; says = on.said.2 })
  design_done a b s (Err e) quiet stand given on =
      texts_refused (design_meaning names Says) a b e stand (IfSome-weaker _ _ a.held (λ h g. sources_short h names s g) given) (sources_faulty a.held s e given on.refused)

pub bounded_plain : (cycles budget : ℕ) (d : DesignView) (e : Ended) (report : List ℕ) → IsBoundedReport cycles budget d e report → IsPlain e
bounded_plain cycles budget d e report is = record {
  quiet = record { no_device = λ w same. cc (is.ended, same); no_verdict = λ v same. no_bounded v is.answer (sym same ∙ is.ended) };
  reported = subst HasReport (sym is.ended) tt;
}

-- ---- generated pipelines

gen_refused : (q : Gen) (held : Option Held) (s : Sources) (e : Fault) → s ≡ generated q → AreRefused s e → AreTextsRefused (gen_meaning q) held e
gen_refused q held s (Refused file offset code) is fault = IfSome-all _ held (λ h. record { sources = s; given = is; denoted = fault })
gen_refused q held s Memory is fault = tt
gen_refused q held s _ is fault = absurd fault

pub gen_done : (q : Gen) (files : FilesSeen) (s : Sources) (r : Result Answer Fault) → s ≡ generated q → OnDesign (IsVerdictReport gen_asked false (gen_lead q)) s r → IsDone (gen_meaning q) files files r
gen_done q files s (Ok answer) is on =
    let says = on.said.2 in
    verdict_done (gen_meaning q) files files says.verdict answer says.ended
    (record { design = on.said.0; asks = IfSome-all _ files.held (λ h. record { sources = s; given = is; denoted = on.said.1 }); says = says })
    (none_saved files.held (work_of says.verdict)) (keeps_same files.held files.held _ refl) refl (omega arith) (makes_none files.calls)
gen_done q files s (Err e) is on =
    texts_refused (gen_meaning q) files files e (unchanged files) (IfSome-all _ files.held (λ h. tt)) (gen_refused q files.held s e is on.refused)
