use Rattle.std.proofs.Common.{[], ◌∷◌, ◌++◌, refl}
use Rattle.bd_typer.specs.declared.fault.Text.TheVariants as text
use Rattle.bd_app.specs.Files.{HoldsShort, one_if}
use Rattle.bd_app.specs.Meaning.{files_seen}
use Rattle.bd_app.specs.Sources.{HoldsShortIf}
use Rattle.bd_show.specs.Files.{names_of}
use Rattle.bd_app.specs.Loading.{bytes_of}
use Rattle.bd_show.proofs.Loads.{after_case, after_spec, all_held, all_loaded, all_order, back, before_comp, comp_order, gave_if, gave_none, gave_one, gave_then, inv_order, machines, named_fails, one_fails, texts_on}
use Rattle.bd_show.proofs.load.load_texts.Goals as goal

pub returns-in_err-pipe-clause-left : goal.returns-in_err-pipe-clause-left
returns-in_err-pipe-clause-left g c =
    let names = names_of c.args.names in
    let seen = files_seen g.F.Files.held g.F.Files.faults g.F.Files.blame g.F.Files.calls in
    one_fails names [] ((text.Spec, names.spec) ∷ after_spec names) text.Pipe names.pipe c.from_residual.result refl refl
    (gave_none (seen c.args.files.now)) c.from_residual.ensures.1 c.in_err-pipe.ensures.left

pub returns-in_err-spec-clause-left : goal.returns-in_err-spec-clause-left
returns-in_err-spec-clause-left g c =
    let names = names_of c.args.names in
    let pipe = gave_one (text.Pipe, names.pipe) c.in_ok-pipe.pipe.items c.in_ok-pipe.ensures.left c.in_ok-pipe.ensures.loaded in
    one_fails names ((text.Pipe, names.pipe) ∷ []) (after_spec names) text.Spec names.spec c.from_residual-in_err-spec.result refl refl pipe
    c.from_residual-in_err-spec.ensures.1 c.in_err-spec.ensures.left

pub returns-in_err-case-clause-left : goal.returns-in_err-case-clause-left
returns-in_err-case-clause-left g c =
    let names = names_of c.args.names in
    let pipe = gave_one (text.Pipe, names.pipe) c.in_ok-pipe.pipe.items c.in_ok-pipe.ensures.left c.in_ok-pipe.ensures.loaded in
    let spec = gave_one (text.Spec, names.spec) c.in_ok-spec.spec.items c.in_ok-spec.ensures.left c.in_ok-spec.ensures.loaded in
    named_fails names (machines names) (after_case names) text.Case names.case c.from_residual-in_err-case.result refl refl (gave_then pipe spec)
    c.from_residual-in_err-case.ensures.1 c.in_err-case.ensures.left

pub returns-in_err-proof-clause-left : goal.returns-in_err-proof-clause-left
returns-in_err-proof-clause-left g c =
    let names = names_of c.args.names in
    let pipe = gave_one (text.Pipe, names.pipe) c.in_ok-pipe.pipe.items c.in_ok-pipe.ensures.left c.in_ok-pipe.ensures.loaded in
    let spec = gave_one (text.Spec, names.spec) c.in_ok-spec.spec.items c.in_ok-spec.ensures.left c.in_ok-spec.ensures.loaded in
    let case = gave_if text.Case names.case (bytes_of c.in_ok-case.case) c.in_ok-case.ensures.left c.in_ok-case.ensures.loaded in
    named_fails names (machines names ++ one_if text.Case names.case) (one_if text.Inv names.inv ++ one_if text.Comp names.comp) text.Proof names.proof c.from_residual-in_err-proof.result refl refl (gave_then (gave_then pipe spec) case)
    c.from_residual-in_err-proof.ensures.1 c.in_err-proof.ensures.left

pub returns-in_err-inv-clause-left : goal.returns-in_err-inv-clause-left
returns-in_err-inv-clause-left g c =
    let names = names_of c.args.names in
    let pipe = gave_one (text.Pipe, names.pipe) c.in_ok-pipe.pipe.items c.in_ok-pipe.ensures.left c.in_ok-pipe.ensures.loaded in
    let spec = gave_one (text.Spec, names.spec) c.in_ok-spec.spec.items c.in_ok-spec.ensures.left c.in_ok-spec.ensures.loaded in
    let case = gave_if text.Case names.case (bytes_of c.in_ok-case.case) c.in_ok-case.ensures.left c.in_ok-case.ensures.loaded in
    let proof = gave_if text.Proof names.proof (bytes_of c.in_ok-proof.proof) c.in_ok-proof.ensures.left c.in_ok-proof.ensures.loaded in
    named_fails names (machines names ++ texts_on names) (one_if text.Comp names.comp) text.Inv names.inv c.from_residual-in_err-inv.result (inv_order names) refl (gave_then (gave_then pipe spec) (gave_then case proof))
    c.from_residual-in_err-inv.ensures.1 c.in_err-inv.ensures.left

pub returns-in_err-comp-clause-left : goal.returns-in_err-comp-clause-left
returns-in_err-comp-clause-left g c =
    let names = names_of c.args.names in
    let pipe = gave_one (text.Pipe, names.pipe) c.in_ok-pipe.pipe.items c.in_ok-pipe.ensures.left c.in_ok-pipe.ensures.loaded in
    let spec = gave_one (text.Spec, names.spec) c.in_ok-spec.spec.items c.in_ok-spec.ensures.left c.in_ok-spec.ensures.loaded in
    let case = gave_if text.Case names.case (bytes_of c.in_ok-case.case) c.in_ok-case.ensures.left c.in_ok-case.ensures.loaded in
    let proof = gave_if text.Proof names.proof (bytes_of c.in_ok-proof.proof) c.in_ok-proof.ensures.left c.in_ok-proof.ensures.loaded in
    let inv = gave_if text.Inv names.inv (bytes_of c.in_ok-inv.inv) c.in_ok-inv.ensures.left c.in_ok-inv.ensures.loaded in
    named_fails names (before_comp names) [] text.Comp names.comp c.from_residual-in_err-comp.result (comp_order names) refl (gave_then (gave_then (gave_then pipe spec) (gave_then case proof)) inv)
    c.from_residual-in_err-comp.ensures.1 c.in_err-comp.ensures.left

pub returns-clause-left : goal.returns-clause-left
returns-clause-left g c =
    let names = names_of c.args.names in
    let pipe = gave_one (text.Pipe, names.pipe) c.in_ok-pipe.pipe.items c.in_ok-pipe.ensures.left c.in_ok-pipe.ensures.loaded in
    let spec = gave_one (text.Spec, names.spec) c.in_ok-spec.spec.items c.in_ok-spec.ensures.left c.in_ok-spec.ensures.loaded in
    let case = gave_if text.Case names.case (bytes_of c.in_ok-case.case) c.in_ok-case.ensures.left c.in_ok-case.ensures.loaded in
    let proof = gave_if text.Proof names.proof (bytes_of c.in_ok-proof.proof) c.in_ok-proof.ensures.left c.in_ok-proof.ensures.loaded in
    let inv = gave_if text.Inv names.inv (bytes_of c.in_ok-inv.inv) c.in_ok-inv.ensures.left c.in_ok-inv.ensures.loaded in
    let comp = gave_if text.Comp names.comp (bytes_of c.in_ok-comp.comp) c.in_ok-comp.ensures.left c.in_ok-comp.ensures.loaded in
    all_loaded names _ (all_order names) (gave_then (gave_then (gave_then (gave_then pipe spec) (gave_then case proof)) inv) comp)

pub returns-clause-held : goal.returns-clause-held
returns-clause-held g c =
    let names = names_of c.args.names in
    let pipe = gave_one (text.Pipe, names.pipe) c.in_ok-pipe.pipe.items c.in_ok-pipe.ensures.left c.in_ok-pipe.ensures.loaded in
    let spec = gave_one (text.Spec, names.spec) c.in_ok-spec.spec.items c.in_ok-spec.ensures.left c.in_ok-spec.ensures.loaded in
    let case = gave_if text.Case names.case (bytes_of c.in_ok-case.case) c.in_ok-case.ensures.left c.in_ok-case.ensures.loaded in
    let proof = gave_if text.Proof names.proof (bytes_of c.in_ok-proof.proof) c.in_ok-proof.ensures.left c.in_ok-proof.ensures.loaded in
    let inv = gave_if text.Inv names.inv (bytes_of c.in_ok-inv.inv) c.in_ok-inv.ensures.left c.in_ok-inv.ensures.loaded in
    let both = gave_then pipe spec in
    let four = gave_then both (gave_then case proof) in
    all_held _ names _ c.in_ok-pipe.ensures.loaded (back (λ h. HoldsShort h (text.Spec, names.spec) c.in_ok-spec.spec.items) pipe c.in_ok-spec.ensures.loaded)
    (back (λ h. HoldsShortIf h text.Case names.case (bytes_of c.in_ok-case.case)) both c.in_ok-case.ensures.loaded)
    (back (λ h. HoldsShortIf h text.Proof names.proof (bytes_of c.in_ok-proof.proof)) (gave_then both case) c.in_ok-proof.ensures.loaded)
    (back (λ h. HoldsShortIf h text.Inv names.inv (bytes_of c.in_ok-inv.inv)) four c.in_ok-inv.ensures.loaded)
    (back (λ h. HoldsShortIf h text.Comp names.comp (bytes_of c.in_ok-comp.comp)) (gave_then four inv) c.in_ok-comp.ensures.loaded)
