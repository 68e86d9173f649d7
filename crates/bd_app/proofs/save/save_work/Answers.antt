use Rattle.bd_app.specs.Meaning.{files_seen}
use Rattle.bd_app.specs.Words.{given}
use Rattle.bd_app.proofs.Saves.{formula_fails, proof_follows}
use Rattle.bd_app.proofs.save.save_work.Goals as goal

pub returns-in_err-save_part : goal.returns-in_err-save_part
returns-in_err-save_part g c =
    let seen = files_seen g.F.Files.held g.F.Files.faults g.F.Files.blame g.F.Files.calls in
    let part = c.in_err-save_part.ensures in
    formula_fails (given c.args.cnf) (given c.args.lrat) c.args.work.now (seen c.args.files.now) (seen c.save_part.new.files) _ c.from_residual.result c.from_residual.ensures.1 part.fault part.rose part.blamed
    part.else_keeps_blame part.others part.never_falls part.called part.called_first

pub returns : goal.returns
returns g c =
    let seen = files_seen g.F.Files.held g.F.Files.faults g.F.Files.blame g.F.Files.calls in
    let formula = c.in_ok-save_part.ensures in
    let proof = c.save_part-2.ensures in
    proof_follows (given c.args.cnf) (given c.args.lrat) c.args.work.now (seen c.args.files.now) (seen c.save_part.new.files) (seen c.save_part-2.new.files) c.save_part-2.result formula.saved formula.others
    (formula.else_keeps_blame (λ is. cc is)) formula.never_falls proof.fault proof.saved proof.others proof.rose proof.blamed proof.else_keeps_blame proof.never_falls
    (formula.called (λ is. cc is)) proof.called proof.called_first
