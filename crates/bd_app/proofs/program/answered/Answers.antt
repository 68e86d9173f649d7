use Rattle.std.proofs.Common.{subst, sym}
use Rattle.bd_app.specs.Commands.{meaning_of}
use Rattle.bd_app.specs.Meaning.{files_seen}
use Rattle.bd_app.specs.inner.Asked.{asked}
use Rattle.bd_app.specs.inner.Done.{IsDone}
use Rattle.bd_app.specs.declared.command.Command.{Command}
use Rattle.bd_app.proofs.program.answered.Goals as goal

pub returns-in-Gen : goal.returns-in-Gen
returns-in-Gen g c =
    let seen = files_seen g.F.Files.held g.F.Files.faults g.F.Files.blame g.F.Files.calls c.args.files.now in
    subst (λ (x : Command). IsDone (meaning_of (asked x)) seen seen c.answer-in-Gen.result) (sym c.in-Gen.is) (c.answer-in-Gen.ensures seen)
