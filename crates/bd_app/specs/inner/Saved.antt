-- The texts that are saved of a verdict's work, and what saving leaves.
use Rattle.std.specs.Prelude.{◌≡◌, ◌≤◌, ℕ, List, [], Option, OnOk, IfErr, IsErrOf, Result}
use Rattle.bd_cnf.specs.Problem.{dimacs}
use Rattle.bd_files.specs.Devices.{Rose}
use Rattle.bd_lrat.specs.Text.{lrat}
use Rattle.bd_verify.specs.declared.verdict.Work.{Work}
use Rattle.bd_app.specs.Files.{AreSaved, AreSavedUpTo, BlamesSaveOf, IsEither, KeepsAllBut, saves}
use Rattle.bd_app.specs.Meaning.{Called, CalledFirst, FilesSeen, SavedUpTo}
use Rattle.bd_app.specs.Words.{Name}
use Rattle.bd_app.specs.declared.fault.Fault.{Fault}
use Rattle.bd_app.specs.declared.fault.Fault.TheVariants.{Save, Memory}
use Rattle.bd_app.specs.declared.save.Part.{Part}
use Rattle.bd_app.specs.declared.save.Part.TheVariants.{Formula, Proof}

abbrev pub part_text : Part → List ℕ
part_text (Formula cnf) = dimacs cnf.now
part_text (Proof log) = lrat log.now

-- a fault of saving
abbrev pub IsSaveFault : Fault → Type 0
IsSaveFault Save = Unit {0}
IsSaveFault Memory = Unit {0}
IsSaveFault _ = ⊥

-- what saving a verdict's work leaves
pub record Saves {T : Type 0} (cnf lrat : Option Name) (work : Work) (before after : FilesSeen)
    (r : Result T Fault) : Type 0 where
  pub fault : IfErr r IsSaveFault
  pub saved : OnOk r (AreSaved after.held cnf lrat work)
  pub up_to : IsErrOf r Save →
      AreSavedUpTo before.held after.held after.blame cnf lrat work
  pub others : KeepsAllBut before.held after.held (IsEither cnf lrat)
  pub rose : IsErrOf r Save → Rose before.faults after.faults
  pub blamed : IsErrOf r Save → BlamesSaveOf after.blame cnf lrat
  pub else_keeps_blame : ¬ IsErrOf r Save → after.blame ≡ before.blame
  pub never_falls : before.faults ≤ after.faults
  pub called : OnOk r (Called before after (saves cnf lrat work))
  pub called_up_to : IsErrOf r Save → SavedUpTo before after [] (saves cnf lrat work)
  pub called_first : IsErrOf r Memory → CalledFirst before after (saves cnf lrat work)
