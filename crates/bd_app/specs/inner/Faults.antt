-- The faults of the parts of a run: what they come of, and the answers that they are.
use Rattle.std.specs.Prelude.{Result, Ok, Err}
use Rattle.bd_files.specs.declared.devices.SaveError.{SaveError}
use Rattle.bd_files.specs.declared.devices.SaveError.TheVariants as saving
use Rattle.bd_foreign.specs.declared.fault.ProofFault.{ProofFault}
use Rattle.bd_foreign.specs.declared.fault.ProofFault.TheVariants as proof
use Rattle.bd_text.specs.declared.code.Code.TheVariants.{TooLong}
use Rattle.bd_text.specs.declared.fault.TextFault.{TextFault}
use Rattle.bd_text.specs.declared.fault.TextFault.TheVariants as texts
use Rattle.bd_typer.specs.declared.fault.Text.{Text}
use Rattle.bd_typer.specs.declared.fault.TypeFault.{TypeFault}
use Rattle.bd_typer.specs.declared.fault.TypeFault.TheVariants as design
use Rattle.bd_app.specs.Files.{most_bytes}
use Rattle.bd_app.specs.declared.answer.Answer.{Answer}
use Rattle.bd_app.specs.declared.answer.Which.TheVariants as which
use Rattle.bd_app.specs.declared.answer.Ended.{Ended}
use Rattle.bd_app.specs.declared.answer.Ended.TheVariants as ended
use Rattle.bd_app.specs.declared.command.WordsFault.{WordsFault}
use Rattle.bd_app.specs.declared.command.WordsFault.TheVariants as words
use Rattle.bd_app.specs.declared.fault.Fault.{Fault}
use Rattle.bd_app.specs.declared.loading.LoadFault.{LoadFault}
use Rattle.bd_app.specs.declared.loading.LoadFault.TheVariants as loading
use Rattle.bd_app.specs.declared.fault.Fault.TheVariants.{Usage, Refused, BadText, Load, Save, Memory}

-- ---- the answer that a fault is

abbrev pub ended_by_fault : Fault → Ended
ended_by_fault Usage = ended.Usage
ended_by_fault (Refused file offset code) = ended.Refused file offset code
ended_by_fault (BadText line column why cnf) = ended.BadText line column why cnf
ended_by_fault Load = ended.Device which.Load
ended_by_fault Save = ended.Device which.Save
ended_by_fault Memory = ended.Memory

-- the answer, also where it is a fault
abbrev pub ended_of : Result Answer Fault → Ended
ended_of (Ok answer) = answer.ended
ended_of (Err fault) = ended_by_fault fault

-- ---- the fault that a cause is

abbrev pub words_fault : WordsFault → Fault
words_fault words.Usage = Usage
words_fault words.Memory = Memory

abbrev pub load_fault : LoadFault → Fault
load_fault (loading.Failed file) = Load
load_fault (loading.TooLong file) = Refused file (most_bytes file) TooLong
load_fault loading.Memory = Memory

abbrev pub save_fault : SaveError → Fault
save_fault saving.Failed = Save
save_fault saving.Memory = Memory

abbrev pub design_fault : TypeFault → Fault
design_fault (design.Bad file offset code) = Refused file offset code
design_fault design.Memory = Memory

abbrev pub proof_fault : ProofFault → Fault
proof_fault (proof.Bad line column why cnf) = BadText line column why cnf
proof_fault proof.Memory = Memory

-- what reading a file's text gave, a fault with the file
abbrev pub of_text : {T : Type 0} → Text → Result T TextFault → Result T Fault
of_text file (Ok x) = Ok x
of_text file (Err (texts.Bad offset code)) = Err (Refused file offset code)
of_text file (Err texts.Memory) = Err Memory
