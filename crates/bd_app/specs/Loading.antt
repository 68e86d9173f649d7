-- What loading one file gives, and what it leaves of the files.
-- Source: this project's own interface to the files of the system that runs it.
use Rattle.std.specs.Prelude.{◌≡◌, ◌≤◌, ℕ, List, [], ◌∷◌, Option, Some, IfSome, IfErr, OnOk, Result, Vec}
use Rattle.std.specs.declared.alloc.Global.{Global}
use Rattle.std.specs.Option.{option_map}
use Rattle.bd_files.specs.Devices.{Rose}
use Rattle.bd_files.specs.declared.devices.FileCall.TheVariants as call
use Rattle.bd_typer.specs.declared.fault.Text.{Text}
use Rattle.bd_app.specs.Files.{File, IsLong, loads, one_if}
use Rattle.bd_app.specs.Meaning.{Called, FilesSeen}
use Rattle.bd_app.specs.Words.{Name}
use Rattle.bd_app.specs.declared.loading.LoadFault.{LoadFault}
use Rattle.bd_app.specs.declared.loading.LoadFault.TheVariants.{Failed, TooLong, Memory}

-- the bytes of a file that may not be named
abbrev pub bytes_of : Option (Vec ℕ Global) → Option (List ℕ)
bytes_of = option_map (λ bytes. bytes.items)

-- why a file gave no bytes: it is the one that is told, and the load failed or it is too long
abbrev pub IsOneFault : File → FilesSeen → FilesSeen → LoadFault → Type 0
IsOneFault file a b (Failed f) =
    (f ≡ file.0) × Rose a.faults b.faults × (b.blame ≡ Some (call.Load, file.1))
IsOneFault file a b (TooLong f) =
    (f ≡ file.0) × IfSome a.held (λ h. IsLong h file) × (b.blame ≡ a.blame)
IsOneFault file a b Memory = b.blame ≡ a.blame

-- what a load leaves
pub record Leaves {T : Type 0} (a b : FilesSeen) (r : Result T LoadFault) : Type 0 where
  pub blame : OnOk r (b.blame ≡ a.blame)
  pub held : b.held ≡ a.held
  pub never_falls : a.faults ≤ b.faults

-- one load of the file
pub record IsOneLoad {T : Type 0} (file : File) (a b : FilesSeen) (r : Result T LoadFault) :
    Type 0 where
  pub fault : IfErr r (IsOneFault file a b)
  pub leaves : Leaves a b r
  pub called : Called a b (loads (file ∷ []))

-- the same of a file that may be named; of no name there is no load
pub record IsOneLoadIf {T : Type 0} (file : Text) (name : Option Name) (a b : FilesSeen)
    (r : Result T LoadFault) : Type 0 where
  pub fault : IfErr r (λ e. (n : Name) × (name ≡ Some n) × IsOneFault (file, n) a b e)
  pub leaves : Leaves a b r
  pub called : Called a b (loads (one_if file name))
