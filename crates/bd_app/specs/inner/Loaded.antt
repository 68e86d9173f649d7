-- The bytes of files as the definitions see them, and what loading leaves.
use Rattle.std.specs.Prelude.{◌≡◌, ◌≤◌, List, length, Option, IfSome, OnOk, IfErr, IsErrOf, Result}
use Rattle.bd_files.specs.Devices.{Held, Rose}
use Rattle.bd_app.specs.Files.{BlamesOneOf, File, loads}
use Rattle.bd_app.specs.Loading.{bytes_of}
use Rattle.bd_app.specs.Meaning.{Called, FilesSeen, IsTooLong, LoadsFail}
use Rattle.bd_app.specs.Sources.{Sources}
use Rattle.bd_app.specs.declared.fault.Fault.{Fault}
use Rattle.bd_app.specs.declared.fault.Fault.TheVariants.{Refused, Load, Memory}
use Rattle.bd_app.specs.declared.load.Sources.{Sources as LoadedSources}
use Rattle.bd_app.specs.inner.Faults.{ended_by_fault}
use Rattle.bd_model.specs.Limits.{longest_text}

abbrev pub sources_view : LoadedSources → Sources
sources_view s =
    record { pipe = s.pipe.items; spec = s.spec.items; premise = s.premise; third = bytes_of s.third }

-- few enough bytes for their readers
pub record AreFew (s : Sources) : Type 0 where
  pub pipe : length s.pipe ≤ longest_text
  pub spec : length s.spec ≤ longest_text
  pub third : IfSome s.third (λ bytes. length bytes ≤ longest_text)

-- what a load that gave no bytes says of files that are loaded in this order
abbrev pub IsLoadFault : Option Held → List File → Fault → Type 0
IsLoadFault held files (Refused file offset code) =
    IfSome held (λ h. IsTooLong h files file offset code)
IsLoadFault held files Load = Unit {0}
IsLoadFault held files Memory = Unit {0}
IsLoadFault held files _ = ⊥

-- what loading these files in this order leaves
pub record Loads {T : Type 0} (files : List File) (before after : FilesSeen) (r : Result T Fault) :
    Type 0 where
  pub fault : IfErr r (IsLoadFault before.held files)
  pub rose : IsErrOf r Load → Rose before.faults after.faults
  pub blamed : IsErrOf r Load → BlamesOneOf after.blame files
  pub else_keeps_blame : ¬ IsErrOf r Load → after.blame ≡ before.blame
  pub held : after.held ≡ before.held
  pub never_falls : before.faults ≤ after.faults
  pub called : OnOk r (Called before after (loads files))
  pub called_up_to : IfErr r (λ e. LoadsFail before after files (ended_by_fault e))
