-- What loading says of files and leaves of them.
use Rattle.std.specs.Prelude.{◌≡◌, ◌≤◌, ℕ, List, length, Option, IfSome, IfErr, OnOk, Result}
use Rattle.bd_files.specs.Devices.{Rose}
use Rattle.bd_typer.specs.declared.fault.Text.{Text}
use Rattle.bd_typer.specs.declared.fault.Text.TheVariants.{Comp, Inv}
use Rattle.bd_app.specs.Files.{IsFirstLong, loads, most_bytes}
use Rattle.bd_app.specs.Loading.{Leaves, bytes_of}
use Rattle.bd_app.specs.Meaning.{CalledFirst, FilesSeen}
use Rattle.bd_app.specs.declared.loading.LoadFault.{LoadFault}
use Rattle.bd_app.specs.declared.loading.LoadFault.TheVariants.{Failed, TooLong, Memory}
use Rattle.bd_show.specs.Files.{BlamesLoad, Names, Texts, files_of}
use Rattle.bd_show.specs.Meaning.{AreLoaded, AreLoadedUpTo}
use Rattle.bd_show.specs.declared.load.Texts.{Texts as LoadedTexts}
use Rattle.bd_model.specs.Limits.{longest_text}

abbrev pub texts_view : LoadedTexts → Texts
texts_view t = record {
  pipe = t.pipe.items;
  spec = t.spec.items;
  case = bytes_of t.case;
  proof = bytes_of t.proof;
  inv = bytes_of t.inv;
  comp = bytes_of t.comp;
}

-- few enough bytes for their readers
abbrev pub IsFewIf : Text → Option (List ℕ) → Type 0
IsFewIf file bytes = IfSome bytes (λ b. length b ≤ most_bytes file)

pub record AreFew (t : Texts) : Type 0 where
  pub pipe : length t.pipe ≤ longest_text
  pub spec : length t.spec ≤ longest_text
  pub inv : IsFewIf Inv t.inv
  pub comp : IsFewIf Comp t.comp

-- why one of several files gave no bytes, after the loads up to it
abbrev pub IsFault : Names → FilesSeen → FilesSeen → LoadFault → Type 0
IsFault names a b (Failed file) =
    Rose a.faults b.faults × BlamesLoad b.blame names file × AreLoadedUpTo names a b file
IsFault names a b (TooLong file) =
    IfSome a.held (λ h. IsFirstLong h (files_of names) file) × (b.blame ≡ a.blame)
    × AreLoadedUpTo names a b file
IsFault names a b Memory = (b.blame ≡ a.blame) × CalledFirst a b (loads (files_of names))

pub record IsLoad {T : Type 0} (names : Names) (a b : FilesSeen) (r : Result T LoadFault) :
    Type 0 where
  pub fault : IfErr r (IsFault names a b)
  pub leaves : Leaves a b r
  pub called : OnOk r (AreLoaded names a b)
