-- What a shelf of files in memory does at each call.
-- Source: this project's own interface to files and sinks.
use Rattle.std.specs.Prelude.{ℕ, ◌+◌, Bool, false, ◌==◌, List, [], ◌∷◌, map, take, Option, Some, None, if◌then◌else◌}
use Rattle.std.specs.List.{list_any}
use Rattle.std.specs.Option.{option_map}
use Rattle.std.specs.Str.{bytes_eq}
use Rattle.std.specs.String.{string_bytes}
use Rattle.std.specs.declared.alloc.Global.{Global}
use Rattle.std.specs.declared.string.String.{String}
use Rattle.std.specs.declared.vec.Vec.{Vec}
use Rattle.bd_files.specs.Devices.{Call, FaultRecord, faulted}
use Rattle.bd_files.specs.declared.devices.FileCall.{FileCall}
use Rattle.bd_files.specs.Numbers.{number_after}

-- a file: the bytes of its name, and its own
abbrev pub File : Type 0
File = List ℕ × List ℕ

-- the files of a vector of names and bytes
abbrev pub files_of : List (String Global × Vec ℕ Global) → List File
files_of = map (λ file. (string_bytes file.0, file.1.items))

-- `next` is the number of the next call, and `fails` has the numbers of the calls that are to fail;
-- `calls` are those that were made, while there is memory to tell them
pub record ShelfState : Type 0 where
  pub held : List File
  pub fails : List ℕ
  pub next : Option ℕ
  pub faults : FaultRecord
  pub calls : Option (List Call)

-- the bytes of the first file with that name
abbrev pub bytes_of : List File → List ℕ → Option (List ℕ)
bytes_of [] name = None
bytes_of (file ∷ files) name = if bytes_eq file.0 name then Some file.1 else bytes_of files name

-- the files with these bytes under the name: in place of the first file with that name, or after
-- them all
abbrev pub put_file : List File → List ℕ → List ℕ → List File
put_file [] name bytes = (name, bytes) ∷ []
put_file (file ∷ files) name bytes =
    if bytes_eq file.0 name then (file.0, bytes) ∷ files else file ∷ put_file files name bytes

-- whether the next call is to fail
abbrev pub is_due : List ℕ → Option ℕ → Bool
is_due fails None = false
is_due fails (Some number) = list_any (λ n. n == number) fails

-- what the next call gives if it is a load; a load that fails gives nothing
abbrev pub load_of : ShelfState → List ℕ → ℕ → Option (List ℕ)
load_of shelf name most =
    if is_due shelf.fails shelf.next then None
    else option_map (take (most + 1)) (bytes_of shelf.held name)

-- the shelf with one more call numbered
abbrev pub numbered : ShelfState → ShelfState
numbered shelf = record shelf { next = number_after shelf.next }

-- the shelf that tells these calls
abbrev pub telling : Option (List Call) → ShelfState → ShelfState
telling calls shelf = record shelf { calls = calls }

-- a shelf that holds these files, before its first call
abbrev pub new_shelf : List File → List ℕ → ShelfState
new_shelf files fails = record {
  held = files;
  fails = fails;
  next = Some 1;
  faults = record { count = 0; blame = None };
  calls = Some [];
}

-- the shelf after a call that failed
abbrev pub failed : ShelfState → FileCall → List ℕ → ShelfState
failed shelf call name = record (numbered shelf) { faults = faulted shelf.faults call name }

-- the shelf after a save that succeeded
abbrev pub saved : ShelfState → List ℕ → List ℕ → ShelfState
saved shelf name bytes = record (numbered shelf) { held = put_file shelf.held name bytes }
