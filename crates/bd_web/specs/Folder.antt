-- A folder of files in memory.
-- Source: this project's own interface to files.
use Rattle.std.specs.Prelude.{ℕ, List, ◌∷◌}
use Rattle.bd_files.specs.Devices.{FaultRecord, faulted}
use Rattle.bd_files.specs.Shelf.{File}
use Rattle.bd_files.specs.declared.devices.FileCall.{FileCall}

-- its files, of which the first of a name counts, and its faults
pub record FolderState : Type 0 where
  pub files : List File
  pub faults : FaultRecord

-- the folder after a call that failed
abbrev pub failed : FolderState → FileCall → List ℕ → FolderState
failed folder call name = record folder { faults = faulted folder.faults call name }

-- the folder after a save: the file stands before all others
abbrev pub saved : FolderState → List ℕ → List ℕ → FolderState
saved folder name bytes = record folder { files = (name, bytes) ∷ folder.files }
