-- What the page's call runs, and on what.
use Rattle.std.specs.Prelude.{◌≡◌, ◌⊎◌, ◌<◌, true, false, ℕ, Bool, List, [], ◌∷◌, codes, length, map, take, Some, None}
use Rattle.std.specs.List.{concat}
use Rattle.std.specs.Str.{bytes_eq}
use Rattle.bd_app.specs.Answer as answer
use Rattle.bd_app.specs.Check.{Check}
use Rattle.bd_app.specs.Commands.{check, taken}
use Rattle.bd_app.specs.Meaning.{FilesSeen}
use Rattle.bd_app.specs.Program as app
use Rattle.bd_app.specs.Program.{ForDesign, SinkSeen}
use Rattle.bd_app.specs.declared.answer.Ended.{Ended as AppEnded}
use Rattle.bd_files.specs.Shelf.{File, bytes_of}
use Rattle.bd_model.specs.Right.{IsRight}
use Rattle.bd_show.specs.Answer as shown
use Rattle.bd_show.specs.Program as show
use Rattle.bd_show.specs.declared.answer.Ended.{Ended as ShowEnded}
use Rattle.bd_web.specs.Handed.{AreHanded, back_parts}

-- whether the first word names the companion, and not the program
abbrev pub asks_companion : List (List ℕ) → Bool
asks_companion [] = false
asks_companion (word ∷ words) = bytes_eq word (codes "bd_view")

-- a run of the program on these words ends with this status
pub record EndsProgram (words : List (List ℕ)) (status : ℕ)
    (files files' : FilesSeen) (out out' err err' : SinkSeen) : Type 0 where
  pub ended : AppEnded
  pub status_is : status ≡ answer.status_of ended
  pub run : app.IsRun words ended files files' out out' err err'

-- a run of the companion
pub record EndsCompanion (words : List (List ℕ)) (status : ℕ)
    (files files' : FilesSeen) (out out' err err' : SinkSeen) : Type 0 where
  pub ended : ShowEnded
  pub status_is : status ≡ shown.status_of ended
  pub run : show.IsRun words ended files files' out out' err err'

-- the one that the words name
pub record Ends (words : List (List ℕ)) (status : ℕ)
    (files files' : FilesSeen) (out out' err err' : SinkSeen) : Type 0 where
  pub program : asks_companion words ≡ false →
      EndsProgram words status files files' out out' err err'
  pub companion : asks_companion words ≡ true →
      EndsCompanion words status files files' out out' err err'

-- files in memory before a run
abbrev pub given : List File → FilesSeen
given files = record { held = Some (bytes_of files); faults = 0; blame = None; calls = None }

-- an output in memory before a run, whose puts count from 1
abbrev pub empty : SinkSeen
empty = record { written = Some []; faults = 0; puts = Some 1 }

-- a run on words and files that are handed in ends with this status, and this comes back of it
pub record IsRunOn (words : List (List ℕ)) (files : List File) (status : ℕ)
    (back : List (List ℕ)) : Type 0 where
  pub left : FilesSeen
  pub out : SinkSeen
  pub err : SinkSeen
  pub ends : Ends words status (given files) left empty out empty err
  -- what was put on the outputs, and the files that stand then
  pub put : List ℕ
  pub said : List ℕ
  pub files' : List File
  pub put_is : out.written ≡ Some put
  pub said_is : err.written ≡ Some said
  pub files_are : left.held ≡ Some (bytes_of files')
  pub comes_back : back ≡ back_parts put said files'

-- so it is of what these bytes are
pub record Runs (bytes lengths : List ℕ) (count status : ℕ) (back : List (List ℕ)) : Type 0 where
  pub words : List (List ℕ)
  pub files : List File
  pub handed : AreHanded bytes lengths count words files
  pub run : IsRunOn words files status back
  -- the headline: status 0 of `check` is that the pipeline is right in every run
  pub right : (q : Check) → asks_companion words ≡ false → taken words ≡ Some (check q) →
      status ≡ 0 → ForDesign (Some (bytes_of files)) words IsRight

-- the first bytes and lengths of a room are these parts
pub record AreFirstParts (room lengths : List ℕ) (count : ℕ) (parts : List (List ℕ)) : Type 0 where
  pub whole : take (length (concat parts)) room ≡ concat parts
  pub each : take count lengths ≡ map length parts

-- the parts of a run on what these bytes are stand in the room
pub record ComesBack (bytes lengths : List ℕ) (count status : ℕ)
    (room room_lengths : List ℕ) (back_count : ℕ) : Type 0 where
  pub parts : List (List ℕ)
  pub runs : Runs bytes lengths count status parts
  pub laid : AreFirstParts room room_lengths back_count parts

-- such parts are longer than the room, or more than it has lengths
pub record IsCutOff (bytes lengths : List ℕ) (count : ℕ) (room room_lengths : List ℕ) : Type 0 where
  pub status : ℕ
  pub parts : List (List ℕ)
  pub runs : Runs bytes lengths count status parts
  pub no_room : (length room < length (concat parts)) ⊎ (length room_lengths < length parts)
