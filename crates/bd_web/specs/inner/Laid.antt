-- Runs whose parts are laid out.
use Rattle.std.specs.Prelude.{ℕ, List}
use Rattle.bd_files.specs.Shelf.{File}
use Rattle.bd_web.specs.Handed.{AreParts}
use Rattle.bd_web.specs.Ran.{IsRunOn, Runs}

-- the parts that come back of a run are laid out as these bytes
pub record IsLaidRun (words : List (List ℕ)) (files : List File) (status : ℕ)
    (back back_lengths : List ℕ) : Type 0 where
  pub parts : List (List ℕ)
  pub run : IsRunOn words files status parts
  pub laid : AreParts back back_lengths parts

-- the same of a run on what these bytes are
pub record HasCome (bytes lengths : List ℕ) (count status : ℕ) (back back_lengths : List ℕ) :
    Type 0 where
  pub parts : List (List ℕ)
  pub runs : Runs bytes lengths count status parts
  pub laid : AreParts back back_lengths parts
