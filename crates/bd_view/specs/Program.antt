-- What the program does with the words of its command line, its files and its two streams.
use Rattle.std.specs.Prelude.{◌≡◌, ℕ, List}
use Rattle.bd_app.specs.Meaning.{FilesSeen}
use Rattle.bd_app.specs.Program.{SinkSeen}
use Rattle.bd_show.specs.Answer.{status_of}
use Rattle.bd_show.specs.Program.{IsRun}
use Rattle.bd_show.specs.declared.answer.Ended.{Ended}

-- a run on these words that ends with this status: that of some answer with which `bd_show::run` ends so
pub record EndsWith (words : List (List ℕ)) (status : ℕ)
    (files files' : FilesSeen) (out out' err err' : SinkSeen) : Type 0 where
  pub ended : Ended
  pub status_is : status ≡ status_of ended
  pub run : IsRun words ended files files' out out' err err'
