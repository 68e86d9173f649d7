-- What the program does with the words of its command line, its files and its two streams.
use Rattle.std.specs.Prelude.{◌≡◌, ℕ, List}
use Rattle.bd_app.specs.Answer.{status_of}
use Rattle.bd_app.specs.Meaning.{FilesSeen}
use Rattle.bd_app.specs.Program.{IsRun, SinkSeen}
use Rattle.bd_app.specs.declared.answer.Ended.{Ended}
use Rattle.bd_app.specs.declared.answer.Ended.TheVariants as endings
use Rattle.bd_host.specs.declared.words.WordsError.{WordsError}
use Rattle.bd_host.specs.declared.words.WordsError.TheVariants.{NotText, Memory}

-- a run on these words that ends with this status: that of some answer with which `bd_app::run` ends
-- so
pub record EndsWith (words : List (List ℕ)) (status : ℕ)
    (files files' : FilesSeen) (out out' err err' : SinkSeen) : Type 0 where
  pub ended : Ended
  pub status_is : status ≡ status_of ended
  pub run : IsRun words ended files files' out out' err err'

-- the answer where there are no words: words that aren't text aren't taken
abbrev pub ended_without : WordsError → Ended
ended_without NotText = endings.Usage
ended_without Memory = endings.Memory
