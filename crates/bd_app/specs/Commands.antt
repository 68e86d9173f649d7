-- The command line: which words are taken, what they ask for, and what it means.
-- Source: what `clap` makes of the words of a simple command, as the crate states it.
use Rattle.std.specs.Prelude.{ℕ, false, List, [], ◌∷◌, map, codes, Option, Some, None, if◌then◌else◌}
use Rattle.std.specs.Str.{bytes_eq}
use Rattle.clap.specs.Walk.{Row}
use Rattle.clap.specs.Simple.{App, Shape, new_shape, subcommand_of}
use Rattle.clap.specs.Faults.{fault_of}
use Rattle.clap.specs.Kinds.{Kinds}
use Rattle.bd_app.specs.Meaning.{Meaning}
use Rattle.bd_app.specs.Bounded.{BoundedRun, bounded_command, bounded_meaning, bounded_question}
use Rattle.bd_app.specs.Check.{Check, check_command, check_meaning, check_question}
use Rattle.bd_app.specs.Complete.{Completion, complete_command, complete_meaning, complete_question}
use Rattle.bd_app.specs.Generate.{Gen, gen_command, gen_meaning, gen_question}
use Rattle.bd_app.specs.Recheck.{Recheck, recheck_command, recheck_meaning, recheck_question}
use Rattle.bd_app.specs.Replay.{Replay, replay_command, replay_meaning, replay_question}
use Rattle.bd_app.specs.Retrace.{Retrace, retrace_command, retrace_meaning, retrace_question}
use Rattle.bd_app.specs.Run.{Run, run_command, run_meaning, run_question}
use Rattle.bd_app.specs.Words.{◌>>=◌}

-- what the words ask for
pub data Question : Type 0 where
  check : Check → Question
  replay : Replay → Question
  run : Run → Question
  gen : Gen → Question
  recheck : Recheck → Question
  bounded : BoundedRun → Question
  retrace : Retrace → Question
  complete : Completion → Question

-- what it means
abbrev pub meaning_of : Question → Meaning
meaning_of (check q) = check_meaning q
meaning_of (replay q) = replay_meaning q
meaning_of (run q) = run_meaning q
meaning_of (gen q) = gen_meaning q
meaning_of (recheck q) = recheck_meaning q
meaning_of (bounded q) = bounded_meaning q
meaning_of (retrace q) = retrace_meaning q
meaning_of (complete q) = complete_meaning q

-- a command: its words, and the question of their values
pub record Command : Type 0 where
  pub shape : Shape
  pub question : List Row → Question

-- the command table
unfoldable pub commands : List Command
commands =
    record { shape = check_command; question = λ rows. check (check_question rows) }
    ∷ record { shape = replay_command; question = λ rows. replay (replay_question rows) }
    ∷ record { shape = run_command; question = λ rows. run (run_question rows) }
    ∷ record { shape = gen_command; question = λ rows. gen (gen_question rows) }
    ∷ record { shape = recheck_command; question = λ rows. recheck (recheck_question rows) }
    ∷ record { shape = bounded_command; question = λ rows. bounded (bounded_question rows) }
    ∷ record { shape = retrace_command; question = λ rows. retrace (retrace_question rows) }
    ∷ record { shape = complete_command; question = λ rows. complete (complete_question rows) }
    ∷ []

unfoldable pub command_line : App
unfolding commands
command_line = record {
  top = record (new_shape (codes "burch_dill")) { is_leaf = false };
  subs = map (λ c. c.shape) commands;
}

-- what the command of this name asks
abbrev pub question_among : List Command → List ℕ → List Row → Option Question
question_among [] name rows = None
question_among (c ∷ cs) name rows =
    if bytes_eq name c.shape.name then Some (c.question rows) else question_among cs name rows

unfoldable pub question_of : List ℕ → List Row → Option Question
question_of name rows = question_among commands name rows

-- where clap finds no fault
abbrev pub if_faultless : {A : Type 0} → Kinds → Option A → Option A
if_faultless [] found = found
if_faultless (kind ∷ kinds) found = None

-- what the words ask for. They are taken just where clap finds no fault in them and they name a command of the table:
-- the ranges of numbers, and what has to be given, are clap's own, and stand in the shapes alone
unfoldable pub taken : List (List ℕ) → Option Question
taken words = if_faultless (fault_of command_line words) (do
  named ← subcommand_of command_line words
  question_of named.0 named.1)
