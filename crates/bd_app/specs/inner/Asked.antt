-- The program's own commands as the definitions see them.
use Rattle.std.specs.Prelude.{◌≡◌, List, [], ◌∷◌, ◌++◌}
use Rattle.clap.specs.Walk.{Rule}
use Rattle.clap.specs.Simple.{Shape, subcommand_of, subcommand_rows_of}
use Rattle.clap.specs.Faults.{fault_of}
use Rattle.clap.specs.declared.parser.matches.ArgMatches.{ArgMatches}
use Rattle.std.specs.Prelude.{ℕ}
use Rattle.bd_app.specs.Bounded.{bounded_of, HasFewCycles}
use Rattle.bd_app.specs.Check.{check_of}
use Rattle.bd_app.specs.Complete.{complete_of}
use Rattle.bd_app.specs.Commands.{Question, check, replay, run, gen, recheck, bounded, retrace, complete, command_line}
use Rattle.bd_app.specs.Generate.{gen_of, HasDepth}
use Rattle.bd_app.specs.Recheck.{recheck_of}
use Rattle.bd_app.specs.Replay.{replay_of}
use Rattle.bd_app.specs.Retrace.{retrace_of}
use Rattle.bd_app.specs.Run.{run_of}
use Rattle.bd_app.specs.declared.command.Command.{Command}
use Rattle.bd_app.specs.declared.command.Command.TheVariants.{Check, Replay, Run, Gen, Recheck, Bounded, Retrace, Complete}

-- the question that a command asks
abbrev pub asked : Command → Question
asked (Check options) = check (check_of options)
asked (Replay files) = replay (replay_of files)
asked (Run options) = run (run_of options)
asked (Gen options) = gen (gen_of options)
asked (Recheck files) = recheck (recheck_of files)
asked (Bounded options) = bounded (bounded_of options)
asked (Retrace files) = retrace (retrace_of files)
asked (Complete options) = complete (complete_of options)

-- the numbers of a command are in their ranges
abbrev pub IsInRange : Command → Type 0
IsInRange (Gen options) = HasDepth options
IsInRange (Bounded options) = HasFewCycles options
IsInRange _ = Unit {0}

-- a command with one more argument
abbrev pub and_rule : Shape → Rule → Shape
and_rule command rule = record command { rules = command.rules ++ rule ∷ [] }

-- clap finds no fault in the words, and met this subcommand
pub record IsParsed (words : List (List ℕ)) (m : ArgMatches) : Type 0 where
  pub no_fault : fault_of command_line words ≡ []
  pub met : subcommand_rows_of m ≡ subcommand_of command_line words
