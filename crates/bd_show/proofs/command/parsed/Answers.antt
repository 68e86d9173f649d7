use Rattle.std.proofs.Common.{◌≡◌, ap, sym, subst, ◌∙◌}
use Rattle.std.specs.Prelude.{◌⊎◌}
use Rattle.clap.specs.Kinds.{IsAmong}
use Rattle.clap.specs.Faults.{fault_of, is_simple_and_free}
use Rattle.clap.specs.Simple.{App, is_simple, subcommand_of}
use Rattle.clap.specs.Values.{kind_of}
use Rattle.clap.specs.declared.error.kind.ErrorKind.TheVariants as kind
use Rattle.bd_app.specs.Words.{texts_of}
use Rattle.bd_show.proofs.Asked.{command_line-free, command_line-simple, told_fault}
use Rattle.bd_show.proofs.command.parsed.Goals as goal

pub returns-in-Ok-clause-parsed : goal.returns-in-Ok-clause-parsed
returns-in-Ok-clause-parsed c =
    let words = texts_of c.args.words.now in
    let same = c.in_ok-command_line.ensures in
    record {
      no_fault = ap (λ (a : App). fault_of a words) (sym same) ∙ c.in-Ok.ensures.kinds (ap is_simple_and_free same ∙ command_line-free);
      met = (c.in-Ok.ensures.matches (ap is_simple same ∙ command_line-simple)).1 ∙ ap (λ (a : App). subcommand_of a words) same;
    }

pub returns-in_ok-told-in-Err-clause-fault : goal.returns-in_ok-told-in-Err-clause-fault
returns-in_ok-told-in-Err-clause-fault c =
    let words = texts_of c.args.words.now in
    let same = c.in_ok-command_line.ensures in
    let k = kind_of c.in-Err.error in
    told_fault words k _ c.in_ok-told-in-Err.ensures (subst (λ (a : App). (k ≡ kind.OutOfMemory) ⊎ IsAmong k (fault_of a words)) same (c.in-Err.ensures.kinds (ap is_simple_and_free same ∙ command_line-free)))
