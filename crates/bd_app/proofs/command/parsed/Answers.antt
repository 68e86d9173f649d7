use Rattle.std.proofs.Common.{◌∙◌, ap, sym, subst, inl, inr}
use Rattle.clap.specs.Kinds.{IsAmong}
use Rattle.clap.specs.Faults.{fault_of, is_simple_and_free}
use Rattle.clap.specs.Simple.{App, is_simple, subcommand_of}
use Rattle.clap.specs.Values.{kind_of}
use Rattle.bd_app.specs.Words.{texts_of}
use Rattle.bd_app.proofs.WordValues.{command_line-free, command_line-simple, refused}
use Rattle.bd_app.proofs.command.parsed.Goals as goal

pub returns-in-Ok-clause-parsed : goal.returns-in-Ok-clause-parsed
returns-in-Ok-clause-parsed c =
    let words = texts_of c.args.words.now in
    let same = c.in_ok-command_line.ensures in
    record {
      no_fault = ap (λ (a : App). fault_of a words) (sym same) ∙ c.in-Ok.ensures.kinds (ap is_simple_and_free same ∙ command_line-free);
      met = (c.in-Ok.ensures.matches (ap is_simple same ∙ command_line-simple)).1 ∙ ap (λ (a : App). subcommand_of a words) same;
    }

pub returns : goal.returns
returns c =
    let words = texts_of c.args.words.now in
    let same = c.in_ok-command_line.ensures in
    record {
      parsed = tt;
      usage = λ is. elim (c.in-Err.ensures.kinds (ap is_simple_and_free same ∙ command_line-free)) [
        | inl memory ↦ absurd (c.in_default.not-OutOfMemory (c.kind.ensures ∙ memory))
        | inr among ↦ refused words (kind_of c.in-Err.e) (subst (λ (a : App). IsAmong (kind_of c.in-Err.e) (fault_of a words)) same among)
      ];
    }
