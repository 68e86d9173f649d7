use Rattle.std.proofs.Common.{◌≡◌}
use Rattle.bd_typer.specs.Declarations.{offsets}
use Rattle.bd_typer.specs.Repeats.{with_names, repeated}
use Rattle.bd_typer.specs.inner.Held.{members}
use Rattle.bd_typer.specs.inner.Located.{first_offset, least_offset}
use Rattle.bd_typer.proofs.RepeatedNames.{abstracts_from}
use Rattle.bd_typer.proofs.declarations.scan_abstracts.Given as goal

abbrev pub invariant-loop-part : goal.invariant-loop-part
invariant-loop-part l =
    record {
      repeated : first_offset l.scanned.repeated (least_offset (offsets (repeated (members l.texts) (abstracts_from l.parts l.part-index)))) ≡ least_offset (offsets (repeated (members l.initial.texts) (abstracts_from l.parts 0)));
      set : with_names (members l.texts) (abstracts_from l.parts l.part-index) ≡ with_names (members l.initial.texts) (abstracts_from l.parts 0);
    }
