use Rattle.std.proofs.Common.{◌≡◌}
use Rattle.bd_typer.specs.Declarations.{offsets}
use Rattle.bd_typer.specs.Repeats.{with_names, repeated, fresh}
use Rattle.bd_typer.specs.inner.Held.{members}
use Rattle.bd_typer.specs.inner.Located.{first_offset, least_offset}
use Rattle.bd_typer.specs.inner.Roles.{role_name}
use Rattle.bd_typer.proofs.RepeatedNames.{names_from}
use Rattle.bd_typer.proofs.declarations.scan.Given as goal

abbrev pub invariant-loop-item : goal.invariant-loop-item
invariant-loop-item l =
    let f = role_name l.role in
    record {
      repeated : first_offset l.scanned.repeated (least_offset (offsets (repeated (members l.texts) (names_from f l.items l.item-index)))) ≡ least_offset (offsets (repeated (members l.initial.texts) (names_from f l.items 0)));
      fresh : first_offset l.scanned.fresh (least_offset (offsets (fresh (members l.texts) (names_from f l.items l.item-index)))) ≡ least_offset (offsets (fresh (members l.initial.texts) (names_from f l.items 0)));
      set : with_names (members l.texts) (names_from f l.items l.item-index) ≡ with_names (members l.initial.texts) (names_from f l.items 0);
    }
