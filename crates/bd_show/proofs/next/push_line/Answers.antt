use Rattle.std.specs.Prelude.{◌∷◌, codes}
use Rattle.bd_app.specs.Words.{given}
use Rattle.bd_show.specs.Next.{spaced_if}
use Rattle.bd_show.proofs.Pieces.{seven}
use Rattle.bd_show.proofs.next.push_line.Goals as goal

pub returns : goal.returns
returns c =
    seven c.args.text.now.items c.extend_from_slice.new.self.items c.push_spaced.new.text.items c.push_spaced-2.new.text.items c.push_spaced-3.new.text.items c.push_spaced-4.new.text.items c.push_spaced_if.new.text.items
    c.extend_from_slice-2.new.self.items (codes "\nnext: bd_view") (32 ∷ c.args.command.now) (32 ∷ c.args.names.pipe.now) (32 ∷ c.args.names.spec.now) (32 ∷ c.args.saved.now) (spaced_if (given c.args.names.inv)) (codes "\n")
    c.in_ok-extend_from_slice.ensures.items c.in_ok-push_spaced.ensures c.in_ok-push_spaced-2.ensures c.in_ok-push_spaced-3.ensures c.in_ok-push_spaced-4.ensures c.in_ok-push_spaced_if.ensures c.in_ok-extend_from_slice-2.ensures.items
