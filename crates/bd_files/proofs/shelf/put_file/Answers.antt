use Rattle.std.proofs.Common.{ap, ◌∙◌}
use Rattle.bd_files.specs.Shelf.{files_of}
use Rattle.bd_files.proofs.Lookups.{files_of_push_absent}
use Rattle.bd_files.proofs.shelf.put_file.Goals as goal

pub returns-in_ok-push-in-None-clause-ok : goal.returns-in_ok-push-in-None-clause-ok
returns-in_ok-push-in-None-clause-ok c =
    ap files_of c.in_ok-push-in-None.ensures.items ∙ files_of_push_absent c.args.held.now.items c.deref.result.now c.args.name c.as_str.result.now c.args.bytes c.deref.ensures.value c.as_str.ensures.value c.in-None.ensures
