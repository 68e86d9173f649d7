use Rattle.std.proofs.Common.{◌∙◌, Some, ap, sym, arith}
use Rattle.bd_watch.proofs.Numbered.{id_within, clause_of_id}
use Rattle.bd_watch.proofs.watch.Watch.clause.Goals as goal

pub overflow_sub-id : goal.overflow_sub-id
overflow_sub-id c = let both = id_within c.args.self.now.clauses c.args.id c.requires in omega (arith, both.0)

pub get-requires : goal.get-requires
get-requires c = let both = id_within c.args.self.now.clauses c.args.id c.requires in omega (arith, both.0, both.1)

pub returns : goal.returns
returns c = clause_of_id c.args.self.now.clauses c.args.id c.requires ∙ ap Some (sym c.get.ensures)
