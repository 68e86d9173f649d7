use Rattle.std.proofs.Common.{◌≡◌, drop}
use Rattle.bd_lrat.specs.Database.{remove_all}
use Rattle.bd_lrat.proofs.store.ClauseStore.remove_all.Given as goal

abbrev pub invariant-loop-id : goal.invariant-loop-id
invariant-loop-id l = record {
  last : l.self.last ≡ l.fn.self.last;
  clauses : remove_all l.self.clauses (drop l.id-index l.ids) ≡ remove_all l.fn.self.clauses l.ids;
}
