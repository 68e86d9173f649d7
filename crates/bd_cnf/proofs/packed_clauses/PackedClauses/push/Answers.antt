use Rattle.std.proofs.Common.{◌≡◌, ◌∷◌, [], ◌++◌, List, length, map, ap, ◌∙◌}
use Rattle.bd_cnf.specs.Literal.{Literal}
use Rattle.bd_cnf.specs.declared.packed_clauses.ClauseRange.{ClauseRange}
use Rattle.bd_cnf.specs.inner.Packing.{clause_in}
use Rattle.bd_cnf.proofs.ClausesPushed.{clauses_pushed}
use Rattle.bd_cnf.proofs.packed_clauses.PackedClauses.push.Goals as goal

pub returns-clause-ok : goal.returns-clause-ok
returns-clause-ok c =
    let inside = c.self.inside in
    let lits = inside.literals.items in
    let range : ClauseRange = record { start = c.len-start.result; end = c.len-end.result } in
    let all : c.append.new.literals.items ≡ lits ++ c.args.clause.now = c.in_ok-append.ensures.ok in
    let ranges : c.push_reserved.new.self.items ≡ inside.ranges.items ++ range ∷ [] = c.push_reserved.ensures.items ∙ ap (λ (xs : List ClauseRange). xs ++ range ∷ []) c.reserve.ensures.items in
    let start : range.start ≡ length lits = c.len-start.ensures ∙ inside.literals.ok.0 in
    let end : range.end ≡ length (lits ++ c.args.clause.now) = c.len-end.ensures ∙ c.append.new.literals.ok.0 ∙ ap length all in
    (λ i. map (clause_in (all i)) (ranges i)) ∙ clauses_pushed lits c.args.clause.now inside.ranges.items range c.self.invariant start end ∙ ap (λ (cs : List (List Literal)). cs ++ c.args.clause.now ∷ []) c.self.view_is
