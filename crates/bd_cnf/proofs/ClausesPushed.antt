-- Clauses in one flat list of literals, with one more clause.
use Rattle.std.proofs.Common.{◌≡◌, ◌-◌, ◌≤◌, List, [], ◌∷◌, ◌++◌, length, map, take, drop, sym, ap, ◌∙◌, arith, length-append, length-drop}
use Rattle.std.specs.List.{All}
use Rattle.std.proofs.lemmas.List.{take-append-le, drop-append-le, take_all, drop_at}
use Rattle.std.proofs.lemmas.List.Elements.{All-head, All-tail}
use Rattle.bd_cnf.specs.Literal.{Literal}
use Rattle.bd_cnf.specs.declared.packed_clauses.ClauseRange.{ClauseRange}
use Rattle.bd_cnf.specs.inner.Packing.{clause_in, IsRange}

clause_grown : (lits more : List Literal) (range : ClauseRange) → IsRange (length lits) range → clause_in (lits ++ more) range ≡ clause_in lits range
clause_grown lits more range is =
    let order : range.start ≤ range.end = is.0 in
    let inside : range.end ≤ length lits = is.1 in
    ap (take (range.end - range.start)) (drop-append-le range.start lits more (omega arith))
    ∙ take-append-le (range.end - range.start) (drop range.start lits) more (omega (arith, length-drop range.start lits))

clause_last : (lits clause : List Literal) (range : ClauseRange) → range.start ≡ length lits → range.end ≡ length (lits ++ clause) → clause_in (lits ++ clause) range ≡ clause
clause_last lits clause range start end =
    ap (take (range.end - range.start)) (drop_at lits clause range.start (sym start))
    ∙ take_all (range.end - range.start) clause (omega (arith, length-append lits clause))

-- the clauses so far, and one more after them
pub clauses_pushed : (lits clause : List Literal) (ranges : List ClauseRange) (range : ClauseRange) → All (IsRange (length lits)) ranges → range.start ≡ length lits → range.end ≡ length (lits ++ clause) → map (clause_in (lits ++ clause)) (ranges ++ range ∷ []) ≡ map (clause_in lits) ranges ++ clause ∷ []
clauses_pushed lits clause [] range all start end = ap (λ (c : List Literal). c ∷ []) (clause_last lits clause range start end)
clauses_pushed lits clause (s ∷ ranges) range all start end =
    let first = clause_grown lits clause s (All-head (IsRange (length lits)) s ranges all) in
    let rest = clauses_pushed lits clause ranges range (All-tail (IsRange (length lits)) s ranges all) start end in
    λ i. first i ∷ rest i
