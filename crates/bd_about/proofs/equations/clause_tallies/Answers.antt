use Rattle.std.proofs.Common.{◌≡◌, ◌+◌, ◌∙◌, ◌∷◌, Bool, List, ap, arith, drop, length, replicate, sym}
use Rattle.std.specs.Prelude.{slice_index_or}
use Rattle.std.proofs.lemmas.Grind.{common_steps}
use Rattle.std.proofs.lemmas.List.{drop_all, drop_more, get_or-replicate, length-replicate}
use Rattle.bd_cnf.specs.Literal.{Literal}
use Rattle.bd_terms.specs.declared.node.Sym.TheVariants.{Function}
use Rattle.bd_about.specs.declared.tallying.Tally.{Tally}
use Rattle.bd_about.specs.inner.Owned.{is_noted}
use Rattle.bd_about.specs.inner.Tallied.{named, no_tally, tallied}
use Rattle.bd_about.proofs.Tallied.{none-up_to, tallied-count, tallied-next, up_to-later}
use Rattle.bd_about.proofs.equations.clause_tallies.Goals as goal

pub loop-place-init : goal.loop-place-init
loop-place-init c =
    let is : c.in_ok-tallies.tallies.items ≡ replicate c.args.functions no_tally = grind (arith, common_steps) in
    record {
      size = ap length is ∙ length-replicate c.args.functions no_tally;
      up_to = none-up_to 0 c.args.functions c.in_ok-tallies.tallies.items is;
      counts = λ f inside.
          let names : List Literal → Bool = is_noted c.args.owners.now c.args.atoms.now (Function f) in
          ap (λ (t : Tally). tallied names 1 t c.args.clauses.now) (ap (λ (ts : List Tally). slice_index_or ts f no_tally) is ∙ get_or-replicate c.args.functions f no_tally no_tally inside);
    }

pub note_clause-requires : goal.note_clause-requires
note_clause-requires c = up_to-later c.loop-place.place (c.loop-place.place + 1) c.loop-place.tallies.items (omega arith) c.loop-place.invariant.up_to

pub loop-place-preserved : goal.loop-place-preserved
loop-place-preserved c =
    let l = c.loop-place in
    let clauses = c.args.clauses.now in
    let clause : List Literal = c.index-clauses-place.result in
    let rest : List (List Literal) = drop (l.place + 1) clauses in
    let parts : drop l.place clauses ≡ clause ∷ rest = drop_more clauses l.place clause c.loop-place-test.true ∙ ap (λ (ls : List Literal). ls ∷ rest) (sym c.index-clauses-place.is) in
    record {
      size = c.note_clause.ensures.size ∙ l.invariant.size;
      up_to = c.note_clause.ensures.up_to;
      counts = λ f inside.
          let names : List Literal → Bool = is_noted c.args.owners.now c.args.atoms.now (Function f) in
          let t : Tally = slice_index_or l.tallies.items f no_tally in
          let u : Tally = slice_index_or c.note_clause.new.tallies.items f no_tally in
          let is : u ≡ named (names clause) (l.place + 1) t =
          c.note_clause.ensures.tallies f (omega (arith, inside, l.invariant.size)) ∙ ap (λ (ls : List Literal). named (names ls) (l.place + 1) t) c.lits.ensures.value in
          tallied-next names (l.place + 1) (l.place + 1 + 1) t u (drop l.place clauses) clause rest (omega arith) is parts ∙ l.invariant.counts f inside;
    }

pub returns-clause-counts : goal.returns-clause-counts
returns-clause-counts c = λ f inside.
    let l = c.loop-place in
    let clauses = c.args.clauses.now in
    let names : List Literal → Bool = is_noted c.args.owners.now c.args.atoms.now (Function f) in
    let t : Tally = slice_index_or l.tallies.items f no_tally in
    let done : t ≡ tallied names 1 no_tally clauses = sym (ap (tallied names (l.place + 1) t) (drop_all l.place clauses c.loop-place-test.false)) ∙ l.invariant.counts f inside in
    let same = ap (λ (u : Tally). u.count) done in
    let counted = tallied-count names 1 no_tally clauses (omega arith) in
    omega (arith, same, counted)
