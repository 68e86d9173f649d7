use Rattle.std.proofs.Common.{◌≡◌, ◌+◌, ◌∙◌, ◌∷◌, Bool, List, ap, arith, drop, sym}
use Rattle.std.specs.Prelude.{slice_index_or}
use Rattle.std.specs.List.{list_any}
use Rattle.std.proofs.lemmas.List.{drop_more}
use Rattle.bd_cnf.specs.Literal.{Literal}
use Rattle.bd_terms.specs.declared.node.Sym.TheVariants.{Function}
use Rattle.bd_about.specs.declared.tallying.Tally.{Tally}
use Rattle.bd_about.specs.inner.Owned.{is_held_for}
use Rattle.bd_about.specs.inner.Tallied.{named, no_tally}
use Rattle.bd_about.proofs.Tallied.{named-both}
use Rattle.bd_about.proofs.equations.note_clause.Goals as goal

pub loop-literal-preserved : goal.loop-literal-preserved
loop-literal-preserved c =
    let l = c.loop-literal in
    let literals : List Literal = c.args.literals.now in
    let literal : Literal = c.literal-item.result in
    let rest : List Literal = drop (l.literal-index + 1) literals in
    let parts : drop l.literal-index literals ≡ literal ∷ rest =
    drop_more literals l.literal-index literal c.loop-literal-test.true ∙ ap (λ (x : Literal). x ∷ rest) (sym c.literal-item.is) in
    record {
      size = c.note_literal.ensures.size ∙ l.invariant.size;
      up_to = c.note_literal.ensures.up_to;
      counts = λ f inside.
          let holds : Literal → Bool = λ x. is_held_for c.args.owners.now c.args.atoms.now (Function f) x.var in
          let t : Tally = slice_index_or l.tallies.items f no_tally in
          let is = c.note_literal.ensures.tallies f (omega (arith, inside, l.invariant.size)) in
          ap (named (list_any holds rest) c.args.clause) is
          ∙ named-both (holds literal) (list_any holds rest) c.args.clause t
          ∙ ap (λ (ls : List Literal). named (list_any holds ls) c.args.clause t) (sym parts)
          ∙ l.invariant.counts f inside;
    }
