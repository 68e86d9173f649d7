use Rattle.std.proofs.Common.{◌≡◌, ◌+◌, ◌∙◌, ◌∷◌, Bool, List, ap, arith, drop, get_or, length, replicate, sym}
use Rattle.std.specs.Prelude.{slice_index_or}
use Rattle.std.proofs.lemmas.Grind.{common_steps}
use Rattle.std.proofs.lemmas.List.{drop_all, drop_more, get_or-replicate, length-replicate}
use Rattle.bd_terms.specs.declared.node.Sym.TheVariants.{Function}
use Rattle.bd_transitive.specs.declared.graph.Edge.{Edge}
use Rattle.bd_transitive.proofs.Ends.{no_edge}
use Rattle.bd_about.specs.Equations.{is_equation_of}
use Rattle.bd_about.specs.declared.tallying.Tally.{Tally}
use Rattle.bd_about.specs.inner.Owned.{is_owned}
use Rattle.bd_about.specs.inner.Tallied.{named, no_tally, tallied}
use Rattle.bd_about.proofs.Tallied.{none-up_to, tallied-count, tallied-next, up_to-later}
use Rattle.bd_about.proofs.equations.equation_counts.Goals as goal

pub loop-place-init : goal.loop-place-init
loop-place-init c =
    let is : c.in_ok-tallies.tallies.items ≡ replicate c.args.functions no_tally = grind (arith, common_steps) in
    record {
      size = ap length is ∙ length-replicate c.args.functions no_tally;
      up_to = none-up_to 0 c.args.functions c.in_ok-tallies.tallies.items is;
      counts = λ f inside.
          let names : Edge → Bool = is_equation_of (is_owned c.args.owners.now) (Function f) in
          ap (λ (t : Tally). tallied names 1 t c.args.edges.now) (ap (λ (ts : List Tally). slice_index_or ts f no_tally) is ∙ get_or-replicate c.args.functions f no_tally no_tally inside);
    }

pub note_both-requires : goal.note_both-requires
note_both-requires c = up_to-later c.loop-place.place (c.loop-place.place + 1) c.loop-place.tallies.items (omega arith) c.loop-place.invariant.up_to

pub loop-place-preserved : goal.loop-place-preserved
loop-place-preserved c =
    let l = c.loop-place in
    let edges = c.args.edges.now in
    let edge : Edge = get_or edges l.place no_edge in
    let rest : List Edge = drop (l.place + 1) edges in
    let parts : drop l.place edges ≡ edge ∷ rest = drop_more edges l.place no_edge c.loop-place-test.true in
    record {
      size = c.note_both.ensures.size ∙ l.invariant.size;
      up_to = c.note_both.ensures.up_to;
      counts = λ f inside.
          let names : Edge → Bool = is_equation_of (is_owned c.args.owners.now) (Function f) in
          let t : Tally = slice_index_or l.tallies.items f no_tally in
          let u : Tally = slice_index_or c.note_both.new.tallies.items f no_tally in
          let is : u ≡ named (names edge) (l.place + 1) t = c.note_both.ensures.tallies f (omega (arith, inside, l.invariant.size)) in
          tallied-next names (l.place + 1) (l.place + 1 + 1) t u (drop l.place edges) edge rest (omega arith) is parts ∙ l.invariant.counts f inside;
    }

pub returns-clause-counts : goal.returns-clause-counts
returns-clause-counts c = λ f inside.
    let l = c.loop-place in
    let edges = c.args.edges.now in
    let names : Edge → Bool = is_equation_of (is_owned c.args.owners.now) (Function f) in
    let t : Tally = slice_index_or l.tallies.items f no_tally in
    let done : t ≡ tallied names 1 no_tally edges = sym (ap (tallied names (l.place + 1) t) (drop_all l.place edges c.loop-place-test.false)) ∙ l.invariant.counts f inside in
    let same = ap (λ (u : Tally). u.count) done in
    let counted = tallied-count names 1 no_tally edges (omega arith) in
    omega (arith, same, counted)
