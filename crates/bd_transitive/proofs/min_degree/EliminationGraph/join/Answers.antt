use Rattle.std.proofs.Common.{◌≡◌, ℕ, true, nat_eq, get_or, take, ap, sym, subst, ◌∙◌, ⊎_elim}
use Rattle.std.specs.Set.{is_member}
use Rattle.std.proofs.lemmas.Bool.{cases_Bool, eqb-true, or_parts}
use Rattle.std.proofs.lemmas.Cmp.{nat_eq_equiv}
use Rattle.std.proofs.lemmas.List.Folds.{list_any_more}
use Rattle.bd_transitive.specs.inner.EliminationGraph.{is_neighbour, rejoined}
use Rattle.bd_transitive.proofs.Eliminating.{member-there, not-before, or-false}
use Rattle.bd_transitive.proofs.min_degree.EliminationGraph.join.Goals as goal

pub rejoin-requires-clause-left : goal.rejoin-requires-clause-left
rejoin-requires-clause-left c =
    let own = c.args.own.now in
    let i = c.loop-vertex.vertex-index in
    c.loop-vertex.invariant.left (get_or own i 0) ∙ c.requires.left (get_or own i 0) (member-there own i c.loop-vertex-test.true)

pub loop-vertex-preserved : goal.loop-vertex-preserved
loop-vertex-preserved c =
    let own = c.args.own.now in
    let i = c.loop-vertex.vertex-index in
    let x = get_or own i 0 in
    let more = λ (v : ℕ). list_any_more (nat_eq v) own i 0 c.loop-vertex-test.true in
    let before = not-before own i c.requires.distinct c.loop-vertex-test.true in
    record {
      sound = c.in_ok-rejoin.ensures.sound;
      left = λ v. c.in_ok-rejoin.ensures.left v ∙ c.loop-vertex.invariant.left v;
      joined = λ v at w. ⊎_elim
          (λ yes.
          let same : x ≡ v = eqb-true x v yes in
          subst (λ u. is_neighbour c.rejoin.new.self u w ≡ rejoined (is_neighbour c.args.self.now u) own c.args.gone u w) same
          (c.in_ok-rejoin.ensures.joined w ∙ ap (λ ns. rejoined (is_member nat_eq ns) own c.args.gone x w) (c.loop-vertex.invariant.others x before)))
          (λ no.
          let earlier : is_member nat_eq (take i own) v ≡ true = or-false _ (nat_eq v x) (nat_eq_equiv.symm v x ∙ no) (sym (more v) ∙ at) in
          ap (λ ns. is_member nat_eq ns w) (c.in_ok-rejoin.ensures.others v no) ∙ c.loop-vertex.invariant.joined v earlier w)
          (cases_Bool (nat_eq x v));
      others = λ v none.
          let parts = or_parts (is_member nat_eq (take i own) v) (nat_eq v x) (sym (more v) ∙ none) in
          c.in_ok-rejoin.ensures.others v (nat_eq_equiv.symm x v ∙ parts.1) ∙ c.loop-vertex.invariant.others v parts.0;
      count = c.in_ok-rejoin.ensures.count ∙ c.loop-vertex.invariant.count;
    }
