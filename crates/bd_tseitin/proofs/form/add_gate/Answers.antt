use Rattle.std.proofs.Common.{◌≡◌, ◌∙◌, ◌+◌, ◌++◌, [], ◌∷◌, Some, cond, ap, sym, subst}
use Rattle.bd_cnf.specs.Literal.{Literal}
use Rattle.bd_tseitin.specs.Definition.{definition}
use Rattle.bd_tseitin.specs.inner.Step.{known, literal_in, Pushes}
use Rattle.bd_tseitin.proofs.Stage.{gate_literal}
use Rattle.bd_tseitin.proofs.form.add_gate.Goals as goal

pub returns : goal.returns
returns c =
    let old = c.args.parts.now in
    let ls = old.literals.items in
    let node = c.args.node.now in
    let new = c.define.new.clauses.items in
    let gate : c.new-gate.result ≡ literal_in ls old.vars node = c.new-gate.ensures ∙ sym (gate_literal ls old.vars node c.requires.gate) in
    record {
      literals = c.in_ok-push.ensures.items ∙ ap (λ (l : Literal). ls ++ Some l ∷ []) gate;
      vars = ap (λ b. old.vars + cond b 1 0) (sym c.requires.gate);
      clauses = subst (λ (l : Literal). Pushes old.clauses.items (definition (known ls) l node) new) gate
          (subst (λ t. Pushes old.clauses.items (definition (known t) c.new-gate.result node) new) c.deref.ensures.value c.in_ok-define.ensures);
      atoms = c.in_ok-push_row.ensures;
    }
