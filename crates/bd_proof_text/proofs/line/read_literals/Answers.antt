use Rattle.std.proofs.Common.{◌≡◌, ℕ, true, false, cond, eqb, [], ◌∷◌, ◌++◌, Ok, Some, sym, ap, ◌∙◌, subst}
use Rattle.std.specs.Map.{lookup}
use Rattle.bd_cnf.specs.Clause.{IsTautology}
use Rattle.bd_cnf.specs.Literal.{negate, has_literal}
use Rattle.bd_proof_text.specs.declared.fault.Why.TheVariants as why
use Rattle.bd_proof_text.specs.ProofText.{fault, literals_from, literal_word}
use Rattle.bd_proof_text.specs.inner.Signs.{HasSigns}
use Rattle.bd_proof_text.proofs.Items.{fails-bad, items-clash, items-more}
use Rattle.bd_proof_text.proofs.Signs.{push-apart, push-sign, tested}
use Rattle.bd_proof_text.proofs.line.read_literals.Goals as goal

pub returns-then-clashes-clause-read : goal.returns-then-clashes-clause-read
returns-then-clashes-clause-read c =
    let t = c.in-Some.token in
    let ts = c.next_token.new.self in
    let l = c.in-Some-2.lit in
    let before = c.loop-token.lits.items in
    let word : literal_word t.place t.word ≡ Ok (Some l) = c.in_ok-lit.ensures ∙ ap Ok c.in-Some-2.is in
    let clash : has_literal before (negate l) ≡ true =
    tested c.loop-token.signs.entries before l c.loop-token.invariant.signs c.var.result c.is_positive-in-Some.result c.in_ok-earlier.earlier c.var.ensures.value c.is_positive-in-Some.ensures
    c.in_ok-earlier.ensures.old ∙ sym c.clashes.ensures ∙ c.if-clashes.true in
    fails-bad c.bad.result (fault t.place why.Form) (literals_from c.args.first [] c.args.tokens.now) c.bad.ensures
    (c.loop-token.invariant.read ∙ ap (literals_from c.args.first before) c.in-Some.ensures.first ∙ items-clash literal_word (λ ls m. has_literal ls (negate m)) c.args.first before t ts l word clash)

pub loop-token-preserved : goal.loop-token-preserved
loop-token-preserved c =
    let t = c.in-Some.token in
    let ts = c.next_token.new.self in
    let l = c.in-Some-2.lit in
    let before = c.loop-token.lits.items in
    let old = c.loop-token.signs.entries in
    let new = c.insert.new.self.entries in
    let word : literal_word t.place t.word ≡ Ok (Some l) = c.in_ok-lit.ensures ∙ ap Ok c.in-Some-2.is in
    let apart : has_literal before (negate l) ≡ false =
    tested old before l c.loop-token.invariant.signs c.var.result c.is_positive-in-Some.result c.in_ok-earlier.earlier c.var.ensures.value c.is_positive-in-Some.ensures
    c.in_ok-earlier.ensures.old ∙ sym c.clashes.ensures ∙ c.if-clashes.false in
    let pushed : c.push.new.self.items ≡ before ++ l ∷ [] = c.in_ok-push.ensures.items in
    let step : (y : ℕ) → lookup (λ z. eqb y z) new ≡ cond (eqb l.var y) (Some l.positive) (lookup (λ z. eqb y z) old) =
    λ y. c.in_ok-earlier.ensures.updates.0 y ∙ (λ i. cond (eqb (c.var.ensures.value i) y) (Some (c.is_positive.ensures i)) (lookup (λ z. eqb y z) old)) in
    record {
      read =
          c.loop-token.invariant.read ∙ ap (literals_from c.args.first before) c.in-Some.ensures.first
          ∙ items-more literal_word (λ ls m. has_literal ls (negate m)) c.args.first before t ts l word apart
          ∙ ap (λ ls. literals_from c.args.first ls ts) (sym pushed);
      signs = subst (HasSigns new) (sym pushed) (push-sign old new before l c.loop-token.invariant.signs apart step);
      apart = subst (λ ls. IsTautology ls → ⊥) (sym pushed) (push-apart before l c.loop-token.invariant.apart apart);
    }
