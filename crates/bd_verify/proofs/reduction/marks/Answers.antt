use Rattle.std.proofs.Common.{refl, sym, subst, Some, None}
use Rattle.bd_verify.specs.Kept.{AreMarks}
use Rattle.bd_verify.proofs.reduction.marks.Goals as goal

pub returns-in-Plain : goal.returns-in-Plain
returns-in-Plain c = subst (λ m. AreMarks m c.args.plain.now c.args.root c.args.flat.now.syms None) (sym c.in-Plain.is) refl

pub returns-in_ok-marked-in-Diverse : goal.returns-in_ok-marked-in-Diverse
returns-in_ok-marked-in-Diverse c = subst (λ m. AreMarks m c.args.plain.now c.args.root c.args.flat.now.syms (Some c.in_ok-marked-in-Diverse.field-0)) (sym c.in-Diverse.is) (λ x. (
  λ is.
      let p = (c.in_ok-marked-in-Diverse.ensures x).0 is in
      record { holder = p.holder; listed = p.listed; positive = (c.in_ok-symbols-in-Diverse.ensures p.holder.sym).0 p.among; row = p.row },
  λ p.
      (c.in_ok-marked-in-Diverse.ensures x).1
      (record { holder = p.holder; listed = p.listed; among = (c.in_ok-symbols-in-Diverse.ensures p.holder.sym).1 p.positive; row = p.row }),
))
