use Rattle.std.proofs.Common.{◌∙◌, sym, subst}
use Rattle.bd_model.specs.DesignView.{design_view}
use Rattle.bd_about.specs.Conjuncts.{AreConjuncts}
use Rattle.bd_about.specs.Findings.{AreFindings}
use Rattle.bd_syntax.specs.declared.ast.Kind.TheVariants.{Pipeline, Specification}
use Rattle.bd_show.specs.LetNames.{AreGivenLets, AreMachineLets}
use Rattle.bd_app.specs.Loading.{bytes_of}
use Rattle.bd_show.proofs.Answers.{bytes_given}
use Rattle.bd_show.proofs.about.described.Goals as goal

pub returns : goal.returns
returns c = record {
  findings = subst (λ given. AreFindings (design_view c.args.design) given c.in_ok-about.about.found.findings)
      (c.is_some.ensures ∙ sym (bytes_given c.args.texts.now.inv)) c.in_ok-about.ensures.findings;
  without = c.in_ok-about.about.found.without.items;
  are_without =
      subst (λ given. AreConjuncts (design_view c.args.design) given c.in_ok-about.about.found.findings.own c.in_ok-about.about.found.without.items)
      (c.is_some.ensures ∙ sym (bytes_given c.args.texts.now.inv)) c.in_ok-about.ensures.without;
  applied = c.in_ok-about.about.applications;
  are_applied = c.in_ok-about.ensures.applications;
  unread = c.in_ok-about.about.unread;
  is_unread = c.in_ok-about.ensures.unread;
  names = record { lets = c.as_slice-3.result; spec_lets = c.as_slice-4.result; inv_lets = c.as_slice-5.result };
  named = record {
    lets = subst (AreMachineLets Pipeline c.args.texts.now.pipe.items) (sym c.as_slice-3.ensures.value)
        (subst (λ bytes. AreMachineLets Pipeline bytes c.in_ok-lets.lets.items) c.as_slice.ensures.value c.in_ok-lets.ensures);
    spec_lets = subst (AreMachineLets Specification c.args.texts.now.spec.items) (sym c.as_slice-4.ensures.value)
        (subst (λ bytes. AreMachineLets Specification bytes c.in_ok-spec_lets.spec_lets.items) c.as_slice-2.ensures.value c.in_ok-spec_lets.ensures);
    inv_lets = subst (AreGivenLets (bytes_of c.args.texts.now.inv)) (sym c.as_slice-5.ensures.value) c.in_ok-inv_lets.ensures;
  };
  lines = c.in_ok-about.ensures.lines;
}
