use Rattle.std.proofs.Common.{◌++◌, ◌∙◌, ap}
use Rattle.bd_about.specs.AllLines.{all_finding_lines}
use Rattle.bd_about.proofs.about.about_design.Goals as goal

pub returns-clause-lines : goal.returns-clause-lines
returns-clause-lines c =
    let r = c.in_ok-found.found in
    c.in_ok-push_all_findings.ensures ∙ ap (λ lines. lines ++ all_finding_lines r.findings r.without.items) c.in_ok-text.ensures
