-- All lines on a design.
use Rattle.std.specs.Prelude.{◌++◌, ℕ, List}
use Rattle.bd_model.specs.DesignView.{DesignView}
use Rattle.bd_about.specs.declared.asking.Finding.{Finding}
use Rattle.bd_about.specs.declared.asking.Findings.{Findings}
use Rattle.bd_about.specs.declared.counting.Applications.{Applications}
use Rattle.bd_about.specs.declared.unread.Unread.{Unread}
use Rattle.bd_about.specs.declared.unread_lines.LetNames.{LetNames}
use Rattle.bd_about.specs.Conjuncts.{conjunct_lines}
use Rattle.bd_about.specs.Lines.{finding_lines, first_lines}

-- those on what is found, also without each conjunct
abbrev pub all_finding_lines : Findings → List Finding → List ℕ
all_finding_lines r without = finding_lines r ++ conjunct_lines 1 without

abbrev pub about_lines :
    DesignView → LetNames → Applications → Unread → Findings → List Finding → List ℕ
about_lines d names a u r without = first_lines d names a u ++ all_finding_lines r without
