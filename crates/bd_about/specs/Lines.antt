-- What is found, as the lines that are printed, and the lines before it.
use Rattle.std.specs.Prelude.{◌++◌, ℕ, Bool, true, false, List, [], codes, Option, None, Some, if◌then◌else◌}
use Rattle.bd_model.specs.DesignView.{DesignView}
use Rattle.bd_model.specs.declared.case.Condition.TheVariants.{Commute, Invariant}
use Rattle.bd_about.specs.declared.asking.Finding.{Finding}
use Rattle.bd_about.specs.declared.asking.Finding.TheVariants.{Right, Wrong, Void, Undecided}
use Rattle.bd_about.specs.declared.asking.Findings.{Findings}
use Rattle.bd_about.specs.declared.counting.Applications.{Applications}
use Rattle.bd_about.specs.declared.unread.Unread.{Unread}
use Rattle.bd_about.specs.declared.unread_lines.LetNames.{LetNames}
use Rattle.bd_about.specs.ApplicationLines.{application_lines}
use Rattle.bd_about.specs.PartLines.{part_lines}
use Rattle.bd_about.specs.UnreadLines.{unread_lines}

abbrev pub finding_words : Finding → List ℕ
finding_words Right = codes "right"
finding_words (Wrong Commute) = codes "wrong: commute is broken"
finding_words (Wrong Invariant) = codes "wrong: the invariant is broken"
finding_words Void = codes "no state meets the invariant"
finding_words Undecided = codes "undecided: the budget is 200000"

abbrev pub is_right : Finding → Bool
is_right Right = true
is_right _ = false

-- whether two findings are the same verdict; what isn't decided is none
abbrev pub same_verdict : Finding → Finding → Bool
same_verdict Right Right = true
same_verdict Void Void = true
same_verdict (Wrong Commute) (Wrong Commute) = true
same_verdict (Wrong Invariant) (Wrong Invariant) = true
same_verdict _ _ = false

-- the line of a question: what was found, and what that means besides
abbrev pub finding_line : (question : List ℕ) → Finding → (meaning : List ℕ) → List ℕ
finding_line question found meaning = question ++ finding_words found ++ meaning ++ codes "\n"

abbrev pub less_flushed_line : Finding → Option Finding → List ℕ
less_flushed_line own None = []
less_flushed_line own (Some found) = finding_line (codes "one flush less   ") found
    (if same_verdict own found then codes ", the same verdict" else [])

-- the line of a question that was asked or not; where the answer is `right`, with what that means
abbrev pub asked_line : (question : List ℕ) → Option Finding → (meaning : List ℕ) → List ℕ
asked_line question None meaning = []
asked_line question (Some found) meaning =
    finding_line question found (if is_right found then meaning else [])

abbrev pub reset_line : Option Bool → List ℕ
reset_line None = []
reset_line (Some meets) =
    codes "reset (all 0)    " ++ (if meets then codes "meets" else codes "doesn't meet")
    ++ codes " the invariant, where functions give 0 and predicates false" ++ codes "\n"

abbrev pub finding_lines : Findings → List ℕ
finding_lines r =
    finding_line (codes "as it is         ") r.own [] ++ less_flushed_line r.own r.less_flushed
    ++ asked_line (codes "one flush more   ") r.more_flushed (codes ", so the flush is too short")
    ++ asked_line (codes "one step more    ") r.more_steps (codes ", so the steps are too few")
    ++ asked_line (codes "no invariant     ") r.without_invariant
    (codes ", so the invariant can be left out")
    ++ reset_line r.reset
    ++ asked_line (codes "(exact 0 true)   ") r.without_steps
    (codes ", so this pipeline may never fetch")

-- those before what is found
abbrev pub first_lines : DesignView → LetNames → Applications → Unread → List ℕ
first_lines d names a u = part_lines d ++ application_lines d a ++ unread_lines d names u
