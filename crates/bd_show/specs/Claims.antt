-- The line before a case, as `burch_dill` prints both: where the case shows something else, an invariant was left out, or
-- a file is another one.
use Rattle.std.specs.Prelude.{◌==◌, ℕ, Bool, true, false, List, [], codes, Option, None, Some, if◌then◌else◌}
use Rattle.std.specs.List.{starts_with}
use Rattle.bd_model.specs.declared.case.Condition.TheVariants as condition
use Rattle.bd_model.specs.declared.case.Judged.{Judged}
use Rattle.bd_model.specs.declared.case.Judged.TheVariants.{Broken}
use Rattle.bd_show.specs.declared.claim.Claim.{Claim}
use Rattle.bd_show.specs.declared.claim.Claim.TheVariants.{Commute, Invariant, Differ}

-- what the line says
abbrev pub claim_of : List ℕ → Option Claim
claim_of text =
    if starts_with (λ x y. x == y) text (codes "wrong commute") then Some Commute
    else (if starts_with (λ x y. x == y) text (codes "wrong invariant") then Some Invariant
    else (if starts_with (λ x y. x == y) text (codes "differ") then Some Differ else None))

abbrev pub claim_in : Option (List ℕ) → Option Claim
claim_in None = None
claim_in (Some text) = claim_of text

abbrev pub note_of : Claim → List ℕ
note_of Commute = codes
    "\nnote: the text says `wrong commute`: was it found with another invariant, or other files?\n"
note_of Invariant = codes
    "\nnote: the text says `wrong invariant`: was it found with another invariant, or other files?\n"
note_of Differ = codes
    "\nnote: the text says `differ`: was it found with another invariant, or other files?\n"

-- what is said of a line that names another condition than the case breaks, or one where it breaks none
abbrev pub completed_note : Option Claim → Judged → List ℕ
completed_note None judged = []
completed_note (Some Commute) (Broken condition.Commute) = []
completed_note (Some Invariant) (Broken condition.Invariant) = []
completed_note (Some claim) judged = note_of claim

-- the same where no completion function is given, without which nothing differs
abbrev pub claim_note : Option Claim → Judged → List ℕ
claim_note (Some Differ) judged = codes
    "\nnote: the text says `differ`: --comp COMP shows it beside the completion function\n"
claim_note claim judged = completed_note claim judged

-- what is said of `differ` where nothing does
abbrev pub compared_note : Bool → List ℕ
compared_note true = note_of Differ
compared_note false = []
