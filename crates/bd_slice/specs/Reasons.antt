-- Why a value of a run is what it is: the facts on which it rests. A reason is local: where its facts hold in another
-- case, the value is the same there.
use Rattle.std.specs.Prelude.{◌≡◌, ⊤, Bool, true, false, zero, List, map}
use Rattle.std.specs.List.{All, AllByRecursion, Contains}
use Rattle.bd_model.specs.DesignView.{DesignView}
use Rattle.bd_model.specs.Table.{at}
use Rattle.bd_model.specs.Value.{table_of}
use Rattle.bd_model.specs.declared.case.Case.{Case}
use Rattle.bd_slice.specs.History.{HasSubject}
use Rattle.bd_slice.specs.Run.{subject_value}
use Rattle.bd_slice.specs.declared.place.Column.TheVariants as column
use Rattle.bd_slice.specs.declared.subject.Cycle.TheVariants as cycle
use Rattle.bd_slice.specs.declared.subject.Subject.{Subject}
use Rattle.bd_slice.specs.declared.subject.Subject.TheVariants as subject
use Rattle.bd_slice.specs.declared.subject.Finding.{Finding}
use Rattle.bd_slice.specs.declared.subject.Finding.TheVariants as finding
use Rattle.bd_slice.specs.declared.subject.Fact.{Fact}
use Rattle.bd_slice.specs.declared.reason.Reason.{Reason}

-- a finding is true of a case: a value of its run, or of a symbol at arguments; the others say which part of an
-- expression decides, and follow from these
abbrev pub IsFound : DesignView → Case → Finding → Type 0
IsFound d c (finding.Rests s x) = subject_value d c s ≡ x
IsFound d c (finding.Applied f args x) = at (table_of c.interp f) args ≡ x
IsFound d c other = ⊤

abbrev pub HoldsIn : DesignView → Case → Fact → Type 0
HoldsIn d c fact = IsFound d c fact.finding

abbrev pub AllHold : DesignView → Case → List Fact → Type 0
AllHold d c facts = AllByRecursion (HoldsIn d c) facts

-- whether a value is the case's own: a latch, a memory's word or an input in its cycle
abbrev pub is_given : Subject → Bool
is_given (subject.Latch (column.Before zero) i) = true
is_given (subject.Cell (column.Before zero) i a) = true
is_given (subject.Input cycle.Case i) = true
is_given other = false

-- a reason: its value is the subject's, its facts hold, and where they hold in another case the value is the same there,
-- unless it is the case's own
pub record IsReason (d : DesignView) (c : Case) (r : Reason) : Type 0 where
  pub value : subject_value d c r.subject ≡ r.value
  pub facts : AllHold d c r.facts.items
  pub local :
      is_given r.subject ≡ false → (other : Case) → AllHold d other r.facts.items →
      subject_value d other r.subject ≡ r.value

-- the values that have reasons
abbrev pub subjects_of : List Reason → List Subject
subjects_of rs = map (λ (r : Reason). r.subject) rs

-- the values on which another rests are among these
abbrev pub IsAmong : List Subject → Finding → Type 0
IsAmong subjects (finding.Rests s x) = Contains subjects s
IsAmong subjects other = ⊤

abbrev pub RestsAmong : List Subject → Fact → Type 0
RestsAmong subjects f = IsAmong subjects f.finding

abbrev pub IsClosed : List Subject → Reason → Type 0
IsClosed subjects r = All (RestsAmong subjects) r.facts.items

-- a list of reasons: each of a value of the run is one, and each value that is asked for has one, as has each on which
-- another rests
pub record AreReasons (d : DesignView) (c : Case) (wanted : List Subject) (rs : List Reason) :
    Type 0 where
  pub each : All (λ (r : Reason). HasSubject d r.subject → IsReason d c r) rs
  pub asked : All (Contains (subjects_of rs)) wanted
  pub closed : All (IsClosed (subjects_of rs)) rs
