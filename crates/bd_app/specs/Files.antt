-- The files that a question reads, and those that it saves to.
-- Source: this project's own command line; what is saved is DIMACS CNF and textual LRAT.
use Rattle.std.specs.Prelude.{◌≡◌, ◌≢◌, ◌⊎◌, ◌≤◌, ◌<◌, ℕ, List, [], ◌∷◌, ◌++◌, length, map, codes, Option, Some, None}
use Rattle.std.specs.List.{AllByRecursion, Contains}
use Rattle.clap.specs.Walk.{Row, first_of}
use Rattle.bd_cnf.specs.Problem.{dimacs}
use Rattle.bd_files.specs.Devices.{Blame, Call, Held, Holds, KeepsOthers, loading, saving}
use Rattle.bd_files.specs.declared.devices.FileCall.TheVariants as call
use Rattle.bd_lrat.specs.Text.{lrat as lrat_text}
use Rattle.bd_verify.specs.declared.verdict.Work.{Work}
use Rattle.bd_app.specs.Words.{Name, given, text_of_required}
use Rattle.bd_app.specs.declared.load.DesignFiles.{DesignFiles}
use Rattle.bd_app.specs.declared.load.TextFiles.{TextFiles}
use Rattle.bd_typer.specs.Denotes.{premise_file}
use Rattle.bd_typer.specs.declared.fault.Text.{Text}
use Rattle.bd_typer.specs.declared.fault.Text.TheVariants.{Pipe, Spec, Proof}
use Rattle.bd_typer.specs.declared.premise.Premise.{Premise}
use Rattle.bd_typer.specs.declared.premise.Premise.TheVariants.{Invariant, Start}
use Rattle.bd_model.specs.Limits.{longest_text}

-- ---- files that are read

-- a file by what it is and its name
abbrev pub File : Type 0
File = Text × Name

abbrev pub one_if : Text → Option Name → List File
one_if text None = []
one_if text (Some name) = (text, name) ∷ []

-- the names of the files of a design: a pipeline, a specification, and maybe a third file, which says
-- this of states
pub record DesignNames : Type 0 where
  pub pipe : Name
  pub spec : Name
  pub premise : Premise
  pub third : Option Name

abbrev pub design_names : DesignFiles → DesignNames
design_names files = record {
  pipe = files.pipe.now;
  spec = files.spec.now;
  premise = files.premise;
  third = given files.third;
}

-- a pipeline and a specification, maybe with an invariant
abbrev pub with_invariant : Name → Name → Option Name → DesignNames
with_invariant pipe spec inv =
    record { pipe = pipe; spec = spec; premise = Invariant; third = inv }

-- a pipeline and a specification, with a start
abbrev pub with_start : Name → Name → Name → DesignNames
with_start pipe spec start =
    record { pipe = pipe; spec = spec; premise = Start; third = Some start }

-- these files, in the order of the words
abbrev pub design_files : DesignNames → List File
design_files names =
    (Pipe, names.pipe) ∷ (Spec, names.spec) ∷ one_if (premise_file names.premise) names.third

-- the names of the files of a design and of a text on it: a case, a trail, a proof or a
-- completion function
pub record TextNames : Type 0 where
  pub design : DesignNames
  pub text : Name

abbrev pub text_names : TextFiles → TextNames
text_names files = record { design = design_names files.design; text = files.text.now }

-- the names that the words PIPE SPEC TEXT [INV] give
abbrev pub text_question : List ℕ → List Row → TextNames
text_question text rows = record {
  design = with_invariant (text_of_required (codes "PIPE") rows)
      (text_of_required (codes "SPEC") rows) (first_of (codes "INV") rows);
  text = text_of_required text rows;
}

-- these files, in the order of the words
abbrev pub text_files : Text → TextNames → List File
text_files text names =
    (Pipe, names.design.pipe) ∷ (Spec, names.design.spec) ∷ (text, names.text)
    ∷ one_if (premise_file names.design.premise) names.design.third

-- the most bytes of a file
abbrev pub most_bytes : Text → ℕ
most_bytes Proof = 67108864
most_bytes _ = longest_text

-- these bytes are held under the file's name, not too many
abbrev pub HoldsShort : Held → File → List ℕ → Type 0
HoldsShort held file bytes = (held file.1 ≡ Some bytes) × (length bytes ≤ most_bytes file.0)

abbrev pub IsShort : Held → File → Type 0
IsShort held file = (bytes : List ℕ) × HoldsShort held file bytes

abbrev pub IsLong : Held → File → Type 0
IsLong held file = (bytes : List ℕ) × (held file.1 ≡ Some bytes) × (most_bytes file.0 < length bytes)

-- each of the files is held, and none is too long
abbrev pub AreShort : Held → List File → Type 0
AreShort held files = AllByRecursion (IsShort held) files

-- the first of the files that is too long: each before it is held, and isn't
pub record IsFirstLong (held : Held) (files : List File) (text : Text) : Type 0 where
  pub before : List File
  pub name : Name
  pub after : List File
  pub order : files ≡ before ++ (text, name) ∷ after
  pub short : AreShort held before
  pub long : IsLong held (text, name)

-- the calls that load the files, in this order, each of at most its most bytes
abbrev pub loads : List File → List Call
loads = map (λ file. loading file.1 (most_bytes file.0))

-- the last call that failed was a load of one of the files
abbrev pub BlamesOneOf : Option Blame → List File → Type 0
BlamesOneOf blame files =
    (name : Name) × Contains (map (λ f. f.1) files) name × (blame ≡ Some (call.Load, name))

-- ---- files that are saved to

-- one of two names, of which either may not be given
abbrev pub IsEither : Option Name → Option Name → Name → Type 0
IsEither cnf lrat name = (cnf ≡ Some name) ⊎ (lrat ≡ Some name)

-- the last call that failed was a save under one of the two names
abbrev pub BlamesSaveOf : Option Blame → Option Name → Option Name → Type 0
BlamesSaveOf blame cnf lrat =
    (name : Name) × IsEither cnf lrat name × (blame ≡ Some (call.Save, name))

-- what is held under each name that isn't among these stands as it was
abbrev pub KeepsAllBut : Option Held → Option Held → (Name → Type 0) → Type 0
KeepsAllBut None after IsNamed = after ≡ None
KeepsAllBut (Some held) None IsNamed = ⊥
KeepsAllBut (Some held) (Some after) IsNamed =
    (other : Name) → ¬ IsNamed other → after other ≡ held other

-- a verdict's work is saved: the formula, and then the proof, so that the proof stands where both
-- have one name
pub record AreSaved (after : Option Held) (cnf lrat : Option Name) (work : Work) : Type 0 where
  pub formula : (name : Name) → cnf ≡ Some name → lrat ≢ Some name →
      Holds after name (dimacs work.cnf)
  pub proof : (name : Name) → lrat ≡ Some name → Holds after name (lrat_text work.log)

-- the save of bytes, where a name is given
abbrev pub save_if : Option Name → List ℕ → List Call
save_if None bytes = []
save_if (Some name) bytes = saving name bytes ∷ []

-- the calls that save a verdict's work, in this order
abbrev pub saves : Option Name → Option Name → Work → List Call
saves cnf lrat work = save_if cnf (dimacs work.cnf) ++ save_if lrat (lrat_text work.log)

-- one of the two saves failed, and the names differ: where it was that of the formula, all but the
-- file of its name stands; where it was that of the proof, the formula is saved
pub record AreSavedUpTo (before after : Option Held) (blame : Option Blame)
    (cnf lrat : Option Name) (work : Work) : Type 0 where
  pub at_formula : (name : Name) → cnf ≡ Some name → lrat ≢ Some name →
      blame ≡ Some (call.Save, name) → KeepsOthers before after name
  pub at_proof : (name other : Name) →
      lrat ≡ Some name → cnf ≡ Some other → other ≢ name →
      blame ≡ Some (call.Save, name) → Holds after other (dimacs work.cnf)
