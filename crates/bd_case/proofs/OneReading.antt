-- A text has at most one reading, and the text of a case or a trail reads as that case or trail.
use Rattle.std.proofs.Common.{◌≡◌, ◌≤◌, ℕ, List, ◌++◌, map, length, Result, Ok, Err, refl, sym, ap, ◌∙◌, inl, inr, arith}
use Rattle.std.specs.List.{AllByRecursion}
use Rattle.std.specs.Fmt.{decimal}
use Rattle.bd_text.specs.Nodes.{Node, Nodes, atom, no_nodes, node}
use Rattle.bd_text.specs.Written.{without_offsets}
use Rattle.bd_text.proofs.FirstFaults.{one_first}
use Rattle.bd_text.proofs.LaidOutReads.{laid_reads}
use Rattle.bd_text.proofs.Unique.{one_reading-holds}
use Rattle.bd_syntax.specs.Reading.{Fault, ◌>>=◌}
use Rattle.bd_model.specs.DesignView.{DesignView}
use Rattle.bd_model.specs.Lawful.{IsLawful}
use Rattle.bd_model.specs.Fits.{Fits, TrailFits}
use Rattle.bd_model.specs.declared.case.Case.{Case}
use Rattle.bd_model.specs.declared.case.Trail.{Trail}
use Rattle.bd_case.specs.Kinds.{version_of}
use Rattle.bd_case.specs.Content.{IsShortTable, HasShortWords, Has64Bits, table_of_value, input_tables, tables_of, trail_of, case_of}
use Rattle.bd_case.specs.Reading.{layout_part, text_form}
use Rattle.bd_case.specs.Reads.{TreesRead, TextReads, IsReading, IsTrailReading}
use Rattle.bd_case.specs.Text.{version_text, trail_nodes, text_with, text_of, trail_text_of}
use Rattle.bd_case.specs.declared.kind.Subject.{Subject}
use Rattle.bd_case.specs.declared.kind.Subject.TheVariants as subjects
use Rattle.bd_case.specs.declared.kind.Layout.{Layout}
use Rattle.bd_case.specs.declared.kind.Version.TheVariants.{Two}
use Rattle.bd_case.proofs.Atoms.{decimal_bytes}
use Rattle.bd_case.proofs.Inputs.{short_inputs}
use Rattle.bd_case.proofs.ReadsBack.{text_node, version_reads, cycles_read, text_form-laid}
use Rattle.bd_case.proofs.Laid.{IsAtom, version_bytes, heading, text_laid, text_flat}
use Rattle.bd_case.proofs.WhatIsReadFits.{both_all, fits_once}
use Rattle.bd_model.specs.Limits.{most_cycles}

same_fault : (e f : Fault) → e.offset ≡ f.offset → e.code ≡ f.code → e ≡ f
same_fault e f p q = λ j. record { offset = p j; code = q j }

module _ {A : Type 0} (form : Nodes → Result A Fault) (source : List ℕ) where
  same_trees_read : (r s : Result A Fault) → TreesRead form source r → TreesRead form source s → r ≡ s
  same_trees_read r s a b = sym a.read ∙ ap form (one_reading-holds source a.trees b.trees a.spelled b.spelled) ∙ b.read

  faults_read : (e f : Fault) → TextReads form source (Err e) → TextReads form source (Err f) → ◌≡◌ {A = Result A Fault} (Err e) (Err f)
  faults_read e f (inl a) (inl b) = let same = one_first source e.offset f.offset e.code f.code a b in ap (λ (g : Fault). Err g) (same_fault e f same.0 same.1)
  faults_read e f (inl a) (inr b) = absurd (b.no_fault e.offset e.code a.0)
  faults_read e f (inr a) (inl b) = absurd (a.no_fault f.offset f.code b.0)
  faults_read e f (inr a) (inr b) = same_trees_read (Err e) (Err f) a b

  value_or_fault : (x : A) (f : Fault) → TreesRead form source (Ok x) → TextReads form source (Err f) → ◌≡◌ {A = Result A Fault} (Ok x) (Err f)
  value_or_fault x f a (inl b) = absurd (a.no_fault f.offset f.code b.0)
  value_or_fault x f a (inr b) = same_trees_read (Ok x) (Err f) a b

  pub one_reading : (r s : Result A Fault) → TextReads form source r → TextReads form source s → r ≡ s
  one_reading (Ok x) (Ok y) a b = same_trees_read (Ok x) (Ok y) a b
  one_reading (Ok x) (Err f) a b = value_or_fault x f a b
  one_reading (Err f) (Ok x) a b = sym (value_or_fault x f b a)
  one_reading (Err e) (Err f) a b = faults_read e f a b

-- what is written of a trail reads as that trail
module _ (subject : Subject) (second : List ℕ) (layout : Layout) (d : DesignView) (t : Trail) where
  pub text_reads : IsLawful d → TrailFits d t → AllByRecursion IsShortTable (tables_of d t) → length t.inputs ≡ layout.cycles → IsAtom second
      → ((u : Node) → without_offsets u ≡ atom 0 second → layout_part subject u ≡ Ok layout)
      → TextReads (text_form subject d) (text_with (heading subject second) (trail_nodes layout.version d t)) (Ok t)
  text_reads lawful fits short size is said =
      let entries = trail_nodes layout.version d t in
      let read = laid_reads (node (text_node subject second entries) no_nodes) (text_with (heading subject second) entries) (text_laid subject second layout.version d t lawful fits short is) (text_flat subject second layout.version d t fits) in
      record { no_fault = read.0; trees = read.1.0; spelled = read.1.1; read = text_form-laid subject second layout d t read.1.0 lawful fits short size said read.1.2 }

-- ---- trails

tables_short : (d : DesignView) (t : Trail) → HasShortWords t → AllByRecursion IsShortTable (tables_of d t)
tables_short d t short =
    both_all IsShortTable (t.interp ++ map table_of_value t.state) (input_tables 0 d.pipe.ports t.inputs)
    (both_all IsShortTable t.interp (map table_of_value t.state) short.tables short.values) (short_inputs 0 d.pipe.ports t.inputs short.inputs)

pub written_trail_reads : (d : DesignView) (t : Trail) → IsLawful d → TrailFits d t → AllByRecursion IsShortTable (tables_of d t) → length t.inputs ≤ most_cycles → IsTrailReading d (trail_text_of d t) (Ok t)
written_trail_reads d t lawful fits short few =
    let cycles = length t.inputs in
    text_reads subjects.Trail (decimal cycles) (record { version = Two; cycles = cycles }) d t lawful fits short refl (decimal_bytes cycles (omega (arith, few))) (λ u e. cycles_read cycles u few e)

pub trail_reads : (d : DesignView) (t : Trail) → IsLawful d → TrailFits d t → HasShortWords t → length t.inputs ≤ most_cycles → IsTrailReading d (trail_text_of d t) (Ok t)
trail_reads d t lawful fits short few = written_trail_reads d t lawful fits (tables_short d t short) few

-- ---- a case is what is read as a trail of one cycle

once_read : (d : DesignView) (source : List ℕ) (t : Trail) → TextReads (text_form subjects.Case d) source (Ok t) → IsReading d source (Ok (case_of t))
once_read d source t r = record { no_fault = r.no_fault; trees = r.trees; spelled = r.spelled; read = ap (λ s. s >>= λ u. Ok (case_of u)) r.read }

pub written_case_reads : (d : DesignView) (c : Case) → IsLawful d → Fits d c → AllByRecursion IsShortTable (tables_of d (trail_of c)) → IsReading d (text_of d c) (Ok c)
written_case_reads d c lawful fits short =
    let version = version_of d.distinct in
    once_read d (text_of d c) (trail_of c)
    (text_reads subjects.Case (version_text version) (record { version = version; cycles = 1 }) d (trail_of c) lawful (fits_once d c fits) short refl (version_bytes version) (version_reads version))

pub case_reads : (d : DesignView) (c : Case) → IsLawful d → Fits d c → Has64Bits c → IsReading d (text_of d c) (Ok c)
case_reads d c lawful fits short = written_case_reads d c lawful fits (tables_short d (trail_of c) short)
