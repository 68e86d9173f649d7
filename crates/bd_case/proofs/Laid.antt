-- The text of a case or a trail lays its tree out.
use Rattle.std.proofs.Common.{◌≡◌, ℕ, ◌<◌, ◌≤◌, true, false, List, [], ◌∷◌, ◌++◌, length, map, get_or, refl, sym, ap, inl, inr, subst, arith, append_assoc}
use Rattle.std.specs.Prelude.{codes, if◌then◌else◌}
use Rattle.std.specs.List.{All, AllByRecursion, flat_map}
use Rattle.std.proofs.lemmas.List.Elements.{All-nil, All-cons}
use Rattle.bd_text.specs.Layout.{IsAtomByte, IsSeparator}
use Rattle.bd_text.specs.Nodes.{Node, atom, no_nodes, node}
use Rattle.bd_text.specs.View.{nodes_from}
use Rattle.bd_text.specs.Written.{written, LayOut, HasPlainAtoms, HavePlainAtoms, nesting, nesting_inside}
use Rattle.bd_text.proofs.WrittenReads.{written_laid}
use Rattle.bd_model.specs.Name.{IsName}
use Rattle.bd_model.specs.DesignView.{DesignView}
use Rattle.bd_model.specs.Lawful.{IsLawful, all_names}
use Rattle.bd_model.specs.Fits.{TrailFits}
use Rattle.bd_model.specs.declared.table.Scalar.{Scalar}
use Rattle.bd_model.specs.declared.table.Scalar.TheVariants as scalar
use Rattle.bd_model.specs.declared.table.Row.{Row}
use Rattle.bd_model.specs.declared.table.Table.{Table}
use Rattle.bd_model.specs.declared.case.Trail.{Trail}
use Rattle.bd_case.specs.Kinds.{subject_text, head_text, is_input, kinds}
use Rattle.bd_case.specs.Content.{IsShort, IsShortScalar, IsShortRow, IsShortTable, tables_of}
use Rattle.bd_case.specs.Text.{word_node, scalar_text, scalar_node, row_node, trail_nodes, version_text, entry_line, text_with}
use Rattle.bd_case.specs.declared.kind.Subject.{Subject}
use Rattle.bd_case.specs.declared.kind.Subject.TheVariants as subjects
use Rattle.bd_case.specs.declared.kind.Version.{Version}
use Rattle.bd_case.specs.declared.kind.Version.TheVariants.{One, Two}
use Rattle.bd_case.specs.declared.kind.EntryHead.{EntryHead}
use Rattle.bd_case.specs.declared.kind.EntryHead.TheVariants as heads
use Rattle.bd_case.specs.declared.kind.EntryKind.{EntryKind}
use Rattle.bd_case.proofs.Atoms.{decimal_bytes, name_bytes, all_name_bytes}
use Rattle.bd_case.proofs.ReadsBack.{content_nodes, content_node, entry_nodes, text_node, trail_nodes-entries}

-- bytes of an atom
abbrev pub IsAtom : List ℕ → Type 0
IsAtom text = (0 < length text) × All IsAtomByte text

head_bytes : (head : EntryHead) → IsAtom (head_text head)
head_bytes heads.Function = (omega arith, all_name_bytes (codes "function") refl)
head_bytes heads.Predicate = (omega arith, all_name_bytes (codes "predicate") refl)
head_bytes heads.Constant = (omega arith, all_name_bytes (codes "constant") refl)
head_bytes heads.Memory = (omega arith, all_name_bytes (codes "memory") refl)
head_bytes heads.Latch = (omega arith, all_name_bytes (codes "latch") refl)
head_bytes heads.Input = (omega arith, all_name_bytes (codes "input") refl)

pub version_bytes : (version : Version) → IsAtom (version_text version)
version_bytes One = (omega arith, all_name_bytes (codes "1") refl)
version_bytes Two = (omega arith, all_name_bytes (codes "2") refl)

subject_bytes : (subject : Subject) → IsAtom (subject_text subject)
subject_bytes subjects.Case = (omega arith, all_name_bytes (codes "case") refl)
subject_bytes subjects.Trail = (omega arith, all_name_bytes (codes "trail") refl)

scalar_bytes : (x : Scalar) → IsShortScalar x → IsAtom (scalar_text x)
scalar_bytes (scalar.Bool true) short = (omega arith, all_name_bytes (codes "true") refl)
scalar_bytes (scalar.Bool false) short = (omega arith, all_name_bytes (codes "false") refl)
scalar_bytes (scalar.Word n) short = decimal_bytes n short

row_words : (ns : List ℕ) (x : Scalar) → AllByRecursion IsShort ns → IsShortScalar x → HavePlainAtoms (nodes_from (map word_node ns ++ scalar_node x ∷ []))
row_words [] x short value = (scalar_bytes x value, tt)
row_words (n ∷ ns) x short value = (decimal_bytes n short.0, row_words ns x short.1 value)

rows_words : (rs : List Row) → AllByRecursion IsShortRow rs → HavePlainAtoms (nodes_from (map row_node rs))
rows_words [] short = tt
rows_words (r ∷ rs) short = (row_words r.args r.value short.0.args short.0.value, rows_words rs short.1)

scalars_words : (rs : List Row) → AllByRecursion IsShortRow rs → HavePlainAtoms (nodes_from (map scalar_node (map (λ (r : Row). r.value) rs)))
scalars_words [] short = tt
scalars_words (r ∷ rs) short = (scalar_bytes r.value short.0.value, scalars_words rs short.1)

content_words : (kind : EntryKind) (t : Table) → IsShortTable t → HavePlainAtoms (content_nodes kind t)
content_words kind t short = elim (is_input kind.head) as
    (λ b. HavePlainAtoms (if b then nodes_from (map scalar_node (map (λ (r : Row). r.value) t.rows)) else node (scalar_node t.default) (nodes_from (map row_node t.rows)))) [
      | true ↦ scalars_words t.rows short.rows
      | false ↦ (scalar_bytes t.default short.default, rows_words t.rows short.rows)
    ]

entry_words : (kind : EntryKind) (name : List ℕ) (t : Table) → IsName name → IsShortTable t → HasPlainAtoms (content_node kind name t)
entry_words kind name t is short = (head_bytes kind.head, (name_bytes name is, content_words kind t short))

abbrev AllHavePlainAtoms : List Node → Type 0
AllHavePlainAtoms ns = AllByRecursion HasPlainAtoms ns

entries_words : (ns : List (List ℕ)) (ks : List EntryKind) (ts : List Table) → AllByRecursion IsName ns → AllByRecursion IsShortTable ts → AllHavePlainAtoms (entry_nodes ns ks ts)
entries_words [] ks ts names short = tt
entries_words (n ∷ ns) [] ts names short = tt
entries_words (n ∷ ns) (k ∷ ks) [] names short = tt
entries_words (n ∷ ns) (k ∷ ks) (t ∷ ts) names short = (entry_words k n t names.0 short.0, entries_words ns ks ts names.1 short.1)

-- ---- depth

words_flat : (ns : List ℕ) (x : Scalar) → nesting_inside (nodes_from (map word_node ns ++ scalar_node x ∷ [])) ≡ 0
words_flat [] x = refl
words_flat (n ∷ ns) x = let rest = words_flat ns x in omega arith

rows_flat : (rs : List Row) → nesting_inside (nodes_from (map row_node rs)) ≤ 1
rows_flat [] = omega arith
rows_flat (r ∷ rs) = let first = words_flat r.args r.value in let rest = rows_flat rs in omega arith

scalars_flat : (xs : List Scalar) → nesting_inside (nodes_from (map scalar_node xs)) ≤ 1
scalars_flat [] = omega arith
scalars_flat (x ∷ xs) = let rest = scalars_flat xs in omega arith

content_flat : (kind : EntryKind) (t : Table) → nesting_inside (content_nodes kind t) ≤ 1
content_flat kind t = elim (is_input kind.head) as
    (λ b. nesting_inside (if b then nodes_from (map scalar_node (map (λ (r : Row). r.value) t.rows)) else node (scalar_node t.default) (nodes_from (map row_node t.rows))) ≤ 1) [
      | true ↦ scalars_flat (map (λ (r : Row). r.value) t.rows)
      | false ↦ (let rows = rows_flat t.rows in omega arith)
    ]

entry_flat : (kind : EntryKind) (name : List ℕ) (t : Table) → nesting (content_node kind name t) ≤ 2
entry_flat kind name t = let inside = content_flat kind t in omega arith

entries_flat : (ns : List (List ℕ)) (ks : List EntryKind) (ts : List Table) → nesting_inside (nodes_from (entry_nodes ns ks ts)) ≤ 2
entries_flat [] ks ts = omega arith
entries_flat (n ∷ ns) [] ts = omega arith
entries_flat (n ∷ ns) (k ∷ ks) [] = omega arith
entries_flat (n ∷ ns) (k ∷ ks) (t ∷ ts) = let first = entry_flat k n t in let rest = entries_flat ns ks ts in omega arith

-- ---- lines

lines_begin : (ns : List Node) → ¬ IsAtomByte (get_or (flat_map entry_line ns) 0 0)
lines_begin [] h = absurd (omega (arith, h.0))
lines_begin (n ∷ ns) h = absurd (omega (arith, h.0))

lines_laid : (ns : List Node) → AllHavePlainAtoms ns → LayOut (nodes_from ns) (flat_map entry_line ns)
lines_laid [] words = All-nil IsSeparator
lines_laid (n ∷ ns) words = (
  10 ∷ 32 ∷ [],
  written n,
  flat_map entry_line ns,
  refl,
  All-cons IsSeparator 10 (32 ∷ []) (inr (inr (inr refl))) (All-cons IsSeparator 32 [] (inl refl) (All-nil IsSeparator)),
  written_laid n words.0,
  lines_laid ns words.1,
  lines_begin ns,
)

inside_laid : (subject : Subject) (second : List ℕ) (ns : List Node) → IsAtom second → AllHavePlainAtoms ns
    → LayOut (node (atom 0 (subject_text subject)) (node (atom 0 second) (nodes_from ns))) (subject_text subject ++ (32 ∷ (second ++ flat_map entry_line ns)))
inside_laid subject second ns is words = (
  [],
  subject_text subject,
  32 ∷ (second ++ flat_map entry_line ns),
  refl,
  All-nil IsSeparator,
  (refl, (subject_bytes subject).0, (subject_bytes subject).1),
  (
    32 ∷ [],
    second,
    flat_map entry_line ns,
    refl,
    All-cons IsSeparator 32 [] (inl refl) (All-nil IsSeparator),
    (refl, is.0, is.1),
    lines_laid ns words,
    lines_begin ns,
  ),
  λ h. absurd (omega (arith, h.0)),
)

-- what stands before the entries
abbrev pub heading : Subject → List ℕ → List ℕ
heading subjects.Case second = codes "(case " ++ second
heading subjects.Trail second = codes "(trail " ++ second

text_parts : (subject : Subject) (second lines : List ℕ) → (heading subject second ++ lines) ++ codes ")\n" ≡ [] ++ ((40 ∷ (subject_text subject ++ (32 ∷ (second ++ lines))) ++ 41 ∷ []) ++ 10 ∷ [])
text_parts subjects.Case second lines = simp append_assoc
text_parts subjects.Trail second lines = simp append_assoc

-- the text of a trail lays out one tree
pub text_laid : (subject : Subject) (second : List ℕ) (version : Version) (d : DesignView) (t : Trail) → IsLawful d → TrailFits d t → AllByRecursion IsShortTable (tables_of d t) → IsAtom second
    → LayOut (node (text_node subject second (trail_nodes version d t)) no_nodes) (text_with (heading subject second) (trail_nodes version d t))
text_laid subject second version d t lawful fits short is =
    let entries = trail_nodes version d t in
    let words : AllHavePlainAtoms entries = subst AllHavePlainAtoms (sym (trail_nodes-entries version d t fits)) (entries_words (all_names d) (kinds version d) (tables_of d t) lawful.names short) in
    let inside = subject_text subject ++ (32 ∷ (second ++ flat_map entry_line entries)) in (
      [],
      40 ∷ inside ++ 41 ∷ [],
      10 ∷ [],
      text_parts subject second (flat_map entry_line entries),
      All-nil IsSeparator,
      (inside, refl, inside_laid subject second entries is words),
      All-cons IsSeparator 10 [] (inr (inr (inr refl))) (All-nil IsSeparator),
      λ h. absurd (omega (arith, h.0)),
    )

pub text_flat : (subject : Subject) (second : List ℕ) (version : Version) (d : DesignView) (t : Trail) → TrailFits d t → nesting_inside (node (text_node subject second (trail_nodes version d t)) no_nodes) ≤ 200
text_flat subject second version d t fits =
    let flat = entries_flat (all_names d) (kinds version d) (tables_of d t) in
    let same = ap (λ ns. nesting_inside (nodes_from ns)) (trail_nodes-entries version d t fits) in
    omega arith
