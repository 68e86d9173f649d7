-- What a text without a fault spells is readable.
use Rattle.std.proofs.Common.{◌≡◌, ◌≢◌, ℕ, ◌+◌, ◌-◌, ◌<◌, ◌≤◌, List, length, get_or, take, drop, slice_range, refl, inl, inr, sym, ap, ◌∙◌, subst, arith}
use Rattle.std.specs.List.{All}
use Rattle.std.proofs.lemmas.Bool.{cases_lt}
use Rattle.std.proofs.lemmas.List.{length-take-le, length-drop, get_or-take, get_or-drop}
use Rattle.std.proofs.lemmas.List.Elements.{All-from_get_or}
use Rattle.bd_text.specs.Layout.{IsSeparator, IsAtomByte, read_at}
use Rattle.bd_text.specs.Grammar.{IsRun, TreeAt, TreesAt, Spells}
use Rattle.bd_text.specs.Faults.{HasDepth, HasNoFault}
use Rattle.bd_text.specs.Nodes.{Node, atom, list, Nodes, no_nodes, node}
use Rattle.bd_text.specs.Written.{HasPlainAtoms, HavePlainAtoms, AreReadable, nesting, nesting_inside}
use Rattle.bd_text.proofs.Comments.{up_from}
use Rattle.bd_text.proofs.Depths.{depth_open, depth_close, depth_other}
use Rattle.bd_text.proofs.FirstFaults.{read_is}
use Rattle.bd_text.proofs.Steps.{past_end, separator_allowed}
use Rattle.bd_text.specs.declared.code.Code.TheVariants.{TooDeep}

inside_text : (s : List ℕ) (k : ℕ) → read_at s k ≢ 0 → k < length s
inside_text s k ne = elim (cases_lt k (length s)) [ inl lt ↦ lt | inr past ↦ absurd (ne (past_end s k past)) ]

-- bytes other than parentheses keep the depth
keeps_depth : (s : List ℕ) (i j d : ℕ) → i ≤ j → ((k : ℕ) → i ≤ k → k < j → (read_at s k ≢ 0) × (read_at s k ≢ 40) × (read_at s k ≢ 41)) → HasDepth s i d → HasDepth s j d
keeps_depth s i j d le each depth =
    let n = j - i in
    let e : i + n ≡ j = omega arith in
    subst (λ k. HasDepth s k d) e (up_from (λ k. HasDepth s k d) i n depth (λ k low high h.
    let here = each k low (omega arith) in depth_other s k d (inside_text s k here.0) here.1 here.2 h))

separator_plain : (b : ℕ) → IsSeparator b → (b ≢ 0) × (b ≢ 40) × (b ≢ 41)
separator_plain b h =
    let a = separator_allowed b h in
    (elim h [ inl e ↦ omega arith | inr h ↦ elim h [ inl e ↦ omega arith | inr h ↦ elim h [ inl e ↦ omega arith | inr e ↦ omega arith ] ] ], a.1, a.2)

run_plain : (s : List ℕ) (i j : ℕ) (text : List ℕ) → IsRun s i j → text ≡ slice_range s i j → (0 < length text) × All IsAtomByte text
run_plain s i j text run e =
    let last = run.each (j - 1) (omega (arith, run.nonempty)) (omega (arith, run.nonempty)) in
    let within : j - 1 < length s = inside_text s (j - 1) (λ z. absurd (omega (arith, last.0))) in
    let long : length (take (j - i) (drop i s)) ≡ j - i = length-take-le (j - i) (drop i s) (omega (arith, length-drop i s)) in
    let all : All IsAtomByte (take (j - i) (drop i s)) = All-from_get_or IsAtomByte (take (j - i) (drop i s)) 0 (λ k lt.
    let here = run.each (i + k) (omega arith) (omega arith) in
    let raw : read_at s (i + k) ≡ get_or s (i + k) 0 = read_is s (i + k) (λ h. absurd (omega (arith, here.0))) in
    let is : get_or (take (j - i) (drop i s)) k 0 ≡ read_at s (i + k) =
    get_or-take (j - i) (drop i s) k 0 (omega arith) ∙ get_or-drop i s k 0 ∙ sym raw in
    subst IsAtomByte (sym is) here) in
    (omega (arith, long, ap length e, run.nonempty), subst (λ x. All IsAtomByte x) (sym e) all)

mutual
  tree_readable : (s : List ℕ) (i j d : ℕ) (t : Node) → HasNoFault s → HasDepth s i d → d ≤ 200 → TreeAt s i j t → HasPlainAtoms t × (d + nesting t ≤ 200) × HasDepth s j d
  tree_readable s i j d (atom o text) fine depth room h = (
    run_plain s i j text h.1 h.2,
    omega arith,
    keeps_depth s i j d (omega (arith, h.1.nonempty)) (λ k low high. let b = h.1.each k low high in (λ e. absurd (omega (arith, b.0)), b.2, b.3)) depth,
  )
  tree_readable s i j d (list o parts) fine depth room h =
      let k = h.2.0 in
      let below : d < 200 = elim (cases_lt d 200) [ inl lt ↦ lt | inr le ↦ let full : d ≡ 200 = omega arith in absurd (fine i TooDeep (h.1, subst (λ n. HasDepth s i n) full depth)) ] in
      let opened = depth_open s i d (inside_text s i (λ e. absurd (omega (arith, h.1)))) h.1 depth in
      let inner = trees_readable s (i + 1) k (d + 1) parts fine opened (omega arith) h.2.1 in
      let closed = depth_close s k d (inside_text s k (λ e. absurd (omega (arith, h.2.2)))) h.2.2 inner.2 in
      (inner.0, omega (arith, inner.1), subst (λ n. HasDepth s n d) (sym h.2.3) closed)

  trees_readable : (s : List ℕ) (i j d : ℕ) (ts : Nodes) → HasNoFault s → HasDepth s i d → d ≤ 200 → TreesAt s i j ts → HavePlainAtoms ts × (d + nesting_inside ts ≤ 200) × HasDepth s j d
  trees_readable s i j d no_nodes fine depth room h =
      (tt, omega arith, keeps_depth s i j d h.ordered (λ k low high. separator_plain (read_at s k) (h.blank k low high)) depth)
  trees_readable s i j d (node t ts) fine depth room h =
      let blank = keeps_depth s i h.0 d h.2.ordered (λ k low high. separator_plain (read_at s k) (h.2.blank k low high)) depth in
      let first = tree_readable s h.0 h.1 d t fine blank room h.3 in
      let rest = trees_readable s h.1 j d ts fine first.2 room h.4 in
      ((first.0, rest.0), omega (arith, first.1, rest.1), rest.2)

pub spelled_readable : (s : List ℕ) (ts : Nodes) → HasNoFault s → Spells s ts → AreReadable ts
spelled_readable s ts fine h =
    let read = trees_readable s 0 (length s) 0 ts fine refl (omega arith) h in
    (read.0, omega (arith, read.1))
