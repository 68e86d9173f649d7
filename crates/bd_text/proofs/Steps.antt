-- One step of reading after another: what is read to an offset is read to the next.
use Rattle.std.proofs.Common.{◌≡◌, ◌≢◌, ℕ, ◌+◌, ◌-◌, ◌<◌, ◌≤◌, ◌⊎◌, List, [], ◌∷◌, length, get_or, slice_range, refl, inl, inr, ◌∙◌, subst, arith}
use Rattle.std.proofs.lemmas.List.{get_or_past}
use Rattle.std.proofs.lemmas.Bool.{cases_lt, cases_eq}
use Rattle.bd_text.specs.Layout.{IsAllowed, IsSeparator, IsAtomByte, without_comments, read_at}
use Rattle.bd_text.specs.Grammar.{IsBlank, IsRun, TreeAt, Spells}
use Rattle.bd_text.specs.Faults.{HasDepth, IsFault, HasNoFault, IsFirstFault}
use Rattle.bd_text.specs.Nodes.{atom, list, Nodes, no_nodes, add_node}
use Rattle.bd_text.specs.inner.Progress.{IsReadTo, IsAtomRun, IsComment}
use Rattle.bd_text.specs.declared.code.Code.{Code}
use Rattle.bd_text.specs.declared.code.Code.TheVariants.{ByteNotAllowed, Unbalanced, TooDeep}
use Rattle.bd_text.proofs.Comments.{up_from, length-without_comments, IsOutside, IsInside, read_outside, read_semicolon, read_inside, leave_comment}
use Rattle.bd_text.proofs.Depths.{IsFaultless, depth_open, depth_close, depth_other, no_fault_at, faultless_next}
use Rattle.bd_text.proofs.Adjacent.{open_then_blank, open_then_tree, open_then_open, open_then_close}

pub past_end : (s : List ℕ) (i : ℕ) → length s ≤ i → read_at s i ≡ 0
past_end s i past = get_or_past (without_comments s) i 0 (omega (arith, length-without_comments s))

-- a fault is the first where none stands before it
pub first_fault : (s : List ℕ) (o : ℕ) (code : Code) → IsFaultless s o → IsFault s o code → IsFirstFault s o code
first_fault s o code before h = (h, λ p other at_p. elim (cases_lt p o) [ inl lt ↦ absurd (before p other lt at_p) | inr le ↦ le ])

-- bytes that are no parentheses change no depth, and are no fault
pub skip : (s : List ℕ) (i n d : ℕ) → i + n ≤ length s
    → ((k : ℕ) → i ≤ k → k < i + n → IsAllowed (get_or s k 0) × (read_at s k ≢ 40) × (read_at s k ≢ 41))
    → IsFaultless s i → HasDepth s i d → IsFaultless s (i + n) × HasDepth s (i + n) d
skip s i n d within each fine depth =
    up_from (λ k. IsFaultless s k × HasDepth s k d) i n (fine, depth) (λ k low high p.
    let here = each k low high in (
      faultless_next s k p.0 (λ code. no_fault_at s k code (omega arith) here.0 (λ e h. here.2 e) (λ e h. here.1 e)),
      depth_other s k d (omega arith) here.1 here.2 p.1,
    ))

pub separator_allowed : (b : ℕ) → IsSeparator b → IsAllowed b × (b ≢ 40) × (b ≢ 41) × (b ≢ 59)
separator_allowed b h = elim h [
  | inl e ↦ (inr (inr (inr (omega arith, omega arith))), omega arith, omega arith, omega arith)
  | inr h ↦ elim h [
    | inl e ↦ (inl e, omega arith, omega arith, omega arith)
    | inr h ↦ elim h [
      | inl e ↦ (inr (inr (inl e)), omega arith, omega arith, omega arith)
      | inr e ↦ (inr (inl e), omega arith, omega arith, omega arith)
    ]
  ]
]

pub step_separator : (s : List ℕ) (at : ℕ) (parts : Nodes) (ls : List (ℕ × Nodes)) → IsReadTo s at parts ls
    → at < length s → IsSeparator (get_or s at 0) → IsReadTo s (at + 1) parts ls
step_separator s at parts ls r lt sep =
    let plain = separator_allowed (get_or s at 0) sep in
    let reads = read_outside s at lt plain.3 r.outside_comment in
    let is_separator : IsSeparator (read_at s at) = rw reads.0 sep in
    let no_open : read_at s at ≢ 40 = rw reads.0 plain.1 in
    let no_close : read_at s at ≢ 41 = rw reads.0 plain.2 in
    let blank : IsBlank s at (at + 1) = record {
      ordered = omega arith;
      blank = λ k low high. let e : k ≡ at = omega arith in rw e is_separator;
    } in
    record {
      within = omega arith;
      outside_comment = reads.1;
      faultless = faultless_next s at r.faultless (λ code. no_fault_at s at code lt plain.0 (λ e h. no_close e) (λ e h. no_open e));
      depth = depth_other s at (length ls) lt no_open no_close r.depth;
      shallow = r.shallow;
      trees = open_then_blank s at (at + 1) parts ls r.trees blank;
    }

-- the bytes of an atom read as they are
word_reads : (s : List ℕ) (at n : ℕ) → IsOutside s at → at + n ≤ length s → ((k : ℕ) → at ≤ k → k < at + n → IsAtomByte (get_or s k 0))
    → IsOutside s (at + n) × ((p : ℕ) → at ≤ p → p < at + n → read_at s p ≡ get_or s p 0)
word_reads s at n out within each =
    up_from (λ k. IsOutside s k × ((p : ℕ) → at ≤ p → p < k → read_at s p ≡ get_or s p 0)) at n
    (out, λ p low high. absurd (omega arith))
    (λ k low high h.
    let here = read_outside s k (omega arith) (each k low high).4 h.0 in
    (here.1, λ p from below. elim (cases_lt p k) [ inl lt ↦ h.1 p from lt | inr le ↦ let e : p ≡ k = omega arith in rw e here.0 ]))

no_atom_after : (s : List ℕ) (i : ℕ) → IsOutside s i → ¬ IsAtomByte (get_or s i 0) → ¬ IsAtomByte (read_at s i)
no_atom_after s i out plain h = elim (cases_lt i (length s)) [
  | inl lt ↦ elim (cases_eq (get_or s i 0) 59) [
    | inl e ↦ let is = (read_semicolon s i lt e out).0 in absurd (omega (arith, h.0))
    | inr ne ↦ let is = (read_outside s i lt ne out).0 in plain (rw is at h)
  ]
  | inr past ↦ let is = past_end s i past in absurd (omega (arith, h.0))
]

pub step_atom : (s : List ℕ) (at end : ℕ) (parts : Nodes) (ls : List (ℕ × Nodes)) → IsReadTo s at parts ls → IsAtomRun s at end
    → IsReadTo s end (add_node parts (atom at (slice_range s at end))) ls
step_atom s at end parts ls r w =
    let n = end - at in
    let e : at + n ≡ end = omega (arith, w.nonempty) in
    let each : (k : ℕ) → at ≤ k → k < at + n → IsAtomByte (get_or s k 0) = λ k low high. w.each k low (omega arith) in
    let reads = word_reads s at n r.outside_comment (omega (arith, w.within)) each in
    let skipped = skip s at n (length ls) (omega (arith, w.within))
    (λ k low high. let b = each k low high in let is = reads.1 k low high in
    (inr (inr (inr (omega (arith, b.0), b.1))), rw is b.2, rw is b.3))
    r.faultless r.depth in
    let out : IsOutside s end = subst (λ k. IsOutside s k) e reads.0 in
    let run : IsRun s at end = record {
      nonempty = w.nonempty;
      each = λ k low high. let is = reads.1 k low (omega arith) in rw is (w.each k low high);
      longest = no_atom_after s end out w.longest;
    } in
    let tree : TreeAt s at end (atom at (slice_range s at end)) = (refl, run, refl) in
    record {
      within = w.within;
      outside_comment = out;
      faultless = subst (λ k. IsFaultless s k) e skipped.0;
      depth = subst (λ k. HasDepth s k (length ls)) e skipped.1;
      shallow = r.shallow;
      trees = open_then_tree s at end parts (atom at (slice_range s at end)) ls r.trees tree;
    }

-- what is known inside a comment
comment_reads : (s : List ℕ) (at end : ℕ) → IsOutside s at → get_or s at 0 ≡ 59 → IsComment s at end
    → IsInside s end × ((p : ℕ) → at ≤ p → p < end → (read_at s p ≡ 32) × IsAllowed (get_or s p 0))
comment_reads s at end out is w =
    let n = end - (at + 1) in
    let e : at + 1 + n ≡ end = omega (arith, w.nonempty) in
    let begins = read_semicolon s at (omega (arith, w.nonempty, w.within)) is out in
    let all = up_from (λ k. IsInside s k × ((p : ℕ) → at ≤ p → p < k → read_at s p ≡ 32)) (at + 1) n
    (begins.1, λ p low high. let same : p ≡ at = omega arith in rw same begins.0)
    (λ k low high h.
    let here = read_inside s k (omega (arith, w.within)) (w.each k (omega arith) (omega arith)).1 h.0 in
    (here.1, λ p from below. elim (cases_lt p k) [ inl lt ↦ h.1 p from lt | inr le ↦ let same : p ≡ k = omega arith in rw same here.0 ])) in (
      subst (λ k. IsInside s k) e all.0,
      λ p low high. (
        all.1 p low (omega arith),
        elim (cases_lt at p) [
          | inl after ↦ (w.each p after high).0
          | inr le ↦ let same : p ≡ at = omega arith in rw (same, is) (inr (inr (inr (omega arith, omega arith))))
        ],
      ),
    )

comment_skip : (s : List ℕ) (at end : ℕ) (parts : Nodes) (ls : List (ℕ × Nodes)) → IsReadTo s at parts ls → get_or s at 0 ≡ 59 → IsComment s at end
    → IsFaultless s end × HasDepth s end (length ls)
comment_skip s at end parts ls r is w =
    let reads = comment_reads s at end r.outside_comment is w in
    let n = end - at in
    let e : at + n ≡ end = omega (arith, w.nonempty) in
    let skipped = skip s at n (length ls) (omega (arith, w.within))
    (λ k low high. let here = reads.1 k low (omega arith) in (here.1, omega (arith, here.0), omega (arith, here.0)))
    r.faultless r.depth in
    (subst (λ k. IsFaultless s k) e skipped.0, subst (λ k. HasDepth s k (length ls)) e skipped.1)

pub step_comment : (s : List ℕ) (at end : ℕ) (parts : Nodes) (ls : List (ℕ × Nodes)) → IsReadTo s at parts ls → get_or s at 0 ≡ 59 → IsComment s at end
    → (end ≡ length s) ⊎ (get_or s end 0 ≡ 10) → IsReadTo s end parts ls
step_comment s at end parts ls r is w ends =
    let reads = comment_reads s at end r.outside_comment is w in
    let skipped = comment_skip s at end parts ls r is w in
    let blank : IsBlank s at end = record {
      ordered = omega (arith, w.nonempty);
      blank = λ k low high. inl (reads.1 k low high).0;
    } in
    record {
      within = w.within;
      outside_comment = leave_comment s end w.within ends reads.0;
      faultless = skipped.0;
      depth = skipped.1;
      shallow = r.shallow;
      trees = open_then_blank s at end parts ls r.trees blank;
    }

pub fault_in_comment : (s : List ℕ) (at o : ℕ) (parts : Nodes) (ls : List (ℕ × Nodes)) → IsReadTo s at parts ls → get_or s at 0 ≡ 59 → IsComment s at o
    → o < length s → ¬ IsAllowed (get_or s o 0) → IsFirstFault s o ByteNotAllowed
fault_in_comment s at o parts ls r is w lt bad = first_fault s o ByteNotAllowed (comment_skip s at o parts ls r is w).0 (lt, bad)

pub step_open : (s : List ℕ) (at : ℕ) (parts : Nodes) (ls : List (ℕ × Nodes)) → IsReadTo s at parts ls → at < length s → get_or s at 0 ≡ 40
    → length ls < 200 → IsReadTo s (at + 1) no_nodes ((at, parts) ∷ ls)
step_open s at parts ls r lt is room =
    let reads = read_outside s at lt (omega arith) r.outside_comment in
    let opens : read_at s at ≡ 40 = reads.0 ∙ is in
    let depth : HasDepth s (at + 1) (length ls + 1) = depth_open s at (length ls) lt opens r.depth in
    record {
      within = omega arith;
      outside_comment = reads.1;
      faultless = faultless_next s at r.faultless (λ code. no_fault_at s at code lt (inr (inr (inr (omega arith, omega arith))))
          (λ e h. absurd (omega arith)) (λ e h. absurd (omega (arith, r.depth))));
      depth = omega (arith, depth);
      shallow = omega arith;
      trees = open_then_open s at parts ls r.trees opens;
    }

pub step_close : (s : List ℕ) (at : ℕ) (parts : Nodes) (l : ℕ × Nodes) (ls : List (ℕ × Nodes)) → IsReadTo s at parts (l ∷ ls) → at < length s → get_or s at 0 ≡ 41
    → IsReadTo s (at + 1) (add_node l.1 (list l.0 parts)) ls
step_close s at parts l ls r lt is =
    let reads = read_outside s at lt (omega arith) r.outside_comment in
    let closes : read_at s at ≡ 41 = reads.0 ∙ is in
    let before : HasDepth s at (length ls + 1) = omega (arith, r.depth) in
    record {
      within = omega arith;
      outside_comment = reads.1;
      faultless = faultless_next s at r.faultless (λ code. no_fault_at s at code lt (inr (inr (inr (omega arith, omega arith))))
          (λ e h. absurd (omega (arith, r.depth))) (λ e h. absurd (omega arith)));
      depth = depth_close s at (length ls) lt closes before;
      shallow = omega (arith, r.shallow);
      trees = open_then_close s at parts l ls r.trees closes;
    }

pub no_fault_past : (s : List ℕ) (o : ℕ) (code : Code) → length s ≤ o → HasDepth s (length s) 0 → ¬ IsFault s o code
no_fault_past s o ByteNotAllowed past depth h = absurd (omega (arith, h.0))
no_fault_past s o Unbalanced past depth h = elim h [
  | inl w ↦ absurd (omega (arith, w.0, past_end s o past))
  | inr w ↦ absurd (omega (arith, rw w.0 at w.1))
]
no_fault_past s o TooDeep past depth h = absurd (omega (arith, h.0, past_end s o past))
no_fault_past s o _ past depth h = h

pub whole_text : (s : List ℕ) (parts : Nodes) → IsReadTo s (length s) parts [] → HasNoFault s × Spells s parts
whole_text s parts r =
    (λ o code h. elim (cases_lt o (length s)) [ inl lt ↦ r.faultless o code lt h | inr past ↦ no_fault_past s o code past r.depth h ], r.trees)
