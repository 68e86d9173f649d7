-- A text that lays trees out reads as these trees.
use Rattle.std.proofs.Common.{◌≡◌, ◌≢◌, ℕ, ◌+◌, ◌<◌, ◌≤◌, List, [], ◌∷◌, ◌++◌, length, get_or, refl, inl, inr, sym, ap, ◌∙◌, subst, arith}
use Rattle.std.specs.List.{All}
use Rattle.std.proofs.lemmas.List.{length-append, get_or_past}
use Rattle.std.proofs.lemmas.Bool.{cases_lt}
use Rattle.std.proofs.lemmas.List.Elements.{All-nil, All-cons, All-append, All-weaker, All-same}
use Rattle.bd_text.specs.Layout.{IsAllowed, IsSeparator, IsAtomByte, read_at}
use Rattle.bd_text.specs.Grammar.{TreeAt, TreesAt, Spells}
use Rattle.bd_text.specs.Faults.{HasDepth, HasNoFault}
use Rattle.bd_text.specs.Nodes.{Node, atom, list, Nodes, no_nodes, node}
use Rattle.bd_text.specs.Written.{LaysOut, LayOut, nesting, nesting_inside, without_offsets, all_without_offsets}
use Rattle.bd_text.proofs.Depths.{IsFaultless, depth_open, depth_close, no_fault_at, faultless_next}
use Rattle.bd_text.proofs.Places.{without_comments-plain, IsPlain, read_plain, Stands, stands_left, stands_right, stands_head, stands_whole, each_stands, slice_stands, blank_stands, run_stands, next_byte}
use Rattle.bd_text.proofs.Steps.{skip, separator_allowed, no_fault_past}

no_atom : (b : ℕ) → b ≡ 41 → ¬ IsAtomByte b
no_atom b e h = h.3 e

-- a list's text in three parts
list_stands : (s : List ℕ) (i : ℕ) (x inside : List ℕ) → x ≡ 40 ∷ inside ++ 41 ∷ [] → Stands s i x
    → (get_or s i 0 ≡ 40) × Stands s (i + 1) inside × (get_or s (i + 1 + length inside) 0 ≡ 41) × (i + length x ≡ i + 1 + length inside + 1)
list_stands s i x inside e h =
    let here : Stands s i ((40 ∷ inside) ++ (41 ∷ [])) = subst (λ y. Stands s i y) e h in
    let front = stands_left s i (40 ∷ inside) (41 ∷ []) here in
    let back = stands_right s i (40 ∷ inside) (41 ∷ []) here in
    let middle : Stands s (i + 1) inside = stands_right s i (40 ∷ []) inside front in
    let k : i + length (40 ∷ inside) ≡ i + 1 + length inside = omega arith in (
      stands_head s i 40 inside front,
      middle,
      ap (λ n. get_or s n 0) (sym k) ∙ stands_head s (i + length (40 ∷ inside)) 41 [] back,
      omega (arith, ap length e, length-append (40 ∷ inside) (41 ∷ [])),
    )

mutual
  tree_laid : (s : List ℕ) (i : ℕ) (t : Node) (x : List ℕ) → IsPlain s → Stands s i x → LaysOut t x → ¬ IsAtomByte (get_or s (i + length x) 0)
      → (u : Node) × TreeAt s i (i + length x) u × (without_offsets u ≡ without_offsets t)
  tree_laid s i (atom o text) x plain h laid after =
      (atom i x, (refl, run_stands s i x plain h laid.1 laid.2 after, slice_stands s i x h), ap (atom 0) laid.0)
  tree_laid s i (list o parts) x plain h laid after =
      let inside = laid.0 in
      let stands = list_stands s i x inside laid.1 h in
      let k = i + 1 + length inside in
      let inner = trees_laid s (i + 1) parts inside plain stands.1 laid.2 (no_atom (get_or s k 0) stands.2) in (
        list i inner.0,
        (refl, read_plain s i plain ∙ stands.0, (k, inner.1, read_plain s k plain ∙ stands.2, stands.3)),
        ap (list 0) inner.2,
      )

  trees_laid : (s : List ℕ) (i : ℕ) (ts : Nodes) (x : List ℕ) → IsPlain s → Stands s i x → LayOut ts x → ¬ IsAtomByte (get_or s (i + length x) 0)
      → (us : Nodes) × TreesAt s i (i + length x) us × (all_without_offsets us ≡ all_without_offsets ts)
  trees_laid s i no_nodes x plain h laid after = (no_nodes, blank_stands s i x plain h laid, refl)
  trees_laid s i (node t ts) x plain h laid after =
      let blank = laid.0 in
      let tree = laid.1 in
      let rest = laid.2 in
      let here : Stands s i (blank ++ (tree ++ rest)) = subst (λ y. Stands s i y) laid.3 h in
      let j = i + length blank in
      let k = j + length tree in
      let past_blank = stands_right s i blank (tree ++ rest) here in
      let at_rest = stands_right s j tree rest past_blank in
      let e : k + length rest ≡ i + length x = omega (arith, ap length laid.3, length-append blank (tree ++ rest), length-append tree rest) in
      let after_rest : ¬ IsAtomByte (get_or s (k + length rest) 0) = subst (λ n. ¬ IsAtomByte (get_or s n 0)) (sym e) after in
      let first = tree_laid s j t tree plain (stands_left s j tree rest past_blank) laid.5 (next_byte s k rest at_rest laid.7 after_rest) in
      let others = trees_laid s k ts rest plain at_rest laid.6 after_rest in (
        node first.0 others.0,
        (j, k, blank_stands s i blank plain (stands_left s i blank (tree ++ rest) here) laid.4, first.1, subst (λ n. TreesAt s k n others.0) e others.1),
        ap (λ v. node v (all_without_offsets others.0)) first.2 ∙ ap (node (without_offsets t)) others.2,
      )

-- no fault before an offset, and so many lists open there
abbrev IsClean : List ℕ → ℕ → ℕ → Type 0
IsClean s i d = IsFaultless s i × HasDepth s i d

clean_skip : (P : ℕ → Type 0) → ((b : ℕ) → P b → IsAllowed b × (b ≢ 40) × (b ≢ 41)) → (s : List ℕ) (i : ℕ) (x : List ℕ) (d : ℕ) → IsPlain s → Stands s i x → All P x → IsClean s i d → IsClean s (i + length x) d
clean_skip P other s i x d plain h all clean =
    skip s i (length x) d h.within (λ k low high.
    let b = other (get_or s k 0) (each_stands P s i x h all k low high) in
    let is = read_plain s k plain in
    (b.0, rw is b.1, rw is b.2))
    clean.0 clean.1

clean_open : (s : List ℕ) (i d : ℕ) → IsPlain s → i < length s → get_or s i 0 ≡ 40 → d < 200 → IsClean s i d → IsClean s (i + 1) (d + 1)
clean_open s i d plain lt is room clean =
    let opens : read_at s i ≡ 40 = read_plain s i plain ∙ is in (
      faultless_next s i clean.0 (λ code. no_fault_at s i code lt (inr (inr (inr (omega arith, omega arith))))
          (λ e h. absurd (omega arith)) (λ e h. absurd (omega (arith, clean.1)))),
      depth_open s i d lt opens clean.1,
    )

clean_close : (s : List ℕ) (i d : ℕ) → IsPlain s → i < length s → get_or s i 0 ≡ 41 → IsClean s i (d + 1) → IsClean s (i + 1) d
clean_close s i d plain lt is clean =
    let closes : read_at s i ≡ 41 = read_plain s i plain ∙ is in (
      faultless_next s i clean.0 (λ code. no_fault_at s i code lt (inr (inr (inr (omega arith, omega arith))))
          (λ e h. absurd (omega (arith, clean.1))) (λ e h. absurd (omega arith))),
      depth_close s i d lt closes clean.1,
    )

atom_byte_other : (b : ℕ) → IsAtomByte b → IsAllowed b × (b ≢ 40) × (b ≢ 41)
atom_byte_other b h = (inr (inr (inr (omega (arith, h.0), h.1))), h.2, h.3)

separator_other : (b : ℕ) → IsSeparator b → IsAllowed b × (b ≢ 40) × (b ≢ 41)
separator_other b h = let a = separator_allowed b h in (a.0, a.1, a.2)

mutual
  tree_clean : (s : List ℕ) (i d : ℕ) (t : Node) (x : List ℕ) → IsPlain s → Stands s i x → LaysOut t x → d + nesting t ≤ 200 → IsClean s i d → IsClean s (i + length x) d
  tree_clean s i d (atom o text) x plain h laid room clean = clean_skip IsAtomByte atom_byte_other s i x d plain h laid.2 clean
  tree_clean s i d (list o parts) x plain h laid room clean =
      let inside = laid.0 in
      let stands = list_stands s i x inside laid.1 h in
      let k = i + 1 + length inside in
      let opened = clean_open s i d plain (omega (arith, h.within, stands.3)) stands.0 (omega arith) clean in
      let inner = trees_clean s (i + 1) (d + 1) parts inside plain stands.1 laid.2 (omega arith) opened in
      let closed = clean_close s k d plain (omega (arith, h.within, stands.3)) stands.2 inner in
      subst (λ n. IsClean s n d) (sym stands.3) closed

  trees_clean : (s : List ℕ) (i d : ℕ) (ts : Nodes) (x : List ℕ) → IsPlain s → Stands s i x → LayOut ts x → d + nesting_inside ts ≤ 200 → IsClean s i d → IsClean s (i + length x) d
  trees_clean s i d no_nodes x plain h laid room clean = clean_skip IsSeparator separator_other s i x d plain h laid clean
  trees_clean s i d (node t ts) x plain h laid room clean =
      let blank = laid.0 in
      let tree = laid.1 in
      let rest = laid.2 in
      let here : Stands s i (blank ++ (tree ++ rest)) = subst (λ y. Stands s i y) laid.3 h in
      let j = i + length blank in
      let k = j + length tree in
      let past_blank = stands_right s i blank (tree ++ rest) here in
      let at_rest = stands_right s j tree rest past_blank in
      let e : k + length rest ≡ i + length x = omega (arith, ap length laid.3, length-append blank (tree ++ rest), length-append tree rest) in
      let after_blank = clean_skip IsSeparator separator_other s i blank d plain (stands_left s i blank (tree ++ rest) here) laid.4 clean in
      let after_tree = tree_clean s j d t tree plain (stands_left s j tree rest past_blank) laid.5 (omega arith) after_blank in
      let after_rest = trees_clean s k d ts rest plain at_rest laid.6 (omega arith) after_tree in
      subst (λ n. IsClean s n d) e after_rest

mutual
  tree_plain : (t : Node) (x : List ℕ) → LaysOut t x → All (λ b. b ≢ 59) x
  tree_plain (atom o text) x laid = All-weaker IsAtomByte (λ b. b ≢ 59) (λ b h. h.4) x laid.2
  tree_plain (list o parts) x laid =
      All-same (λ b. b ≢ 59) x (40 ∷ laid.0 ++ 41 ∷ []) laid.1
      (All-append (λ b. b ≢ 59) (40 ∷ laid.0) (41 ∷ [])
      (All-cons (λ b. b ≢ 59) 40 laid.0 (omega arith) (trees_plain parts laid.0 laid.2))
      (All-cons (λ b. b ≢ 59) 41 [] (omega arith) (All-nil (λ b. b ≢ 59))))

  trees_plain : (ts : Nodes) (x : List ℕ) → LayOut ts x → All (λ b. b ≢ 59) x
  trees_plain no_nodes x laid = All-weaker IsSeparator (λ b. b ≢ 59) (λ b h. (separator_allowed b h).3) x laid
  trees_plain (node t ts) x laid =
      All-same (λ b. b ≢ 59) x (laid.0 ++ (laid.1 ++ laid.2)) laid.3
      (All-append (λ b. b ≢ 59) laid.0 (laid.1 ++ laid.2)
      (All-weaker IsSeparator (λ b. b ≢ 59) (λ b h. (separator_allowed b h).3) laid.0 laid.4)
      (All-append (λ b. b ≢ 59) laid.1 laid.2 (tree_plain t laid.1 laid.5) (trees_plain ts laid.2 laid.6)))

faultless_start : (s : List ℕ) → IsClean s 0 0
faultless_start s = (λ o code lt. absurd (omega arith), refl)

-- a text that lays trees out has no fault, and spells these trees
pub laid_reads : (ts : Nodes) (s : List ℕ) → LayOut ts s → nesting_inside ts ≤ 200
    → HasNoFault s × ((us : Nodes) × Spells s us × (all_without_offsets us ≡ all_without_offsets ts))
laid_reads ts s laid room =
    let plain = without_comments-plain s (trees_plain ts s laid) in
    let stands = stands_whole s in
    let at_end : 0 + length s ≡ length s = omega arith in
    let zero_after : get_or s (0 + length s) 0 ≡ 0 = get_or_past s (0 + length s) 0 (omega arith) in
    let after : ¬ IsAtomByte (get_or s (0 + length s) 0) = λ h. absurd (omega (arith, h.0)) in
    let read = trees_laid s 0 ts s plain stands laid after in
    let clean = subst (λ n. IsClean s n 0) at_end (trees_clean s 0 0 ts s plain stands laid (omega arith) (faultless_start s)) in (
      λ o code h. elim (cases_lt o (length s)) [ inl lt ↦ clean.0 o code lt h | inr past ↦ no_fault_past s o code past clean.1 h ],
      (read.0, subst (λ n. TreesAt s 0 n read.0) at_end read.1, read.2),
    )
