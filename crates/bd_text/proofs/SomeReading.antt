-- A text without a fault spells some trees: from each offset short of the end it can be read on.
use Rattle.std.proofs.Common.{◌≡◌, ◌≢◌, ℕ, zero, suc, ◌+◌, ◌-◌, ◌<◌, ◌≤◌, ◌⊎◌, List, [], ◌∷◌, length, get_or, slice_range, refl, inl, inr, ◌∙◌, subst, arith}
use Rattle.std.proofs.lemmas.List.{get_or_past}
use Rattle.std.proofs.lemmas.Bool.{cases_lt, cases_eq}
use Rattle.bd_text.specs.Layout.{IsAllowed, IsSeparator, IsAtomByte}
use Rattle.bd_text.specs.Grammar.{Spells}
use Rattle.bd_text.specs.Faults.{HasNoFault}
use Rattle.bd_text.specs.Nodes.{atom, list, Nodes, no_nodes, add_node}
use Rattle.bd_text.specs.inner.Progress.{IsReadTo, IsAtomRun, IsComment}
use Rattle.bd_text.specs.declared.code.Code.TheVariants.{ByteNotAllowed, Unbalanced, TooDeep}
use Rattle.bd_text.proofs.Comments.{read_outside}
use Rattle.bd_text.proofs.Steps.{step_separator, step_comment, step_open, step_close, step_atom, whole_text}

allowed_or : (b : ℕ) → IsAllowed b ⊎ (¬ IsAllowed b)
allowed_or b = elim (cases_eq b 9) [
  | inl e ↦ inl (inl e)
  | inr no_tab ↦ elim (cases_eq b 10) [
    | inl e ↦ inl (inr (inl e))
    | inr no_feed ↦ elim (cases_eq b 13) [
      | inl e ↦ inl (inr (inr (inl e)))
      | inr no_return ↦ elim (cases_lt b 32) [
        | inl low ↦ inr (λ h. elim h [ inl e ↦ no_tab e | inr h ↦ elim h [ inl e ↦ no_feed e | inr h ↦ elim h [ inl e ↦ no_return e | inr p ↦ omega (arith, p.0) ] ] ])
        | inr from ↦ elim (cases_lt 126 b) [
          | inl high ↦ inr (λ h. elim h [ inl e ↦ no_tab e | inr h ↦ elim h [ inl e ↦ no_feed e | inr h ↦ elim h [ inl e ↦ no_return e | inr p ↦ omega (arith, p.1) ] ] ])
          | inr to ↦ inl (inr (inr (inr (from, to))))
        ]
      ]
    ]
  ]
]

-- each byte of a text without a fault may stand there
allowed_at : (s : List ℕ) (k : ℕ) → HasNoFault s → k < length s → IsAllowed (get_or s k 0)
allowed_at s k fine lt = elim (allowed_or (get_or s k 0)) [ inl h ↦ h | inr bad ↦ absurd (fine k ByteNotAllowed (lt, bad)) ]

-- the kinds of bytes that may stand outside comments
kind_of : (b : ℕ) → IsAllowed b → IsSeparator b ⊎ ((b ≡ 59) ⊎ ((b ≡ 40) ⊎ ((b ≡ 41) ⊎ IsAtomByte b)))
kind_of b (inl tab) = inl (inr (inl tab))
kind_of b (inr (inl feed)) = inl (inr (inr (inr feed)))
kind_of b (inr (inr (inl return))) = inl (inr (inr (inl return)))
kind_of b (inr (inr (inr (from, to)))) = elim (cases_eq b 32) [
  | inl e ↦ inl (inl e)
  | inr no_space ↦ elim (cases_eq b 59) [
    | inl e ↦ inr (inl e)
    | inr no_comment ↦ elim (cases_eq b 40) [
      | inl e ↦ inr (inr (inl e))
      | inr no_open ↦ elim (cases_eq b 41) [
        | inl e ↦ inr (inr (inr (inl e)))
        | inr no_close ↦ inr (inr (inr (inr (omega arith, to, no_open, no_close, no_comment))))
      ]
    ]
  ]
]

atom_or : (b : ℕ) → IsAtomByte b ⊎ (¬ IsAtomByte b)
atom_or b = elim (cases_lt b 33) [
  | inl low ↦ inr (λ h. omega (arith, h.0))
  | inr from ↦ elim (cases_lt 126 b) [
    | inl high ↦ inr (λ h. omega (arith, h.1))
    | inr to ↦ elim (cases_eq b 40) [
      | inl e ↦ inr (λ h. h.2 e)
      | inr no_open ↦ elim (cases_eq b 41) [
        | inl e ↦ inr (λ h. h.3 e)
        | inr no_close ↦ elim (cases_eq b 59) [ inl e ↦ inr (λ h. h.4 e) | inr no_comment ↦ inl (from, to, no_open, no_close, no_comment) ]
      ]
    ]
  ]
]

-- one thing holds up to an offset, and there the other, or the offset is the last one
pub record Stops (P Q : ℕ → Type 0) (i last : ℕ) : Type 0 where
  pub stop : ℕ
  pub from : i ≤ stop
  pub to : stop ≤ last
  pub each : (k : ℕ) → i ≤ k → k < stop → P k
  pub why : (stop ≡ last) ⊎ Q stop

stops_further : (P Q : ℕ → Type 0) (i last : ℕ) → P last ⊎ Q last → Stops P Q i last → Stops P Q i (last + 1)
stops_further P Q i last here before = elim before.why [
  | inl at_last ↦ elim here [
    | inl p ↦ record {
      stop = last + 1;
      from = omega (arith, before.from, before.to);
      to = omega arith;
      each = λ k low high. elim (cases_lt k last) [
        | inl lt ↦ before.each k low (omega (arith, at_last))
        | inr le ↦ let e : last ≡ k = omega arith in subst P e p
      ];
      why = inl refl;
    }
    | inr q ↦ record { stop = last; from = omega (arith, before.from, before.to); to = omega arith; each = λ k low high. before.each k low (omega (arith, at_last)); why = inr q }
  ]
  | inr q ↦ record { stop = before.stop; from = before.from; to = omega (arith, before.to); each = before.each; why = inr q }
]

stops : (P Q : ℕ → Type 0) → ((k : ℕ) → P k ⊎ Q k) → (i n : ℕ) → Stops P Q i (i + n)
stops P Q test i zero = record { stop = i; from = omega arith; to = omega arith; each = λ k low high. absurd (omega arith); why = inl (omega arith) }
stops P Q test i (suc n) =
    let e : i + n + 1 ≡ i + suc n = omega arith in
    subst (λ last. Stops P Q i last) e (stops_further P Q i (i + n) (test (i + n)) (stops P Q test i n))

atom_end : (s : List ℕ) (at : ℕ) → at < length s → IsAtomByte (get_or s at 0) → (end : ℕ) × IsAtomRun s at end
atom_end s at lt begins =
    let run = stops (λ k. IsAtomByte (get_or s k 0)) (λ k. ¬ IsAtomByte (get_or s k 0)) (λ k. atom_or (get_or s k 0)) at (length s - at) in (
      run.stop,
      record {
        nonempty = elim (cases_lt at run.stop) [
          | inl later ↦ later
          | inr le ↦ elim run.why [
            | inl e ↦ absurd (omega (arith, e))
            | inr other ↦ let e : run.stop ≡ at = omega (arith, run.from) in absurd (subst (λ k. ¬ IsAtomByte (get_or s k 0)) e other begins)
          ]
        ];
        within = omega (arith, run.to);
        each = run.each;
        longest = elim run.why [
          | inl e ↦ (λ h. let past = get_or_past s run.stop 0 (omega (arith, e)) in absurd (omega (arith, h.0)))
          | inr other ↦ other
        ];
      },
    )

comment_end : (s : List ℕ) (at : ℕ) → HasNoFault s → at < length s
    → (end : ℕ) × IsComment s at end × ((end ≡ length s) ⊎ (get_or s end 0 ≡ 10))
comment_end s at fine lt =
    let run = stops (λ k. get_or s k 0 ≢ 10) (λ k. get_or s k 0 ≡ 10) (λ k. elim (cases_eq (get_or s k 0) 10) [ inl e ↦ inr e | inr ne ↦ inl ne ]) (at + 1) (length s - (at + 1)) in (
      run.stop,
      record {
        nonempty = omega (arith, run.from);
        within = omega (arith, run.to);
        each = λ k low high. (allowed_at s k fine (omega (arith, run.to)), run.each k (omega arith) high);
      },
      elim run.why [ inl e ↦ inl (omega (arith, e)) | inr feed ↦ inr feed ],
    )

-- what is read further on
pub record IsReadPast (s : List ℕ) (at : ℕ) : Type 0 where
  pub next : ℕ
  pub parts : Nodes
  pub open_lists : List (ℕ × Nodes)
  pub later : at < next
  pub read : IsReadTo s next parts open_lists

open_past : (s : List ℕ) (at : ℕ) (parts : Nodes) (ls : List (ℕ × Nodes)) → HasNoFault s → IsReadTo s at parts ls → at < length s → get_or s at 0 ≡ 40 → IsReadPast s at
open_past s at parts ls fine r lt is = elim (cases_lt (length ls) 200) [
  | inl room ↦ record { next = at + 1; parts = no_nodes; open_lists = (at, parts) ∷ ls; later = omega arith; read = step_open s at parts ls r lt is room }
  | inr full ↦ let opens = (read_outside s at lt (omega arith) r.outside_comment).0 ∙ is in
      let e : length ls ≡ 200 = omega (arith, r.shallow) in
      absurd (fine at TooDeep (opens, omega (arith, r.depth)))
]

close_past : (s : List ℕ) (at : ℕ) (parts : Nodes) (ls : List (ℕ × Nodes)) → HasNoFault s → IsReadTo s at parts ls → at < length s → get_or s at 0 ≡ 41 → IsReadPast s at
close_past s at parts [] fine r lt is =
    let closes = (read_outside s at lt (omega arith) r.outside_comment).0 ∙ is in
    absurd (fine at Unbalanced (inl (closes, r.depth)))
close_past s at parts (l ∷ ls) fine r lt is =
    record { next = at + 1; parts = add_node l.1 (list l.0 parts); open_lists = ls; later = omega arith; read = step_close s at parts l ls r lt is }

read_past : (s : List ℕ) (at : ℕ) (parts : Nodes) (ls : List (ℕ × Nodes)) → HasNoFault s → IsReadTo s at parts ls → at < length s → IsReadPast s at
read_past s at parts ls fine r lt = elim (kind_of (get_or s at 0) (allowed_at s at fine lt)) [
  | inl sep ↦ record { next = at + 1; parts = parts; open_lists = ls; later = omega arith; read = step_separator s at parts ls r lt sep }
  | inr h ↦ elim h [
    | inl is ↦ let comment = comment_end s at fine lt in
        record { next = comment.0; parts = parts; open_lists = ls; later = comment.1.nonempty; read = step_comment s at comment.0 parts ls r is comment.1 comment.2 }
    | inr h ↦ elim h [
      | inl is ↦ open_past s at parts ls fine r lt is
      | inr h ↦ elim h [
        | inl is ↦ close_past s at parts ls fine r lt is
        | inr begins ↦ let run = atom_end s at lt begins in
            record { next = run.0; parts = add_node parts (atom at (slice_range s at run.0)); open_lists = ls; later = run.1.nonempty; read = step_atom s at run.0 parts ls r run.1 }
      ]
    ]
  ]
]

-- at the end no list is open
ended : (s : List ℕ) (parts : Nodes) (ls : List (ℕ × Nodes)) → HasNoFault s → IsReadTo s (length s) parts ls → (ts : Nodes) × Spells s ts
ended s parts [] fine r = (parts, (whole_text s parts r).1)
ended s parts (l ∷ ls) fine r = absurd (fine (length s) Unbalanced (inr (refl, omega (arith, r.depth))))

spelled_from : (s : List ℕ) → HasNoFault s → (n at : ℕ) (parts : Nodes) (ls : List (ℕ × Nodes)) → length s ≤ at + n → IsReadTo s at parts ls → (ts : Nodes) × Spells s ts
spelled_from s fine zero at parts ls few r =
    let e : at ≡ length s = omega (arith, r.within) in
    ended s parts ls fine (subst (λ k. IsReadTo s k parts ls) e r)
spelled_from s fine (suc n) at parts ls few r = elim (cases_lt at (length s)) [
  | inl lt ↦ let past = read_past s at parts ls fine r lt in
      spelled_from s fine n past.next past.parts past.open_lists (omega (arith, past.later)) past.read
  | inr le ↦ let e : at ≡ length s = omega (arith, r.within) in
      ended s parts ls fine (subst (λ k. IsReadTo s k parts ls) e r)
]

pub some_reading-holds : (s : List ℕ) → HasNoFault s → (ts : Nodes) × Spells s ts
some_reading-holds s fine = spelled_from s fine (length s) 0 no_nodes [] (omega arith) (record {
  within = omega arith;
  outside_comment = refl;
  faultless = λ o code lt. absurd (omega arith);
  depth = refl;
  shallow = omega arith;
  trees = record { ordered = omega arith; blank = λ k low high. absurd (omega arith) };
})
