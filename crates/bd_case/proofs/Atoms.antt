-- Names, numbers and truth values as they are written.
use Rattle.std.proofs.Common.{◌≡◌, ◌≢◌, ℕ, ◌+◌, ◌*◌, ◌/◌, ◌%◌, ◌-◌, ◌^◌, ◌<◌, ◌≤◌, true, false, eqb, leb, List, [], ◌∷◌, ◌++◌, length, get_or, Ok, refl, ap, ◌∙◌, inl, inr, arith}
use Rattle.std.specs.Prelude.{codes, ◌&&◌}
use Rattle.std.specs.List.{All, list_all}
use Rattle.std.specs.Fmt.{decimal}
use Rattle.std.proofs.lemmas.Fmt.{decimal_by_steps, decimal_digit, first_decimal, decimal_nonempty}
use Rattle.std.proofs.lemmas.Bool.{cases_lt, le-leb, leb-true}
use Rattle.std.proofs.lemmas.Bool.Decides.{nat_tests}
use Rattle.std.proofs.lemmas.List.Folds.{list_all-append}
use Rattle.std.proofs.lemmas.List.Sums.{fold-append}
use Rattle.std.proofs.lemmas.List.Elements.{All-nil, All-cons}
use Rattle.bd_text.specs.Layout.{IsAtomByte}
use Rattle.bd_text.specs.Nodes.{Node, atom, list}
use Rattle.bd_text.specs.Written.{without_offsets}
use Rattle.bd_model.specs.Name.{IsName, is_digit, begins_name, continues_name, spells_name}
use Rattle.bd_model.specs.Fits.{scalar_sort}
use Rattle.bd_model.specs.declared.table.Scalar.{Scalar}
use Rattle.bd_model.specs.declared.table.Scalar.TheVariants as scalar
use Rattle.bd_syntax.specs.Reading.{number_form, name_form, is_number, number_of, spot}
use Rattle.bd_syntax.proofs.Results.{split_and}
use Rattle.bd_syntax.proofs.Names.{is_name-IsName}
use Rattle.bd_case.specs.Content.{IsShort, IsShortScalar}
use Rattle.bd_case.specs.Reading.{word_form, truth_form, scalar_form}
use Rattle.bd_case.specs.Text.{word_node, scalar_node}

-- ---- numbers

-- digits that write a number
record Writes (n : ℕ) (ds : List ℕ) : Type 0 where
  digits : list_all is_digit ds ≡ true
  value : number_of ds ≡ n

digit_passes : (d : ℕ) → d < 10 → is_digit (48 + d) ≡ true
digit_passes d lt = grind (arith, nat_tests)

writes_one : (n : ℕ) → n < 10 → Writes n ((48 + n) ∷ [])
writes_one n lt = record { digits = let e = digit_passes n lt in rw e refl; value = omega arith }

writes_more : (n : ℕ) (ds : List ℕ) → 10 ≤ n → Writes (n / 10) ds → Writes n (ds ++ (48 + n % 10) ∷ [])
writes_more n ds le w =
    let last = digit_passes (n % 10) (omega arith) in
    let before = w.digits in
    record {
      digits = list_all-append is_digit ds ((48 + n % 10) ∷ []) ∙ (let both : (list_all is_digit ds && (is_digit (48 + n % 10) && true)) ≡ true = rw (before, last) refl in both);
      value = fold-append (λ m b. 10 * m + (b - 48)) 0 ds ((48 + n % 10) ∷ []) ∙ (let v = w.value in omega arith);
    }

decimal_writes : (n : ℕ) → n < 2 ^ 64 → Writes n (decimal n)
decimal_writes n lt = decimal_by_steps Writes writes_one writes_more n lt

pub number_of-decimal : (n : ℕ) → n < 2 ^ 64 → number_of (decimal n) ≡ n
number_of-decimal n lt = (decimal_writes n lt).value

number_by_first : (ds : List ℕ) → 0 < length ds → get_or ds 0 0 ≢ 48 → list_all is_digit ds ≡ true → is_number ds ≡ true
number_by_first [] nonempty first digits = absurd (omega arith)
number_by_first (b ∷ bs) nonempty first digits =
    let other : eqb b 48 ≡ false = grind (arith, nat_tests) in
    let all : (is_digit b && list_all is_digit bs) ≡ true = digits in
    rw (all, other) refl

pub is_number-decimal : (n : ℕ) → n < 2 ^ 64 → is_number (decimal n) ≡ true
is_number-decimal n lt = elim (cases_lt 0 n) [
  | inl positive ↦ number_by_first (decimal n) (decimal_nonempty n lt) (let first = first_decimal n positive lt in (λ e. absurd (omega arith))) (decimal_writes n lt).digits
  | inr le ↦ let e : n ≡ 0 = omega arith in let d : decimal n ≡ 48 ∷ [] = ap decimal e ∙ decimal_digit 0 (omega arith) in rw d refl
]

-- a number of at most so much reads back
pub number_form-word_node : (most n : ℕ) (u : Node) → n ≤ most → IsShort n → without_offsets u ≡ word_node n → number_form most u ≡ Ok n
unfolding number_form
number_form-word_node most n (list offset parts) small short e = absurd (cc)
number_form-word_node most n (atom offset text) small short e =
    let same : text ≡ decimal n = cc in
    let number = is_number-decimal n short in
    let value = number_of-decimal n short in
    let within = le-leb n most small in
    rw (same, number, value, within) refl

pub word_form-word_node : (n : ℕ) (u : Node) → IsShort n → without_offsets u ≡ word_node n → word_form u ≡ Ok n
word_form-word_node n u short e = number_form-word_node 18446744073709551615 n u (omega arith) short e

-- ---- values

truth_form-true : (u : Node) → without_offsets u ≡ atom 0 (codes "true") → truth_form u ≡ Ok (scalar.Bool true)
unfolding truth_form
truth_form-true (list offset parts) e = absurd (cc)
truth_form-true (atom offset text) e = let same : text ≡ codes "true" = cc in rw same refl

truth_form-false : (u : Node) → without_offsets u ≡ atom 0 (codes "false") → truth_form u ≡ Ok (scalar.Bool false)
unfolding truth_form
truth_form-false (list offset parts) e = absurd (cc)
truth_form-false (atom offset text) e = let same : text ≡ codes "false" = cc in rw same refl

pub scalar_form-scalar_node : (x : Scalar) (u : Node) → IsShortScalar x → without_offsets u ≡ scalar_node x → scalar_form (scalar_sort x) u ≡ Ok x
unfolding scalar_form
scalar_form-scalar_node (scalar.Bool true) u short e = truth_form-true u e
scalar_form-scalar_node (scalar.Bool false) u short e = truth_form-false u e
scalar_form-scalar_node (scalar.Word n) u short e = rw (word_form-word_node n u short e) refl

-- ---- bytes of atoms

digit_byte : (b : ℕ) → is_digit b ≡ true → IsAtomByte b
digit_byte b h =
    let p = split_and (leb 48 b) (leb b 57) h in
    let low = leb-true _ _ p.0 in
    let high = leb-true _ _ p.1 in
    (omega arith, omega arith, omega arith, omega arith, omega arith)

pub all_digit_bytes : (ds : List ℕ) → list_all is_digit ds ≡ true → All IsAtomByte ds
all_digit_bytes [] h = All-nil IsAtomByte
all_digit_bytes (b ∷ bs) h =
    let p = split_and (is_digit b) (list_all is_digit bs) h in
    All-cons IsAtomByte b bs (digit_byte b p.0) (all_digit_bytes bs p.1)

pub decimal_bytes : (n : ℕ) → n < 2 ^ 64 → (0 < length (decimal n)) × All IsAtomByte (decimal n)
decimal_bytes n lt = (decimal_nonempty n lt, all_digit_bytes (decimal n) (decimal_writes n lt).digits)

name_byte : (b : ℕ) → continues_name b ≡ true → IsAtomByte b
name_byte b h = (grind (arith, nat_tests), grind (arith, nat_tests), grind (arith, nat_tests), grind (arith, nat_tests), grind (arith, nat_tests))

begins_continues : (b : ℕ) → begins_name b ≡ true → continues_name b ≡ true
begins_continues b h = rw h refl

pub all_name_bytes : (bs : List ℕ) → list_all continues_name bs ≡ true → All IsAtomByte bs
all_name_bytes [] h = All-nil IsAtomByte
all_name_bytes (b ∷ bs) h =
    let p = split_and (continues_name b) (list_all continues_name bs) h in
    All-cons IsAtomByte b bs (name_byte b p.0) (all_name_bytes bs p.1)

spelled_bytes : (name : List ℕ) → spells_name name ≡ true → (0 < length name) × All IsAtomByte name
spelled_bytes [] h = absurd (cc)
spelled_bytes (b ∷ bs) h =
    let p = split_and (begins_name b) (list_all continues_name bs) h in
    (omega arith, All-cons IsAtomByte b bs (name_byte b (begins_continues b p.0)) (all_name_bytes bs p.1))

pub name_bytes : (name : List ℕ) → IsName name → (0 < length name) × All IsAtomByte name
name_bytes name h = spelled_bytes name h.spelled

-- a name reads back
pub name_form-name : (name : List ℕ) (u : Node) → IsName name → without_offsets u ≡ atom 0 name → (offset : ℕ) × (name_form u ≡ Ok (spot offset name))
unfolding name_form
name_form-name name (list offset parts) h e = absurd (cc)
name_form-name name (atom offset text) h e =
    let same : text ≡ name = cc in
    let test = is_name-IsName name h in
    (offset, rw (same, test) refl)
