-- The depth and the faults, byte by byte.
use Rattle.std.proofs.Common.{◌≡◌, ◌≢◌, ℕ, ◌+◌, ◌<◌, ◌==◌, count_by, false, eqb, List, length, get_or, take, inl, inr, arith, eq-eqb}
use Rattle.std.proofs.lemmas.Bool.{cases_lt}
use Rattle.std.proofs.lemmas.List.Sums.{count_by_more_no, count_by_more_yes}
use Rattle.bd_text.specs.Layout.{IsAllowed, without_comments, read_at}
use Rattle.bd_text.specs.Faults.{HasDepth, IsFault}
use Rattle.bd_text.proofs.Comments.{length-without_comments}
use Rattle.bd_text.specs.declared.code.Code.{Code}
use Rattle.bd_text.specs.declared.code.Code.TheVariants.{ByteNotAllowed, Unbalanced, TooDeep}

differs : (b c : ℕ) → b ≢ c → eqb b c ≡ false
differs b c ne = grind arith

more_yes : (s : List ℕ) (i b : ℕ) → i < length s → read_at s i ≡ b → count_by (λ x. x == b) (take (i + 1) (without_comments s)) ≡ count_by (λ x. x == b) (take i (without_comments s)) + 1
more_yes s i b lt is =
    count_by_more_yes (λ x. x == b) (without_comments s) i 0 (omega (arith, length-without_comments s)) (eq-eqb (read_at s i) b is)

more_no : (s : List ℕ) (i b : ℕ) → i < length s → read_at s i ≢ b → count_by (λ x. x == b) (take (i + 1) (without_comments s)) ≡ count_by (λ x. x == b) (take i (without_comments s))
more_no s i b lt ne =
    count_by_more_no (λ x. x == b) (without_comments s) i 0 (omega (arith, length-without_comments s)) (differs (read_at s i) b ne)

pub depth_open : (s : List ℕ) (i d : ℕ) → i < length s → read_at s i ≡ 40 → HasDepth s i d → HasDepth s (i + 1) (d + 1)
depth_open s i d lt is h = omega (arith, more_yes s i 40 lt is, more_no s i 41 lt (λ e. absurd (omega arith)))

pub depth_close : (s : List ℕ) (i d : ℕ) → i < length s → read_at s i ≡ 41 → HasDepth s i (d + 1) → HasDepth s (i + 1) d
depth_close s i d lt is h = omega (arith, more_yes s i 41 lt is, more_no s i 40 lt (λ e. absurd (omega arith)))

pub depth_other : (s : List ℕ) (i d : ℕ) → i < length s → read_at s i ≢ 40 → read_at s i ≢ 41 → HasDepth s i d → HasDepth s (i + 1) d
depth_other s i d lt no_open no_close h = omega (arith, more_no s i 40 lt no_open, more_no s i 41 lt no_close)

-- no fault stands before an offset
abbrev pub IsFaultless : List ℕ → ℕ → Type 0
IsFaultless s i = (o : ℕ) (code : Code) → o < i → ¬ IsFault s o code

-- what shows that no fault stands at an offset inside the text
pub no_fault_at : (s : List ℕ) (i : ℕ) (code : Code) → i < length s → IsAllowed (get_or s i 0)
    → (read_at s i ≡ 41 → HasDepth s i 0 → ⊥) → (read_at s i ≡ 40 → HasDepth s i 200 → ⊥) → ¬ IsFault s i code
no_fault_at s i ByteNotAllowed lt allowed no_close no_open h = h.1 allowed
no_fault_at s i Unbalanced lt allowed no_close no_open h = elim h [ inl w ↦ no_close w.0 w.1 | inr w ↦ absurd (omega (arith, w.0)) ]
no_fault_at s i TooDeep lt allowed no_close no_open h = no_open h.0 h.1
no_fault_at s i _ lt allowed no_close no_open h = h

pub faultless_next : (s : List ℕ) (i : ℕ) → IsFaultless s i → ((code : Code) → ¬ IsFault s i code) → IsFaultless s (i + 1)
faultless_next s i before here o code lt = elim (cases_lt o i) [ inl below ↦ before o code below | inr from_i ↦ let e : o ≡ i = omega arith in rw e (here code) ]
