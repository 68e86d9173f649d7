-- What holds of values that may not be there, and of errors that are passed on.
use Rattle.std.proofs.Common.{◌≡◌, ℕ, ◌≤◌, refl, sym, ◌∙◌, subst, ap, inl, inr, arith, Result, Ok, Err}
use Rattle.std.specs.Prelude.{Option, Some, None, IfSome, IfOk, OnOk, IsErrAnd, IsErrOf}
use Rattle.std.proofs.lemmas.Bool.{cases_lt}
use Rattle.bd_files.specs.Devices.{Rose}

pub IfSome-weaker : {A : Type 0} (P Q : A → Type 0) (o : Option A) → ((x : A) → P x → Q x) → IfSome o P → IfSome o Q
IfSome-weaker P Q None f h = tt
IfSome-weaker P Q (Some x) f h = f x h

pub IfSome-both : {A : Type 0} (P Q R : A → Type 0) (o : Option A) → ((x : A) → P x → Q x → R x) → IfSome o P → IfSome o Q → IfSome o R
IfSome-both P Q R None f p q = tt
IfSome-both P Q R (Some x) f p q = f x p q

pub IfSome-all : {A : Type 0} (P : A → Type 0) (o : Option A) → ((x : A) → P x) → IfSome o P
IfSome-all P None f = tt
IfSome-all P (Some x) f = f x

-- what holds of each value holds of the result
pub IfOk-each : {T E : Type 0} (P : T → Type 0) (r : Result T E) → ((x : T) → r ≡ Ok x → P x) → IfOk r P
IfOk-each P (Ok x) f = f x refl
IfOk-each P (Err e) f = tt

pub OnOk-weaker : {T E : Type 0} (P Q : Type 0) (r : Result T E) → (P → Q) → OnOk r P → OnOk r Q
OnOk-weaker P Q (Ok x) f p = f p
OnOk-weaker P Q (Err e) f p = tt

-- what holds of an error that is passed on holds of the result
pub passed : {T E : Type 0} (P : Result T E → Type 0) (r : Result T E) (e : E) → IsErrAnd r (λ y. y ≡ e) → P (Err e) → P r
passed P (Ok x) e h p = absurd h
passed P (Err y) e h p = subst (λ z. P (Err z)) (sym h) p

-- the same error
pub same_error : {T S E : Type 0} (e other : E) → IsErrOf {T = S} (Err e) other → IsErrOf {T = T} (Err e) other
same_error e other is = let same : e ≡ other = cc is in ap (λ z. Err z) same

-- a value is no error
pub no_error : {T E : Type 0} (x : T) (e : E) → ¬ IsErrOf (Ok x) e
no_error x e is = cc is

-- a count that rose after it stood or rose before
pub rose_after : (a b c : ℕ) → a ≤ b → b ≤ c → Rose b c → Rose a c
rose_after a b c before after rose = λ other. elim (cases_lt a c) [
  | inl less ↦ less
  | inr least ↦ let same : b ≡ a = omega (arith, before, after, least) in omega (arith, before, rose (λ is. other (sym same ∙ is)))
]
