-- What a loop has made so far, and what it still makes.
use Rattle.std.proofs.Common.{◌≡◌, List, [], ◌∷◌, ◌++◌, Result, Ok, Err, refl, ap, sym, ◌∙◌, append_assoc}
use Rattle.std.proofs.lemmas.List.{append-nil}
use Rattle.bd_syntax.specs.Reading.{Fault, Fails}
use Rattle.bd_text.specs.declared.fault.TextFault.{TextFault}
use Rattle.bd_text.specs.declared.fault.TextFault.TheVariants as faults
use Rattle.bd_typer.specs.Faults.{◌>>=◌}

abbrev pub with_front : {A : Type 0} → List A → Result (List A) Fault → Result (List A) Fault
with_front front rest = rest >>= λ xs. Ok (front ++ xs)

regroup : {A : Type 0} (front : List A) (x : A) (rest : Result (List A) Fault) → with_front front (rest >>= λ xs. Ok (x ∷ xs)) ≡ with_front (front ++ x ∷ []) rest
regroup front x (Ok xs) = ap Ok (simp append_assoc)
regroup front x (Err fault) = refl

module _ {A : Type 0} (front : List A) (now total : Result (List A) Fault) (so_far : with_front front now ≡ total) where
  -- one more was made
  pub goes_on : (x : A) (rest : Result (List A) Fault) → now ≡ (rest >>= λ xs. Ok (x ∷ xs)) → with_front (front ++ x ∷ []) rest ≡ total
  goes_on x rest is = sym (regroup front x rest) ∙ ap (with_front front) (sym is) ∙ so_far

  -- one has a fault
  pub ends : (fault : TextFault) → Fails fault now → Fails fault total
  ends faults.Memory h = tt
  ends (faults.Bad offset code) h = sym so_far ∙ ap (with_front front) h

  -- all were made
  pub is_done : now ≡ Ok [] → total ≡ Ok front
  is_done h = sym so_far ∙ ap (with_front front) h ∙ ap Ok (append-nil front)

-- a step that fails
pub fails_then : {A B : Type 0} (fault : TextFault) (r : Result A Fault) (f : A → Result B Fault) → Fails fault r → Fails fault (r >>= f)
fails_then faults.Memory r f h = tt
fails_then (faults.Bad offset code) r f h = ap (λ s. s >>= f) h
