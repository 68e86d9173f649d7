-- The inputs of each cycle, as they are cut one after another.
use Rattle.std.proofs.Common.{◌≡◌, ℕ, zero, suc, ◌+◌, ◌*◌, ◌<◌, List, [], ◌∷◌, ◌++◌, length, take, drop, refl, ap, sym, ◌∙◌, subst, append_assoc, arith}
use Rattle.std.specs.List.{AllZip}
use Rattle.std.proofs.Math.Nat.{suc-mul}
use Rattle.std.proofs.lemmas.List.{length-drop}
use Rattle.bd_model.specs.DesignView.{DesignView, PortView}
use Rattle.bd_model.specs.Fits.{Fits, TrailFits, scalar_sort}
use Rattle.bd_model.specs.declared.case.Case.{Case}
use Rattle.bd_model.specs.declared.case.Trail.{Trail}
use Rattle.bd_model.specs.declared.table.Scalar.{Scalar}
use Rattle.bd_symbolic.specs.Widened.{case_of_trail, cut, repeated, trail_of, widened}
use Rattle.bd_symbolic.proofs.Cutting.{cut-again, cut-fits, length-cut}
use Rattle.bd_lift.proofs.Repeating.{length-repeated}

-- there are as many inputs as the cycles have together
pub length-zip : {X Y : Type 0} → (R : X → Y → Type 0) (xs : List X) (ys : List Y) → AllZip R xs ys → length ys ≡ length xs
length-zip R [] [] h = refl
length-zip R [] (y ∷ ys) h = absurd h
length-zip R (x ∷ xs) [] h = absurd h
length-zip R (x ∷ xs) (y ∷ ys) h = ap suc (length-zip R xs ys h.1)

-- a trail that is the case with its inputs cut
pub record IsCut (d : DesignView) (cycles : ℕ) (c : Case) (t : Trail) : Type 0 where
  pub fits : TrailFits d t
  pub counted : length t.inputs ≡ cycles
  pub again : case_of_trail t ≡ c

pub is-cut : (d : DesignView) (cycles width : ℕ) (c : Case) (t : Trail) → Fits (widened d cycles) c → width ≡ length d.pipe.ports → t ≡ trail_of cycles width c → IsCut d cycles c t
is-cut d cycles width c t fits same is =
    subst (IsCut d cycles c) (sym (is ∙ ap (λ n. trail_of cycles n c) same)) (record {
      fits = cut-fits d cycles c fits;
      counted = length-cut cycles (length d.pipe.ports) c.inputs;
      again = cut-again d cycles c fits;
    })

-- so many inputs has a case that fits
pub inputs-counted : (d : DesignView) (cycles width : ℕ) (c : Case) → Fits (widened d cycles) c → width ≡ length d.pipe.ports → length c.inputs ≡ cycles * width
inputs-counted d cycles width c fits same =
    length-zip (λ (p : PortView) x. scalar_sort x ≡ p.sort) (repeated cycles d.pipe.ports) c.inputs fits.inputs
    ∙ length-repeated cycles d.pipe.ports ∙ ap (λ n. cycles * n) (sym same)

-- what is left to cut
abbrev pub IsLeft : ℕ → ℕ → ℕ → List Scalar → List (List Scalar) → List Scalar → Type 0
IsLeft done cycles width inputs lists rest =
    (left : ℕ) × (done + left ≡ cycles) × (length rest ≡ left * width) × (lists ++ cut left width rest ≡ cut cycles width inputs)

pub left-more : (done cycles width : ℕ) (inputs : List Scalar) (lists : List (List Scalar)) (rest : List Scalar) → done < cycles → IsLeft done cycles width inputs lists rest
    → IsLeft (done + 1) cycles width inputs (lists ++ take width rest ∷ []) (drop width rest)
left-more done cycles width inputs lists rest more (zero, all, size, is) = absurd (omega (arith, all, more))
left-more done cycles width inputs lists rest more (suc n, all, size, is) = (
  n,
  omega (arith, all),
  let one = suc-mul n width in
      let gone = length-drop width rest in
      omega (arith, size, one, gone),
  append_assoc lists (take width rest ∷ []) (cut n width (drop width rest)) ∙ is,
)
