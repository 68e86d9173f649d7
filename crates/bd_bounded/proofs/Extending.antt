-- A trail that breaks before its time is up extends to one of just so many cycles, which breaks first in the same cycle.
use Rattle.std.proofs.Common.{◌≡◌, ◌≢◌, ℕ, zero, suc, ◌+◌, ◌-◌, ◌<◌, ◌≤◌, false, List, [], ◌∷◌, ◌++◌, map, length, take, refl, ap, sym, ◌∙◌, subst, arith, length-append}
use Rattle.std.specs.Prelude.{slice_index_or}
use Rattle.std.specs.List.{AllByRecursion}
use Rattle.bd_model.specs.DesignView.{DesignView, PortView}
use Rattle.bd_model.specs.Conditions.{Commutes}
use Rattle.bd_model.specs.Cycle.{after, inputs_at, state_after}
use Rattle.bd_model.specs.Fits.{InputsFit, ScalarsFit, TrailFits, scalar_sort}
use Rattle.bd_model.specs.Lawful.{IsLawful, IsLawfulPort}
use Rattle.bd_model.specs.TrailJudged.{BreaksFirst, CycleCommutes}
use Rattle.bd_model.specs.declared.case.Trail.{Trail}
use Rattle.bd_model.specs.declared.design.Sort.{Sort}
use Rattle.bd_model.specs.declared.design.Sort.TheVariants as sort
use Rattle.bd_model.specs.declared.table.Scalar.{Scalar}
use Rattle.bd_model.specs.declared.table.Scalar.TheVariants as scalar
use Rattle.bd_goal.specs.Bounded.{IsBroken, IsTrailOver}

-- some scalar of a sort
abbrev some_scalar : Sort → Scalar
some_scalar sort.Bool = scalar.Bool false
some_scalar sort.Word = scalar.Word 0
some_scalar sort.Memory = scalar.Word 0

abbrev some_inputs : List PortView → List Scalar
some_inputs ports = map (λ (p : PortView). some_scalar p.sort) ports

some-sort : (s : Sort) → s ≢ sort.Memory → scalar_sort (some_scalar s) ≡ s
some-sort sort.Bool h = refl
some-sort sort.Word h = refl
some-sort sort.Memory h = absurd (h refl)

some-fit : (d : DesignView) (ports : List PortView) → AllByRecursion (IsLawfulPort d) ports → ScalarsFit ports (some_inputs ports)
some-fit d [] h = tt
some-fit d (p ∷ ports) h = (some-sort p.sort h.0.sort, some-fit d ports h.1)

-- so many times the same inputs
abbrev filling : DesignView → ℕ → List (List Scalar)
filling d zero = []
filling d (suc n) = some_inputs d.pipe.ports ∷ filling d n

filling-length : (d : DesignView) (n : ℕ) → length (filling d n) ≡ n
filling-length d zero = refl
filling-length d (suc n) = ap suc (filling-length d n)

filling-fits : (d : DesignView) (n : ℕ) → IsLawful d → AllByRecursion (InputsFit d) (filling d n)
filling-fits d zero lawful = tt
filling-fits d (suc n) lawful = (some-fit d d.pipe.ports lawful.ports, filling-fits d n lawful)

joined-all : {X : Type 0} → (P : X → Type 0) (xs ys : List X) → AllByRecursion P xs → AllByRecursion P ys → AllByRecursion P (xs ++ ys)
joined-all P [] ys h k = k
joined-all P (x ∷ xs) ys h k = (h.0, joined-all P xs ys h.1 k)

take-front : {X : Type 0} → (xs ys : List X) (n : ℕ) → n ≤ length xs → take n (xs ++ ys) ≡ take n xs
take-front xs ys zero h = refl
take-front [] ys (suc n) h = absurd (omega (arith, h))
take-front (x ∷ xs) ys (suc n) h = ap (λ l. x ∷ l) (take-front xs ys n (omega (arith, h)))

front-there : {X : Type 0} → (xs ys : List X) (n : ℕ) (d : X) → n < length xs → slice_index_or (xs ++ ys) n d ≡ slice_index_or xs n d
front-there [] ys n d h = absurd (omega (arith, h))
front-there (x ∷ xs) ys zero d h = refl
front-there (x ∷ xs) ys (suc n) d h = front-there xs ys n d (omega (arith, h))

-- the trail with inputs more
abbrev extended : Trail → List (List Scalar) → Trail
extended t more = record { interp = t.interp; state = t.state; inputs = t.inputs ++ more }

-- what is true of a cycle of it is true of the trail's
same-cycle : (d : DesignView) (t : Trail) (more : List (List Scalar)) (n : ℕ) → n < length t.inputs → CycleCommutes d (extended t more) n ≡ CycleCommutes d t n
same-cycle d t more n within =
    ap (λ l. Commutes d t.interp (after d t.interp t.state l) (inputs_at (extended t more) n)) (take-front t.inputs more n (omega (arith, within)))
    ∙ ap (λ l. Commutes d t.interp (state_after d t n) l) (front-there t.inputs more n [] within)

breaks-extended : (d : DesignView) (t : Trail) (more : List (List Scalar)) (n : ℕ) → BreaksFirst d t n → BreaksFirst d (extended t more) n
breaks-extended d t more n h = record {
  within = longer (length t.inputs) (length more) n h.within (length-append t.inputs more);
  broken = λ k. h.broken (subst (λ T. T) (same-cycle d t more n h.within) k);
  earlier = λ m below. subst (λ T. T) (sym (same-cycle d t more m (omega (arith, below, h.within)))) (h.earlier m below);
} where
  longer : {whole : ℕ} (a b n : ℕ) → n < a → whole ≡ a + b → n < whole
  longer a b n h e = omega (arith, h, e)

-- a fitting trail of fewer cycles that is broken extends to one of so many
pub broken-extends : (d : DesignView) (cycles : ℕ) (t : Trail) → IsLawful d → TrailFits d t → length t.inputs ≤ cycles → IsBroken d t → (u : Trail) × IsTrailOver d cycles u × IsBroken d u
broken-extends d cycles t lawful fits few (cycle, (inside, (n, is, breaks))) =
    let more = filling d (cycles - length t.inputs) in (
      extended t more,
      record {
        fits = record { interp = fits.interp; state = fits.state; inputs = joined-all (InputsFit d) t.inputs more fits.inputs (filling-fits d (cycles - length t.inputs) lawful) };
        counted = length-append t.inputs more ∙ ap (λ k. length t.inputs + k) (filling-length d (cycles - length t.inputs)) ∙ whole (length t.inputs) cycles few;
      },
      (cycle, (inside, (n, is, breaks-extended d t more n breaks))),
    ) where
      whole : (a b : ℕ) → a ≤ b → a + (b - a) ≡ b
      whole a b h = omega (arith, h)
