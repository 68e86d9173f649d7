-- The inputs of each cycle: cut, they are as many lists as there are cycles, each fits, and joined they are the whole.
use Rattle.std.proofs.Common.{◌≡◌, ℕ, zero, suc, List, [], ◌∷◌, ◌++◌, length, take, drop, refl, ap, ◌∙◌}
use Rattle.std.specs.Prelude.{flat_map}
use Rattle.std.specs.List.{AllByRecursion, AllZip}
use Rattle.std.proofs.lemmas.List.{take-append-drop}
use Rattle.bd_model.specs.DesignView.{DesignView, PortView}
use Rattle.bd_model.specs.Fits.{Fits, TrailFits, scalar_sort}
use Rattle.bd_model.specs.declared.case.Case.{Case}
use Rattle.bd_symbolic.specs.Widened.{case_of_trail, cut, repeated, trail_of, widened}
use Rattle.bd_symbolic.proofs.Widening.{interp-narrowed}

pub length-cut : {X : Type 0} → (n width : ℕ) (xs : List X) → length (cut n width xs) ≡ n
length-cut zero width xs = refl
length-cut (suc n) width xs = ap suc (length-cut n width (drop width xs))

-- the first part of a list that goes with two, and the rest
split-first : {X Y : Type 0} → (R : X → Y → Type 0) (xs zs : List X) (ys : List Y) → AllZip R (xs ++ zs) ys → AllZip R xs (take (length xs) ys)
split-first R [] zs ys h = tt
split-first R (x ∷ xs) zs [] h = absurd h
split-first R (x ∷ xs) zs (y ∷ ys) h = (h.0, split-first R xs zs ys h.1)

split-rest : {X Y : Type 0} → (R : X → Y → Type 0) (xs zs : List X) (ys : List Y) → AllZip R (xs ++ zs) ys → AllZip R zs (drop (length xs) ys)
split-rest R [] zs ys h = h
split-rest R (x ∷ xs) zs [] h = absurd h
split-rest R (x ∷ xs) zs (y ∷ ys) h = split-rest R xs zs ys h.1

cut-each : {X Y : Type 0} → (R : X → Y → Type 0) (n : ℕ) (xs : List X) (ys : List Y) → AllZip R (repeated n xs) ys → AllByRecursion (AllZip R xs) (cut n (length xs) ys)
cut-each R zero xs ys h = tt
cut-each R (suc n) xs ys h = (split-first R xs (repeated n xs) ys h, cut-each R n xs (drop (length xs) ys) (split-rest R xs (repeated n xs) ys h))

cut-joined : {X Y : Type 0} → (R : X → Y → Type 0) (n : ℕ) (xs : List X) (ys : List Y) → AllZip R (repeated n xs) ys → flat_map (λ l. l) (cut n (length xs) ys) ≡ ys
cut-joined R zero xs [] h = refl
cut-joined R zero xs (y ∷ ys) h = absurd h
cut-joined R (suc n) xs ys h =
    ap (λ l. take (length xs) ys ++ l) (cut-joined R n xs (drop (length xs) ys) (split-rest R xs (repeated n xs) ys h)) ∙ take-append-drop (length xs) ys

module _ (d : DesignView) (cycles : ℕ) (c : Case) (fits : Fits (widened d cycles) c) where
  pub cut-fits : TrailFits d (trail_of cycles (length d.pipe.ports) c)
  cut-fits = record {
    interp = interp-narrowed d cycles c.interp fits.interp;
    state = fits.state;
    inputs = cut-each (λ (p : PortView) x. scalar_sort x ≡ p.sort) cycles d.pipe.ports c.inputs fits.inputs;
  }

  -- it is the case again
  pub cut-again : case_of_trail (trail_of cycles (length d.pipe.ports) c) ≡ c
  cut-again =
      let whole = cut-joined (λ (p : PortView) x. scalar_sort x ≡ p.sort) cycles d.pipe.ports c.inputs fits.inputs in
      λ i. record { interp = c.interp; state = c.state; inputs = whole i }
