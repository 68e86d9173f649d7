-- The inputs of a cycle, where there are no more of them.
use Rattle.std.proofs.Common.{◌≡◌, ℕ, List, [], ◌∷◌, ◌++◌, map, refl, sym, ap, ◌∙◌, inl, inr, ◌⊎◌}
use Rattle.std.proofs.lemmas.List.{append-nil}
use Rattle.bd_model.specs.DesignView.{port_view}
use Rattle.bd_model.specs.declared.design.Port.{Port}
use Rattle.bd_model.specs.declared.table.Scalar.{Scalar}
use Rattle.bd_show.specs.Trails.{inputs_text}

none_left : (ports : List Port) (inputs : List Scalar) → (ports ≡ []) ⊎ (inputs ≡ []) → inputs_text (map port_view ports) inputs ≡ []
none_left [] inputs empty = refl
none_left (p ∷ ports) [] empty = refl
none_left (p ∷ ports) (x ∷ inputs) (inl empty) = absurd (cc)
none_left (p ∷ ports) (x ∷ inputs) (inr empty) = absurd (cc)

-- where no port or no input is left, the text is whole
pub inputs_end : (out : List ℕ) (ports : List Port) (inputs : List Scalar) (total : List ℕ) → (ports ≡ []) ⊎ (inputs ≡ []) → out ++ inputs_text (map port_view ports) inputs ≡ total → out ≡ total
inputs_end out ports inputs total empty is = sym (append-nil out) ∙ sym (ap (λ rest. out ++ rest) (none_left ports inputs empty)) ∙ is
