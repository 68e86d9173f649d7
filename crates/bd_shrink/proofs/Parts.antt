-- What is left of a case is a part of it.
use Rattle.std.proofs.Common.{ℕ, List, [], ◌∷◌, ◌++◌, drop, refl, inl, inr}
use Rattle.std.specs.List.{AllZip}
use Rattle.bd_model.specs.declared.table.Scalar.{Scalar}
use Rattle.bd_model.specs.declared.table.Row.{Row}
use Rattle.bd_model.specs.declared.table.Table.{Table}
use Rattle.bd_model.specs.declared.table.Slot.{Slot}
use Rattle.bd_model.specs.declared.table.Value.{Value}
use Rattle.bd_model.specs.declared.table.Value.TheVariants as value
use Rattle.bd_shrink.specs.Remnant.{after_each, after_one, after_table, after_value, each_left, first_fate, row_left, scalar_left, slot_left, table_left, value_left, word_left, zero_of}
use Rattle.bd_shrink.specs.Part.{AreSomeOf, IsRowPart, IsScalarPart, IsSlotPart, IsTablePart, IsValuePart, IsWordPart, RemnantIsPart, goes, none, stays}
use Rattle.bd_shrink.specs.declared.fate.Fate.{Fate}
use Rattle.bd_shrink.specs.declared.fate.Fate.TheVariants.{Stays, Zero, Gone}

scalar_part : (f : Fate) (x : Scalar) → IsScalarPart x (scalar_left f x)
scalar_part Stays x = inl refl
scalar_part Zero x = inr refl
scalar_part Gone x = inr refl

word_part : (f : Fate) (n : ℕ) → IsWordPart n (word_left f n)
word_part Stays n = inl refl
word_part Zero n = inr refl
word_part Gone n = inr refl

-- a row more
row_part : (f : Fate) (r : Row) (rows left : List Row) → AreSomeOf IsRowPart rows left → AreSomeOf IsRowPart (r ∷ rows) (row_left f r ++ left)
row_part Stays r rows left h = stays r r rows left (record { args = refl; value = inl refl }) h
row_part Zero r rows left h = stays r (record { args = r.args; value = zero_of r.value }) rows left (record { args = refl; value = inr refl }) h
row_part Gone r rows left h = goes r rows left h

slot_part : (f : Fate) (s : Slot) (rows left : List Slot) → AreSomeOf IsSlotPart rows left → AreSomeOf IsSlotPart (s ∷ rows) (slot_left f s ++ left)
slot_part Stays s rows left h = stays s s rows left (record { address = refl; value = inl refl }) h
slot_part Zero s rows left h = stays s (record { address = s.address; value = 0 }) rows left (record { address = refl; value = inr refl }) h
slot_part Gone s rows left h = goes s rows left h

-- rows of which some go
some_left : {X : Type 0} (IsPart : X → X → Type 0) (left : Fate → X → List X)
    → ((f : Fate) (x : X) (xs ys : List X) → AreSomeOf IsPart xs ys → AreSomeOf IsPart (x ∷ xs) (left f x ++ ys)) → (fates : List Fate) (xs : List X)
    → AreSomeOf IsPart xs (each_left (λ (fs : List Fate) (x : X). left (first_fate fs) x) after_one fates xs)
some_left IsPart left more fates [] = none
some_left IsPart left more fates (x ∷ xs) =
    more (first_fate fates) x xs (each_left (λ (fs : List Fate) (y : _). left (first_fate fs) y) after_one (after_one fates x) xs) (some_left IsPart left more (after_one fates x) xs)

-- items of which none goes
all_left : {X : Type 0} (IsPart : X → X → Type 0) (left : List Fate → X → X) (after : List Fate → X → List Fate) → ((fs : List Fate) (x : X) → IsPart x (left fs x)) → (fates : List Fate) (xs : List X)
    → AllZip IsPart xs (each_left (λ (fs : List Fate) (x : X). left fs x ∷ []) after fates xs)
all_left IsPart left after part fates [] = tt
all_left IsPart left after part fates (x ∷ xs) = (part fates x, all_left IsPart left after part (after fates x) xs)

table_part : (fates : List Fate) (t : Table) → IsTablePart t (table_left fates t)
table_part fates t = record {
  default = scalar_part (first_fate fates) t.default;
  rows = some_left IsRowPart row_left row_part (drop 1 fates) t.rows;
}

value_part : (fates : List Fate) (v : Value) → IsValuePart v (value_left fates v)
value_part fates (value.Scalar x) = scalar_part (first_fate fates) x
value_part fates (value.Memory m) = record {
  default = word_part (first_fate fates) m.default;
  rows = some_left IsSlotPart slot_left slot_part (drop 1 fates) m.rows;
}

pub part_left : RemnantIsPart
part_left fates c =
    let state_fates = after_each after_table fates c.interp in
    let input_fates = after_each after_value state_fates c.state in
    record {
      interp = all_left IsTablePart table_left after_table table_part fates c.interp;
      state = all_left IsValuePart value_left after_value value_part state_fates c.state;
      inputs = all_left IsScalarPart (λ (fs : List Fate) (x : Scalar). scalar_left (first_fate fs) x) after_one (λ fs x. scalar_part (first_fate fs) x) input_fates c.inputs;
    }
