use Rattle.std.proofs.Common.{◌≡◌, ℕ, List, [], ◌∷◌, length, Option, Ok, refl, inl, inr, ◌⊎◌, arith}
use Rattle.std.specs.Prelude.{IfOk}
use Rattle.std.specs.Iterator.Adapters.{zip_first, zip_second}
use Rattle.std.specs.Slice.Iter.{iter_rest}
use Rattle.std.specs.Vec.Iter.{into_iter_items}
use Rattle.std.proofs.lemmas.List.{nil_from_length}
use Rattle.bd_syntax.specs.Reading.{◌>>=◌}
use Rattle.bd_syntax.proofs.Results.{holds_then, anything}
use Rattle.bd_model.specs.declared.table.Table.{Table}
use Rattle.bd_case.specs.Reading.{given_or, whole_form}
use Rattle.bd_case.specs.declared.kind.EntryKind.{EntryKind}
use Rattle.bd_case.proofs.TwoLists.{whole_end}
use Rattle.bd_case.proofs.whole.whole.Goals as goal

whole_count : (offset : ℕ) (ks : List EntryKind) (given : List (Option Table)) → length given ≡ length ks → IfOk (whole_form offset ks given) (λ ts. length ts ≡ length ks)
whole_count offset [] given e = refl
whole_count offset (k ∷ ks) [] e = absurd (omega arith)
whole_count offset (k ∷ ks) (g ∷ given) e =
    holds_then (λ _. Unit {0}) (λ ts. length ts ≡ length (k ∷ ks)) (given_or offset k g) (λ t. whole_form offset ks given >>= λ ts. Ok (t ∷ ts)) (anything (given_or offset k g))
    (λ t h. holds_then (λ ts. length ts ≡ length ks) (λ ts. length ts ≡ length (k ∷ ks)) (whole_form offset ks given) (λ ts. Ok (t ∷ ts)) (whole_count offset ks given (omega arith)) (λ ts n. omega arith))

pub returns-clause-whole : goal.returns-clause-whole
returns-clause-whole c =
    let ks = iter_rest (zip_first c.loop-kind.kind-iterator) in
    let given = into_iter_items (zip_second c.loop-kind.kind-iterator) in
    let done : (ks ≡ []) ⊎ (given ≡ []) = elim c.in-None.ensures.steps [
      | inl a ↦ inl (nil_from_length ks a.1.0)
      | inr b ↦ inr (nil_from_length given (omega (arith, b.1.0, c.loop-kind.invariant.sized)))
    ] in
    whole_end c.args.offset ks given c.loop-kind.tables.items _ done c.loop-kind.invariant.read

pub returns-clause-count : goal.returns-clause-count
returns-clause-count c =
    let ks = iter_rest (zip_first c.loop-kind.kind-iterator) in
    let given = into_iter_items (zip_second c.loop-kind.kind-iterator) in
    let done : (ks ≡ []) ⊎ (given ≡ []) = elim c.in-None.ensures.steps [
      | inl a ↦ inl (nil_from_length ks a.1.0)
      | inr b ↦ inr (nil_from_length given (omega (arith, b.1.0, c.loop-kind.invariant.sized)))
    ] in
    let read : whole_form c.args.offset c.args.kinds.now c.args.given.items ≡ Ok c.loop-kind.tables.items =
    whole_end c.args.offset ks given c.loop-kind.tables.items _ done c.loop-kind.invariant.read in
    rw read at (whole_count c.args.offset c.args.kinds.now c.args.given.items c.requires)
