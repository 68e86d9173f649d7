-- Entries of a flat formula's symbols.
use Rattle.std.proofs.Common.{◌≡◌, ℕ, List, slice_get, Contains, ap, sym, ◌∙◌}
use Rattle.std.proofs.lemmas.Option.{same_Some}
use Rattle.bd_terms.specs.declared.node.Node.{Node}
use Rattle.bd_function.specs.declared.flat.FlatSym.{FlatSym}
use Rattle.bd_transitive.proofs.OrderSpans.{at_from_Contains}
use Rattle.bd_function.specs.Flat.{IsFlat}

-- one symbol has one entry
pub one-entry : (nodes : List Node) (root : ℕ) (syms : List FlatSym) → IsFlat nodes root syms → (s t : FlatSym) → Contains syms s → Contains syms t → s.sym ≡ t.sym → s ≡ t
one-entry nodes root syms flat s t p q e =
    let a = at_from_Contains syms s p in
    let b = at_from_Contains syms t q in
    let same : a.0 ≡ b.0 = flat.once a.0 b.0 s t a.1 b.1 e in
    same_Some s t (sym a.1 ∙ ap (slice_get syms) same ∙ b.1)
