-- The classes of the ends of the first edges.
use Rattle.std.proofs.Common.{◌≡◌, ℕ, ◌+◌, ◌==◌, ◌||◌, Bool, true, false, if◌then◌else◌, List, [], ◌∷◌, take, slice_get, Option, Some, None, refl, ap, sym, ◌∙◌}
use Rattle.std.proofs.lemmas.Bool.{eqb-true}
use Rattle.std.proofs.lemmas.List.Folds.{list_any-append}
use Rattle.bd_transitive.specs.declared.graph.Edge.{Edge}
use Rattle.bd_lift.specs.Decoded.{is_end}
use Rattle.bd_lift.proofs.Numbered.{take-get}

by-tests : (a b t : Bool) (ca cb cx : ℕ) (old : Option ℕ) → (a ≡ true → ca ≡ cx) → (b ≡ true → cb ≡ cx) → old ≡ (if t then Some cx else None)
    → (if a then Some ca else (if b then Some cb else old)) ≡ (if t || ((b || a) || false) then Some cx else None)
by-tests true b true ca cb cx old f g h = ap Some (f refl)
by-tests true true false ca cb cx old f g h = ap Some (f refl)
by-tests true false false ca cb cx old f g h = ap Some (f refl)
by-tests false true true ca cb cx old f g h = ap Some (g refl)
by-tests false true false ca cb cx old f g h = ap Some (g refl)
by-tests false false true ca cb cx old f g h = h
by-tests false false false ca cb cx old f g h = h

-- both ends of an edge more
pub ends-more : (edges : List Edge) (i : ℕ) (e : Edge) → slice_get edges i ≡ Some e → (class : ℕ → ℕ) (x : ℕ) (old : Option ℕ) → old ≡ (if is_end (take i edges) x then Some (class x) else None)
    → (if e.to == x then Some (class e.to) else (if e.from == x then Some (class e.from) else old)) ≡ (if is_end (take (i + 1) edges) x then Some (class x) else None)
ends-more edges i e at class x old h =
    let more : is_end (take (i + 1) edges) x ≡ (is_end (take i edges) x || (((e.from == x) || (e.to == x)) || false)) =
    ap (λ l. is_end l x) (take-get edges i e at) ∙ list_any-append (λ (d : Edge). (d.from == x) || (d.to == x)) (take i edges) (e ∷ []) in
    by-tests (e.to == x) (e.from == x) (is_end (take i edges) x) (class e.to) (class e.from) (class x) old (λ p. ap class (eqb-true e.to x p)) (λ p. ap class (eqb-true e.from x p)) h
    ∙ sym (ap (λ b. if b then Some (class x) else None) more)
