-- A lawful design's symbols are lawful, and so are those of a widened one; a trail that fits is a case that fits the
-- widened design; and once is as the design is.
use Rattle.std.proofs.Common.{◌≡◌, ◌≢◌, ℕ, zero, suc, ◌+◌, ◌*◌, ◌<◌, ◌≤◌, inl, inr, Option, None, Some, List, [], ◌∷◌, ◌++◌, length, refl, ap, sym, ◌∙◌, subst, append-nil, arith}
use Rattle.std.specs.Prelude.{flat_map, slice_get}
use Rattle.std.specs.List.{AllByRecursion, AllZip}
use Rattle.bd_model.specs.DesignView.{DesignView, PortView}
use Rattle.bd_model.specs.Fits.{Fits, InterpFits, ScalarsFit, TrailFits, scalar_sort}
use Rattle.bd_model.specs.Lawful.{IsLawful, IsLawfulGroup, IsLawfulPort}
use Rattle.bd_model.specs.declared.case.Trail.{Trail}
use Rattle.bd_model.specs.declared.design.Sort.TheVariants as sort
use Rattle.bd_model.specs.declared.table.Scalar.{Scalar}
use Rattle.bd_model.specs.declared.table.Table.{Table}
use Rattle.bd_terms.specs.declared.node.Node.{Node}
use Rattle.bd_terms.specs.declared.node.Sym.{Sym}
use Rattle.bd_terms.specs.declared.node.Sym.TheVariants as symbol
use Rattle.bd_terms.specs.Graph.{Use}
use Rattle.bd_symbolic.specs.DesignSymbols.{GrowsWithin, IsDeclared, KeepsDesign, declared_use, port_use}
use Rattle.bd_symbolic.specs.Widened.{HasLawfulSymbols, case_of_trail, repeated, widened}
use Rattle.bd_terms.proofs.Places.{get-front}

pub AllByRecursion-weaker : {X : Type 0} → (P Q : X → Type 0) → ((x : X) → P x → Q x) → (xs : List X) → AllByRecursion P xs → AllByRecursion Q xs
AllByRecursion-weaker P Q f [] h = tt
AllByRecursion-weaker P Q f (x ∷ xs) h = (f x h.0, AllByRecursion-weaker P Q f xs h.1)

AllByRecursion-append : {X : Type 0} → (P : X → Type 0) (xs ys : List X) → AllByRecursion P xs → AllByRecursion P ys → AllByRecursion P (xs ++ ys)
AllByRecursion-append P [] ys h k = k
AllByRecursion-append P (x ∷ xs) ys h k = (h.0, AllByRecursion-append P xs ys h.1 k)

AllZip-joined : {X Y : Type 0} → (R : X → Y → Type 0) (xs zs : List X) (ys ws : List Y) → AllZip R xs ys → AllZip R zs ws → AllZip R (xs ++ zs) (ys ++ ws)
AllZip-joined R [] zs [] ws h k = k
AllZip-joined R [] zs (y ∷ ys) ws h k = absurd h
AllZip-joined R (x ∷ xs) zs [] ws h k = absurd h
AllZip-joined R (x ∷ xs) zs (y ∷ ys) ws h k = (h.0, AllZip-joined R xs zs ys ws h.1 k)

-- what holds of each item holds of it each time
repeated-each : {X : Type 0} → (P : X → Type 0) (n : ℕ) (xs : List X) → AllByRecursion P xs → AllByRecursion P (repeated n xs)
repeated-each P zero xs h = tt
repeated-each P (suc n) xs h = AllByRecursion-append P xs (repeated n xs) h (repeated-each P n xs h)

pub lawful-symbols : (d : DesignView) → IsLawful d → HasLawfulSymbols d
lawful-symbols d lawful = record {
  inputs = AllByRecursion-weaker (IsLawfulPort d) (λ (p : PortView). p.sort ≢ sort.Memory) (λ p h. h.sort) d.pipe.ports lawful.ports;
  distinct = lawful.distinct;
}

pub widened-symbols : (d : DesignView) (cycles : ℕ) → HasLawfulSymbols d → HasLawfulSymbols (widened d cycles)
widened-symbols d cycles h = record {
  inputs = repeated-each (λ (p : PortView). p.sort ≢ sort.Memory) cycles d.pipe.ports h.inputs;
  distinct = AllByRecursion-weaker (IsLawfulGroup d) (IsLawfulGroup (widened d cycles))
      (λ group k. record { two = k.two; different = k.different; constants = k.constants; short = k.short }) d.distinct h.distinct;
}

-- inputs of one cycle are the design's own
pub widened-once : (d : DesignView) → widened d 1 ≡ d
widened-once d = ap (λ ports. record d { pipe = record (d.pipe) { ports = ports } }) (append-nil d.pipe.ports)

joined-fit : (ports : List PortView) (inputs : List (List Scalar)) → AllByRecursion (ScalarsFit ports) inputs → ScalarsFit (repeated (length inputs) ports) (flat_map (λ xs. xs) inputs)
joined-fit ports [] h = tt
joined-fit ports (xs ∷ inputs) h =
    AllZip-joined (λ (p : PortView) x. scalar_sort x ≡ p.sort) ports (repeated (length inputs) ports) xs (flat_map (λ xs. xs) inputs) h.0 (joined-fit ports inputs h.1)

pub interp-widened : (d : DesignView) (cycles : ℕ) (interp : List Table) → InterpFits d interp → InterpFits (widened d cycles) interp
interp-widened d cycles interp h = record { tables = h.tables; apart = h.apart }

pub interp-narrowed : (d : DesignView) (cycles : ℕ) (interp : List Table) → InterpFits (widened d cycles) interp → InterpFits d interp
interp-narrowed d cycles interp h = record { tables = h.tables; apart = h.apart }

get-back : {X : Type 0} → (xs ys : List X) (i : ℕ) → slice_get (xs ++ ys) (length xs + i) ≡ slice_get ys i
get-back [] ys i = let e : 0 + i ≡ i = omega arith in ap (slice_get ys) e
get-back (z ∷ xs) ys i =
    let e : suc (length xs) + i ≡ suc (length xs + i) = omega arith in ap (slice_get (z ∷ xs ++ ys)) e ∙ get-back xs ys i

-- an item stands at its place each time
pub repeated-there : {X : Type 0} → (n t : ℕ) (xs : List X) (i : ℕ) (x : X) → t < n → slice_get xs i ≡ Some x → slice_get (repeated n xs) (t * length xs + i) ≡ Some x
repeated-there zero t xs i x below there = absurd (omega (arith, below))
repeated-there (suc n) zero xs i x below there =
    let e : 0 * length xs + i ≡ i = omega arith in ap (slice_get (xs ++ repeated n xs)) e ∙ get-front xs (repeated n xs) i x there
repeated-there (suc n) (suc t) xs i x below there =
    let e : suc t * length xs + i ≡ length xs + (t * length xs + i) = omega arith in
    ap (slice_get (xs ++ repeated n xs)) e ∙ get-back xs (repeated n xs) (t * length xs + i) ∙ repeated-there n t xs i x (omega (arith, below)) there

get-joined : {X : Type 0} → (xs ys zs : List X) (x : X) → ((j : ℕ) → slice_get ys j ≡ Some x → slice_get zs j ≡ Some x) → (i : ℕ) → slice_get (xs ++ ys) i ≡ Some x → slice_get (xs ++ zs) i ≡ Some x
get-joined [] ys zs x h i there = h i there
get-joined (z ∷ xs) ys zs x h zero there = there
get-joined (z ∷ xs) ys zs x h (suc i) there = get-joined xs ys zs x h i there

-- what stands in fewer times stands in more
repeated-more : {X : Type 0} → (n m : ℕ) (xs : List X) (x : X) → n ≤ m → (i : ℕ) → slice_get (repeated n xs) i ≡ Some x → slice_get (repeated m xs) i ≡ Some x
repeated-more zero m xs x few i there = absurd (cc there)
repeated-more (suc n) zero xs x few i there = absurd (omega (arith, few))
repeated-more (suc n) (suc m) xs x few i there = get-joined xs (repeated n xs) (repeated m xs) x (λ j k. repeated-more n m xs x (omega (arith, few)) j k) i there

-- a symbol of the design over some cycles is one over more
pub widened-declared : (d : DesignView) (n m : ℕ) (u : Use) → n ≤ m → IsDeclared (widened d n) u → IsDeclared (widened d m) u
widened-declared d n m u few is = by_symbol u.symbol is where
  by_port : (i : ℕ) (o : Option PortView) → slice_get (repeated n d.pipe.ports) i ≡ o → port_use i o ≡ Some u → port_use i (slice_get (repeated m d.pipe.ports) i) ≡ Some u
  by_port i None e h = absurd (cc h)
  by_port i (Some p) e h = ap (port_use i) (repeated-more n m d.pipe.ports p few i e) ∙ h

  by_symbol : (s : Sym) → declared_use (widened d n) s ≡ Some u → declared_use (widened d m) s ≡ Some u
  by_symbol (symbol.Function f) h = h
  by_symbol (symbol.Entry i) h = h
  by_symbol (symbol.Input i) h = by_port i (slice_get (repeated n d.pipe.ports) i) refl h
  by_symbol (symbol.Address i) h = h
  by_symbol (symbol.Var i) h = h

-- so a graph that keeps those of more keeps those of fewer, and one that grows by those of fewer grows by those of more
pub KeepsDesign-fewer : (d : DesignView) (n m : ℕ) (nodes : List Node) → n ≤ m → KeepsDesign (widened d m) nodes → KeepsDesign (widened d n) nodes
KeepsDesign-fewer d n m nodes few h = record { keeps = λ u is. h.keeps u (widened-declared d n m u few is) }

pub GrowsWithin-more : (d : DesignView) (n m : ℕ) (old new : List Node) → n ≤ m → GrowsWithin (widened d n) old new → GrowsWithin (widened d m) old new
GrowsWithin-more d n m old new few h = record {
  extends = h.extends;
  within = λ u p. elim (h.within u p) [ inl k ↦ inl k | inr k ↦ inr (widened-declared d n m u few k) ];
}

-- the design's own symbols are among those over one cycle or more
pub KeepsDesign-own : (d : DesignView) (n : ℕ) (nodes : List Node) → 1 ≤ n → KeepsDesign (widened d n) nodes → KeepsDesign d nodes
KeepsDesign-own d n nodes some h = subst (λ e. KeepsDesign e nodes) (widened-once d) (KeepsDesign-fewer d 1 n nodes some h)

pub GrowsWithin-own : (d : DesignView) (n : ℕ) (old new : List Node) → 1 ≤ n → GrowsWithin d old new → GrowsWithin (widened d n) old new
GrowsWithin-own d n old new some h = GrowsWithin-more d 1 n old new some (subst (λ e. GrowsWithin e old new) (sym (widened-once d)) h)

-- a trail that fits is a case that fits
pub trail-fits : (d : DesignView) (t : Trail) → TrailFits d t → Fits (widened d (length t.inputs)) (case_of_trail t)
trail-fits d t h = record {
  interp = interp-widened d (length t.inputs) t.interp h.interp;
  state = h.state;
  inputs = joined-fit d.pipe.ports t.inputs h.inputs;
}
