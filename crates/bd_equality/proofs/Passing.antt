-- Passes over rows, symbols and lists of words.
use Rattle.std.proofs.Common.{◌≡◌, ℕ, zero, suc, ◌+◌, ◌<◌, ◌≤◌, ◌⊎◌, inl, inr, Bool, true, false, List, [], ◌∷◌, ◌++◌, Option, None, Some, Bor, IfSome, MatchOption, get_or, option_copied, length, map, take, slice_get, slice_index_or, refl, ap, sym, ◌∙◌, subst, arith, append_assoc}
use Rattle.std.proofs.Math.Seq.{get_or-append_seam}
use Rattle.std.specs.Option.{option_flatten, unwrap_or}
use Rattle.std.proofs.lemmas.Bool.{cases_lt, false≢true}
use Rattle.std.proofs.lemmas.List.{get_or_append_left, get_or_past, length_push, map-append, take_all}
use Rattle.std.proofs.lemmas.Option.{none-some, same_Some, slice_get-get_or, slice_get_past, slice_get_read, slice_get_within}
use Rattle.bd_list.proofs.Numbers.{below_last}
use Rattle.bd_model.specs.declared.design.Sort.TheVariants as sort
use Rattle.bd_terms.specs.declared.node.Node.{Node}
use Rattle.bd_terms.specs.declared.node.Node.TheVariants.{Not, And, Or, Ite, Eq}
use Rattle.bd_function.specs.declared.flat.FlatRow.{FlatRow}
use Rattle.bd_function.specs.declared.flat.FlatSym.{FlatSym}
use Rattle.bd_equality.specs.declared.rows.Tail.{Tail}
use Rattle.bd_equality.specs.declared.wanted.Visit.{Visit}
use Rattle.bd_equality.specs.declared.wanted.Visit.TheVariants.{Enter}
use Rattle.bd_equality.specs.declared.wanted.RowPair.{RowPair}
use Rattle.bd_equality.specs.declared.wanted.Wanted.TheVariants.{Equation}
use Rattle.bd_equality.specs.declared.wanted.Way.TheVariants as way
use Rattle.bd_equality.specs.declared.wanted.Way.{Way as TheWay}
use Rattle.bd_equality.specs.Encoding.{IsVariable, has_mark}
use Rattle.bd_equality.specs.Made.{IsMarkedSymbol}
use Rattle.bd_equality.specs.inner.Rows.{AreMarkedSymbols, AreTails, IsTail}
use Rattle.bd_equality.specs.inner.Split.{StandBefore, between, equations, node_parts, parts}

-- the words before one
pub before_of : (xs : List ℕ) (id : ℕ) → ((k x : ℕ) → slice_get xs k ≡ Some x → x < id) → StandBefore xs id
before_of [] id h = tt
before_of (x ∷ xs) id h = (h 0 x refl, before_of xs id (λ k y e. h (suc k) y e))

-- the first rows have marked words
pub record AreMarkedRows (nodes : List Node) (marked : Option (List ℕ)) (rows : List FlatRow) (count : ℕ) : Type 0 where
  pub words : (k : ℕ) (r : FlatRow) → k < count → slice_get rows k ≡ Some r → IsVariable nodes sort.Word r.var
  pub marks : (k : ℕ) (r : FlatRow) → k < count → slice_get rows k ≡ Some r → has_mark marked r.var ≡ true

pub AreMarkedRows-start : (nodes : List Node) (marked : Option (List ℕ)) (rows : List FlatRow) → AreMarkedRows nodes marked rows 0
AreMarkedRows-start nodes marked rows = record { words = λ k r lt. absurd (omega arith); marks = λ k r lt. absurd (omega arith) }

pub AreMarkedRows-step : (nodes : List Node) (marked : Option (List ℕ)) (rows : List FlatRow) (count : ℕ) (r : FlatRow) → slice_get rows count ≡ Some r → IsVariable nodes sort.Word r.var → has_mark marked r.var ≡ true
    → AreMarkedRows nodes marked rows count → AreMarkedRows nodes marked rows (count + 1)
AreMarkedRows-step nodes marked rows count r there word mark h = record {
  words = λ k q lt at. elim (below_last k count lt) [
    | inl e ↦ h.words k q e at
    | inr e ↦ subst (λ (z : FlatRow). IsVariable nodes sort.Word z.var) (same_Some r q (sym there ∙ ap (slice_get rows) (sym e) ∙ at)) word
  ];
  marks = λ k q lt at. elim (below_last k count lt) [
    | inl e ↦ h.marks k q e at
    | inr e ↦ subst (λ (z : FlatRow). has_mark marked z.var ≡ true) (same_Some r q (sym there ∙ ap (slice_get rows) (sym e) ∙ at)) mark
  ];
}

pub AreMarkedRows-end : (nodes : List Node) (marked : Option (List ℕ)) (s : FlatSym) (count : ℕ) → length s.rows ≤ count → AreMarkedRows nodes marked s.rows count → IsMarkedSymbol nodes marked s
AreMarkedRows-end nodes marked s count all h = record {
  words = λ r c. h.words c.0 r (omega (arith, c.1)) (slice_get-get_or s.rows c.0 r c.1 ∙ ap Some c.2);
  marks = λ r c. h.marks c.0 r (omega (arith, c.1)) (slice_get-get_or s.rows c.0 r c.1 ∙ ap Some c.2);
}

-- of the first symbols it is said whether they are marked
pub record AreSaid (nodes : List Node) (marked : Option (List ℕ)) (syms : List FlatSym) (count : ℕ) (said : List Bool) : Type 0 where
  pub size : length said ≡ count
  pub each : (k : ℕ) (s : FlatSym) → k < count → slice_get syms k ≡ Some s → slice_index_or said k false ≡ true → IsMarkedSymbol nodes marked s

pub AreSaid-start : (nodes : List Node) (marked : Option (List ℕ)) (syms : List FlatSym) (said : List Bool) → said ≡ [] → AreSaid nodes marked syms 0 said
AreSaid-start nodes marked syms said e = record { size = ap length e; each = λ k s lt. absurd (omega arith) }

pub AreSaid-step : (nodes : List Node) (marked : Option (List ℕ)) (syms : List FlatSym) (count : ℕ) (said new : List Bool) (s : FlatSym) (b : Bool) → slice_get syms count ≡ Some s → (b ≡ true → IsMarkedSymbol nodes marked s)
    → new ≡ said ++ b ∷ [] → AreSaid nodes marked syms count said → AreSaid nodes marked syms (count + 1) new
AreSaid-step nodes marked syms count said new s b there is made h = record {
  size = ap length made ∙ length_push said b ∙ ap (λ n. n + 1) h.size;
  each = λ k t lt at said_so. elim (below_last k count lt) [
    | inl e ↦ h.each k t e at (sym (get_or_append_left said (b ∷ []) false k (omega (arith, e, h.size))) ∙ ap (λ l. slice_index_or l k false) (sym made) ∙ said_so)
    | inr e ↦
        let here : k ≡ length said = e ∙ sym h.size in
        subst (IsMarkedSymbol nodes marked) (same_Some s t (sym there ∙ ap (slice_get syms) (sym e) ∙ at))
        (is (sym (ap (λ n. slice_index_or (said ++ b ∷ []) n false) here ∙ get_or-append_seam said b [] false) ∙ ap (λ l. slice_index_or l k false) (sym made) ∙ said_so))
  ];
}

pub AreSaid-end : (nodes : List Node) (marked : Option (List ℕ)) (syms : List FlatSym) (count : ℕ) (said : List Bool) → length syms ≤ count → AreSaid nodes marked syms count said → AreMarkedSymbols nodes syms marked said
AreSaid-end nodes marked syms count said all h = record { each = λ k s at. h.each k s (let lt = slice_get_within syms k s at in omega (arith, lt, all)) at }

-- a tail more
pub AreTails-push : (nodes : List Node) (syms : List FlatSym) (marked : Option (List ℕ)) (tails new : List (Option Tail)) (id : ℕ) (t : Option Tail) → length tails ≡ id → new ≡ tails ++ t ∷ []
    → ((tail : Tail) → t ≡ Some tail → IsTail nodes syms marked tail id) → AreTails nodes syms marked tails → AreTails nodes syms marked new
AreTails-push nodes syms marked tails new id t size made is h = record {
  each = λ k tail at. by k tail (ap (λ l. slice_index_or l k None) (sym made) ∙ at) (cases_lt k id);
}
  where
    by : (k : ℕ) (tail : Tail) → slice_index_or (tails ++ t ∷ []) k None ≡ Some tail → (k < id) ⊎ (id ≤ k) → IsTail nodes syms marked tail k
    by k tail at (inl lt) = h.each k tail (sym (get_or_append_left tails (t ∷ []) None k (omega (arith, lt, size))) ∙ at)
    by k tail at (inr le) = last (cases_lt id k)
      where
        last : (id < k) ⊎ (k ≤ id) → IsTail nodes syms marked tail k
        last (inl lt) = absurd (none-some tail (sym (get_or_past (tails ++ t ∷ []) k None (let s = length_push tails t in omega (arith, s, size, lt))) ∙ at))
        last (inr ge) =
            let here : k ≡ length tails = omega (arith, le, ge, size) in
            let same : k ≡ id = omega (arith, le, ge) in
            subst (IsTail nodes syms marked tail) (sym same) (is tail (sym (get_or-append_seam tails t [] None) ∙ ap (λ n. slice_index_or (tails ++ t ∷ []) n None) (sym here) ∙ at))

pub AreTails-none : (nodes : List Node) (syms : List FlatSym) (marked : Option (List ℕ)) (tails : List (Option Tail)) → tails ≡ [] → AreTails nodes syms marked tails
AreTails-none nodes syms marked tails e = record { each = λ k tail at. absurd (none-some tail (sym (get_or_past tails k None (omega (arith, ap length e))) ∙ at)) }

-- the equations of one pair more
pub equations_push : (left right : List ℕ) (i a b : ℕ) → slice_get left i ≡ Some a → slice_get right i ≡ Some b → equations (take (i + 1) left) (take (i + 1) right) ≡ equations (take i left) (take i right) ++ between a b ∷ []
equations_push [] right i a b l r = absurd (none-some a l)
equations_push (x ∷ xs) [] i a b l r = absurd (none-some b r)
equations_push (x ∷ xs) (y ∷ ys) zero a b l r = let p = same_Some x a l in let q = same_Some y b r in (λ i. between (p i) (q i) ∷ [])
equations_push (x ∷ xs) (y ∷ ys) (suc i) a b l r = let e : suc i + 1 ≡ suc (i + 1) = omega arith in rw e (ap (λ z. between x y ∷ z) (equations_push xs ys i a b l r))

pub visits_push : (old now new : List Visit) (left right : List ℕ) (i a b : ℕ) → now ≡ old ++ map Enter (equations (take i left) (take i right)) → new ≡ now ++ Enter (between a b) ∷ [] → slice_get left i ≡ Some a → slice_get right i ≡ Some b
    → new ≡ old ++ map Enter (equations (take (i + 1) left) (take (i + 1) right))
visits_push old now new left right i a b is made l r =
    made ∙ ap (λ v. v ++ Enter (between a b) ∷ []) is ∙ append_assoc old (map Enter (equations (take i left) (take i right))) (Enter (between a b) ∷ [])
    ∙ ap (λ z. old ++ z) (sym (map-append Enter (equations (take i left) (take i right)) (between a b ∷ [])) ∙ ap (map Enter) (sym (equations_push left right i a b l r)))

-- what is said of a symbol, and the tail that a term is
pub said_at : (said : List Bool) (i : ℕ) → unwrap_or (slice_get said i) false ≡ true → slice_index_or said i false ≡ true
said_at [] i h = absurd (false≢true h)
said_at (x ∷ xs) zero h = h
said_at (x ∷ xs) (suc i) h = said_at xs i h

pub tail_there : (tails : List (Option Tail)) (i : ℕ) (tail : Tail) → option_flatten (slice_get tails i) ≡ Some tail → slice_index_or tails i None ≡ Some tail
tail_there [] i tail h = absurd (none-some tail h)
tail_there (x ∷ xs) zero tail h = h
tail_there (x ∷ xs) (suc i) tail h = tail_there xs i tail h

-- visits that are pushed
pub two_pushed : (old mid new : List Visit) (x y : Visit) → mid ≡ old ++ x ∷ [] → new ≡ mid ++ y ∷ [] → new ≡ old ++ x ∷ y ∷ []
two_pushed old mid new x y e f = f ∙ ap (λ l. l ++ y ∷ []) e ∙ append_assoc old (x ∷ []) (y ∷ [])

pub three_pushed : (old mid late new : List Visit) (x y z : Visit) → mid ≡ old ++ x ∷ [] → late ≡ mid ++ y ∷ [] → new ≡ late ++ z ∷ [] → new ≡ old ++ x ∷ y ∷ z ∷ []
three_pushed old mid late new x y z e f g = g ∙ ap (λ l. l ++ z ∷ []) (two_pushed old mid late x y e f) ∙ append_assoc old (x ∷ y ∷ []) (z ∷ [])

pub pushed_parts : (old new : List Visit) (o : Option Node) (node : Node) → o ≡ Some node → new ≡ old ++ map Enter (node_parts (Some node)) → new ≡ old ++ map Enter (node_parts o)
pushed_parts old new o node there e = e ∙ ap (λ z. old ++ map Enter (node_parts z)) (sym there)

-- a term that rests on nothing
pub no_parts : (node : Node) → ((a : ℕ) → node ≡ Not a → ⊥) → ((a b : ℕ) → node ≡ And a b → ⊥) → ((a b : ℕ) → node ≡ Or a b → ⊥) → ((c a b : ℕ) → node ≡ Ite c a b → ⊥) → ((a b : ℕ) → node ≡ Eq a b → ⊥) → node_parts (Some node) ≡ []
no_parts (Not a) nn na nr ni ne = absurd (nn a refl)
no_parts (And a b) nn na nr ni ne = absurd (na a b refl)
no_parts (Or a b) nn na nr ni ne = absurd (nr a b refl)
no_parts (Ite c a b) nn na nr ni ne = absurd (ni c a b refl)
no_parts (Eq a b) nn na nr ni ne = absurd (ne a b refl)
no_parts node nn na nr ni ne = refl

-- an equation that is plain, or never holds, rests on nothing
pub no_rest : (nodes : List Node) (syms : List FlatSym) (a b : ℕ) (w : TheWay) → ((c : ℕ) → w ≡ way.Control c → ⊥) → ((p : RowPair) → w ≡ way.Arguments p → ⊥) → parts nodes syms (Equation a b) w ≡ []
no_rest nodes syms a b (way.Control c) nc na = absurd (nc c refl)
no_rest nodes syms a b (way.Arguments p) nc na = absurd (na p refl)
no_rest nodes syms a b way.Plain nc na = refl
no_rest nodes syms a b way.Never nc na = refl

-- the equations of all pairs
pub pushed_all : (old now : List Visit) (left right xs ys : List ℕ) (n : ℕ) → length left ≤ n → length right ≤ n → left ≡ xs → right ≡ ys → now ≡ old ++ map Enter (equations (take n left) (take n right)) → now ≡ old ++ map Enter (equations xs ys)
pushed_all old now left right xs ys n l r p q e =
    let a : take n left ≡ xs = take_all n left l ∙ p in
    let b : take n right ≡ ys = take_all n right r ∙ q in
    e ∙ (λ i. old ++ map Enter (equations (a i) (b i)))

-- what a place of a list lends
pub lent : {X : Type 0} (P : Bor X → Type 0) (xs : List X) (i : ℕ) (r : Option (Bor X)) → IfSome r (λ x. x.now ≡ get_or xs i x.now) → MatchOption r (length xs ≤ i) (λ x. (i < length xs) × P x)
    → slice_get xs i ≡ option_copied r
lent P xs i None same at = slice_get_past xs i at
lent P xs i (Some x) same at = slice_get_read xs (length xs) i x.now refl at.0 same
