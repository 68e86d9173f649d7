-- Graphs of plain terms stay so, and have no memory.
use Rattle.std.proofs.Common.{◌≡◌, ◌≢◌, ℕ, zero, suc, ◌<◌, inl, inr, Bool, true, false, ◌||◌, ◌==◌, if◌then◌else◌, List, [], ◌∷◌, ◌++◌, length, slice_get, slice_index_or, Option, Some, None, Contains, refl, ap, sym, ◌∙◌, subst, arith, true≢false}
use Rattle.std.proofs.lemmas.Option.{slice_get-get_or}
use Rattle.bd_model.specs.declared.design.Sort.{Sort}
use Rattle.bd_model.specs.declared.design.Sort.TheVariants as sort
use Rattle.bd_terms.specs.declared.node.Node.{Node}
use Rattle.bd_terms.specs.declared.node.Node.TheVariants.{True, Not, And, Or, Ite, Eq, App, Pred, Read, Write, Init}
use Rattle.bd_terms.specs.declared.simplify.Outcome.{Outcome}
use Rattle.bd_terms.specs.declared.simplify.Outcome.TheVariants.{Same, Built}
use Rattle.bd_terms.specs.Graph.{IsGraph, children, node_sort, sorts, sort_at}
use Rattle.bd_terms.specs.Simplified.{Gives, is_true, is_false, negated, simplified}
use Rattle.bd_terms.proofs.Places.{get-push}
use Rattle.bd_terms.proofs.Graphs.{sort_at-get}
use Rattle.bd_terms.proofs.Reaching.{children-below}
use Rattle.bd_memory.specs.Forward.{HasNoMemory}
use Rattle.bd_memory.specs.Forwarded.{is_plain}
use Rattle.bd_memory.specs.inner.Forwarding.{IsPlain}

OutcomePlain : Outcome → Type 0
OutcomePlain (Same a) = Unit {0}
OutcomePlain (Built n) = is_plain n ≡ true

negated-plain : (a : ℕ) (o : Option Node) → OutcomePlain (negated a o)
unfolding OutcomePlain
negated-plain a (Some (Not b)) = tt
negated-plain a None = refl
negated-plain a (Some True) = refl
negated-plain a (Some (And b c)) = refl
negated-plain a (Some (Or b c)) = refl
negated-plain a (Some (Ite b c d)) = refl
negated-plain a (Some (Eq b c)) = refl
negated-plain a (Some (App s args)) = refl
negated-plain a (Some (Pred s args)) = refl
negated-plain a (Some (Read m b)) = refl
negated-plain a (Some (Write m b d)) = refl
negated-plain a (Some (Init x)) = refl

if-outcome : (P : Outcome → Type 0) (t : Bool) (x y : Outcome) → P x → P y → P (if t then x else y)
if-outcome P true x y h k = h
if-outcome P false x y h k = k

simplified-plain : (old : List Node) (node : Node) → is_plain node ≡ true → OutcomePlain (simplified old node)
unfolding OutcomePlain
simplified-plain old (Not a) h = negated-plain a (slice_get old a)
simplified-plain old (And a b) h =
    if-outcome OutcomePlain (is_true old a || is_false old b || a == b) (Same b) (if is_false old a || is_true old b then Same a else Built (And a b)) tt
    (if-outcome OutcomePlain (is_false old a || is_true old b) (Same a) (Built (And a b)) tt refl)
simplified-plain old (Or a b) h =
    if-outcome OutcomePlain (is_false old a || is_true old b || a == b) (Same b) (if is_true old a || is_false old b then Same a else Built (Or a b)) tt
    (if-outcome OutcomePlain (is_true old a || is_false old b) (Same a) (Built (Or a b)) tt refl)
simplified-plain old (Ite c a b) h =
    if-outcome OutcomePlain (is_true old c || a == b) (Same a) (if is_false old c then Same b else Built (Ite c a b)) tt
    (if-outcome OutcomePlain (is_false old c) (Same b) (Built (Ite c a b)) tt refl)
simplified-plain old (Eq a b) h = if-outcome OutcomePlain (a == b) (Built True) (Built (Eq a b)) refl refl
simplified-plain old True h = h
simplified-plain old (App s args) h = h
simplified-plain old (Pred s args) h = h
simplified-plain old (Read m a) h = h
simplified-plain old (Write m a d) h = h
simplified-plain old (Init e) h = h

IsPlain-push : (old : List Node) (n : Node) → IsPlain old → is_plain n ≡ true → IsPlain (old ++ n ∷ [])
IsPlain-push old n p q = record {
  plain = λ i node h. elim (get-push old n i node h) [ inl a ↦ p.plain i node a | inr a ↦ ap is_plain a.1 ∙ q ];
}

Gives-IsPlain_outcome : (old new : List Node) (id : ℕ) (f : Outcome) → OutcomePlain f → Gives old new id f → IsPlain old → IsPlain new
unfolding OutcomePlain
Gives-IsPlain_outcome old new id (Same a) q h p = subst IsPlain (sym h.0) p
Gives-IsPlain_outcome old new id (Built n) q h p =
    elim h.adds [ inl e ↦ subst IsPlain (sym e) p | inr e ↦ subst IsPlain (sym e) (IsPlain-push old n p q) ]

-- a plain term that is built leaves the graph plain
pub Gives-IsPlain : (old new : List Node) (id : ℕ) (node : Node) → is_plain node ≡ true → Gives old new id (simplified old node) → IsPlain old → IsPlain new
Gives-IsPlain old new id node q h p = Gives-IsPlain_outcome old new id (simplified old node) (simplified-plain old node q) h p

pub is_memory : Sort → Bool
is_memory sort.Bool = false
is_memory sort.Word = false
is_memory sort.Memory = true

pub Bool-no_memory : sort.Bool ≢ sort.Memory
unfolding is_memory
Bool-no_memory e = true≢false (sym (ap is_memory e))

pub Word-no_memory : sort.Word ≢ sort.Memory
unfolding is_memory
Word-no_memory e = true≢false (sym (ap is_memory e))

plain-sort : (nodes : List Node) (node : Node) → is_plain node ≡ true → ((c : ℕ) → Contains (children node) c → sort_at nodes c ≢ sort.Memory) → node_sort (sorts nodes) node ≢ sort.Memory
plain-sort nodes True p h = Bool-no_memory
plain-sort nodes (Not a) p h = Bool-no_memory
plain-sort nodes (And a b) p h = Bool-no_memory
plain-sort nodes (Or a b) p h = Bool-no_memory
plain-sort nodes (Ite c a b) p h = h a (1, omega arith, refl)
plain-sort nodes (Eq a b) p h = Bool-no_memory
plain-sort nodes (App s args) p h = Word-no_memory
plain-sort nodes (Pred s args) p h = Bool-no_memory
plain-sort nodes (Read m a) p h = absurd (true≢false (sym p))
plain-sort nodes (Write m a d) p h = absurd (true≢false (sym p))
plain-sort nodes (Init e) p h = absurd (true≢false (sym p))

no_memory-below : (nodes : List Node) → IsGraph nodes → IsPlain nodes → (n i : ℕ) → i < n → i < length nodes → sort_at nodes i ≢ sort.Memory
no_memory-below nodes g p zero i lt inside e = absurd (omega arith)
no_memory-below nodes g p (suc n) i lt inside e =
    let node = slice_index_or nodes i True in
    let there : slice_get nodes i ≡ Some node = slice_get-get_or nodes i True inside in
    plain-sort nodes node (p.plain i node there)
    (λ c q. let below = children-below nodes g i node there c q in no_memory-below nodes g p n c (omega (arith, below)) (omega (arith, below)))
    (sym (sort_at-get nodes g i node there) ∙ e)

-- a graph of plain terms has no memory
pub IsPlain-HasNoMemory : (nodes : List Node) → IsGraph nodes → IsPlain nodes → HasNoMemory nodes
IsPlain-HasNoMemory nodes g p = record {
  no_memory = λ id h. no_memory-below nodes g p (suc id) id (omega arith) h.inside h.sorted;
  no_read = λ id m a h. true≢false (sym (p.plain id (Read m a) h));
}
