-- The term of an expression from the terms of its parts, form by form.
use Rattle.std.proofs.Common.{◌≡◌, ℕ, ◌||◌, ◌==◌, not, Bool, true, false, List, [], Result, Ok, Err, IfOk, refl, ap, ap₂, sym, ◌∙◌, subst}
use Rattle.std.specs.Prelude.{if◌then◌else◌}
use Rattle.std.specs.declared.alloc.AllocError.{AllocError}
use Rattle.std.proofs.lemmas.Result.{IfOk-weaker}
use mathlib.Core.Bool.{beq}
use Rattle.bd_model.specs.ExprView.{ExprView, Truth as True, Not, Implies, Iff, Equal, Ite, Read, Write}
use Rattle.bd_model.specs.Table.{read}
use Rattle.bd_model.specs.Value.{Env, value_of, is_true, memory_of}
use Rattle.bd_model.specs.Value.{word_of as word_in}
use Rattle.bd_model.specs.Lawful.{HasSort}
use Rattle.bd_model.specs.declared.design.Sort.{Sort}
use Rattle.bd_model.specs.declared.design.Sort.TheVariants as sort
use Rattle.bd_terms.specs.declared.node.Node.{Node}
use Rattle.bd_terms.specs.declared.node.Node.TheVariants as node
use Rattle.bd_terms.specs.Simplified.{Gives, simplified}
use Rattle.bd_terms.specs.Graph.{AddsUses, Extends, IsGraph, sort_at}
use Rattle.bd_terms.specs.Graph.{HasSort as TermHasSort}
use Rattle.bd_terms.specs.Denotation.{World, Denoted, Denotes, Truth, Word, Contents, truth_of, word_of, contents_of, denoted, truth, word, contents, written}
use Rattle.bd_terms.proofs.Growth.{denoted-Extends, HasSort-Extends}
use Rattle.bd_terms.proofs.Simplifying.{denoted-truth}
use Rattle.bd_symbolic.specs.World.{denotes_value}
use Rattle.bd_symbolic.specs.Made.{IsConstant, IsImplication, IsEquivalence, IsMade}
use Rattle.bd_symbolic.specs.DesignSymbols.{GrowsWithin}
use Rattle.bd_symbolic.specs.Symbolic.{Terms, DenoteEnv, DenotesExpr, context_in}
use Rattle.bd_symbolic.specs.inner.Evaluates.{Evaluates}
use Rattle.bd_symbolic.proofs.Making.{called, made-Extends}
use Rattle.bd_symbolic.proofs.Growing.{Grows-self, Grows-trans, Grows-none}
use Rattle.bd_symbolic.proofs.Denoting.{truth_of-value, word_of-value, contents_of-value, written-read, denotes-if}

-- the same denotation said otherwise
pub IfOk-same : (r : Result ℕ AllocError) (nodes : List Node) (f g : World → Denoted) → ((w : World) → f w ≡ g w) → IfOk r (λ id. Denotes nodes id f) → IfOk r (λ id. Denotes nodes id g)
IfOk-same (Ok id) nodes f g h d = record { is = λ w. d.is w ∙ h w }
IfOk-same (Err e) nodes f g h d = tt

pub IfOk-sort : (r : Result ℕ AllocError) (nodes : List Node) (s t : Sort) → s ≡ t → IfOk r (λ id. TermHasSort nodes id s) → IfOk r (λ id. TermHasSort nodes id t)
IfOk-sort r nodes s t e h = subst (λ u. IfOk r (λ id. TermHasSort nodes id u)) e h

pub sort_is : (nodes : List Node) (id : ℕ) (t s : Sort) → s ≡ t → TermHasSort nodes id s → TermHasSort nodes id t
sort_is nodes id t s e h = subst (TermHasSort nodes id) e h

pub truth-Extends : (w : World) (old new : List Node) → Extends old new → (id : ℕ) (s : Sort) → TermHasSort old id s → truth w new id ≡ truth w old id
truth-Extends w old new e id s h = ap truth_of (denoted-Extends w old new e id h.inside)

-- a disjunction with the negation is the implication
pub implies_or : (old mid new : List Node) (a b n : ℕ) (r : Result ℕ AllocError) → Extends old mid → TermHasSort old b sort.Bool → Denotes mid n (λ w. Truth (not (truth w old a)))
    → IfOk r (λ id. Denotes new id (λ w. Truth (truth w mid n || truth w mid b))) → IfOk r (λ id. Denotes new id (λ w. Truth (not (truth w old a) || truth w old b)))
implies_or old mid new a b n r e h d =
    IfOk-same r new (λ w. Truth (truth w mid n || truth w mid b)) (λ w. Truth (not (truth w old a) || truth w old b)) (λ w. ap₂ (λ x y. Truth (x || y)) (ap truth_of (d.is w)) (truth-Extends w old mid e b sort.Bool h))

iff_if : (x y : Bool) → (if x then Truth y else Truth (not y)) ≡ Truth (beq x y)
iff_if true true = refl
iff_if true false = refl
iff_if false true = refl
iff_if false false = refl

-- the second, or its negation, is the equality
pub iff_ite : (w : World) (old new : List Node) → IsGraph new → Extends old new → (a b n : ℕ) → TermHasSort old a sort.Bool → TermHasSort old b sort.Bool → Denotes new n (λ v. Truth (not (truth v old b)))
    → (if truth w new a then denoted w new b else denoted w new n) ≡ Truth (beq (truth w old a) (truth w old b))
iff_ite w old new g e a b n ha hb d =
    let first : truth w new a ≡ truth w old a = truth-Extends w old new e a sort.Bool ha in
    let second : denoted w new b ≡ Truth (truth w old b) = denoted-truth w new g b (HasSort-Extends old new e b sort.Bool hb) ∙ ap Truth (truth-Extends w old new e b sort.Bool hb) in
    let third : denoted w new n ≡ Truth (not (truth w old b)) = d.is w in
    rw (first, second, third) (iff_if (truth w old a) (truth w old b))

pub iff_ites : (old mid new : List Node) (a b n : ℕ) (r : Result ℕ AllocError) → IsGraph mid → Extends old mid → TermHasSort old a sort.Bool → TermHasSort old b sort.Bool → Denotes mid n (λ v. Truth (not (truth v old b)))
    → IfOk r (λ id. Denotes new id (λ w. if truth w mid a then denoted w mid b else denoted w mid n)) → IfOk r (λ id. Denotes new id (λ w. Truth (beq (truth w old a) (truth w old b))))
iff_ites old mid new a b n r g e ha hb d = IfOk-same r new (λ w. if truth w mid a then denoted w mid b else denoted w mid n) (λ w. Truth (beq (truth w old a) (truth w old b)))
    (λ w. iff_ite w old mid g e a b n ha hb d)

-- a term with its sort and denotation, built after the others
pub finish : (t : Terms) (e : ExprView) (s : Sort) (old mid new : List Node) (r : Result ℕ AllocError) (f : World → Denoted)
    → GrowsWithin t.design old mid → GrowsWithin t.design mid new → IfOk r (λ id. Denotes new id f) → IfOk r (λ id. TermHasSort new id s) → IfOk r (IsMade new t e)
    → ((u : Sort) → HasSort (context_in old t) e u → s ≡ u) → ((w : World) (env : Env) → DenoteEnv w old t env → f w ≡ denotes_value (value_of env e))
    → Evaluates old new t e r
finish t e s old mid new (Ok id) f p q d h m only means = record {
  grows = Grows-trans t.design old mid new p q;
  term = record {
    inside = h.inside;
    sorted = λ u k. subst (TermHasSort new id) (only u k) h;
    denotes = λ w env k. d.is w ∙ means w env k;
    made = m;
  };
}
finish t e s old mid new (Err x) f p q d h m only means = record { grows = Grows-trans t.design old mid new p q; term = tt }

pub truth-part : (t : Terms) (e : ExprView) (id : ℕ) (old mid : List Node) → DenotesExpr old mid t e id → (w : World) (env : Env) → DenoteEnv w old t env → truth w mid id ≡ is_true (value_of env e)
truth-part t e id old mid h w env k = ap truth_of (h.denotes w env k) ∙ truth_of-value (value_of env e)

pub word-part : (t : Terms) (e : ExprView) (id : ℕ) (old mid : List Node) → DenotesExpr old mid t e id → (w : World) (env : Env) → DenoteEnv w old t env → word w mid id ≡ word_in (value_of env e)
word-part t e id old mid h w env k = ap word_of (h.denotes w env k) ∙ word_of-value (value_of env e)

pub contents-part : (t : Terms) (e : ExprView) (id : ℕ) (old mid : List Node) → DenotesExpr old mid t e id → (w : World) (env : Env) → DenoteEnv w old t env → contents w mid id ≡ read (memory_of (value_of env e))
contents-part t e id old mid h w env k = ap contents_of (h.denotes w env k) ∙ contents_of-value (value_of env e)

pub as_form : (old new : List Node) (t : Terms) (e f : ExprView) (r : Result ℕ AllocError) → e ≡ f → Evaluates old new t f r → Evaluates old new t e r
as_form old new t e f r is h = subst (λ x. Evaluates old new t x r) (sym is) h

pub bool_arm : (t : Terms) (b : Bool) (old new : List Node) (r : Result ℕ AllocError) → Extends old new → AddsUses old new []
    → IfOk r (λ id. Denotes new id (λ w. Truth b)) → IfOk r (λ id. TermHasSort new id sort.Bool) → IfOk r (IsConstant new b) → Evaluates old new t (True b) r
bool_arm t b old new r e u d s m = finish t (True b) sort.Bool old old new r _ (Grows-self t.design old) (Grows-none t.design old new e u) d s m (λ v p. sym p) (λ w env k. refl)

pub not_arm : (t : Terms) (a : ExprView) (x : ℕ) (old mid new : List Node) (r : Result ℕ AllocError) → GrowsWithin t.design old mid → Extends mid new → AddsUses mid new [] → DenotesExpr old mid t a x
    → IfOk r (λ id. Denotes new id (λ w. Truth (not (truth w mid x)))) → IfOk r (λ id. TermHasSort new id sort.Bool)
    → IfOk r (λ id. Gives mid new id (simplified mid (node.Not x))) → Evaluates old new t (Not a) r
not_arm t a x old mid new r g e u h d s m = finish t (Not a) sort.Bool old mid new r _ g (Grows-none t.design mid new e u) d s
    (IfOk-weaker r _ (IsMade new t (Not a)) (λ id k. (x, made-Extends mid new e t a x h.made, k)) (called mid new _ r (h.inside, tt) m)) (λ v p. sym p.0) (λ w env k. ap (λ b. Truth (not b)) (truth-part t a x old mid h w env k))

pub implies_arm : (t : Terms) (a b : ExprView) (x y : ℕ) (old mid new : List Node) (r : Result ℕ AllocError) → GrowsWithin t.design old mid → Extends mid new → AddsUses mid new [] → DenotesExpr old mid t a x → DenotesExpr old mid t b y
    → IfOk r (λ id. Denotes new id (λ w. Truth (not (truth w mid x) || truth w mid y))) → IfOk r (λ id. TermHasSort new id sort.Bool) → IfOk r (IsImplication new x y) → Evaluates old new t (Implies a b) r
implies_arm t a b x y old mid new r g e u h k d s m =
    finish t (Implies a b) sort.Bool old mid new r _ g (Grows-none t.design mid new e u) d s
    (IfOk-weaker r _ (IsMade new t (Implies a b)) (λ id n. (x, y, made-Extends mid new e t a x h.made, made-Extends mid new e t b y k.made, n)) m) (λ v p. sym p.0)
    (λ w env q. ap₂ (λ c d. Truth (not c || d)) (truth-part t a x old mid h w env q) (truth-part t b y old mid k w env q))

pub iff_arm : (t : Terms) (a b : ExprView) (x y : ℕ) (old mid new : List Node) (r : Result ℕ AllocError) → GrowsWithin t.design old mid → Extends mid new → AddsUses mid new [] → DenotesExpr old mid t a x → DenotesExpr old mid t b y
    → IfOk r (λ id. Denotes new id (λ w. Truth (beq (truth w mid x) (truth w mid y)))) → IfOk r (λ id. TermHasSort new id sort.Bool) → IfOk r (IsEquivalence new x y) → Evaluates old new t (Iff a b) r
iff_arm t a b x y old mid new r g e u h k d s m =
    finish t (Iff a b) sort.Bool old mid new r _ g (Grows-none t.design mid new e u) d s
    (IfOk-weaker r _ (IsMade new t (Iff a b)) (λ id n. (x, y, made-Extends mid new e t a x h.made, made-Extends mid new e t b y k.made, n)) m) (λ v p. sym p.0)
    (λ w env q. ap₂ (λ c d. Truth (beq c d)) (truth-part t a x old mid h w env q) (truth-part t b y old mid k w env q))

pub equal_arm : (t : Terms) (a b : ExprView) (x y : ℕ) (old mid new : List Node) (r : Result ℕ AllocError) → GrowsWithin t.design old mid → Extends mid new → AddsUses mid new [] → DenotesExpr old mid t a x → DenotesExpr old mid t b y
    → IfOk r (λ id. Denotes new id (λ w. Truth (word w mid x == word w mid y))) → IfOk r (λ id. TermHasSort new id sort.Bool)
    → IfOk r (λ id. Gives mid new id (simplified mid (node.Eq x y))) → Evaluates old new t (Equal a b) r
equal_arm t a b x y old mid new r g e u h k d s m =
    finish t (Equal a b) sort.Bool old mid new r _ g (Grows-none t.design mid new e u) d s
    (IfOk-weaker r _ (IsMade new t (Equal a b)) (λ id n. (x, y, made-Extends mid new e t a x h.made, made-Extends mid new e t b y k.made, n)) (called mid new _ r (h.inside, (k.inside, tt)) m)) (λ v p. sym p.0)
    (λ w env q. ap₂ (λ c d. Truth (c == d)) (word-part t a x old mid h w env q) (word-part t b y old mid k w env q))

pub read_arm : (t : Terms) (a b : ExprView) (x y : ℕ) (old mid new : List Node) (r : Result ℕ AllocError) → GrowsWithin t.design old mid → Extends mid new → AddsUses mid new [] → DenotesExpr old mid t a x → DenotesExpr old mid t b y
    → IfOk r (λ id. Denotes new id (λ w. Word (contents w mid x (word w mid y)))) → IfOk r (λ id. TermHasSort new id sort.Word)
    → IfOk r (λ id. Gives mid new id (simplified mid (node.Read x y))) → Evaluates old new t (Read a b) r
read_arm t a b x y old mid new r g e u h k d s m =
    finish t (Read a b) sort.Word old mid new r _ g (Grows-none t.design mid new e u) d s
    (IfOk-weaker r _ (IsMade new t (Read a b)) (λ id n. (x, y, made-Extends mid new e t a x h.made, made-Extends mid new e t b y k.made, n)) (called mid new _ r (h.inside, (k.inside, tt)) m)) (λ v p. sym p.0)
    (λ w env q. ap₂ (λ m n. Word (m n)) (contents-part t a x old mid h w env q) (word-part t b y old mid k w env q))

pub write_arm : (t : Terms) (a b c : ExprView) (x y z : ℕ) (old mid new : List Node) (r : Result ℕ AllocError) → GrowsWithin t.design old mid → Extends mid new → AddsUses mid new []
    → DenotesExpr old mid t a x → DenotesExpr old mid t b y → DenotesExpr old mid t c z
    → IfOk r (λ id. Denotes new id (λ w. Contents (written (contents w mid x) (word w mid y) (word w mid z)))) → IfOk r (λ id. TermHasSort new id sort.Memory)
    → IfOk r (λ id. Gives mid new id (simplified mid (node.Write x y z))) → Evaluates old new t (Write a b c) r
write_arm t a b c x y z old mid new r g e u h k l d s m =
    finish t (Write a b c) sort.Memory old mid new r _ g (Grows-none t.design mid new e u) d s
    (IfOk-weaker r _ (IsMade new t (Write a b c)) (λ id n. (x, y, z, made-Extends mid new e t a x h.made, made-Extends mid new e t b y k.made, made-Extends mid new e t c z l.made, n)) (called mid new _ r (h.inside, (k.inside, (l.inside, tt))) m)) (λ v p. sym p.0)
    (λ w env q.
    let first : contents w mid x ≡ read (memory_of (value_of env a)) = contents-part t a x old mid h w env q in
    let second : word w mid y ≡ word_in (value_of env b) = word-part t b y old mid k w env q in
    let third : word w mid z ≡ word_in (value_of env c) = word-part t c z old mid l w env q in
    rw (first, second, third) (ap Contents (written-read (memory_of (value_of env a)) (word_in (value_of env b)) (word_in (value_of env c)))))

pub ite_arm : (t : Terms) (p a b : ExprView) (x y z : ℕ) (old mid new : List Node) (r : Result ℕ AllocError) → GrowsWithin t.design old mid → Extends mid new → AddsUses mid new []
    → DenotesExpr old mid t p x → DenotesExpr old mid t a y → DenotesExpr old mid t b z
    → IfOk r (λ id. Denotes new id (λ w. if truth w mid x then denoted w mid y else denoted w mid z)) → IfOk r (λ id. TermHasSort new id (sort_at mid y))
    → IfOk r (λ id. Gives mid new id (simplified mid (node.Ite x y z))) → Evaluates old new t (Ite p a b) r
ite_arm t p a b x y z old mid new r g e u h k l d s m =
    finish t (Ite p a b) (sort_at mid y) old mid new r _ g (Grows-none t.design mid new e u) d s
    (IfOk-weaker r _ (IsMade new t (Ite p a b)) (λ id n. (x, y, z, made-Extends mid new e t p x h.made, made-Extends mid new e t a y k.made, made-Extends mid new e t b z l.made, n)) (called mid new _ r (h.inside, (k.inside, (l.inside, tt))) m)) (λ v q. (k.sorted v q.1).sorted)
    (λ w env q.
    let first : truth w mid x ≡ is_true (value_of env p) = truth-part t p x old mid h w env q in
    rw (first, k.denotes w env q, l.denotes w env q) (denotes-if (is_true (value_of env p)) (value_of env a) (value_of env b)))
