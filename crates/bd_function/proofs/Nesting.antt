-- The nested ite of an application, as it is built from its own variable outwards.
use Rattle.std.proofs.Common.{◌≡◌, ℕ, zero, suc, ◌<◌, ◌&&◌, ◌==◌, if◌then◌else◌, List, [], ◌∷◌, length, drop, slice_get, Some, nat_eq, refl, ap, sym, ◌∙◌, subst}
use Rattle.std.specs.List.{All}
use Rattle.std.proofs.lemmas.Option.{none-some, same_Some}
use Rattle.std.proofs.lemmas.List.Elements.{All-head, All-tail, All-contains}
use lib.Pointwise.{pointwise}
use Rattle.bd_model.specs.declared.design.Sort.{Sort}
use Rattle.bd_model.specs.declared.design.Sort.TheVariants as sort
use Rattle.bd_terms.specs.declared.node.Node.{Node}
use Rattle.bd_terms.specs.Graph.{AddsUses, Extends, HasSort, IsGraph, sort_at}
use Rattle.bd_terms.specs.Denotation.{World, Denotes, Truth, denoted, truth, truth_of, word, word_of, words}
use Rattle.bd_terms.proofs.Growth.{AddsUses-self, AddsUses-trans, Extends-self, Extends-trans, denoted-Extends}
use Rattle.bd_terms.proofs.Places.{Contains-get}
use Rattle.bd_terms.specs.declared.node.Node.TheVariants.{True, And, Eq, Ite}
use Rattle.bd_walk.specs.Built.{IsBuilt}
use Rattle.bd_walk.proofs.Building.{IsBuilt-Extends}
use Rattle.bd_function.specs.Flattened.{IsEquality}
use Rattle.bd_function.specs.declared.flat.FlatRow.{FlatRow}
use Rattle.bd_terms.specs.Renamed.{id_at}
use Rattle.bd_function.specs.inner.Nested.{AreEarlier, IsEarlier, IsNestedChoice, chosen}

pub drop-get : {X : Type 0} → (xs : List X) (k : ℕ) (x : X) → slice_get xs k ≡ Some x → drop k xs ≡ x ∷ drop (suc k) xs
drop-get [] k x h = absurd (none-some x h)
drop-get (y ∷ xs) zero x h = ap (λ z. z ∷ xs) (same_Some y x h)
drop-get (y ∷ xs) (suc k) x h = drop-get xs k x h

pub drop-all : {X : Type 0} → (xs : List X) → drop (length xs) xs ≡ []
drop-all [] = refl
drop-all (x ∷ xs) = drop-all xs

-- words that a graph has stay when it grows
pub words-Extends : (w : World) (old new : List Node) → Extends old new → (args : List ℕ) → All (λ a. HasSort old a sort.Word) args → words w new args ≡ words w old args
words-Extends w old new e [] h = refl
words-Extends w old new e (a ∷ args) h =
    let head : word w new a ≡ word w old a = ap word_of (denoted-Extends w old new e a (All-head (λ a. HasSort old a sort.Word) a args h).inside) in
    let tail : words w new args ≡ words w old args = words-Extends w old new e args (All-tail (λ a. HasSort old a sort.Word) a args h) in
    λ i. head i ∷ tail i

pub IsEquality-Extends : (a b : List Node) → Extends a b → (left right : List ℕ) (id : ℕ) → IsEquality a left right id → IsEquality b left right id
IsEquality-Extends a b e [] [] id h = IsBuilt-Extends a b e True id h
IsEquality-Extends a b e (x ∷ left) (y ∷ right) id h =
    (h.0, h.1, IsBuilt-Extends a b e (Eq x y) h.0 h.2, IsEquality-Extends a b e left right h.1 h.3, IsBuilt-Extends a b e (And h.0 h.1) id h.4)
IsEquality-Extends a b e [] (y ∷ right) id h = absurd h
IsEquality-Extends a b e (x ∷ left) [] id h = absurd h

pub IsNestedChoice-Extends : (a b : List Node) → Extends a b → (variables : List ℕ) (rows : List FlatRow) (args : List ℕ) (own id : ℕ) → IsNestedChoice a variables rows args own id → IsNestedChoice b variables rows args own id
IsNestedChoice-Extends a b e variables [] args own id h = h
IsNestedChoice-Extends a b e variables (r ∷ rows) args own id h = (
  h.0,
  h.1,
  IsEquality-Extends a b e r.args args h.0 h.2,
  IsNestedChoice-Extends a b e variables rows args own h.1 h.3,
  IsBuilt-Extends a b e (Ite h.0 (id_at variables r.var) h.1) id h.4,
)

-- the equations from a place on
pub record IsEqual (old new : List Node) (left right : List ℕ) (index id : ℕ) : Type 0 where
  pub extends : Extends old new
  pub uses : AddsUses old new []
  pub sorted : HasSort new id sort.Bool
  pub denotes : Denotes new id (λ w. Truth (pointwise nat_eq (words w old (drop index left)) (words w old (drop index right))))
  pub made : IsEquality new (drop index left) (drop index right) id

pub IsEqual-start : (old new : List Node) (left right : List ℕ) (id : ℕ) → length left ≡ length right → Extends old new → AddsUses old new []
    → HasSort new id sort.Bool → Denotes new id (λ w. Truth (pointwise nat_eq (words w old []) (words w old []))) → IsBuilt new True id → IsEqual old new left right (length left) id
IsEqual-start old new left right id size e u s d b = record {
  extends = e;
  uses = u;
  sorted = s;
  denotes = record {
    is = λ w. d.is w ∙ sym (λ i. Truth (pointwise nat_eq (words w old (drop-all left i)) (words w old ((ap (λ n. drop n right) size ∙ drop-all right) i))));
  };
  made =
      subst (λ l. IsEquality new l (drop (length left) right) id) (sym (drop-all left))
      (subst (λ l. IsEquality new [] l id) (sym (ap (λ n. drop n right) size ∙ drop-all right)) b);
}

pub IsEqual-step : (old g g1 g2 : List Node) (left right : List ℕ) (k id e id2 x y : ℕ)
    → All (λ a. HasSort old a sort.Word) left → All (λ a. HasSort old a sort.Word) right → slice_get left k ≡ Some x → slice_get right k ≡ Some y
    → IsEqual old g left right (suc k) id
    → Extends g g1 → AddsUses g g1 [] → Denotes g1 e (λ w. Truth (word w g x == word w g y))
    → Extends g1 g2 → AddsUses g1 g2 [] → Denotes g2 id2 (λ w. Truth (truth w g1 e && truth w g1 id)) → HasSort g2 id2 sort.Bool
    → IsBuilt g1 (Eq x y) e → IsBuilt g2 (And e id) id2
    → IsEqual old g2 left right k id2
IsEqual-step old g g1 g2 left right k id e id2 x y hl hr gl gr h e1 u1 d1 e2 u2 d2 s2 b1 b2 = record {
  extends = Extends-trans old g g2 h.extends (Extends-trans g g1 g2 e1 e2);
  uses = AddsUses-trans old g g2 [] h.uses (AddsUses-trans g g1 g2 [] u1 u2);
  sorted = s2;
  denotes = record {
    is = λ w.
        let wx : word w g x ≡ word w old x = ap word_of (denoted-Extends w old g h.extends x (All-contains (λ a. HasSort old a sort.Word) left x hl (Contains-get left k x gl)).inside) in
        let wy : word w g y ≡ word w old y = ap word_of (denoted-Extends w old g h.extends y (All-contains (λ a. HasSort old a sort.Word) right y hr (Contains-get right k y gr)).inside) in
        let first : truth w g1 e ≡ (word w old x == word w old y) = ap truth_of (d1.is w) ∙ (λ i. wx i == wy i) in
        let rest = ap truth_of (denoted-Extends w g g1 e1 id h.sorted.inside ∙ h.denotes.is w) in
        d2.is w ∙ (λ i. Truth (first i && rest i))
        ∙ sym (λ i. Truth (pointwise nat_eq (words w old (drop-get left k x gl i)) (words w old (drop-get right k y gr i))));
  };
  made =
      subst (λ l. IsEquality g2 l (drop k right) id2) (sym (drop-get left k x gl))
      (subst (λ l. IsEquality g2 (x ∷ drop (suc k) left) l id2) (sym (drop-get right k y gr))
      (e, id, IsBuilt-Extends g1 g2 e2 (Eq x y) e b1, IsEquality-Extends g g2 (Extends-trans g g1 g2 e1 e2) (drop (suc k) left) (drop (suc k) right) id h.made, b2));
}

-- the choice among the rows from a place on
pub record IsNested (old new : List Node) (variables : List ℕ) (rows : List FlatRow) (args : List ℕ) (own index id : ℕ) : Type 0 where
  pub extends : Extends old new
  pub uses : AddsUses old new []
  pub sorted : HasSort new id (sort_at old own)
  pub denotes : Denotes new id (λ w. chosen w old variables (drop index rows) args (denoted w old own))
  pub graph : IsGraph old → IsGraph new
  pub made : IsNestedChoice new variables (drop index rows) args own id

pub IsNested-start : (old : List Node) (variables : List ℕ) (rows : List FlatRow) (args : List ℕ) (own : ℕ) → own < length old → IsNested old old variables rows args own (length rows) own
IsNested-start old variables rows args own inside = record {
  extends = Extends-self old;
  uses = AddsUses-self old [];
  sorted = record { inside = inside; sorted = refl };
  denotes = record { is = λ w. sym (λ i. chosen w old variables (drop-all rows i) args (denoted w old own)) };
  graph = λ g. g;
  made = subst (λ l. IsNestedChoice old variables l args own own) (sym (drop-all rows)) refl;
}

pub IsNested-step : (old g g1 g2 : List Node) (variables : List ℕ) (rows : List FlatRow) (args : List ℕ) (own k id e id2 : ℕ) (r : FlatRow)
    → All (λ a. HasSort old a sort.Word) args → AreEarlier old variables (length args) (sort_at old own) rows → slice_get rows k ≡ Some r
    → IsNested old g variables rows args own (suc k) id
    → Extends g g1 → AddsUses g g1 [] → Denotes g1 e (λ w. Truth (pointwise nat_eq (words w g r.args) (words w g args)))
    → Extends g1 g2 → AddsUses g1 g2 [] → Denotes g2 id2 (λ w. if truth w g1 e then denoted w g1 (id_at variables r.var) else denoted w g1 id)
    → HasSort g2 id2 (sort_at old own) → IsGraph g2 → IsEquality g1 r.args args e → IsBuilt g2 (Ite e (id_at variables r.var) id) id2
    → IsNested old g2 variables rows args own k id2
IsNested-step old g g1 g2 variables rows args own k id e id2 r ha hr gr h e1 u1 d1 e2 u2 d2 s2 is b1 b2 =
    let row = All-contains (IsEarlier old variables (length args) (sort_at old own)) rows r hr (Contains-get rows k r gr) in
    record {
      extends = Extends-trans old g g2 h.extends (Extends-trans g g1 g2 e1 e2);
      uses = AddsUses-trans old g g2 [] h.uses (AddsUses-trans g g1 g2 [] u1 u2);
      sorted = s2;
      denotes = record {
        is = λ w.
            let left = words-Extends w old g h.extends r.args row.arguments in
            let right = words-Extends w old g h.extends args ha in
            let test : truth w g1 e ≡ pointwise nat_eq (words w old r.args) (words w old args) = ap truth_of (d1.is w) ∙ (λ i. pointwise nat_eq (left i) (right i)) in
            let var : denoted w g1 (id_at variables r.var) ≡ denoted w old (id_at variables r.var) = denoted-Extends w old g1 (Extends-trans old g g1 h.extends e1) (id_at variables r.var) row.sorted.inside in
            let rest = denoted-Extends w g g1 e1 id h.sorted.inside ∙ h.denotes.is w in
            d2.is w ∙ (λ i. if test i then var i else rest i)
            ∙ sym (λ i. chosen w old variables (drop-get rows k r gr i) args (denoted w old own));
      };
      graph = λ g. is;
      made =
          subst (λ l. IsNestedChoice g2 variables l args own id2) (sym (drop-get rows k r gr))
          (e, id, IsEquality-Extends g1 g2 e2 r.args args e b1, IsNestedChoice-Extends g g2 (Extends-trans g g1 g2 e1 e2) variables (drop (suc k) rows) args own id h.made, b2);
    }

pub row-get : (nodes : List Node) (variables : List ℕ) (arity : ℕ) (s : Sort) (rows : List FlatRow) (k : ℕ) (r : FlatRow)
    → AreEarlier nodes variables arity s rows → slice_get rows k ≡ Some r → IsEarlier nodes variables arity s r
row-get nodes variables arity s rows k r h at = All-contains (IsEarlier nodes variables arity s) rows r h (Contains-get rows k r at)

-- a term has the sort that the graph gives it
pub HasSort-known : (nodes : List Node) (id : ℕ) (s : Sort) → HasSort nodes id s → HasSort nodes id (sort_at nodes id)
HasSort-known nodes id s h = record { inside = h.inside; sorted = refl }
