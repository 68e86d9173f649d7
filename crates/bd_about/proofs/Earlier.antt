-- The lets of a lawful machine name earlier lets alone.
use Rattle.std.proofs.Common.{◌≡◌, ◌<◌, ◌+◌, ℕ, zero, suc, Bool, true, List, [], ◌∷◌, ◌++◌, length, sym, subst, inl, inr, Some, arith, length-append}
use Rattle.std.specs.Prelude.{◌||◌, slice_get}
use Rattle.std.proofs.lemmas.Bool.{eqb-true}
use Rattle.std.proofs.lemmas.Option.{slice_get_within}
use Rattle.bd_model.specs.DesignView.{LocalView}
use Rattle.bd_model.specs.ExprView.{ExprView, ExprViews, Truth, Entry, Input, Local, Not, And, Or, Implies, Iff, Equal, Ite, Read, Write, Apply, no_exprs, expr}
use Rattle.bd_model.specs.Lawful.{Context, HasSort, HaveSort, LetsHaveSorts, without_lets}
use Rattle.bd_model.specs.declared.design.Sort.{Sort}
use Rattle.bd_model.specs.declared.design.Sort.TheVariants as sort
use Rattle.bd_about.specs.Named.{any_names, names}
use Rattle.bd_about.specs.inner.Marking.{UseEarlier}
use Rattle.bd_about.specs.declared.named.Named.TheVariants as named
use Rattle.bd_list.proofs.Truths.{or_cases}

either : {A : Type 0} (a b : Bool) → (a || b) ≡ true → (a ≡ true → A) → (b ≡ true → A) → A
either a b h f g = elim (or_cases a b h) [ inl p ↦ f p | inr p ↦ g p ]

mutual
  pub names_earlier : (c : Context) (e : ExprView) (s : Sort) (i : ℕ) → HasSort c e s → names (named.Local i) e ≡ true → i < length c.locals
  names_earlier c (Truth b) s i h on = absurd (cc on)
  names_earlier c (Entry j) s i h on = absurd (cc on)
  names_earlier c (Input j) s i h on = absurd (cc on)
  names_earlier c (Local j) s i h on = let inside = slice_get_within c.locals j s h in let same : j ≡ i = eqb-true j i on in omega (arith, inside, same)
  names_earlier c (Not e) s i h on = names_earlier c e sort.Bool i h.1 on
  names_earlier c (And es) s i h on = any_earlier c es sort.Bool i h.2 on
  names_earlier c (Or es) s i h on = any_earlier c es sort.Bool i h.2 on
  names_earlier c (Implies a b) s i h on = either _ _ on (λ p. names_earlier c a sort.Bool i h.1 p) (λ p. names_earlier c b sort.Bool i h.2 p)
  names_earlier c (Iff a b) s i h on = either _ _ on (λ p. names_earlier c a sort.Bool i h.1 p) (λ p. names_earlier c b sort.Bool i h.2 p)
  names_earlier c (Equal a b) s i h on = either _ _ on (λ p. names_earlier c a sort.Word i h.1 p) (λ p. names_earlier c b sort.Word i h.2 p)
  names_earlier c (Ite q a b) s i h on =
      either _ _ on (λ o. either _ _ o (λ p. names_earlier c q sort.Bool i h.0 p) (λ p. names_earlier c a s i h.1 p)) (λ p. names_earlier c b s i h.2 p)
  names_earlier c (Read m a) s i h on = either _ _ on (λ p. names_earlier c m sort.Memory i h.1 p) (λ p. names_earlier c a sort.Word i h.2 p)
  names_earlier c (Write m a d) s i h on =
      either _ _ on (λ o. either _ _ o (λ p. names_earlier c m sort.Memory i h.1 p) (λ p. names_earlier c a sort.Word i h.2 p)) (λ p. names_earlier c d sort.Word i h.3 p)
  names_earlier c (Apply f es) s i h on = any_earlier c es sort.Word i h.1 on

  any_earlier : (c : Context) (es : ExprViews) (s : Sort) (i : ℕ) → HaveSort c es s → any_names (named.Local i) es ≡ true → i < length c.locals
  any_earlier c no_exprs s i h on = absurd (cc on)
  any_earlier c (expr e es) s i h on = either _ _ on (λ p. names_earlier c e s i h.0 p) (λ p. any_earlier c es s i h.1 p)

lets_earlier : (c : Context) (lets : List LocalView) (i j : ℕ) (l : LocalView) → LetsHaveSorts c lets → slice_get lets j ≡ Some l → names (named.Local i) l.value ≡ true → i < length c.locals + j
lets_earlier c [] i j l h at on = absurd (cc at)
lets_earlier c (m ∷ ms) i zero l h at on =
    let same : m ≡ l = cc in
    let inside = names_earlier c m.value m.sort i h.0 (subst (λ x. names (named.Local i) x.value ≡ true) (sym same) on) in
    omega (arith, inside)
lets_earlier c (m ∷ ms) i (suc j) l h at on =
    let inside = lets_earlier (record c { locals = c.locals ++ m.sort ∷ [] }) ms i j l h.1 at on in
    omega (arith, inside, length-append c.locals (m.sort ∷ []))

pub use_earlier : (c : Context) (lets : List LocalView) → LetsHaveSorts (without_lets c) lets → UseEarlier lets
use_earlier c lets h = record { each = λ i j l at on. let r = lets_earlier (without_lets c) lets i j l h at on in omega (arith, r) }
