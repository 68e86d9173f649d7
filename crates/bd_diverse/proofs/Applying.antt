-- Positive symbols, from the ways in which walks come to each term.
use Rattle.std.proofs.Common.{◌≡◌, ◌⊎◌, ◌↔◌, inl, inr, ℕ, zero, suc, ◌+◌, ◌<◌, Bool, true, false, ◌||◌, List, [], ◌∷◌, length, slice_get, Some, Contains, refl, ap, sym, ◌∙◌, subst, arith, true≢false}
use Rattle.std.specs.List.{list_any}
use Rattle.std.proofs.lemmas.Option.{same_Some, slice_get_within}
use Rattle.indexmap.specs.IndexSet.{insert_key}
use Rattle.indexmap.proofs.CallerLemmas.{Contains-list_any}
use Rattle.bd_list.proofs.Numbers.{below_last}
use Rattle.bd_terms.specs.declared.node.Sym.{Sym}
use Rattle.bd_terms.specs.declared.node.Node.{Node}
use Rattle.bd_terms.specs.declared.node.Node.TheVariants.{App}
use Rattle.bd_terms.specs.contracts.node.SymPartialEq.TheImpl.{eq-value}
use Rattle.bd_terms.specs.contracts.node.SymEq.TheImpl.Laws.{laws-law}
use Rattle.bd_function.proofs.Rows.{sym_same}
use Rattle.bd_diverse.specs.declared.occurrences.Occurrences.{Occurrences}
use Rattle.bd_diverse.specs.Positive.{Applies, Compared, IsPositive, Walks, Way}
use Rattle.bd_diverse.specs.inner.Walked.{is_any, has_way, ways_at}
use Rattle.bd_diverse.specs.inner.Applied.{AppliesBelow, AppliesSymbol, is_compared, is_reached}
use Rattle.bd_diverse.proofs.Walking.{any_from, some_way}
use Rattle.bd_list.proofs.Membership.{Contains-cons, Contains-none}
use Rattle.bd_list.proofs.Truths.{or_left, or_right}

-- the derived `==`
abbrev pub sym_eq : Sym → Sym → Bool
sym_eq = eq-value.it

list_any-Contains : (ks : List Sym) (s : Sym) → Contains ks s → list_any (sym_eq s) ks ≡ true
list_any-Contains [] s h = absurd (Contains-none s h)
list_any-Contains (k ∷ ks) s h = elim (Contains-cons k ks s h) [
  | inl e ↦ or_left (sym_eq s k) (list_any (sym_eq s) ks) (ap (sym_eq s) e ∙ laws-law.refl s)
  | inr q ↦ or_right (sym_eq s k) (list_any (sym_eq s) ks) (list_any-Contains ks s q)
]

-- the set's test
pub list_any-exact : (ks : List Sym) (s : Sym) → (list_any (sym_eq s) ks ≡ true) ↔ Contains ks s
list_any-exact ks s = (Contains-list_any sym_eq sym_same ks s, list_any-Contains ks s)

none_below : (nodes : List Node) (test : ℕ → Bool) (s : Sym) → AppliesBelow nodes 0 test s → ⊥
none_below nodes test s a = absurd (omega (arith, a.below))

-- the symbols so far are those of the terms so far that pass the test, and that meet P
abbrev pub Collects : List Node → (ℕ → Bool) → (Sym → Type 0) → ℕ → List Sym → Type 0
Collects nodes test P place keys = (s : Sym) → Contains keys s ↔ (AppliesBelow nodes place test s × P s)

pub Collects-none : (nodes : List Node) (test : ℕ → Bool) (P : Sym → Type 0) → Collects nodes test P 0 []
Collects-none nodes test P s = (λ h. absurd (Contains-none s h), λ h. absurd (none_below nodes test s h.0))

below-more : (nodes : List Node) (test : ℕ → Bool) (place : ℕ) (s : Sym) → AppliesBelow nodes place test s → AppliesBelow nodes (place + 1) test s
below-more nodes test place s a = record { id = a.id; args = a.args; below = omega (arith, a.below); there = a.there; passes = a.passes }

-- the application is that of the term at the place
record AppliesAt (nodes : List Node) (test : ℕ → Bool) (place : ℕ) (s : Sym) : Type 0 where
  pub args : List ℕ
  pub there : slice_get nodes place ≡ Some (App s args)
  pub passes : test place ≡ true

below-cases : (nodes : List Node) (test : ℕ → Bool) (place : ℕ) (s : Sym) → AppliesBelow nodes (place + 1) test s → AppliesBelow nodes place test s ⊎ AppliesAt nodes test place s
below-cases nodes test place s a = elim (below_last a.id place a.below) [
  | inl lt ↦ inl (record { id = a.id; args = a.args; below = lt; there = a.there; passes = a.passes })
  | inr e ↦ inr (record { args = a.args; there = ap (slice_get nodes) (sym e) ∙ a.there; passes = ap test (sym e) ∙ a.passes })
]

-- a term that fails the test
pub Collects-passed : (nodes : List Node) (test : ℕ → Bool) (P : Sym → Type 0) (place : ℕ) (keys : List Sym) → Collects nodes test P place keys
    → test place ≡ false → Collects nodes test P (place + 1) keys
Collects-passed nodes test P place keys h fails s = (
  λ k. let q = (h s).0 k in (below-more nodes test place s q.0, q.1),
  λ k. elim (below-cases nodes test place s k.0) [
    | inl b ↦ (h s).1 (b, k.1)
    | inr b ↦ absurd (true≢false (sym b.passes ∙ fails))
  ],
)

-- a term that passes it
pub Collects-more : (nodes : List Node) (test : ℕ → Bool) (P : Sym → Type 0) (place : ℕ) (keys keys' : List Sym) (node : Node) → Collects nodes test P place keys
    → slice_get nodes place ≡ Some node → test place ≡ true → ((s : Sym) → Contains keys' s ↔ (Contains keys s ⊎ (AppliesSymbol node s × P s))) → Collects nodes test P (place + 1) keys'
Collects-more nodes test P place keys keys' node h at passes adds s = (
  λ k. elim ((adds s).0 k) [
    | inl q ↦ let r = (h s).0 q in (below-more nodes test place s r.0, r.1)
    | inr a ↦ (record { id = place; args = a.0.args; below = omega arith; there = at ∙ ap Some a.0.is; passes = passes }, a.1)
  ],
  λ k. (adds s).1 (elim (below-cases nodes test place s k.0) [
    | inl b ↦ inl ((h s).1 (b, k.1))
    | inr b ↦ inr (record { args = b.args; is = same_Some node (App s b.args) (sym at ∙ b.there) }, k.1)
  ]),
)

app_symbol : Node → Sym → Sym
app_symbol (App s args) d = s
app_symbol node d = d

-- one symbol alone is applied by a term
pub AppliesSymbol-one : (t : Sym) (args : List ℕ) (s : Sym) → AppliesSymbol (App t args) s ↔ (t ≡ s)
unfolding app_symbol
AppliesSymbol-one t args s = (λ a. ap (λ n. app_symbol n t) a.is, λ e. record { args = args; is = ap (λ x. App x args) e })

-- a set with the symbol of a term
pub adds_symbol : (keys keys' : List Sym) (node : Node) (t : Sym) (args : List ℕ) → node ≡ App t args → ((s : Sym) → Contains keys' s ↔ (Contains keys s ⊎ (t ≡ s)))
    → (s : Sym) → Contains keys' s ↔ (Contains keys s ⊎ AppliesSymbol node s)
adds_symbol keys keys' node t args is adds s =
    let one : AppliesSymbol node s ↔ (t ≡ s) = subst (λ n. AppliesSymbol n s ↔ (t ≡ s)) (sym is) (AppliesSymbol-one t args s) in (
      λ h. elim ((adds s).0 h) [ inl q ↦ inl q | inr e ↦ inr (one.1 e) ],
      λ h. (adds s).1 (elim h [ inl q ↦ inl q | inr a ↦ inr (one.0 a) ]),
    )

pub adds_symbol_unless : (keys keys' others : List Sym) (node : Node) (t : Sym) (args : List ℕ) → node ≡ App t args → (¬ Contains others t)
    → ((s : Sym) → Contains keys' s ↔ (Contains keys s ⊎ (t ≡ s))) → (s : Sym) → Contains keys' s ↔ (Contains keys s ⊎ (AppliesSymbol node s × (¬ Contains others s)))
adds_symbol_unless keys keys' others node t args is none adds s =
    let one : AppliesSymbol node s ↔ (t ≡ s) = subst (λ n. AppliesSymbol n s ↔ (t ≡ s)) (sym is) (AppliesSymbol-one t args s) in (
      λ h. elim ((adds s).0 h) [ inl q ↦ inl q | inr e ↦ inr (one.1 e, subst (λ x. ¬ Contains others x) e none) ],
      λ h. (adds s).1 (elim h [ inl q ↦ inl q | inr a ↦ inr (one.0 a.0) ]),
    )

pub keeps_symbols : (keys others : List Sym) (node : Node) (t : Sym) (args : List ℕ) → node ≡ App t args → Contains others t
    → (s : Sym) → Contains keys s ↔ (Contains keys s ⊎ (AppliesSymbol node s × (¬ Contains others s)))
keeps_symbols keys others node t args is among s =
    let one : AppliesSymbol node s ↔ (t ≡ s) = subst (λ n. AppliesSymbol n s ↔ (t ≡ s)) (sym is) (AppliesSymbol-one t args s) in (
      λ h. inl h,
      λ h. elim h [ inl q ↦ q | inr a ↦ absurd (a.1 (subst (Contains others) (one.0 a.0) among)) ],
    )

pub unconditional : (keys keys' : List Sym) (node : Node) → ((s : Sym) → Contains keys' s ↔ (Contains keys s ⊎ AppliesSymbol node s))
    → (s : Sym) → Contains keys' s ↔ (Contains keys s ⊎ (AppliesSymbol node s × Unit {0}))
unconditional keys keys' node h s = (
  λ k. elim ((h s).0 k) [ inl q ↦ inl q | inr a ↦ inr (a, tt) ],
  λ k. (h s).1 (elim k [ inl q ↦ inl q | inr a ↦ inr a.0 ]),
)

-- the positive symbols are those that some walk applies and none compares
pub positive_exact : (nodes : List Node) (root : ℕ) (marks : List Occurrences) (compared : List Sym)
    → ((way : Way) (id : ℕ) → (has_way (ways_at marks id) way ≡ true) ↔ Walks nodes root way id)
    → ((s : Sym) → Contains compared s ↔ AppliesBelow nodes (length nodes) (is_compared marks) s)
    → (s : Sym) → (AppliesBelow nodes (length nodes) (is_reached marks) s × (¬ Contains compared s)) ↔ IsPositive nodes root s
positive_exact nodes root marks compared exact among s = (
  λ h.
      let some = some_way (ways_at marks h.0.id) h.0.passes in
      record {
        way = some.way;
        applied = record { id = h.0.id; args = h.0.args; walks = (exact some.way h.0.id).0 some.has; there = h.0.there };
        never = λ a. h.1 ((among s).1 (record { id = a.id; args = a.args; below = slice_get_within nodes a.id _ a.there; there = a.there; passes = (exact Compared a.id).1 a.walks }));
      },
  λ p. (
    record {
      id = p.applied.id;
      args = p.applied.args;
      below = slice_get_within nodes p.applied.id _ p.applied.there;
      there = p.applied.there;
      passes = any_from (ways_at marks p.applied.id) p.way ((exact p.way p.applied.id).1 p.applied.walks);
    },
    λ k. let a = (among s).0 k in p.never (record { id = a.id; args = a.args; walks = (exact Compared a.id).0 a.passes; there = a.there }),
  ),
)
