-- From each world in which the root is false there is a diverse one in which it is.
use Rattle.std.proofs.Common.{◌≡◌, ◌≢◌, ◌⊎◌, ◌↔◌, inl, inr, ℕ, zero, suc, ◌+◌, ◌<◌, ◌≤◌, Bool, true, false, if◌then◌else◌, List, [], ◌∷◌, ◌++◌, length, map, get_or, slice_get, slice_index_or, Option, Some, None, Contains, IsTrue, refl, ap, sym, ◌∙◌, subst, arith, true≢false, AllPairs}
use Rattle.std.specs.List.{AllByRecursion}
use Rattle.std.proofs.lemmas.Option.{none-some, same_Some, slice_get-get_or, slice_get_within}
use Rattle.std.proofs.lemmas.List.Elements.{Contains-append_left, Contains-append_right, Contains-get_or, Contains-push, Contains-push_cases}
use Rattle.bd_function.proofs.Evaluating.{at_denoted}
use Rattle.bd_model.specs.declared.table.Scalar.{Scalar}
use Rattle.bd_model.specs.declared.table.Scalar.TheVariants as scalar
use Rattle.bd_model.specs.DesignView.{DesignView}
use Rattle.bd_model.specs.Table.{at}
use Rattle.bd_terms.specs.declared.node.Sym.{Sym}
use Rattle.bd_terms.specs.declared.node.Sym.TheVariants.{Function}
use Rattle.bd_terms.specs.declared.node.Node.{Node}
use Rattle.bd_terms.specs.declared.node.Node.TheVariants.{True, Not, And, Or, Ite, Eq, App, Pred, Read, Write, Init}
use Rattle.bd_terms.specs.Graph.{IsGraph}
use Rattle.bd_terms.specs.Denotation.{World, Denoted, applied, at_place, node_value, truth, truth_of, word, words}
use Rattle.bd_terms.specs.Reaches.{Reaches}
use Rattle.bd_terms.proofs.Older.{Reaches-below}
use Rattle.bd_function.specs.Flat.{ReachesNoMemory}
use Rattle.bd_function.specs.inner.Scalars.{as_denoted, scalar_at, word_at}
use Rattle.bd_function.specs.inner.Taken.{IsPlain}
use Rattle.bd_function.proofs.Flattening.{plain_reached}
use Rattle.bd_terms.specs.Valid.{KeepsConstantsApart}
use Rattle.bd_diverse.specs.declared.occurrences.Occurrences.{Occurrences}
use Rattle.bd_diverse.specs.Positive.{IsPositive, Walks, Way}
use Rattle.bd_diverse.specs.Diverse.{IsDiverse}
use Rattle.bd_diverse.specs.inner.Walked.{flows, has_way, is_any, no_way, only_even, ways_at, with_flows}
use Rattle.bd_diverse.specs.inner.Applied.{AppliesSymbol, is_compared, is_reached}
use Rattle.bd_diverse.specs.inner.Spread.{Spreading, is_among, read_as, start, symbol_args, with_row}
use Rattle.bd_diverse.proofs.Walking.{any_from, some_way}
use Rattle.bd_diverse.proofs.Passing.{IsWalked, IsWalked-exact, IsWalked-mark, IsWalked-pass, IsWalked-root, Walks-reaches, has_inside, reached-walked}
use Rattle.bd_diverse.proofs.Applying.{AppliesSymbol-one, Collects, Collects-more, Collects-none, Collects-passed, positive_exact}
use Rattle.bd_diverse.proofs.Reading.{spread-apart, spread-diverse, spread-false}
use Rattle.bd_diverse.proofs.Spreading.{Spreading-other, Spreading-skip, Spreading-start, Spreading-use, lt-cases, row_for}
use Rattle.bd_diverse.proofs.Settling.{among-exact, settled-IsSpread}
use Rattle.bd_list.proofs.Membership.{first, Contains-cons, Contains-none}

-- marks of a whole pass downwards
record Walked (nodes : List Node) (root : ℕ) : Type 0 where
  pub marks : List Occurrences
  pub walked : IsWalked nodes root 0 marks

module _ (nodes : List Node) (g : IsGraph nodes) (root : ℕ) where
  walked-by : (n : ℕ) (marks : List Occurrences) → IsWalked nodes root (suc n) marks → (b : Bool) → is_any (ways_at marks n) ≡ b → ((marks' : List Occurrences) → IsWalked nodes root n marks' → Walked nodes root) → Walked nodes root
  walked-by n marks m true e next =
      let some = some_way (ways_at marks n) e in
      let inside = has_inside marks n some.way some.has in
      let there : slice_get nodes n ≡ Some (slice_index_or nodes n True) = slice_get-get_or nodes n True (omega (arith, inside, m.size)) in
      next (with_flows marks (flows (ways_at marks n) (slice_index_or nodes n True))) (IsWalked-mark nodes g root n marks (slice_index_or nodes n True) m e there)
  walked-by n marks m false e next = next marks (IsWalked-pass nodes root n marks m e)

  walked-from : (n : ℕ) (marks : List Occurrences) → IsWalked nodes root n marks → Walked nodes root
  walked-from zero marks m = record { marks = marks; walked = m }
  walked-from (suc n) marks m = walked-by n marks m (is_any (ways_at marks n)) refl (λ marks' m'. walked-from n marks' m')

  walked : root < length nodes → Walked nodes root
  walked inside = walked-from (length nodes) _ (IsWalked-root nodes root inside)

-- the symbol of a term that is a word
node_symbol : Node → Option Sym
node_symbol (App s args) = Some s
node_symbol node = None

symbol_applies : (node : Node) (t : Sym) → node_symbol node ≡ Some t → AppliesSymbol node t
unfolding node_symbol
symbol_applies True t h = absurd (none-some t h)
symbol_applies (Not a) t h = absurd (none-some t h)
symbol_applies (And a b) t h = absurd (none-some t h)
symbol_applies (Or a b) t h = absurd (none-some t h)
symbol_applies (Ite c a b) t h = absurd (none-some t h)
symbol_applies (Eq a b) t h = absurd (none-some t h)
symbol_applies (App s args) t h = record { args = args; is = ap (λ x. App x args) (same_Some s t h) }
symbol_applies (Pred s args) t h = absurd (none-some t h)
symbol_applies (Read m a) t h = absurd (none-some t h)
symbol_applies (Write m a d) t h = absurd (none-some t h)
symbol_applies (Init e) t h = absurd (none-some t h)

applies_symbol : (node : Node) (t : Sym) → AppliesSymbol node t → node_symbol node ≡ Some t
unfolding node_symbol
applies_symbol node t a = ap node_symbol a.is

-- the symbols of marked terms, as a list
record Collected (nodes : List Node) (test : ℕ → Bool) (P : Sym → Type 0) (place : ℕ) : Type 0 where
  pub keys : List Sym
  pub collects : Collects nodes test P place keys

module _ (nodes : List Node) (test : ℕ → Bool) (P : Sym → Type 0) (decide : (s : Sym) → P s ⊎ (P s → ⊥)) where
  no_more : (node : Node) (keys : List Sym) → ((s : Sym) → AppliesSymbol node s → P s → ⊥) → (s : Sym) → Contains keys s ↔ (Contains keys s ⊎ (AppliesSymbol node s × P s))
  no_more node keys none s = (λ h. inl h, λ h. elim h [ inl q ↦ q | inr a ↦ absurd (none s a.0 a.1) ])

  one_more : (node : Node) (t : Sym) (keys : List Sym) → node_symbol node ≡ Some t → P t → (s : Sym) → Contains (keys ++ t ∷ []) s ↔ (Contains keys s ⊎ (AppliesSymbol node s × P s))
  one_more node t keys e p s = (
    λ h. elim (Contains-push_cases keys t s h) [ inl q ↦ inl q | inr same ↦ inr (subst (AppliesSymbol node) same (symbol_applies node t e), subst P same p) ],
    λ h. elim h [
      | inl q ↦ Contains-append_left keys (t ∷ []) s q
      | inr a ↦ subst (Contains (keys ++ t ∷ [])) (same_Some t s (sym e ∙ applies_symbol node s a.0)) (Contains-push keys t)
    ],
  )

  collected-symbol : (n : ℕ) (keys : List Sym) → Collects nodes test P n keys → test n ≡ true → (node : Node) → slice_get nodes n ≡ Some node → (o : Option Sym) → node_symbol node ≡ o → Collected nodes test P (n + 1)
  collected-symbol n keys h passes node at None e = record {
    keys = keys;
    collects = Collects-more nodes test P n keys keys node h at passes (no_more node keys (λ s a p. absurd (none-some s (sym e ∙ applies_symbol node s a))));
  }
  collected-symbol n keys h passes node at (Some t) e = elim (decide t) [
    | inl p ↦ record { keys = keys ++ t ∷ []; collects = Collects-more nodes test P n keys (keys ++ t ∷ []) node h at passes (one_more node t keys e p) }
    | inr never ↦ record {
      keys = keys;
      collects = Collects-more nodes test P n keys keys node h at passes
          (no_more node keys (λ s a p. never (subst P (same_Some s t (sym (applies_symbol node s a) ∙ e)) p)));
    }
  ]

  collected-by : (n : ℕ) → n < length nodes → Collected nodes test P n → (b : Bool) → test n ≡ b → Collected nodes test P (n + 1)
  collected-by n inside c true e =
      collected-symbol n c.keys c.collects e (slice_index_or nodes n True) (slice_get-get_or nodes n True inside) (node_symbol (slice_index_or nodes n True)) refl
  collected-by n inside c false e = record { keys = c.keys; collects = Collects-passed nodes test P n c.keys c.collects e }

  collected-to : (n : ℕ) → n ≤ length nodes → Collected nodes test P n
  collected-to zero le = record { keys = []; collects = Collects-none nodes test P }
  collected-to (suc n) le =
      let more = collected-by n (omega arith) (collected-to n (omega arith)) (test n) refl in
      let e : n + 1 ≡ suc n = omega arith in
      subst (λ k. Collected nodes test P k) e more

among-by : (ks : List Sym) (s : Sym) (b : Bool) → is_among ks s ≡ b → Contains ks s ⊎ (Contains ks s → ⊥)
among-by ks s true e = inl ((among-exact ks s).0 e)
among-by ks s false e = inr (λ h. true≢false (sym ((among-exact ks s).1 h) ∙ e))

among_or_not : (ks : List Sym) (s : Sym) → Contains ks s ⊎ (Contains ks s → ⊥)
among_or_not ks s = among-by ks s (is_among ks s) refl

not-or-not : (P : Type 0) → P ⊎ (P → ⊥) → (P → ⊥) ⊎ ((P → ⊥) → ⊥)
not-or-not P (inl p) = inr (λ n. n p)
not-or-not P (inr n) = inl n

-- the positive symbols, as a list, and which terms are reached
record Found (nodes : List Node) (root : ℕ) : Type 0 where
  pub positive : List Sym
  pub exact : (s : Sym) → Contains positive s ↔ IsPositive nodes root s
  pub reached : (k : ℕ) → Reaches nodes root k ⊎ (Reaches nodes root k → ⊥)

reached-by : (nodes : List Node) (root : ℕ) (marks : List Occurrences) → IsWalked nodes root 0 marks → (k : ℕ) (b : Bool) → is_any (ways_at marks k) ≡ b → Reaches nodes root k ⊎ (Reaches nodes root k → ⊥)
reached-by nodes root marks m k true e = let some = some_way (ways_at marks k) e in inl (Walks-reaches nodes root some.way k (m.sound some.way k some.has))
reached-by nodes root marks m k false e =
    inr (λ r. let w = reached-walked nodes root k r in true≢false (sym (any_from (ways_at marks k) w.way ((IsWalked-exact nodes root marks m w.way k).1 w.walks)) ∙ e))

found : (nodes : List Node) → IsGraph nodes → (root : ℕ) → root < length nodes → Found nodes root
found nodes g root inside =
    let w = walked nodes g root inside in
    let compared = collected-to nodes (is_compared w.marks) (λ s. Unit {0}) (λ s. inl tt) (length nodes) (omega arith) in
    let rest = collected-to nodes (is_reached w.marks) (λ s. ¬ Contains compared.keys s) (λ s. not-or-not (Contains compared.keys s) (among_or_not compared.keys s)) (length nodes) (omega arith) in
    record {
      positive = rest.keys;
      exact = λ s.
          let p = positive_exact nodes root w.marks compared.keys (IsWalked-exact nodes root w.marks w.walked)
          (λ t. (λ h. ((compared.collects t).0 h).0, λ h. (compared.collects t).1 (h, tt))) s in
          (λ h. p.0 ((rest.collects s).0 h), λ h. (rest.collects s).1 (p.1 h));
      reached = λ k. reached-by nodes root w.marks w.walked k (is_any (ways_at w.marks k)) refl;
    }

-- what a term of no memory denotes, as a scalar
record AsScalar (x : Denoted) : Type 0 where
  pub scalar : Scalar
  pub is : as_denoted scalar ≡ x

plain_scalar : (w : World) (done : List Scalar) (node : Node) → IsPlain node → AsScalar (node_value w (map as_denoted done) node)
plain_scalar w done True p = record { scalar = scalar.Bool true; is = refl }
plain_scalar w done (Not a) p = record { scalar = scalar.Bool _; is = refl }
plain_scalar w done (And a b) p = record { scalar = scalar.Bool _; is = refl }
plain_scalar w done (Or a b) p = record { scalar = scalar.Bool _; is = refl }
plain_scalar w done (Ite c a b) p =
    branch (truth_of (at_place (map as_denoted done) c))
  where
    branch : (t : Bool) → AsScalar (if t then at_place (map as_denoted done) a else at_place (map as_denoted done) b)
    branch true = record { scalar = scalar_at done a; is = sym (at_denoted done a) }
    branch false = record { scalar = scalar_at done b; is = sym (at_denoted done b) }
plain_scalar w done (Eq a b) p = record { scalar = scalar.Bool _; is = refl }
plain_scalar w done (App s args) p = record { scalar = scalar.Word _; is = refl }
plain_scalar w done (Pred s args) p = record { scalar = scalar.Bool _; is = refl }
plain_scalar w done (Read m a) p = absurd p
plain_scalar w done (Write m a d) p = absurd p
plain_scalar w done (Init e) p = absurd p

-- a world so far
record Spread (positive : List Sym) (bound : ℕ) (old : World) (nodes : List Node) (root place : ℕ) : Type 0 where
  pub done : List Scalar
  pub new : World
  pub spreading : Spreading positive bound old nodes root place done new

module _ (positive : List Sym) (bound : ℕ) (old : World) (nodes : List Node) (g : IsGraph nodes) (root : ℕ) (reached : (k : ℕ) → Reaches nodes root k ⊎ (Reaches nodes root k → ⊥))
    (plain : (k : ℕ) (node : Node) → Reaches nodes root k → slice_get nodes k ≡ Some node → IsPlain node) where
  spread-node : (n : ℕ) → Spread positive bound old nodes root n → (node : Node) → slice_get nodes n ≡ Some node → Reaches nodes root n → (o : Option (Sym × List ℕ)) → symbol_args node ≡ o → Spread positive bound old nodes root (suc n)
  spread-node n s node there r None e =
      let x = plain_scalar old s.done node (plain n node r there) in
      record { done = s.done ++ x.scalar ∷ []; new = s.new; spreading = Spreading-other positive bound old nodes g root n s.done s.new s.spreading x.scalar plain node there e r x.is }
  spread-node n s node there r (Some (k, args)) e =
      let row = row_for positive bound old n s.done k args (words old nodes args) in
      let x = read_as node (at (with_row s.new k row k) (map (word_at s.done) args)) in
      record {
        done = s.done ++ x ∷ [];
        new = with_row s.new k row;
        spreading = Spreading-use positive bound old nodes g root plain n s.done s.new s.spreading node k args (words old nodes args) there e r refl row x refl refl;
      }

  spread-to : (n : ℕ) → n ≤ length nodes → Spread positive bound old nodes root n
  spread-to zero le = record { done = []; new = start old; spreading = Spreading-start positive bound old nodes g root }
  spread-to (suc n) le =
      let s = spread-to n (omega arith) in
      let node = slice_index_or nodes n True in
      elim (reached n) [
        | inl r ↦ spread-node n s node (slice_get-get_or nodes n True (omega arith)) r (symbol_args node) refl
        | inr never ↦ record {
          done = s.done ++ scalar.Bool false ∷ [];
          new = s.new;
          spreading = Spreading-skip positive bound old nodes g root n s.done s.new s.spreading (scalar.Bool false) plain never;
        }
      ]

-- a number that is at least each of these
pub record AtLeast (f : ℕ → ℕ) (P : ℕ → Type 0) : Type 0 where
  pub most : ℕ
  pub bounds : (x : ℕ) → P x → f x ≤ most

pub at_least-below : (f : ℕ → ℕ) (n : ℕ) → AtLeast f (λ x. x < n)
at_least-below f zero = record { most = 0; bounds = λ x h. absurd (omega arith) }
at_least-below f (suc n) =
    let b = at_least-below f n in
    record { most = b.most + f n; bounds = λ x h. elim (lt-cases x n h) [ inl lt ↦ let k = b.bounds x lt in omega (arith, k) | inr e ↦ let k : f x ≡ f n = ap f e in omega (arith, k) ] }

at_least-among : (f : ℕ → ℕ) (xs : List ℕ) → AtLeast f (Contains xs)
at_least-among f [] = record { most = 0; bounds = λ x h. absurd (Contains-none x h) }
at_least-among f (y ∷ xs) =
    let b = at_least-among f xs in
    record { most = b.most + f y; bounds = λ x h. elim (Contains-cons y xs x h) [ inl e ↦ let k : f y ≡ f x = ap f e in omega (arith, k) | inr q ↦ let k = b.bounds x q in omega (arith, k) ] }

-- among the members of groups
record InGroups (groups : List (List ℕ)) (x : ℕ) : Type 0 where
  pub group : List ℕ
  pub listed : Contains groups group
  pub has : Contains group x

at_least-groups : (f : ℕ → ℕ) (groups : List (List ℕ)) → AtLeast f (InGroups groups)
at_least-groups f [] = record { most = 0; bounds = λ x h. absurd (Contains-none h.group h.listed) }
at_least-groups f (y ∷ groups) =
    let b = at_least-groups f groups in
    let a = at_least-among f y in
    record {
      most = b.most + a.most;
      bounds = λ x h. elim (Contains-cons y groups h.group h.listed) [
        | inl e ↦ let k = a.bounds x (subst (λ l. Contains l x) (sym e) h.has) in omega (arith, k)
        | inr q ↦ let k = b.bounds x (record { group = h.group; listed = q; has = h.has }) in omega (arith, k)
      ];
    }

groups-mapped : (R S : ℕ → ℕ → Type 0) (groups : List (List ℕ)) → ((x y : ℕ) → InGroups groups x → InGroups groups y → R x y → S x y) → AllByRecursion (AllPairs R) groups → AllByRecursion (AllPairs S) groups
groups-mapped R S [] h all = tt
groups-mapped R S (group ∷ groups) h all = (
  λ i j d lt inside.
      h (get_or group i d) (get_or group j d)
      (record { group = group; listed = first group groups; has = Contains-get_or group i d (omega (arith, lt, inside)) })
      (record { group = group; listed = first group groups; has = Contains-get_or group j d inside })
      (all.0 i j d lt inside),
  groups-mapped R S groups (λ x y p q. h x y (later_group x p) (later_group y q)) all.1,
)
  where
    later_group : (x : ℕ) → InGroups groups x → InGroups (group ∷ groups) x
    later_group x p = record { group = p.group; listed = Contains-append_right (group ∷ []) groups p.group p.listed; has = p.has }

-- a diverse world that makes the root false and keeps the design's constants apart
pub record DiverseWorld (d : DesignView) (nodes : List Node) (root : ℕ) : Type 0 where
  pub new : World
  pub diverse : IsDiverse new nodes root
  pub apart : KeepsConstantsApart d new
  pub false_ : ¬ IsTrue (truth new nodes root)

pub diverse-world : (d : DesignView) (nodes : List Node) → IsGraph nodes → (root : ℕ) → root < length nodes → ReachesNoMemory nodes root → (old : World) → KeepsConstantsApart d old → (¬ IsTrue (truth old nodes root)) → DiverseWorld d nodes root
diverse-world d nodes g root inside none old apart false_there =
    let plain : (k : ℕ) (node : Node) → Reaches nodes root k → slice_get nodes k ≡ Some node → IsPlain node = λ k node r there. plain_reached nodes g root none k node r there in
    let f = found nodes g root inside in
    let terms = at_least-below (word old nodes) (length nodes) in
    let constants = at_least-groups (λ k. applied old (Function k) []) d.distinct in
    let bound = terms.most + constants.most in
    let small : (id : ℕ) → Reaches nodes root id → word old nodes id ≤ bound = λ id r. let below = Reaches-below nodes g root id r in let k = terms.bounds id (omega (arith, below, inside)) in omega (arith, k) in
    let s = spread-to f.positive bound old nodes g root f.reached plain (length nodes) (omega arith) in
    let spread = settled-IsSpread f.positive bound old nodes g root inside plain s.done s.new s.spreading f.exact small in
    record {
      new = s.new;
      diverse = spread-diverse old s.new nodes g root bound inside none spread;
      apart = groups-mapped (λ x y. applied old (Function x) [] ≢ applied old (Function y) []) (λ x y. applied s.new (Function x) [] ≢ applied s.new (Function y) []) d.distinct
          (λ x y p q. let a = constants.bounds x p in let b = constants.bounds y q in spread-apart old s.new nodes g root bound inside none spread x y (omega (arith, a)) (omega (arith, b))) apart;
      false_ = spread-false old s.new nodes g root bound inside none spread false_there;
    }
