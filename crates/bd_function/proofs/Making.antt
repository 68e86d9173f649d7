-- From what the terms of the flat graph are made, as the pass goes on.
use Rattle.std.proofs.Common.{◌≡◌, ◌≢◌, ◌↔◌, ℕ, ◌+◌, ◌<◌, ◌⊎◌, inl, inr, List, [], ◌∷◌, ◌++◌, length, map, slice_get, Some, Contains, Result, Ok, Err, IfOk, refl, ap, sym, ◌∙◌, subst, arith, append_assoc, length-append}
use Rattle.std.specs.declared.alloc.AllocError.{AllocError}
use Rattle.std.proofs.lemmas.Option.{none-some, same_Some, slice_get_within}
use Rattle.std.proofs.lemmas.List.{append-nil, get_or_append_left}
use Rattle.std.proofs.lemmas.List.Elements.{Contains-append_cases, Contains-append_left, Contains-append_right}
use Rattle.std.proofs.Math.Seq.{get_or-append_seam}
use Rattle.bd_model.specs.declared.design.Sort.{Sort}
use Rattle.bd_model.specs.declared.design.Sort.TheVariants as sort
use Rattle.bd_terms.specs.declared.node.Sym.{Sym}
use Rattle.bd_terms.specs.declared.node.Sym.TheVariants.{Var}
use Rattle.bd_terms.specs.declared.node.Node.{Node}
use Rattle.bd_terms.specs.declared.node.Node.TheVariants.{True, Not, And, Or, Ite, Eq, App, Pred, Read, Write, Init}
use Rattle.bd_terms.specs.Graph.{Extends, FitsSorts, IsGraph, Use, children, node_uses, uses}
use Rattle.bd_terms.specs.Reaches.{Reaches, Root, Child}
use Rattle.bd_terms.specs.Renamed.{id_at, renamed}
use Rattle.bd_terms.specs.Simplified.{Gives, simplified}
use Rattle.bd_terms.proofs.Growth.{get-Extends}
use Rattle.bd_terms.proofs.Older.{Reaches-below}
use Rattle.bd_terms.proofs.Places.{Contains-get, get-front, get-push}
use Rattle.bd_terms.proofs.Reaching.{children-below}
use Rattle.bd_walk.specs.Built.{IsBuilt}
use Rattle.bd_walk.proofs.Building.{IsBuilt-Extends, IsBuilt-now}
use Rattle.bd_function.specs.declared.flat.FlatRow.{FlatRow}
use Rattle.bd_function.specs.declared.flat.FlatSym.{FlatSym}
use Rattle.bd_function.specs.declared.eliminate.Taken.{Taken}
use Rattle.bd_function.specs.Flat.{application}
use Rattle.bd_function.specs.Flattened.{AreRising, Flattened, IsChoice, IsMadeFlat, OfApplication, OfPlain, ReachesApplication, StandsFor}
use Rattle.bd_function.specs.inner.Nested.{IsNestedChoice}
use Rattle.bd_function.specs.inner.Taken.{AddsApplication, AddsSymbol, AddsVariable, AreAlike, AreInOrder, BuildsTerm, HasGrown, IsPlain, IsTaken, MakesTerm, use_of, with_row}
use Rattle.bd_function.proofs.Applying.{with_row-cases, with_row-later, with_row-there}
use Rattle.bd_function.proofs.Nesting.{IsEquality-Extends}
use Rattle.bd_function.proofs.Stepping.{Applies, Contains-old, HasRow-old, alike_row}
use Rattle.bd_list.proofs.Membership.{Contains-none, Contains-one}
use Rattle.bd_list.proofs.Numbers.{below_last}

pub IsChoice-Extends : (a b : List Node) → Extends a b → (kind : Sort) (rows : List FlatRow) (args : List ℕ) (own id : ℕ) → IsChoice a kind rows args own id → IsChoice b kind rows args own id
IsChoice-Extends a b e kind [] args own id h = h
IsChoice-Extends a b e kind (r ∷ rows) args own id h = (
  h.0,
  h.1,
  h.2,
  IsEquality-Extends a b e r.args args h.0 h.3,
  get-Extends a b e h.1 (application kind (Var r.var) []) h.4,
  IsChoice-Extends a b e kind rows args own h.2 h.5,
  IsBuilt-Extends a b e (Ite h.0 h.1 h.2) id h.6,
)

-- a choice over the terms of the variables
pub IsChoice-of : (nodes : List Node) (variables : List ℕ) (kind : Sort) (rows : List FlatRow) (args : List ℕ) (own id : ℕ)
    → ((r : FlatRow) → Contains rows r → StandsFor nodes kind r.var (id_at variables r.var)) → IsNestedChoice nodes variables rows args own id → IsChoice nodes kind rows args own id
IsChoice-of nodes variables kind [] args own id stands h = h
IsChoice-of nodes variables kind (r ∷ rows) args own id stands h = (
  h.0,
  id_at variables r.var,
  h.1,
  h.2,
  stands r (0, omega arith, refl),
  IsChoice-of nodes variables kind rows args own h.1 (λ q p. stands q (Contains-append_right (r ∷ []) rows q p)) h.3,
  h.4,
)

-- what is made stays so as terms, applications and rows are added
module _ (old a b : List Node) (apps apps' : List ℕ) (ss ss' : List FlatSym) (front : (x i : ℕ) → slice_get apps x ≡ Some i → slice_get apps' x ≡ Some i) (e : Extends a b)
    (later : (x : FlatSym) → Contains ss x → HasGrown ss' x) where
  pub Flattened-grow : (i id : ℕ) → Flattened old apps a ss i id → Flattened old apps' b ss' i id
  Flattened-grow _ _ (OfPlain i node places id there none below k) =
      OfPlain i node places id there none (λ c p. Flattened-grow c (id_at places c) (below c p)) (IsBuilt-Extends a b e (renamed places node) id k)
  Flattened-grow _ _ (OfApplication i x kind s args places before after own id there at below row stands choice) =
      let new : FlatRow = record { args = map (id_at places) args; var = x } in
      let l = later (record { sym = s; rows = before ++ new ∷ after }) row in
      let grows : l.later.rows ≡ before ++ new ∷ (after ++ l.more) = l.grows ∙ append_assoc before (new ∷ after) l.more in
      let same : l.later ≡ record { sym = s; rows = before ++ new ∷ (after ++ l.more) } = λ j. record { sym = l.same j; rows = grows j } in
      OfApplication i x kind s args places before (after ++ l.more) own id there (front x i at) (λ c p. Flattened-grow c (id_at places c) (below c p))
      (subst (Contains ss') same l.listed)
      (get-Extends a b e own (application kind (Var x) []) stands) (IsChoice-Extends a b e kind before (map (id_at places) args) own id choice)

-- a row after the others is in order
AreRising-push : (rows : List FlatRow) (new : FlatRow) → ((r : FlatRow) → Contains rows r → r.var < new.var) → AreRising rows → AreRising (rows ++ new ∷ [])
AreRising-push rows new less h i j q r lt at there = elim (get-push rows new j r there) [
  | inl y ↦ elim (get-push rows new i q at) [
    | inl x ↦ h i j q r lt x y
    | inr x ↦ let inside = slice_get_within rows j r y in absurd (omega (arith, lt, x.0, inside))
  ]
  | inr y ↦ elim (get-push rows new i q at) [
    | inl x ↦ subst (λ (z : FlatRow). q.var < z.var) (sym y.1) (less q (Contains-get rows i q x))
    | inr x ↦ absurd (omega (arith, lt, x.0, y.0))
  ]
]

AreRising-none : AreRising []
AreRising-none i j q r lt at there = absurd (none-some q at)

-- the application of the symbol
pub Applies-made : (t t1 t2 t4 : Taken) (own id place : ℕ) (args : List ℕ) (s : Sort) (k : Sym) → IsTaken t → AreAlike t (use_of k (length args) s ∷ [])
    → AddsVariable t t1 own s → (a : AddsSymbol t1 t2 k place) → Applies t2 t4 own id place (length t.variables.items) args a.holder
    → AddsApplication t t4 s k args id
Applies-made t t1 t2 t4 own id place args s k taken alike v a ap4 =
    let n : ℕ = length t.variables.items in
    let new : FlatRow = record { args = args; var = n } in
    let e14 = subst (λ l. Extends l t4.graph) a.graph ap4.extends in
    record {
      own = own;
      before = a.holder.rows;
      stands = get-Extends t1.graph t4.graph e14 own (application s (Var n) []) v.term.stands;
      choice = IsChoice-of t4.graph t2.variables.items s a.holder.rows args own id (λ r p.
          let l = alike_row t t1 t2 own (length args) s k place taken alike v a r p in
          subst (λ x. StandsFor t4.graph x r.var (id_at t2.variables.items r.var)) l.kind
          (get-Extends t2.graph t4.graph ap4.extends (id_at t2.variables.items r.var) _ l.row.stands))
          ap4.made;
      counted = ap length (ap4.variables ∙ a.variables ∙ v.variables) ∙ length-append t.variables.items (own ∷ []);
      there = subst (λ x. Contains t4.rows.items (record { sym = x; rows = a.holder.rows ++ new ∷ [] })) a.same
          (subst (λ l. Contains l (record { sym = a.holder.sym; rows = a.holder.rows ++ new ∷ [] })) (sym ap4.rows) (with_row-there t2.rows.items place a.holder new a.there));
      later = λ x p.
          let l = with_row-later t2.rows.items place new x (Contains-old t t1 t2 own s k place v a x p) in
          record { later = l.later; listed = subst (λ rs. Contains rs l.later) (sym ap4.rows) l.listed; same = l.same; more = l.more; grows = l.grows };
      order = λ h x p. elim (with_row-cases t2.rows.items place a.holder new a.there x (subst (λ rs. Contains rs x) ap4.rows p)) [
        | inl q ↦ old_order h x q
        | inr e ↦
            subst (λ (z : FlatSym). AreRising z.rows) (sym e)
            (AreRising-push a.holder.rows new (λ r q.
            let has = HasRow-old t t1 t2 own s k place v a k r (record { holder = a.holder; listed = Contains-get t2.rows.items place a.holder a.there; same = a.same; has = q }) in
            (taken.rows has.holder has.listed r has.has).known)
            (old_order h a.holder (Contains-get t2.rows.items place a.holder a.there)))
      ];
    }
  where
    old_order : AreInOrder t.rows.items → (x : FlatSym) → Contains t2.rows.items x → AreRising x.rows
    old_order h x p = elim a.adds [
      | inl e ↦ h x (subst (λ l. Contains l x) (e ∙ v.rows) p)
      | inr e ↦ elim (Contains-append_cases t1.rows.items ((record { sym = k; rows = [] }) ∷ []) x (subst (λ l. Contains l x) e p)) [
        | inl q ↦ h x (subst (λ l. Contains l x) v.rows q)
        | inr q ↦ subst (λ (z : FlatSym). AreRising z.rows) (Contains-one (record { sym = k; rows = [] }) x q) AreRising-none
      ]
    ]

-- a term of a renamed node
pub MakesTerm-renamed : (t t' : Taken) (ids : List ℕ) (node n : Node) (r : Result ℕ AllocError) → n ≡ renamed ids node → IfOk r (MakesTerm t t' n) → IfOk r (MakesTerm t t' (renamed ids node))
MakesTerm-renamed t t' ids node n r e h = subst (λ x. IfOk r (MakesTerm t t' x)) e h

MakesTerm-plain : (t t' : Taken) (n : Node) (id : ℕ) → ((s : Sym) (args : List ℕ) → n ≡ App s args → ⊥) → ((s : Sym) (args : List ℕ) → n ≡ Pred s args → ⊥) → BuildsTerm t t' n id → MakesTerm t t' n id
MakesTerm-plain t t' True id h k b = b
MakesTerm-plain t t' (Not a) id h k b = b
MakesTerm-plain t t' (And x y) id h k b = b
MakesTerm-plain t t' (Or x y) id h k b = b
MakesTerm-plain t t' (Ite c x y) id h k b = b
MakesTerm-plain t t' (Eq x y) id h k b = b
MakesTerm-plain t t' (App s args) id h k b = absurd (h s args refl)
MakesTerm-plain t t' (Pred s args) id h k b = absurd (k s args refl)
MakesTerm-plain t t' (Read m x) id h k b = b
MakesTerm-plain t t' (Write m x d) id h k b = b
MakesTerm-plain t t' (Init e) id h k b = b

-- a term that is built and no application
pub MakesTerm-built : (t t' : Taken) (n : Node) (r : Result ℕ AllocError) → ((s : Sym) (args : List ℕ) → n ≡ App s args → ⊥) → ((s : Sym) (args : List ℕ) → n ≡ Pred s args → ⊥)
    → FitsSorts t.graph n → IfOk r (λ id. Gives t.graph t'.graph id (simplified t.graph n)) → t'.variables.items ≡ t.variables.items → t'.rows.items ≡ t.rows.items
    → IfOk r (MakesTerm t t' n)
MakesTerm-built t t' n (Ok id) h k fits gives vars rows =
    MakesTerm-plain t t' n id h k (record { built = IsBuilt-now t.graph t'.graph n id fits gives; variables = vars; rows = rows })
MakesTerm-built t t' n (Err x) h k fits gives vars rows = tt

-- the terms that the root reaches are made as far as there are Ids
pub record IsMaking (old : List Node) (root : ℕ) (ids : List ℕ) (t : Taken) : Type 0 where
  pub applications : List ℕ
  pub counted : length applications ≡ length t.variables.items
  pub rising : (i j a b : ℕ) → i < j → slice_get applications i ≡ Some a → slice_get applications j ≡ Some b → a < b
  pub are : (k : ℕ) → Contains applications k ↔ ((k < length ids) × ReachesApplication old root k)
  pub order : AreInOrder t.rows.items
  pub made : (k : ℕ) → k < length ids → Reaches old root k → Flattened old applications t.graph t.rows.items k (id_at ids k)

pub IsMaking-start : (old : List Node) (root : ℕ) (t : Taken) → t.rows.items ≡ [] → t.variables.items ≡ [] → IsMaking old root [] t
IsMaking-start old root t r v = record {
  applications = [];
  counted = sym (ap length v);
  rising = λ i j x y lt at there. absurd (none-some x at);
  are = λ k. (λ p. absurd (Contains-none k p), λ p. absurd (omega (arith, p.0)));
  order = λ s p. absurd (Contains-none s (subst (λ l. Contains l s) r p));
  made = λ k h. absurd (omega (arith, h));
}

-- an application applies a symbol
application-uses : (kind : Sort) (s : Sym) (args : List ℕ) → node_uses (application kind s args) ≢ []
application-uses sort.Word s args e = Contains-none (use_of s (length args) sort.Word) (subst (λ l. Contains l (use_of s (length args) sort.Word)) e (0, omega arith, refl))
application-uses sort.Bool s args e = Contains-none (use_of s (length args) sort.Bool) (subst (λ l. Contains l (use_of s (length args) sort.Bool)) e (0, omega arith, refl))
application-uses sort.Memory s args e = Contains-none (use_of s (length args) sort.Bool) (subst (λ l. Contains l (use_of s (length args) sort.Bool)) e (0, omega arith, refl))

-- no application more where the next term isn't one that is reached
are_same : (old : List Node) (root : ℕ) (ids : List ℕ) (id : ℕ) (apps : List ℕ) → ((k : ℕ) → Contains apps k ↔ ((k < length ids) × ReachesApplication old root k)) → (ReachesApplication old root (length ids) → ⊥)
    → (k : ℕ) → Contains apps k ↔ ((k < length (ids ++ id ∷ [])) × ReachesApplication old root k)
are_same old root ids id apps are none k = (
  λ p. let q = (are k).0 p in (omega (arith, q.0, length-append ids (id ∷ [])), q.1),
  λ q. elim (below_last k (length ids) (omega (arith, q.0, length-append ids (id ∷ [])))) [
    | inl lt ↦ (are k).1 (lt, q.1)
    | inr e ↦ absurd (none (subst (ReachesApplication old root) e q.1))
  ],
)

-- a term that isn't reached is passed
pub IsMaking-pass : (old : List Node) (root : ℕ) (ids : List ℕ) (t : Taken) (id : ℕ) → IsMaking old root ids t → (Reaches old root (length ids) → ⊥) → IsMaking old root (ids ++ id ∷ []) t
IsMaking-pass old root ids t id m none = record {
  applications = m.applications;
  counted = m.counted;
  rising = m.rising;
  are = are_same old root ids id m.applications m.are (λ r. none r.reached);
  order = m.order;
  made = λ k h r. elim (below_last k (length ids) (omega (arith, h, length-append ids (id ∷ [])))) [
    | inl p ↦ subst (Flattened old m.applications t.graph t.rows.items k) (sym (get_or_append_left ids (id ∷ []) 0 k p)) (m.made k p r)
    | inr e ↦ absurd (none (subst (Reaches old root) e r))
  ];
}

-- with one term more that is made, all are
made_more : (old : List Node) (root : ℕ) (ids : List ℕ) (id : ℕ) (apps : List ℕ) (nodes : List Node) (ss : List FlatSym) → ((k : ℕ) → k < length ids → Reaches old root k → Flattened old apps nodes ss k (id_at ids k))
    → Flattened old apps nodes ss (length ids) id → (k : ℕ) → k < length (ids ++ id ∷ []) → Reaches old root k → Flattened old apps nodes ss k (id_at (ids ++ id ∷ []) k)
made_more old root ids id apps nodes ss made new k h r = elim (below_last k (length ids) (omega (arith, h, length-append ids (id ∷ [])))) [
  | inl p ↦ subst (Flattened old apps nodes ss k) (sym (get_or_append_left ids (id ∷ []) 0 k p)) (made k p r)
  | inr e ↦
      subst (λ j. Flattened old apps nodes ss j (id_at (ids ++ id ∷ []) j)) (sym e)
      (subst (Flattened old apps nodes ss (length ids)) (sym (get_or-append_seam ids id [] 0)) new)
]

-- what the next term stands over is made
below_made : (old : List Node) → IsGraph old → (root : ℕ) (ids : List ℕ) (t : Taken) (m : IsMaking old root ids t) (node : Node) → slice_get old (length ids) ≡ Some node → Reaches old root (length ids)
    → (c : ℕ) → Contains (children node) c → Flattened old m.applications t.graph t.rows.items c (id_at ids c)
below_made old g root ids t m node at r c p = m.made c (children-below old g (length ids) node at c p) (Child (length ids) node c r at p)

-- the next term, which is no application
IsMaking-plain : (old : List Node) → IsGraph old → (root : ℕ) (ids : List ℕ) (t t' : Taken) (id : ℕ) (node : Node) → IsMaking old root ids t → Reaches old root (length ids) → slice_get old (length ids) ≡ Some node
    → Extends t.graph t'.graph → node_uses node ≡ [] → BuildsTerm t t' (renamed ids node) id → IsMaking old root (ids ++ id ∷ []) t'
IsMaking-plain old g root ids t t' id node m r at e none b =
    let same = λ (x : FlatSym) (p : Contains t.rows.items x). has_same x p in
    let grow = Flattened-grow old t.graph t'.graph m.applications m.applications t.rows.items t'.rows.items (λ x i h. h) e same in
    record {
      applications = m.applications;
      counted = m.counted ∙ sym (ap length b.variables);
      rising = m.rising;
      are = are_same old root ids id m.applications m.are (λ a. application-uses a.kind a.symbol a.args (ap node_uses (same_Some _ node (sym a.there ∙ at)) ∙ none));
      order = subst AreInOrder (sym b.rows) m.order;
      made = made_more old root ids id m.applications t'.graph t'.rows.items (λ k h s. grow k (id_at ids k) (m.made k h s))
          (OfPlain (length ids) node ids id at none (λ c p. grow c (id_at ids c) (below_made old g root ids t m node at r c p)) b.built);
    }
  where
    has_same : (x : FlatSym) → Contains t.rows.items x → HasGrown t'.rows.items x
    has_same x p = record { later = x; listed = subst (λ l. Contains l x) (sym b.rows) p; same = refl; more = []; grows = sym (append-nil x.rows) }

-- and one that is
IsMaking-application : (old : List Node) → IsGraph old → (root : ℕ) (ids : List ℕ) (t t' : Taken) (id : ℕ) (kind : Sort) (s : Sym) (args : List ℕ) → children (application kind s args) ≡ args
    → IsMaking old root ids t → Reaches old root (length ids) → slice_get old (length ids) ≡ Some (application kind s args)
    → Extends t.graph t'.graph → AddsApplication t t' kind s (map (id_at ids) args) id → IsMaking old root (ids ++ id ∷ []) t'
IsMaking-application old g root ids t t' id kind s args over m r at e a =
    let n : ℕ = length ids in
    let apps = m.applications ++ n ∷ [] in
    let front = λ (x i : ℕ) (h : slice_get m.applications x ≡ Some i). get-front m.applications (n ∷ []) x i h in
    let grow = Flattened-grow old t.graph t'.graph m.applications apps t.rows.items t'.rows.items front e a.later in
    record {
      applications = apps;
      counted = length-append m.applications (n ∷ []) ∙ ap (λ x. x + 1) m.counted ∙ sym a.counted;
      rising = λ i j x y lt h k. elim (get-push m.applications n j y k) [
        | inl q ↦ elim (get-push m.applications n i x h) [
          | inl p ↦ m.rising i j x y lt p q
          | inr p ↦ let inside = slice_get_within m.applications j y q in absurd (omega (arith, lt, p.0, inside))
        ]
        | inr q ↦ elim (get-push m.applications n i x h) [
          | inl p ↦ let b = ((m.are x).0 (Contains-get m.applications i x p)).0 in omega (arith, b, q.1)
          | inr p ↦ absurd (omega (arith, lt, p.0, q.0))
        ]
      ];
      are = λ k. (
        λ p. elim (Contains-append_cases m.applications (n ∷ []) k p) [
          | inl q ↦ let b = (m.are k).0 q in (omega (arith, b.0, length-append ids (id ∷ [])), b.1)
          | inr q ↦ let same = Contains-one n k q in (
            omega (arith, same, length-append ids (id ∷ [])),
            subst (ReachesApplication old root) same (record { kind = kind; symbol = s; args = args; reached = r; there = at }),
          )
        ],
        λ q. elim (below_last k n (omega (arith, q.0, length-append ids (id ∷ [])))) [
          | inl lt ↦ Contains-append_left m.applications (n ∷ []) k ((m.are k).1 (lt, q.1))
          | inr same ↦ Contains-append_right m.applications (n ∷ []) k (0, omega arith, sym same)
        ],
      );
      order = a.order m.order;
      made = made_more old root ids id apps t'.graph t'.rows.items (λ k h w. grow k (id_at ids k) (m.made k h w))
          (OfApplication n (length t.variables.items) kind s args ids a.before [] a.own id at
          (ap (slice_get apps) (sym m.counted) ∙ last m.applications n)
          (λ c p. grow c (id_at ids c) (below_made old g root ids t m (application kind s args) at r c (subst (λ l. Contains l c) (sym over) p)))
          a.there a.stands a.choice);
    }
  where
    last : (xs : List ℕ) (x : ℕ) → slice_get (xs ++ x ∷ []) (length xs) ≡ Some x
    last [] x = refl
    last (y ∷ xs) x = last xs x

-- the next term
pub IsMaking-take : (old : List Node) → IsGraph old → (root : ℕ) (ids : List ℕ) (t t' : Taken) (id : ℕ) (node : Node) → IsMaking old root ids t → Reaches old root (length ids) → slice_get old (length ids) ≡ Some node
    → IsPlain node → Extends t.graph t'.graph → MakesTerm t t' (renamed ids node) id → IsMaking old root (ids ++ id ∷ []) t'
IsMaking-take old g root ids t t' id True m r at p e b = IsMaking-plain old g root ids t t' id True m r at e refl b
IsMaking-take old g root ids t t' id (Not x) m r at p e b = IsMaking-plain old g root ids t t' id (Not x) m r at e refl b
IsMaking-take old g root ids t t' id (And x y) m r at p e b = IsMaking-plain old g root ids t t' id (And x y) m r at e refl b
IsMaking-take old g root ids t t' id (Or x y) m r at p e b = IsMaking-plain old g root ids t t' id (Or x y) m r at e refl b
IsMaking-take old g root ids t t' id (Ite c x y) m r at p e b = IsMaking-plain old g root ids t t' id (Ite c x y) m r at e refl b
IsMaking-take old g root ids t t' id (Eq x y) m r at p e b = IsMaking-plain old g root ids t t' id (Eq x y) m r at e refl b
IsMaking-take old g root ids t t' id (App s args) m r at p e b = IsMaking-application old g root ids t t' id sort.Word s args refl m r at e b
IsMaking-take old g root ids t t' id (Pred s args) m r at p e b = IsMaking-application old g root ids t t' id sort.Bool s args refl m r at e b
IsMaking-take old g root ids t t' id (Read k x) m r at p e b = absurd p
IsMaking-take old g root ids t t' id (Write k x d) m r at p e b = absurd p
IsMaking-take old g root ids t t' id (Init k) m r at p e b = absurd p

-- in the end the root is made
pub IsMaking-end : (old : List Node) → IsGraph old → (root : ℕ) (ids : List ℕ) (t : Taken) → IsTaken t → IsMaking old root ids t → root < length ids → IsMadeFlat old root t.graph (id_at ids root) t.rows.items
IsMaking-end old g root ids t taken m inside = record {
  applications = m.applications;
  rising = m.rising;
  are = λ k. (
    λ p. ((m.are k).0 p).1,
    λ a. let below = Reaches-below old g root k a.reached in (m.are k).1 (omega (arith, below, inside), a),
  );
  rows = λ s p r q. let k = (taken.rows s p r q).known in omega (arith, k, m.counted);
  order = m.order;
  variables = λ u p. let b = taken.applied u p in (b.number, omega (arith, b.below, m.counted), b.same);
  made = m.made root inside Root;
}
