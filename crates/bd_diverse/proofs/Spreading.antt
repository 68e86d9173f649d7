-- The pass upwards that spreads a world keeps what holds of the terms met so far.
use Rattle.std.proofs.Common.{◌≡◌, ◌⊎◌, inl, inr, ℕ, zero, suc, ◌+◌, ◌<◌, ◌≤◌, Bool, true, false, not, ◌&&◌, ◌||◌, ◌==◌, if◌then◌else◌, List, [], ◌∷◌, ◌++◌, length, map, slice_get, slice_index_or, Option, Some, None, Contains, nat_eq, refl, ap, sym, ◌∙◌, subst, arith, true≢false, length-append}
use Rattle.std.proofs.lemmas.Option.{none-some, same_Some, slice_get_within}
use Rattle.std.proofs.lemmas.List.{get_or_append_left}
use Rattle.std.proofs.lemmas.List.Elements.{Contains-append_right, Contains-push_cases}
use Rattle.std.proofs.Math.Seq.{get_or-append_seam}
use lib.Pointwise.{pointwise}
use Rattle.bd_model.specs.declared.table.Scalar.{Scalar}
use Rattle.bd_model.specs.declared.table.Scalar.TheVariants as scalar
use Rattle.bd_model.specs.declared.table.Row.{Row}
use Rattle.bd_model.specs.declared.table.Table.{Table}
use Rattle.bd_model.specs.Table.{at, row_value}
use Rattle.bd_model.specs.Value.{scalar_truth, scalar_word}
use Rattle.bd_terms.specs.declared.node.Sym.{Sym}
use Rattle.bd_terms.specs.declared.node.Node.{Node}
use Rattle.bd_terms.specs.declared.node.Node.TheVariants.{True, Not, And, Or, Ite, Eq, App, Pred, Read, Write, Init}
use Rattle.bd_terms.specs.Graph.{IsGraph, children}
use Rattle.bd_terms.specs.Denotation.{World, Denoted, Truth, Word, at_place, node_value, truth_of, word_of, words}
use Rattle.bd_terms.specs.Reaches.{Reaches}
use Rattle.bd_terms.proofs.Reaching.{children-below}
use Rattle.bd_function.specs.Tables.{is_symbol}
use Rattle.bd_function.specs.inner.Scalars.{as_denoted, scalar_at, word_at}
use Rattle.bd_function.specs.inner.Taken.{IsPlain}
use Rattle.bd_function.proofs.Applying.{pointwise-same}
use Rattle.bd_function.proofs.LaterVariables.{pointwise-equal}
use Rattle.bd_function.proofs.Tabling.{is_symbol-same, is_symbol-self}
use Rattle.bd_diverse.specs.inner.Spread.{IsUse, OwnRow, Placed, RowOf, Spreading, is_among, read_as, spread_value, start, symbol_args, with_row}
use Rattle.bd_list.proofs.Membership.{first, second, third, Contains-cons, Contains-none}
use Rattle.bd_function.proofs.Evaluating.{at_denoted}

-- what a term that applies no symbol denotes rests on what it stands over alone
pub plain_value : (v w : World) (xs ys : List Denoted) (node : Node) → IsPlain node → symbol_args node ≡ None → ((c : ℕ) → Contains (children node) c → at_place xs c ≡ at_place ys c)
    → node_value v xs node ≡ node_value w ys node
plain_value v w xs ys True p n h = refl
plain_value v w xs ys (Not a) p n h = let x = h a (first a []) in λ i. Truth (not (truth_of (x i)))
plain_value v w xs ys (And a b) p n h = let x = h a (first a (b ∷ [])) in let y = h b (second a b []) in λ i. Truth (truth_of (x i) && truth_of (y i))
plain_value v w xs ys (Or a b) p n h = let x = h a (first a (b ∷ [])) in let y = h b (second a b []) in λ i. Truth (truth_of (x i) || truth_of (y i))
plain_value v w xs ys (Ite c a b) p n h =
    let z = h c (first c (a ∷ b ∷ [])) in let x = h a (second c a (b ∷ [])) in let y = h b (third c a b []) in λ i. if truth_of (z i) then x i else y i
plain_value v w xs ys (Eq a b) p n h = let x = h a (first a (b ∷ [])) in let y = h b (second a b []) in λ i. Truth (word_of (x i) == word_of (y i))
plain_value v w xs ys (App s args) p n h = absurd (none-some _ (sym n))
plain_value v w xs ys (Pred s args) p n h = absurd (none-some _ (sym n))
plain_value v w xs ys (Read m a) p n h = absurd p
plain_value v w xs ys (Write m a d) p n h = absurd p
plain_value v w xs ys (Init e) p n h = absurd p

pub use_children : (node : Node) (s : Sym) (args : List ℕ) → symbol_args node ≡ Some (s, args) → children node ≡ args
use_children True s args h = absurd (none-some _ h)
use_children (Not a) s args h = absurd (none-some _ h)
use_children (And a b) s args h = absurd (none-some _ h)
use_children (Or a b) s args h = absurd (none-some _ h)
use_children (Ite c a b) s args h = absurd (none-some _ h)
use_children (Eq a b) s args h = absurd (none-some _ h)
use_children (App t xs) s args h = ap (λ (p : Sym × List ℕ). p.1) (same_Some (t, xs) (s, args) h)
use_children (Pred t xs) s args h = ap (λ (p : Sym × List ℕ). p.1) (same_Some (t, xs) (s, args) h)
use_children (Read m a) s args h = absurd (none-some _ h)
use_children (Write m a d) s args h = absurd (none-some _ h)
use_children (Init e) s args h = absurd (none-some _ h)

pub use-below : (nodes : List Node) → IsGraph nodes → (i : ℕ) (s : Sym) (args : List ℕ) → IsUse nodes i s args → (c : ℕ) → Contains args c → c < i
use-below nodes g i s args u c p = children-below nodes g i u.node u.there c (subst (λ l. Contains l c) (sym (use_children u.node s args u.is)) p)

-- values that are there stay
pub scalar-stay : (done : List Scalar) (x : Scalar) (k : ℕ) → k < length done → scalar_at (done ++ x ∷ []) k ≡ scalar_at done k
scalar-stay done x k h = get_or_append_left done (x ∷ []) (scalar.Bool false) k h

pub words-stay : (done : List Scalar) (x : Scalar) (args : List ℕ) → ((c : ℕ) → Contains args c → c < length done) → map (word_at (done ++ x ∷ [])) args ≡ map (word_at done) args
words-stay done x [] h = refl
words-stay done x (a ∷ args) h =
    let head : word_at (done ++ x ∷ []) a ≡ word_at done a = ap scalar_word (scalar-stay done x a (h a (first a args))) in
    let tail = words-stay done x args (λ c p. h c (Contains-append_right (a ∷ []) args c p)) in
    λ i. head i ∷ tail i

pub denoted-stay : (done : List Scalar) (x : Scalar) (a : ℕ) → a < length done → at_place (map as_denoted (done ++ x ∷ [])) a ≡ at_place (map as_denoted done) a
denoted-stay done x a h = at_denoted (done ++ x ∷ []) a ∙ ap as_denoted (scalar-stay done x a h) ∙ sym (at_denoted done a)

pub row_value-append : (xs ys : List Row) (a : List ℕ) (d : Scalar) → row_value (xs ++ ys) a d ≡ row_value xs a (row_value ys a d)
row_value-append [] ys a d = refl
row_value-append (x ∷ xs) ys a d = ap (λ v. if pointwise nat_eq x.args a then x.value else v) (row_value-append xs ys a d)

-- a row has these arguments, the first such one, or none has
pub record First (rows : List Row) (a : List ℕ) : Type 0 where
  pub row : Row
  pub has : Contains rows row
  pub args : row.args ≡ a
  pub value : (d : Scalar) → row_value rows a d ≡ row.value

first-by : (x : Row) (rows : List Row) (a : List ℕ) (t : Bool) → pointwise nat_eq x.args a ≡ t → First rows a ⊎ ((d : Scalar) → row_value rows a d ≡ d)
    → First (x ∷ rows) a ⊎ ((d : Scalar) → row_value (x ∷ rows) a d ≡ d)
first-by x rows a true e h = inl (record { row = x; has = first x rows; args = pointwise-equal x.args a e; value = λ d. ap (λ t. if t then x.value else row_value rows a d) e })
first-by x rows a false e (inl f) = inl (record {
  row = f.row;
  has = Contains-append_right (x ∷ []) rows f.row f.has;
  args = f.args;
  value = λ d. ap (λ t. if t then x.value else row_value rows a d) e ∙ f.value d;
})
first-by x rows a false e (inr n) = inr (λ d. ap (λ t. if t then x.value else row_value rows a d) e ∙ n d)

pub first-cases : (rows : List Row) (a : List ℕ) → First rows a ⊎ ((d : Scalar) → row_value rows a d ≡ d)
first-cases [] a = inr (λ d. refl)
first-cases (x ∷ rows) a = first-by x rows a (pointwise nat_eq x.args a) refl (first-cases rows a)

-- the table of the row's symbol
pub with_row-own : (w : World) (s : Sym) (r : Row) → with_row w s r s ≡ record { default = (w s).default; rows = (w s).rows ++ r ∷ [] }
with_row-own w s r = ap (λ t. if t then record { default = (w s).default; rows = (w s).rows ++ r ∷ [] } else w s) (is_symbol-self s)

-- what is found at arguments stays so
abbrev pub Keeps : World → World → Type 0
Keeps new new' = (t : Sym) (a : List ℕ) (x : Scalar) → ((d : Scalar) → row_value (new t).rows a d ≡ x) → (d : Scalar) → row_value (new' t).rows a d ≡ x

keeps-by : (new : World) (s : Sym) (r : Row) (t : Sym) (b : Bool) → is_symbol s t ≡ b → (a : List ℕ) (x : Scalar) → ((d : Scalar) → row_value (new t).rows a d ≡ x)
    → (d : Scalar) → row_value (with_row new s r t).rows a d ≡ x
keeps-by new s r t true e a x h d =
    ap (λ (c : Bool). row_value (if c then record { default = (new t).default; rows = (new t).rows ++ r ∷ [] } else new t).rows a d) e
    ∙ row_value-append (new t).rows (r ∷ []) a d ∙ h (row_value (r ∷ []) a d)
keeps-by new s r t false e a x h d =
    ap (λ (c : Bool). row_value (if c then record { default = (new t).default; rows = (new t).rows ++ r ∷ [] } else new t).rows a d) e ∙ h d

pub with_row-Keeps : (new : World) (s : Sym) (r : Row) → Keeps new (with_row new s r)
with_row-Keeps new s r t a x h d = keeps-by new s r t (is_symbol s t) refl a x h d

-- a row of the new world was there, or is the new one
rows-by : (new : World) (s : Sym) (r : Row) (t : Sym) (b : Bool) → is_symbol s t ≡ b → (q : Row) → Contains (with_row new s r t).rows q → Contains (new t).rows q ⊎ ((s ≡ t) × (r ≡ q))
rows-by new s r t true e q p =
    let p' : Contains ((new t).rows ++ r ∷ []) q = subst (λ (c : Bool). Contains (if c then record { default = (new t).default; rows = (new t).rows ++ r ∷ [] } else new t).rows q) e p in
    elim (Contains-push_cases (new t).rows r q p') [ inl x ↦ inl x | inr x ↦ inr (is_symbol-same s t e, x) ]
rows-by new s r t false e q p = inl (subst (λ (c : Bool). Contains (if c then record { default = (new t).default; rows = (new t).rows ++ r ∷ [] } else new t).rows q) e p)

-- what the new world has at no arguments
constant-by : (rows : List Row) (r : Row) (d : Scalar) (b : Bool) → pointwise nat_eq r.args [] ≡ b → First rows [] ⊎ ((d : Scalar) → row_value rows [] d ≡ d)
    → (row_value (rows ++ r ∷ []) [] d ≡ row_value rows [] d) ⊎ ((r.args ≡ []) × (row_value (rows ++ r ∷ []) [] d ≡ r.value))
constant-by rows r d b e (inl f) = inl (row_value-append rows (r ∷ []) [] d ∙ f.value (row_value (r ∷ []) [] d) ∙ sym (f.value d))
constant-by rows r d true e (inr n) =
    inr (pointwise-equal r.args [] e, row_value-append rows (r ∷ []) [] d ∙ n (row_value (r ∷ []) [] d) ∙ ap (λ t. if t then r.value else d) e)
constant-by rows r d false e (inr n) =
    inl (row_value-append rows (r ∷ []) [] d ∙ n (row_value (r ∷ []) [] d) ∙ ap (λ t. if t then r.value else d) e ∙ sym (n d))

constant-cases : (new : World) (s : Sym) (r : Row) (t : Sym) (b : Bool) → is_symbol s t ≡ b
    → (at (with_row new s r t) [] ≡ at (new t) []) ⊎ ((s ≡ t) × (r.args ≡ []) × (at (with_row new s r t) [] ≡ r.value))
constant-cases new s r t true e =
    let own : at (with_row new s r t) [] ≡ row_value ((new t).rows ++ r ∷ []) [] (new t).default =
    ap (λ (c : Bool). at (if c then record { default = (new t).default; rows = (new t).rows ++ r ∷ [] } else new t) []) e in
    elim (constant-by (new t).rows r (new t).default (pointwise nat_eq r.args []) refl (first-cases (new t).rows [])) [
      | inl x ↦ inl (own ∙ x)
      | inr x ↦ inr (is_symbol-same s t e, x.0, own ∙ x.1)
    ]
constant-cases new s r t false e = inl (ap (λ (c : Bool). at (if c then record { default = (new t).default; rows = (new t).rows ++ r ∷ [] } else new t) []) e)

map-none : {X Y : Type 0} (f : X → Y) (xs : List X) → map f xs ≡ [] → xs ≡ []
map-none f [] h = refl
map-none f (x ∷ xs) h = cc

pub lt-cases : (a b : ℕ) → a < suc b → (a < b) ⊎ (a ≡ b)
lt-cases zero zero h = inr refl
lt-cases zero (suc b) h = inl (omega arith)
lt-cases (suc a) zero h = absurd (omega arith)
lt-cases (suc a) (suc b) h = elim (lt-cases a b (omega arith)) [ inl p ↦ inl (omega arith) | inr e ↦ inr (ap suc e) ]

module _ (positive : List Sym) (bound : ℕ) (old : World) (nodes : List Node) (g : IsGraph nodes) (root : ℕ) where
  -- before any term is met
  pub Spreading-start : Spreading positive bound old nodes root 0 [] (start old)
  Spreading-start = record {
    size = refl;
    rows = λ s r p. absurd (Contains-none r p);
    uses = λ k node s args h. absurd (omega arith);
    others = λ k node h. absurd (omega arith);
    constants = λ s. inl refl;
  }

  module _ (place : ℕ) (done : List Scalar) (new : World) (h : Spreading positive bound old nodes root place done new) (x : Scalar) where
    RowOf-later : (new' : World) (s : Sym) (r : Row) → RowOf positive bound old nodes root place done new s r → RowOf positive bound old nodes root (suc place) (done ++ x ∷ []) new' s r
    RowOf-later new' s r f = record {
      from = f.from;
      terms = f.terms;
      below = omega (arith, f.below);
      reached = f.reached;
      use_ = f.use_;
      args = f.args ∙ sym (words-stay done x f.terms (λ c p. let b = use-below nodes g f.from s f.terms f.use_ c p in omega (arith, b, f.below, h.size)));
      value = f.value;
    }

    Placed-later : (new' : World) → Keeps new new' → (k : ℕ) (node : Node) (s : Sym) (args : List ℕ) → k < place → slice_get nodes k ≡ Some node → symbol_args node ≡ Some (s, args)
        → Placed positive bound old nodes root place done new k node s args → Placed positive bound old nodes root (suc place) (done ++ x ∷ []) new' k node s args
    Placed-later new' keeps k node s args lt at is f =
        let terms_stay = words-stay done x f.terms (λ c p. let b = use-below nodes g f.from s f.terms f.use_ c p in omega (arith, b, f.early, lt, h.size)) in
        let args_stay = words-stay done x args (λ c p. let b = use-below nodes g k s args (record { node = node; there = at; is = is }) c p in omega (arith, b, lt, h.size)) in
        record {
          from = f.from;
          terms = f.terms;
          early = f.early;
          reached = f.reached;
          use_ = f.use_;
          same = terms_stay ∙ f.same ∙ sym args_stay;
          row = λ d. ap (λ l. row_value (new' s).rows l d) args_stay ∙ keeps s (map (word_at done) args) _ f.row d;
          value = scalar-stay done x k (omega (arith, lt, h.size)) ∙ f.value;
        }

    others-later : (k : ℕ) (node : Node) → k < place → slice_get nodes k ≡ Some node → IsPlain node → symbol_args node ≡ None
        → as_denoted (scalar_at done k) ≡ node_value old (map as_denoted done) node → as_denoted (scalar_at (done ++ x ∷ []) k) ≡ node_value old (map as_denoted (done ++ x ∷ [])) node
    others-later k node lt at plain is e =
        ap as_denoted (scalar-stay done x k (omega (arith, lt, h.size))) ∙ e
        ∙ plain_value old old (map as_denoted done) (map as_denoted (done ++ x ∷ [])) node plain is
        (λ c p. let b = children-below nodes g k node at c p in sym (denoted-stay done x c (omega (arith, b, lt, h.size))))

    same_size : length (done ++ x ∷ []) ≡ suc place
    same_size = omega (arith, length-append done (x ∷ []), h.size)

    -- a term that the root doesn't reach
    pub Spreading-skip : (plain : (k : ℕ) (node : Node) → Reaches nodes root k → slice_get nodes k ≡ Some node → IsPlain node) → (Reaches nodes root place → ⊥)
        → Spreading positive bound old nodes root (suc place) (done ++ x ∷ []) new
    Spreading-skip plain none = record {
      size = same_size;
      rows = λ s r p. RowOf-later new s r (h.rows s r p);
      uses = λ k node s args lt r at is. elim (lt-cases k place lt) [
        | inl b ↦ Placed-later new (λ t a y q. q) k node s args b at is (h.uses k node s args b r at is)
        | inr e ↦ absurd (none (subst (Reaches nodes root) e r))
      ];
      others = λ k node lt r at is. elim (lt-cases k place lt) [
        | inl b ↦ others-later k node b at (plain k node r at) is (h.others k node b r at is)
        | inr e ↦ absurd (none (subst (Reaches nodes root) e r))
      ];
      constants = λ s. elim (h.constants s) [
        | inl e ↦ inl e
        | inr o ↦ inr (record { from = o.from; use_ = o.use_; among = o.among; value = o.value })
      ];
    }

    -- one that applies no symbol
    pub Spreading-other : (plain : (k : ℕ) (node : Node) → Reaches nodes root k → slice_get nodes k ≡ Some node → IsPlain node) → (here : Node) → slice_get nodes place ≡ Some here → symbol_args here ≡ None
        → Reaches nodes root place → as_denoted x ≡ node_value old (map as_denoted done) here → Spreading positive bound old nodes root (suc place) (done ++ x ∷ []) new
    Spreading-other plain here at_here none reached value = record {
      size = same_size;
      rows = λ s r p. RowOf-later new s r (h.rows s r p);
      uses = λ k node s args lt r at is. elim (lt-cases k place lt) [
        | inl b ↦ Placed-later new (λ t a y q. q) k node s args b at is (h.uses k node s args b r at is)
        | inr e ↦
            let same : here ≡ node = same_Some here node (sym at_here ∙ ap (slice_get nodes) (sym e) ∙ at) in
            absurd (none-some (s, args) (sym none ∙ ap symbol_args same ∙ is))
      ];
      others = λ k node lt r at is. elim (lt-cases k place lt) [
        | inl b ↦ others-later k node b at (plain k node r at) is (h.others k node b r at is)
        | inr e ↦
            let same : here ≡ node = same_Some here node (sym at_here ∙ ap (slice_get nodes) (sym e) ∙ at) in
            let new_scalar : scalar_at (done ++ x ∷ []) k ≡ x = ap (scalar_at (done ++ x ∷ [])) (e ∙ sym h.size) ∙ get_or-append_seam done x [] (scalar.Bool false) in
            ap as_denoted new_scalar ∙ value ∙ ap (node_value old (map as_denoted done)) same
            ∙ plain_value old old (map as_denoted done) (map as_denoted (done ++ x ∷ [])) node (plain k node r at) is
            (λ c p. let b = children-below nodes g k node at c p in sym (denoted-stay done x c (omega (arith, b, e, h.size))))
      ];
      constants = λ s. elim (h.constants s) [
        | inl e ↦ inl e
        | inr o ↦ inr (record { from = o.from; use_ = o.use_; among = o.among; value = o.value })
      ];
    }

-- the row of an application
abbrev pub row_for : List Sym → ℕ → World → ℕ → List Scalar → Sym → List ℕ → List ℕ → Row
row_for positive bound old place done s args old_args = record { args = map (word_at done) args; value = spread_value positive bound old place s old_args }

module _ (positive : List Sym) (bound : ℕ) (old : World) (nodes : List Node) (g : IsGraph nodes) (root : ℕ) (plain : (k : ℕ) (node : Node) → Reaches nodes root k → slice_get nodes k ≡ Some node → IsPlain node)
    (place : ℕ) (done : List Scalar) (new : World) (h : Spreading positive bound old nodes root place done new) (here : Node) (s : Sym) (args : List ℕ) (old_args : List ℕ)
    (at_here : slice_get nodes place ≡ Some here) (is_here : symbol_args here ≡ Some (s, args)) (reached : Reaches nodes root place) (old_is : old_args ≡ words old nodes args) where
  use_here : IsUse nodes place s args
  use_here = record { node = here; there = at_here; is = is_here }

  -- the value is that of the first equal application, or the new row's
  pub record Chosen (r : Row) : Type 0 where
    pub from : ℕ
    pub terms : List ℕ
    pub early : from ≤ place
    pub came : Reaches nodes root from
    pub use_ : IsUse nodes from s terms
    pub same : map (word_at done) terms ≡ map (word_at done) args
    pub row : (d : Scalar) → row_value (with_row new s r s).rows (map (word_at done) args) d ≡ spread_value positive bound old from s (words old nodes terms)

  chosen : (r : Row) → r ≡ row_for positive bound old place done s args old_args → First (new s).rows (map (word_at done) args) ⊎ ((d : Scalar) → row_value (new s).rows (map (word_at done) args) d ≡ d) → Chosen r
  chosen r e (inl f) =
      let o = h.rows s f.row f.has in
      record {
        from = o.from;
        terms = o.terms;
        early = omega (arith, o.below);
        came = o.reached;
        use_ = o.use_;
        same = sym o.args ∙ f.args;
        row = λ d. with_row-Keeps new s r s (map (word_at done) args) f.row.value f.value d ∙ o.value;
      }
  chosen r e (inr n) = record {
    from = place;
    terms = args;
    early = omega arith;
    came = reached;
    use_ = use_here;
    same = refl;
    row = λ d.
        ap (λ (t : Table). row_value t.rows (map (word_at done) args) d) (with_row-own new s r)
        ∙ row_value-append (new s).rows (r ∷ []) (map (word_at done) args) d ∙ n (row_value (r ∷ []) (map (word_at done) args) d)
        ∙ ap (λ (q : Row). row_value (q ∷ []) (map (word_at done) args) d) e
        ∙ ap (λ t. if t then spread_value positive bound old place s old_args else d) (pointwise-same (map (word_at done) args))
        ∙ ap (spread_value positive bound old place s) old_is;
  }

  constant-here : (r : Row) → r ≡ row_for positive bound old place done s args old_args → (x : Scalar) (t : Sym) (b : Bool) → is_among positive s ≡ b → (s ≡ t) × (r.args ≡ []) × (at (with_row new s r t) [] ≡ r.value)
      → (at (with_row new s r t) [] ≡ at (old t) []) ⊎ OwnRow positive bound old nodes root (suc place) (done ++ x ∷ []) (with_row new s r) t
  constant-here r e x t true among c =
      let none : args ≡ [] = map-none (word_at done) args (sym (ap (λ (q : Row). q.args) e) ∙ c.1) in
      inr (record {
        from = place;
        use_ = subst (λ k. IsUse nodes place k []) c.0 (subst (IsUse nodes place s) none use_here);
        among = subst (λ k. is_among positive k ≡ true) c.0 among;
        value = c.2 ∙ ap (λ (q : Row). q.value) e ∙ ap (λ z. if z then scalar.Word (suc (bound + place)) else at (old s) old_args) among;
      })
  constant-here r e x t false among c =
      let none : args ≡ [] = map-none (word_at done) args (sym (ap (λ (q : Row). q.args) e) ∙ c.1) in
      inl (c.2 ∙ ap (λ (q : Row). q.value) e ∙ ap (λ z. if z then scalar.Word (suc (bound + place)) else at (old s) old_args) among
      ∙ ap (at (old s)) (old_is ∙ ap (words old nodes) none) ∙ ap (λ k. at (old k) []) c.0)

  -- a term that applies a symbol: its row goes after the others, and its value is that of the first row with its arguments
  pub Spreading-use : (r : Row) (x : Scalar) → r ≡ row_for positive bound old place done s args old_args → x ≡ read_as here (at (with_row new s r s) (map (word_at done) args))
      → Spreading positive bound old nodes root (suc place) (done ++ x ∷ []) (with_row new s r)
  Spreading-use r x e value =
      let c = chosen r e (first-cases (new s).rows (map (word_at done) args)) in
      let args_stay = words-stay done x args (λ c p. let b = use-below nodes g place s args use_here c p in omega (arith, b, h.size)) in
      record {
        size = omega (arith, length-append done (x ∷ []), h.size);
        rows = λ t q p. elim (rows-by new s r t (is_symbol s t) refl q p) [
          | inl old_row ↦ RowOf-later positive bound old nodes g root place done new h x (with_row new s r) t q (h.rows t q old_row)
          | inr new_one ↦ subst (λ k. RowOf positive bound old nodes root (suc place) (done ++ x ∷ []) (with_row new s r) k q) new_one.0
              (record {
                from = place;
                terms = args;
                below = omega arith;
                reached = reached;
                use_ = use_here;
                args = ap (λ (z : Row). z.args) (sym new_one.1 ∙ e) ∙ sym args_stay;
                value = ap (λ (z : Row). z.value) (sym new_one.1 ∙ e) ∙ ap (spread_value positive bound old place s) old_is;
              })
        ];
        uses = λ k node t ys lt k_reached at is. elim (lt-cases k place lt) [
          | inl b ↦ Placed-later positive bound old nodes g root place done new h x (with_row new s r) (with_row-Keeps new s r) k node t ys b at is (h.uses k node t ys b k_reached at is)
          | inr same_place ↦
              let same : here ≡ node = same_Some here node (sym at_here ∙ ap (slice_get nodes) (sym same_place) ∙ at) in
              let pair : Some (s, args) ≡ Some (t, ys) = sym is_here ∙ ap symbol_args same ∙ is in
              let both : (s, args) ≡ (t, ys) = same_Some (s, args) (t, ys) pair in
              let new_scalar : scalar_at (done ++ x ∷ []) k ≡ x = ap (scalar_at (done ++ x ∷ [])) (same_place ∙ sym h.size) ∙ get_or-append_seam done x [] (scalar.Bool false) in
              subst (λ (z : Sym × List ℕ). Placed positive bound old nodes root (suc place) (done ++ x ∷ []) (with_row new s r) k node z.0 z.1) both
              (record {
                from = c.from;
                terms = c.terms;
                early = omega (arith, c.early, same_place);
                reached = c.came;
                use_ = c.use_;
                same = words-stay done x c.terms (λ i p. let b = use-below nodes g c.from s c.terms c.use_ i p in omega (arith, b, c.early, h.size)) ∙ c.same ∙ sym args_stay;
                row = λ d. ap (λ l. row_value (with_row new s r s).rows l d) args_stay ∙ c.row d;
                value = new_scalar ∙ value ∙ ap (read_as here) (c.row (with_row new s r s).default) ∙ ap (λ n. read_as n (spread_value positive bound old c.from s (words old nodes c.terms))) same;
              })
        ];
        others = λ k node lt k_reached at is. elim (lt-cases k place lt) [
          | inl b ↦ others-later positive bound old nodes g root place done new h x k node b at (plain k node k_reached at) is (h.others k node b k_reached at is)
          | inr same_place ↦
              let same : here ≡ node = same_Some here node (sym at_here ∙ ap (slice_get nodes) (sym same_place) ∙ at) in
              absurd (none-some (s, args) (sym is ∙ ap symbol_args (sym same) ∙ is_here))
        ];
        constants = λ t. elim (constant-cases new s r t (is_symbol s t) refl) [
          | inl stays ↦ elim (h.constants t) [
            | inl old_one ↦ inl (stays ∙ old_one)
            | inr o ↦ inr (record { from = o.from; use_ = o.use_; among = o.among; value = stays ∙ o.value })
          ]
          | inr here_one ↦ constant-here r e x t (is_among positive s) refl here_one
        ];
      }
