-- Terms that calls made stay so where the graph grows.
use Rattle.std.proofs.Common.{ℕ, zero, suc, ◌<◌, Bool, true, false, List, [], ◌∷◌, ◌++◌, length, Result, Ok, IfOk}
use Rattle.std.specs.List.{AllByRecursion, AllZip}
use Rattle.std.specs.declared.alloc.AllocError.{AllocError}
use Rattle.std.proofs.lemmas.List.Elements.{All-from_recursion}
use Rattle.std.proofs.lemmas.Result.{IfOk-weaker}
use Rattle.bd_model.specs.DesignView.{DesignView, LocalView}
use Rattle.bd_model.specs.ExprView.{ExprView, ExprViews, no_exprs, expr}
use Rattle.bd_model.specs.ExprView.{Truth, Entry, Input, Local, Not, And, Or, Implies, Iff, Equal, Ite, Read, Write, Apply}
use Rattle.bd_model.specs.declared.design.Sort.{Sort}
use Rattle.bd_terms.specs.Graph.{Extends, children}
use Rattle.bd_terms.specs.Simplified.{Gives, simplified}
use Rattle.bd_terms.specs.declared.node.Sym.{Sym}
use Rattle.bd_terms.specs.declared.node.Sym.TheVariants as symbol
use Rattle.bd_terms.specs.declared.node.Node.{Node}
use Rattle.bd_terms.specs.declared.node.Node.TheVariants as node
use Rattle.bd_terms.proofs.Growth.{Extends-self, Extends-trans, inside-Extends}
use Rattle.bd_symbolic.specs.Terms.{Terms, terms_of}
use Rattle.bd_symbolic.specs.Made.{Called, IsConstant, IsImplication, IsEquivalence, IsMade, AreJoined, AreMade, AreLets, AreMadeOver, IsFlushCycle, AreFlushed, AreFirst, IsFirstState}
use Rattle.bd_symbolic.specs.declared.state.SymState.{SymState}

-- what a call has just given
pub called : (old new : List Node) (n : Node) (r : Result ℕ AllocError) → AllByRecursion (λ c. c < length old) (children n) → IfOk r (λ id. Gives old new id (simplified old n)) → IfOk r (Called new n)
called old new n r inside h =
    IfOk-weaker r _ (Called new n) (λ id g. record { before = old; after = new; inside = All-from_recursion (λ c. c < length old) (children n) inside; gives = g; since = Extends-self new }) h

pub called-Extends : (old new : List Node) → Extends old new → (n : Node) (id : ℕ) → Called old n id → Called new n id
called-Extends old new e n id h = record { before = h.before; after = h.after; inside = h.inside; gives = h.gives; since = Extends-trans h.after old new h.since e }

pub constant-Extends : (old new : List Node) → Extends old new → (b : Bool) (id : ℕ) → IsConstant old b id → IsConstant new b id
constant-Extends old new e true id h = called-Extends old new e node.True id h
constant-Extends old new e false id h = (h.0, called-Extends old new e node.True h.0 h.1, called-Extends old new e (node.Not h.0) id h.2)

pub implication-Extends : (old new : List Node) → Extends old new → (a b id : ℕ) → IsImplication old a b id → IsImplication new a b id
implication-Extends old new e a b id h = (h.0, called-Extends old new e (node.Not a) h.0 h.1, called-Extends old new e (node.Or h.0 b) id h.2)

pub equivalence-Extends : (old new : List Node) → Extends old new → (a b id : ℕ) → IsEquivalence old a b id → IsEquivalence new a b id
equivalence-Extends old new e a b id h = (h.0, called-Extends old new e (node.Not b) h.0 h.1, called-Extends old new e (node.Ite a b h.0) id h.2)

-- the calls for the negation of true
pub denial_called : (old mid new : List Node) (n : ℕ) (r : Result ℕ AllocError) → Extends mid new → n < length mid → Gives old mid n (simplified old node.True)
    → IfOk r (λ id. Gives mid new id (simplified mid (node.Not n))) → IfOk r (IsConstant new false)
denial_called old mid new n r e inside g h =
    IfOk-weaker r _ (IsConstant new false) (λ id k. (n, called-Extends mid new e node.True n (called old mid node.True (Ok n) tt g), k)) (called mid new (node.Not n) r (inside, tt) h)

-- the calls for an implication
pub implication_called : (old mid new : List Node) (a b n : ℕ) (r : Result ℕ AllocError) → Extends old mid → Extends mid new → a < length old → b < length old → n < length mid → Gives old mid n (simplified old (node.Not a))
    → IfOk r (λ id. Gives mid new id (simplified mid (node.Or n b))) → IfOk r (IsImplication new a b)
implication_called old mid new a b n r e f ha hb hn g h =
    IfOk-weaker r _ (IsImplication new a b) (λ id k. (n, called-Extends mid new f (node.Not a) n (called old mid (node.Not a) (Ok n) (ha, tt) g), k))
    (called mid new (node.Or n b) r (hn, (inside-Extends old mid e b hb, tt)) h)

-- the calls for an equivalence
pub equivalence-called : (old mid new : List Node) (a b n : ℕ) (r : Result ℕ AllocError) → Extends old mid → Extends mid new → a < length old → b < length old → n < length mid → Gives old mid n (simplified old (node.Not b))
    → IfOk r (λ id. Gives mid new id (simplified mid (node.Ite a b n))) → IfOk r (IsEquivalence new a b)
equivalence-called old mid new a b n r e f ha hb hn g h =
    IfOk-weaker r _ (IsEquivalence new a b) (λ id k. (n, called-Extends mid new f (node.Not b) n (called old mid (node.Not b) (Ok n) (hb, tt) g), k))
    (called mid new (node.Ite a b n) r (inside-Extends old mid e a ha, (inside-Extends old mid e b hb, (hn, tt))) h)

mutual
  pub made-Extends : (old new : List Node) → Extends old new → (t : Terms) (x : ExprView) (id : ℕ) → IsMade old t x id → IsMade new t x id
  made-Extends old new e t (Truth b) id h = constant-Extends old new e b id h
  made-Extends old new e t (Entry i) id h = h
  made-Extends old new e t (Input i) id h = h
  made-Extends old new e t (Local i) id h = h
  made-Extends old new e t (Not a) id h = (h.0, made-Extends old new e t a h.0 h.1, called-Extends old new e _ id h.2)
  made-Extends old new e t (And es) id h = (h.0, constant-Extends old new e true h.0 h.1, joined-Extends old new e t _ h.0 es id h.2)
  made-Extends old new e t (Or es) id h = (h.0, constant-Extends old new e false h.0 h.1, joined-Extends old new e t _ h.0 es id h.2)
  made-Extends old new e t (Implies a b) id h = (h.0, h.1, made-Extends old new e t a h.0 h.2, made-Extends old new e t b h.1 h.3, implication-Extends old new e h.0 h.1 id h.4)
  made-Extends old new e t (Iff a b) id h = (h.0, h.1, made-Extends old new e t a h.0 h.2, made-Extends old new e t b h.1 h.3, equivalence-Extends old new e h.0 h.1 id h.4)
  made-Extends old new e t (Equal a b) id h = (h.0, h.1, made-Extends old new e t a h.0 h.2, made-Extends old new e t b h.1 h.3, called-Extends old new e _ id h.4)
  made-Extends old new e t (Ite p a b) id h = (h.0, h.1, h.2, made-Extends old new e t p h.0 h.3, made-Extends old new e t a h.1 h.4, made-Extends old new e t b h.2 h.5, called-Extends old new e _ id h.6)
  made-Extends old new e t (Read m a) id h = (h.0, h.1, made-Extends old new e t m h.0 h.2, made-Extends old new e t a h.1 h.3, called-Extends old new e _ id h.4)
  made-Extends old new e t (Write m a d) id h = (h.0, h.1, h.2, made-Extends old new e t m h.0 h.3, made-Extends old new e t a h.1 h.4, made-Extends old new e t d h.2 h.5, called-Extends old new e _ id h.6)
  made-Extends old new e t (Apply f es) id h = (h.0, mades-Extends old new e t es h.0 h.1, called-Extends old new e _ id h.2)

  joined-Extends : (old new : List Node) → Extends old new → (t : Terms) (form : ℕ → ℕ → Node) (done : ℕ) (es : ExprViews) (id : ℕ) → AreJoined old t form done es id → AreJoined new t form done es id
  joined-Extends old new e t form done no_exprs id h = h
  joined-Extends old new e t form done (expr x es) id h =
      (h.0, h.1, made-Extends old new e t x h.0 h.2, called-Extends old new e _ h.1 h.3, joined-Extends old new e t form h.1 es id h.4)

  pub mades-Extends : (old new : List Node) → Extends old new → (t : Terms) (es : ExprViews) (ids : List ℕ) → AreMade old t es ids → AreMade new t es ids
  mades-Extends old new e t no_exprs [] h = tt
  mades-Extends old new e t no_exprs (id ∷ ids) h = absurd h
  mades-Extends old new e t (expr x es) [] h = absurd h
  mades-Extends old new e t (expr x es) (id ∷ ids) h = (made-Extends old new e t x id h.0, mades-Extends old new e t es ids h.1)

pub each-Extends : (old new : List Node) → Extends old new → (t : Terms) (es : List ExprView) (ids : List ℕ) → AllZip (IsMade old t) es ids → AllZip (IsMade new t) es ids
each-Extends old new e t [] [] h = tt
each-Extends old new e t [] (id ∷ ids) h = absurd h
each-Extends old new e t (x ∷ es) [] h = absurd h
each-Extends old new e t (x ∷ es) (id ∷ ids) h = (made-Extends old new e t x id h.0, each-Extends old new e t es ids h.1)

pub lets-Extends : (old new : List Node) → Extends old new → (d : DesignView) (state : SymState) (done : List ℕ) (locals : List LocalView) (lets : List ℕ) → AreLets old d state done locals lets → AreLets new d state done locals lets
lets-Extends old new e d state done [] lets h = h
lets-Extends old new e d state done (l ∷ locals) lets h = (h.0, made-Extends old new e (terms_of d state done) l.value h.0 h.1, lets-Extends old new e d state (done ++ h.0 ∷ []) locals lets h.2)

pub over-Extends : (old new : List Node) → Extends old new → (d : DesignView) (state : SymState) (locals : List LocalView) (es : List ExprView) (ids : List ℕ) → AreMadeOver old d state locals es ids → AreMadeOver new d state locals es ids
over-Extends old new e d state locals es ids h = record {
  lets = h.lets;
  first = lets-Extends old new e d state [] locals h.lets h.first;
  made = each-Extends old new e (terms_of d state h.lets) es ids h.made;
}

pub flush_cycle-Extends : (old new : List Node) → Extends old new → (d : DesignView) (state next : SymState) → IsFlushCycle old d state next → IsFlushCycle new d state next
flush_cycle-Extends old new e d state next h = record {
  inputs = over-Extends old new e d state d.pipe.locals _ next.inputs h.inputs;
  entries = over-Extends old new e d _ d.pipe.locals d.pipe.nexts next.entries h.entries;
}

pub flushed-Extends : (old new : List Node) → Extends old new → (d : DesignView) (n : ℕ) (state : SymState) (ids : List ℕ) → AreFlushed old d n state ids → AreFlushed new d n state ids
flushed-Extends old new e d zero state ids h = h
flushed-Extends old new e d (suc n) state ids h = (h.0, flush_cycle-Extends old new e d state h.0 h.1, flushed-Extends old new e d n h.0 ids h.2)

pub first-Extends : (symbols : ℕ → Sym) (old new : List Node) → Extends old new → (n : ℕ) (ids : List ℕ) (sorts : List Sort) → AreFirst symbols old n ids sorts → AreFirst symbols new n ids sorts
first-Extends symbols old new e n [] [] h = tt
first-Extends symbols old new e n [] (s ∷ sorts) h = absurd h
first-Extends symbols old new e n (id ∷ ids) [] h = absurd h
first-Extends symbols old new e n (id ∷ ids) (s ∷ sorts) h = (called-Extends old new e _ id h.0, first-Extends symbols old new e (suc n) ids sorts h.1)

pub first_state-Extends : (old new : List Node) → Extends old new → (d : DesignView) (state : SymState) → IsFirstState d old state → IsFirstState d new state
first_state-Extends old new e d state h = record {
  entries = first-Extends symbol.Entry old new e 0 state.entries _ h.entries;
  inputs = first-Extends symbol.Input old new e _ state.inputs _ h.inputs;
}
