-- States that can't be told apart are taken to such states by each step of the specification.
use Rattle.std.proofs.Common.{add-zero, add-suc, ◌≡◌, ℕ, zero, suc, ◌+◌, Bool, true, false, List, [], ◌∷◌, map, refl, ap, sym, ◌∙◌}
use Rattle.std.specs.Prelude.{if◌then◌else◌}
use Rattle.std.specs.List.{list_all, list_any}
use Rattle.bd_model.specs.ExprView.{ExprView, ExprViews, Truth, Entry, Input, Local, Not, And, Or, Implies, Iff, Equal, Ite, Read, Write, Apply, no_exprs, expr}
use Rattle.bd_list.specs.Grown.{grown}
use Rattle.bd_model.specs.Table.{write, ReadSame}
use Rattle.bd_model.specs.DesignView.{LocalView, MachineView, DesignView}
use Rattle.bd_model.specs.Value.{Env, value_of, values_of, truth, is_true, word_of, memory_of, scalar_of, let_value}
use Rattle.bd_model.specs.Cycle.{step, spec_steps}
use Rattle.bd_model.specs.Same.{SameValue, Same}
use Rattle.bd_model.specs.declared.table.Scalar.{Scalar}
use Rattle.bd_model.specs.declared.table.Scalar.TheVariants as scalar
use Rattle.bd_model.specs.declared.table.Table.{Table}
use Rattle.bd_model.specs.declared.table.Memory.{Memory}
use Rattle.bd_model.specs.declared.table.Value.{Value}
use Rattle.bd_model.specs.declared.table.Value.TheVariants as value
use Rattle.bd_model.proofs.Pairs.{AllZip-at_any, AllZip-append, AllZip-of_maps}

pub SameValue-refl : (v : Value) → SameValue v v
SameValue-refl (value.Scalar x) = refl
SameValue-refl (value.Memory m) = λ a. refl

pub SameValue-trans : (u v w : Value) → SameValue u v → SameValue v w → SameValue u w
SameValue-trans (value.Scalar x) (value.Scalar y) (value.Scalar z) p q = p ∙ q
SameValue-trans (value.Scalar x) (value.Scalar y) (value.Memory n) p q = absurd q
SameValue-trans (value.Scalar x) (value.Memory m) w p q = absurd p
SameValue-trans (value.Memory m) (value.Scalar y) w p q = absurd p
SameValue-trans (value.Memory m) (value.Memory n) (value.Scalar z) p q = absurd q
SameValue-trans (value.Memory m) (value.Memory n) (value.Memory o) p q = λ a. p a ∙ q a

pub Same-refl : (a : List Value) → Same a a
Same-refl [] = tt
Same-refl (v ∷ vs) = (SameValue-refl v, Same-refl vs)

SameValue-sym : (v w : Value) → SameValue v w → SameValue w v
SameValue-sym (value.Scalar x) (value.Scalar y) p = sym p
SameValue-sym (value.Scalar x) (value.Memory n) p = absurd p
SameValue-sym (value.Memory m) (value.Scalar y) p = absurd p
SameValue-sym (value.Memory m) (value.Memory n) p = λ a. sym (p a)

pub Same-sym : (a b : List Value) → Same a b → Same b a
Same-sym [] [] p = tt
Same-sym [] (w ∷ b) p = absurd p
Same-sym (v ∷ a) [] p = absurd p
Same-sym (v ∷ a) (w ∷ b) p = (SameValue-sym v w p.0, Same-sym a b p.1)

pub Same-trans : (a b c : List Value) → Same a b → Same b c → Same a c
Same-trans [] [] [] p q = tt
Same-trans [] [] (w ∷ c) p q = absurd q
Same-trans [] (v ∷ b) c p q = absurd p
Same-trans (u ∷ a) [] c p q = absurd p
Same-trans (u ∷ a) (v ∷ b) [] p q = absurd q
Same-trans (u ∷ a) (v ∷ b) (w ∷ c) p q = (SameValue-trans u v w p.0 q.0, Same-trans a b c p.1 q.1)

-- a value as a scalar, and as a memory
pub SameValue-scalar_of : (v w : Value) → SameValue v w → scalar_of v ≡ scalar_of w
SameValue-scalar_of (value.Scalar x) (value.Scalar y) p = p
SameValue-scalar_of (value.Scalar x) (value.Memory n) p = absurd p
SameValue-scalar_of (value.Memory m) (value.Scalar y) p = absurd p
SameValue-scalar_of (value.Memory m) (value.Memory n) p = refl

pub SameValue-memory_of : (v w : Value) → SameValue v w → ReadSame (memory_of v) (memory_of w)
SameValue-memory_of (value.Scalar x) (value.Scalar y) p = λ a. refl
SameValue-memory_of (value.Scalar x) (value.Memory n) p = absurd p
SameValue-memory_of (value.Memory m) (value.Scalar y) p = absurd p
SameValue-memory_of (value.Memory m) (value.Memory n) p = p

SameValue-is_true : (v w : Value) → SameValue v w → is_true v ≡ is_true w
SameValue-is_true v w p = rw (SameValue-scalar_of v w p)

SameValue-word_of : (v w : Value) → SameValue v w → word_of v ≡ word_of w
SameValue-word_of v w p = rw (SameValue-scalar_of v w p)

SameValue-write : (m n : Memory) (a b d e : ℕ) → ReadSame m n → a ≡ b → d ≡ e → ReadSame (write m a d) (write n b e)
SameValue-write m n a b d e h p q = λ x. rw (p, q, h x)

SameValue-ite : (p q : Bool) (u v w x : Value) → p ≡ q → SameValue u w → SameValue v x → SameValue (if p then u else v) (if q then w else x)
SameValue-ite true true u v w x e h k = h
SameValue-ite true false u v w x e h k = cc
SameValue-ite false true u v w x e h k = cc
SameValue-ite false false u v w x e h k = k

list_all-same : (vs ws : List Value) → Same vs ws → list_all is_true vs ≡ list_all is_true ws
list_all-same [] [] h = refl
list_all-same [] (w ∷ ws) h = absurd h
list_all-same (v ∷ vs) [] h = absurd h
list_all-same (v ∷ vs) (w ∷ ws) h = rw (SameValue-is_true v w h.0, list_all-same vs ws h.1)

list_any-same : (vs ws : List Value) → Same vs ws → list_any is_true vs ≡ list_any is_true ws
list_any-same [] [] h = refl
list_any-same [] (w ∷ ws) h = absurd h
list_any-same (v ∷ vs) [] h = absurd h
list_any-same (v ∷ vs) (w ∷ ws) h = rw (SameValue-is_true v w h.0, list_any-same vs ws h.1)

words-same : (vs ws : List Value) → Same vs ws → map word_of vs ≡ map word_of ws
words-same [] [] h = refl
words-same [] (w ∷ ws) h = absurd h
words-same (v ∷ vs) [] h = absurd h
words-same (v ∷ vs) (w ∷ ws) h = rw (SameValue-word_of v w h.0, words-same vs ws h.1)

-- where two environments can't be told apart
pub record SameEnv (e f : Env) : Type 0 where
  pub interp : e.interp ≡ f.interp
  pub state : Same e.state f.state
  pub inputs : e.inputs ≡ f.inputs
  pub locals : Same e.locals f.locals

mutual
  -- any expression takes states that can't be told apart to such values
  pub SameValue-value_of : (e f : Env) → SameEnv e f → (t : ExprView) → SameValue (value_of e t) (value_of f t)
  SameValue-value_of e f h (Truth b) = refl
  SameValue-value_of e f h (Entry i) = AllZip-at_any SameValue e.state f.state (truth false) (truth false) refl h.state i
  SameValue-value_of e f h (Input i) = rw h.inputs refl
  SameValue-value_of e f h (Local i) = AllZip-at_any SameValue e.locals f.locals (truth false) (truth false) refl h.locals i
  SameValue-value_of e f h (Not t) = rw (SameValue-is_true _ _ (SameValue-value_of e f h t)) refl
  SameValue-value_of e f h (And ts) = rw (list_all-same _ _ (Same-values_of e f h ts)) refl
  SameValue-value_of e f h (Or ts) = rw (list_any-same _ _ (Same-values_of e f h ts)) refl
  SameValue-value_of e f h (Implies a b) =
      rw (SameValue-is_true (value_of e a) (value_of f a) (SameValue-value_of e f h a), SameValue-is_true (value_of e b) (value_of f b) (SameValue-value_of e f h b)) refl
  SameValue-value_of e f h (Iff a b) =
      rw (SameValue-is_true (value_of e a) (value_of f a) (SameValue-value_of e f h a), SameValue-is_true (value_of e b) (value_of f b) (SameValue-value_of e f h b)) refl
  SameValue-value_of e f h (Equal a b) =
      rw (SameValue-word_of (value_of e a) (value_of f a) (SameValue-value_of e f h a), SameValue-word_of (value_of e b) (value_of f b) (SameValue-value_of e f h b)) refl
  SameValue-value_of e f h (Ite p a b) =
      SameValue-ite _ _ _ _ _ _ (SameValue-is_true _ _ (SameValue-value_of e f h p)) (SameValue-value_of e f h a) (SameValue-value_of e f h b)
  SameValue-value_of e f h (Read m a) =
      ap (λ x. scalar.Word x) (rw (SameValue-word_of _ _ (SameValue-value_of e f h a)) (SameValue-memory_of _ _ (SameValue-value_of e f h m) _))
  SameValue-value_of e f h (Write m a d) =
      SameValue-write (memory_of (value_of e m)) (memory_of (value_of f m)) _ _ _ _ (SameValue-memory_of _ _ (SameValue-value_of e f h m))
      (SameValue-word_of _ _ (SameValue-value_of e f h a)) (SameValue-word_of _ _ (SameValue-value_of e f h d))
  SameValue-value_of e f h (Apply g ts) = rw (words-same _ _ (Same-values_of e f h ts), h.interp) refl

  Same-values_of : (e f : Env) → SameEnv e f → (ts : ExprViews) → Same (values_of e ts) (values_of f ts)
  Same-values_of e f h no_exprs = tt
  Same-values_of e f h (expr t ts) = (SameValue-value_of e f h t, Same-values_of e f h ts)

-- the values of lets, after those done
Same-let_values : (interp : List Table) (a b : List Value) (inputs : List Scalar) → Same a b → (ls : List LocalView) (done more : List Value) → Same done more
    → Same (grown (let_value interp a inputs) done ls) (grown (let_value interp b inputs) more ls)
Same-let_values interp a b inputs h [] done more k = k
Same-let_values interp a b inputs h (l ∷ ls) done more k =
    Same-let_values interp a b inputs h ls _ _
    (AllZip-append SameValue done more _ _ k (SameValue-value_of _ _ (record { interp = refl; state = h; inputs = refl; locals = k }) l.value))

-- one step from states that can't be told apart
pub Same-step : (m : MachineView) (interp : List Table) (a b : List Value) (inputs : List Scalar) → Same a b → Same (step m interp a inputs) (step m interp b inputs)
Same-step m interp a b inputs h =
    AllZip-of_maps SameValue _ _ (λ t. SameValue-value_of _ _ (record { interp = refl; state = h; inputs = refl; locals = Same-let_values interp a b inputs h m.locals [] [] tt }) t) m.nexts

-- specification steps take states that can't be told apart to such states
pub Same-spec_steps : (j : ℕ) (d : DesignView) (interp : List Table) (a b : List Value) → Same a b → Same (spec_steps j d interp a) (spec_steps j d interp b)
Same-spec_steps zero d interp a b h = h
Same-spec_steps (suc j) d interp a b h = Same-step d.spec interp _ _ [] (Same-spec_steps j d interp a b h)

-- steps add up
pub spec_steps-add : (i j : ℕ) (d : DesignView) (interp : List Table) (a : List Value) → spec_steps i d interp (spec_steps j d interp a) ≡ spec_steps (j + i) d interp a
spec_steps-add zero j d interp a = rw add-zero refl
spec_steps-add (suc i) j d interp a = rw add-suc (ap (λ b. step d.spec interp b []) (spec_steps-add i j d interp a))
