-- Values and their denotations, and terms of expressions where the graph grows.
use Rattle.std.proofs.Common.{◌≡◌, ℕ, List, refl, ap, sym, ◌∙◌, subst, true, false, Bool}
use Rattle.std.specs.Prelude.{if◌then◌else◌}
use Rattle.std.proofs.Math.Path.{fun_ext}
use Rattle.std.proofs.lemmas.Cmp.{nat_eq_equiv}
use Rattle.bd_model.specs.Table.{read, write}
use Rattle.bd_model.specs.ExprView.{ExprView}
use Rattle.bd_model.specs.Value.{is_true, memory_of}
use Rattle.bd_model.specs.Value.{word_of as word_in}
use Rattle.bd_model.specs.Lawful.{HasSort}
use Rattle.bd_model.specs.declared.table.Scalar.TheVariants as scalar
use Rattle.bd_model.specs.declared.table.Memory.{Memory}
use Rattle.bd_model.specs.declared.table.Value.{Value}
use Rattle.bd_model.specs.declared.table.Value.TheVariants as value
use Rattle.bd_terms.specs.declared.node.Node.{Node}
use Rattle.bd_terms.specs.Denotation.{truth_of, word_of, contents_of, written}
use Rattle.bd_terms.proofs.Growth.{inside-Extends, HasSort-Extends, denoted-Extends}
use Rattle.bd_symbolic.specs.World.{denotes_value}
use Rattle.bd_symbolic.specs.DesignSymbols.{GrowsWithin}
use Rattle.bd_symbolic.specs.Symbolic.{Terms, AreTerms, DenotesExpr}
use Rattle.bd_symbolic.specs.inner.Evaluates.{IsReady}
use Rattle.bd_symbolic.proofs.Making.{made-Extends}
use Rattle.bd_symbolic.proofs.Growing.{AreTerms-Grows, context_in-Grows, DenoteEnv-Grows}

pub truth_of-value : (v : Value) → truth_of (denotes_value v) ≡ is_true v
truth_of-value (value.Scalar (scalar.Bool b)) = refl
truth_of-value (value.Scalar (scalar.Word n)) = refl
truth_of-value (value.Memory m) = refl

pub word_of-value : (v : Value) → word_of (denotes_value v) ≡ word_in v
word_of-value (value.Scalar (scalar.Bool b)) = refl
word_of-value (value.Scalar (scalar.Word n)) = refl
word_of-value (value.Memory m) = refl

pub contents_of-value : (v : Value) → contents_of (denotes_value v) ≡ read (memory_of v)
contents_of-value (value.Scalar (scalar.Bool b)) = refl
contents_of-value (value.Scalar (scalar.Word n)) = refl
contents_of-value (value.Memory m) = refl

-- a memory with a word written reads as what it read with the word written
pub written-read : (m : Memory) (a d : ℕ) → written (read m) a d ≡ read (write m a d)
written-read m a d = fun_ext (λ b. ap (λ t. if t then d else read m b) (nat_eq_equiv.symm b a))

pub denotes-if : (b : Bool) (v w : Value) → (if b then denotes_value v else denotes_value w) ≡ denotes_value (if b then v else w)
denotes-if true v w = refl
denotes-if false v w = refl

pub IsReady-Grows : (t : Terms) (e : ExprView) (old new : List Node) → GrowsWithin t.design old new → IsReady old t e → IsReady new t e
IsReady-Grows t e old new g h = record {
  terms = AreTerms-Grows t old new g h.terms;
  sorted = (h.sorted.0, subst (λ c. HasSort c e h.sorted.0) (sym (context_in-Grows t old new g h.terms)) h.sorted.1);
}

-- a term denotes the expression where the graph grows further
pub Denotes-later : (t : Terms) (e : ExprView) (id : ℕ) (old mid new : List Node) → GrowsWithin t.design mid new → DenotesExpr old mid t e id → DenotesExpr old new t e id
Denotes-later t e id old mid new g h = record {
  inside = inside-Extends mid new g.extends id h.inside;
  sorted = λ s p. HasSort-Extends mid new g.extends id s (h.sorted s p);
  denotes = λ w env p. denoted-Extends w mid new g.extends id h.inside ∙ h.denotes w env p;
  made = made-Extends mid new g.extends t e id h.made;
}

-- and where the names stood for their terms before
pub Denotes-earlier : (t : Terms) (e : ExprView) (id : ℕ) (old mid new : List Node) → GrowsWithin t.design old mid → AreTerms old t → DenotesExpr mid new t e id → DenotesExpr old new t e id
Denotes-earlier t e id old mid new g a h = record {
  inside = h.inside;
  sorted = λ s p. h.sorted s (subst (λ c. HasSort c e s) (sym (context_in-Grows t old mid g a)) p);
  denotes = λ w env p. h.denotes w env (DenoteEnv-Grows w t env old mid g a p);
  made = h.made;
}
