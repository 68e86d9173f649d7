-- In a diverse world the variables of applications of positive symbols may be kept apart from all other words (Bryant,
-- German and Velev 2001): first ones have the values of their applications, and the others numbers past all words.
use Rattle.std.proofs.Common.{◌≡◌, ◌≢◌, ◌⊎◌, ℕ, ◌+◌, ◌<◌, ◌≤◌, true, inl, inr, List, Contains, length, Option, Some, slice_get, ap, sym, ◌∙◌, subst, arith}
use Rattle.std.proofs.lemmas.Option.{slice_get_within}
use Rattle.bd_model.specs.Value.{scalar_word}
use Rattle.bd_model.specs.declared.design.Sort.TheVariants as sort
use Rattle.bd_model.specs.declared.table.Scalar.{Scalar}
use Rattle.bd_model.specs.declared.table.Scalar.TheVariants as scalar
use Rattle.bd_terms.specs.declared.node.Node.{Node}
use Rattle.bd_terms.specs.declared.node.Node.TheVariants.{App}
use Rattle.bd_terms.specs.declared.node.Sym.TheVariants as symbol
use Rattle.bd_terms.specs.Denotation.{World, applied, word, word_of, words}
use Rattle.bd_terms.specs.Graph.{IsGraph}
use Rattle.bd_terms.proofs.Denotations.{denoted-get}
use Rattle.bd_function.specs.declared.flat.FlatSym.{FlatSym}
use Rattle.bd_function.specs.Flat.{IsFirstVariable, IsFlat, application, arguments}
use Rattle.bd_diverse.specs.Diverse.{IsDiverse, IsReached}
use Rattle.bd_diverse.specs.Positive.{IsPositive}
use Rattle.bd_equality.specs.Encoding.{IsVariable, KeepsMarkedApart, has_mark}
use Rattle.bd_lift.specs.Decoded.{variable_use}
use Rattle.bd_verify.specs.Kept.{IsPositiveVariable}
use Rattle.bd_verify.specs.inner.Questions.{MarksPositive}
use Rattle.bd_verify.proofs.Entries.{one-entry}

module _ (w : World) (v : ℕ → Scalar) (old : List Node) (old_root : ℕ) (g : IsGraph old) (nodes : List Node) (root : ℕ) (syms : List FlatSym) (flat_graph : IsGraph nodes) (flat : IsFlat nodes root syms) where
  abbrev IsFirstOf : ℕ → Type 0
  IsFirstOf x = IsFirstVariable w v old old_root nodes syms x

  -- a first variable that is a word is that of an application as a word
  first-there : (x : ℕ) (f : IsFirstOf x) → IsVariable nodes sort.Word x → slice_get old f.is.id ≡ Some (App f.holder.sym f.is.args)
  first-there x f p =
      let kind : f.is.kind ≡ sort.Word = ((flat_graph.consistent (variable_use x sort.Word) p).keeps (variable_use f.row.var f.is.kind) f.is.variable (ap symbol.Var f.same)).1 in
      subst (λ k. slice_get old f.is.id ≡ Some (application k f.holder.sym f.is.args)) kind f.is.there

  first-reached : (x : ℕ) (f : IsFirstOf x) → IsVariable nodes sort.Word x → IsReached old old_root f.holder.sym f.is.args
  first-reached x f p = record { id = f.is.id; reached = f.is.reached; there = first-there x f p }

  first-word : (x : ℕ) (f : IsFirstOf x) → scalar_word (v x) ≡ applied w f.holder.sym (words w old f.is.args)
  first-word x f = ap (λ y. scalar_word (v y)) (sym f.same) ∙ ap scalar_word f.is.value ∙ ap (applied w f.holder.sym) f.is.same

  -- which is a word of the old graph
  first-old : (x : ℕ) (f : IsFirstOf x) → IsVariable nodes sort.Word x → scalar_word (v x) ≡ word w old f.is.id
  first-old x f p = first-word x f ∙ sym (ap word_of (denoted-get w old g f.is.id (App f.holder.sym f.is.args) (first-there x f p)))

  -- two first variables whose applications are of one symbol to equal words are one
  first-one : (x y : ℕ) (f : IsFirstOf x) (h : IsFirstOf y) → f.holder.sym ≡ h.holder.sym → words w old f.is.args ≡ words w old h.is.args → x ≡ y
  first-one x y f h symbols same =
      let holders : f.holder ≡ h.holder = one-entry nodes root syms flat f.holder h.holder f.listed h.listed symbols in
      let args : arguments v nodes h.row ≡ arguments v nodes f.row = h.is.same ∙ sym same ∙ sym f.is.same in
      let low : f.row.var ≤ h.row.var = f.is.first h.row (subst (λ s. Contains s.rows h.row) (sym holders) h.has) args in
      let high : h.row.var ≤ f.row.var = h.is.first f.row (subst (λ s. Contains s.rows f.row) holders f.has) (sym args) in
      let is_x = f.same in
      let is_y = h.same in
      omega (arith, low, high, is_x, is_y)

  module _ (diverse : IsDiverse w old old_root) (marked : Option (List ℕ)) (marks : MarksPositive old old_root syms marked) where
    first-positive : (x : ℕ) (f : IsFirstOf x) → has_mark marked x ≡ true → IsPositive old old_root f.holder.sym
    first-positive x f mark =
        let p : IsPositiveVariable old old_root syms x = marks.each x mark in
        subst (IsPositive old old_root) (flat.different p.holder f.holder p.row.row f.row p.listed p.row.has f.listed f.has (p.row.same ∙ sym f.same)).0 p.positive

    first-apart : (x y : ℕ) (f : IsFirstOf x) (h : IsFirstOf y) → IsVariable nodes sort.Word x → IsVariable nodes sort.Word y → x ≢ y → has_mark marked x ≡ true → scalar_word (v x) ≢ scalar_word (v y)
    first-apart x y f h p q ne mark same =
        let alike = diverse.apart f.holder.sym h.holder.sym f.is.args h.is.args (first-reached x f p) (first-reached y h q) (first-positive x f mark) (sym (first-word x f) ∙ same ∙ first-word y h) in
        ne (first-one x y f h alike.0 alike.1)

    module _ (bound : ℕ) (small : (id : ℕ) → id < length old → word w old id ≤ bound) (each : (x : ℕ) → (v x ≡ scalar.Word (bound + 1 + x)) ⊎ IsFirstOf x) where
      first-small : (x : ℕ) (f : IsFirstOf x) → IsVariable nodes sort.Word x → scalar_word (v x) ≤ bound
      first-small x f p =
          let least = small f.is.id (slice_get_within old f.is.id _ (first-there x f p)) in
          let is = first-old x f p in
          omega (arith, least, is)

      by_each : (x y : ℕ) → (v x ≡ scalar.Word (bound + 1 + x)) ⊎ IsFirstOf x → (v y ≡ scalar.Word (bound + 1 + y)) ⊎ IsFirstOf y
          → IsVariable nodes sort.Word x → IsVariable nodes sort.Word y → x ≢ y → has_mark marked x ≡ true → scalar_word (v x) ≢ scalar_word (v y)
      by_each x y (inl own_x) (inl own_y) p q ne mark same =
          let is_x : scalar_word (v x) ≡ bound + 1 + x = ap scalar_word own_x in
          let is_y : scalar_word (v y) ≡ bound + 1 + y = ap scalar_word own_y in
          ne (omega (arith, is_x, is_y, same))
      by_each x y (inl own_x) (inr h) p q ne mark same =
          let is_x : scalar_word (v x) ≡ bound + 1 + x = ap scalar_word own_x in
          let low = first-small y h q in
          omega (arith, is_x, low, same)
      by_each x y (inr f) (inl own_y) p q ne mark same =
          let is_y : scalar_word (v y) ≡ bound + 1 + y = ap scalar_word own_y in
          let low = first-small x f p in
          omega (arith, is_y, low, same)
      by_each x y (inr f) (inr h) p q ne mark same = first-apart x y f h p q ne mark same

      pub marked-apart : KeepsMarkedApart nodes marked v
      marked-apart = record { apart = λ x y. by_each x y (each x) (each y) }
