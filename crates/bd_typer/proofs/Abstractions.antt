-- What a completion abstracts to has its sorts, within the limits: one expression for each entry of the specification.
use Rattle.std.proofs.Common.{◌≡◌, ◌≢◌, ℕ, ◌<◌, Bool, true, false, cond, List, [], ◌∷◌, length, map, set, get_or, Some, Ok, refl, ap, sym, ◌∙◌, subst, arith, inl, inr}
use Rattle.std.specs.Prelude.{◌⊎◌, slice_get, replicate}
use Rattle.std.specs.List.{AllByRecursion, AllZip}
use Rattle.std.proofs.lemmas.Bool.{cases_eq}
use Rattle.std.proofs.lemmas.Option.{slice_get_within}
use Rattle.std.proofs.lemmas.Grind.{get_or-set_at}
use Rattle.std.proofs.lemmas.List.{get_or-set_other, length-replicate, length-set}
use Rattle.bd_model.specs.Abstraction.{AbstractionView, flushing, given, IsLawfulAbstraction, IsLawfulGiven, abstraction_view}
use Rattle.bd_model.specs.declared.abstraction.Abstraction.{Abstraction}
use Rattle.bd_model.specs.declared.abstraction.Abstraction.TheVariants as abstraction
use Rattle.bd_model.specs.DesignView.{DesignView}
use Rattle.bd_model.specs.ExprView.{ExprView, Truth}
use Rattle.bd_model.specs.Lawful.{Context}
use Rattle.bd_model.specs.declared.design.Sort.{Sort}
use Rattle.bd_model.specs.declared.design.Entry as entry
use Rattle.bd_syntax.specs.Completion.{AbstractView, IsAbstract}
use Rattle.bd_syntax.specs.Words.{same_text}
use Rattle.bd_syntax.specs.WellFormed.{IsExpression, IsLimited}
use Rattle.bd_typer.specs.Completions.{abstract_name, typed_abstract, typed_abstracts}
use Rattle.bd_typer.specs.Faults.{◌>>=◌}
use Rattle.bd_typer.specs.NameMap.{NameMap}
use Rattle.bd_typer.specs.Repeats.{NameSet, no_texts, with_text, with_names}
use Rattle.bd_typer.specs.Typing.{typed}
use Rattle.bd_typer.specs.Walk.{entry_named}
use Rattle.bd_typer.specs.declared.names.Meaning.TheVariants.{Entry}
use Rattle.bd_typer.proofs.Lists.{some_is, same_text-true}
use Rattle.bd_typer.proofs.Machines.{zip_from}
use Rattle.bd_typer.proofs.Sound.{NamesFit, then_ok}
use Rattle.bd_typer.proofs.TypedItems.{IsTyped, named_entry, typed_within}

-- a lawful abstraction, as its view shows it
abbrev pub IsLawfulView : DesignView → AbstractionView → Type 0
IsLawfulView d flushing = Unit {0}
IsLawfulView d (given lets parts) = IsLawfulGiven d lets parts

pub view_lawful : (d : DesignView) (a : Abstraction) → IsLawfulView d (abstraction_view a) → IsLawfulAbstraction d a
view_lawful d abstraction.Flushing h = h
view_lawful d (abstraction.Given lets parts) h = h

abbrev entry_at : List ℕ → Sort → entry.Entry
entry_at name sort = record { name = name; sort = sort }

module _ (c : Context) (flags : List Bool) (names spec : NameMap) (entries : List entry.Entry) (fits : NamesFit c flags false names)
    (stands : (q : List ℕ) (n : ℕ) (s : Sort) → spec q ≡ Some (Entry n s) → slice_get entries n ≡ Some (record { name = q; sort = s }))
    (once : (n k : ℕ) (x y : entry.Entry) → slice_get entries n ≡ Some x → slice_get entries k ≡ Some y → x.name ≡ y.name → n ≡ k) where
  -- an expression of an entry's sort, within the limits
  abbrev IsPart : entry.Entry → ExprView → Type 0
  IsPart x e = IsTyped c flags false x.sort e

  -- the expressions so far, where these names have one
  record PartsAre (parts : List ExprView) (seen : NameSet) : Type 0 where
    count : length parts ≡ length entries
    parts_fit : (n : ℕ) (x : entry.Entry) → slice_get entries n ≡ Some x → seen x.name ≡ true → IsPart x (get_or parts n (Truth false))

  set_one : (parts : List ExprView) (seen : NameSet) → PartsAre parts seen → (k : ℕ) (name : List ℕ) (sort : Sort) (e : ExprView) → slice_get entries k ≡ Some (entry_at name sort) → IsTyped c flags false sort e
      → (n : ℕ) (x : entry.Entry) → slice_get entries n ≡ Some x → with_text seen name x.name ≡ true → IsPart x (get_or (set parts k e) n (Truth false))
  set_one parts seen ok k name sort e at_k typed_e n x at_n there = by_place (cases_eq k n) where
    was_seen : k ≢ n → seen x.name ≡ true
    was_seen apart = by_word (same_text name x.name) refl there where
      by_word : (b : Bool) → same_text name x.name ≡ b → cond b true (seen x.name) ≡ true → seen x.name ≡ true
      by_word false w h = h
      by_word true w h = absurd (apart (once k n (entry_at name sort) x at_k at_n (same_text-true name x.name w)))

    by_place : (k ≡ n) ⊎ (k ≢ n) → IsPart x (get_or (set parts k e) n (Truth false))
    by_place (inl same) =
        let both : Some (entry_at name sort) ≡ Some x = sym at_k ∙ ap (slice_get entries) same ∙ at_n in
        let sorts : sort ≡ x.sort = ap (λ (y : entry.Entry). y.sort) (some_is (entry_at name sort) x both) in
        let within : k < length parts = omega (arith, ok.count, slice_get_within entries k _ at_k) in
        let set_there : get_or (set parts k e) n (Truth false) ≡ e = get_or-set_at parts k n e (Truth false) (sym same) within in
        subst (IsPart x) (sym set_there) (subst (λ z. IsTyped c flags false z e) sorts typed_e)
    by_place (inr apart) =
        subst (IsPart x) (sym (get_or-set_other parts k n e (Truth false) (λ z. apart (sym z)))) (ok.parts_fit n x at_n (was_seen apart))

  part_is : (parts more : List ExprView) (part : AbstractView) (seen : NameSet) → PartsAre parts seen → IsExpression part.value → IsLimited part.value → typed_abstract names spec parts part ≡ Ok more → PartsAre more (with_text seen part.name.text)
  unfolding typed_abstract
  part_is parts more part seen ok is limited h =
      let p = then_ok (entry_named part.name.offset (spec part.name.text)) (λ entry. typed names false entry.1 part.value >>= λ e. Ok (set parts entry.0 e)) more h in
      let q = then_ok (typed names false p.0.1 part.value) (λ e. Ok (set parts p.0.0 e)) more p.2 in
      let e : set parts p.0.0 q.0 ≡ more = cc q.2 in
      let one = typed_within c flags names false p.0.1 part.value q.0 fits is limited q.1 in
      let there = stands part.name.text p.0.0 p.0.1 (named_entry part.name.offset (spec part.name.text) p.0 p.1) in
      subst (λ xs. PartsAre xs (with_text seen part.name.text)) e (record {
        count = length-set parts p.0.0 q.0 ∙ ok.count;
        parts_fit = set_one parts seen ok p.0.0 part.name.text p.0.1 q.0 there one;
      })

  parts_are : (abstracts : List AbstractView) (parts all : List ExprView) (seen : NameSet) → PartsAre parts seen → AllByRecursion IsAbstract abstracts → AllByRecursion (λ (part : AbstractView). IsLimited part.value) abstracts
      → typed_abstracts names spec parts abstracts ≡ Ok all → PartsAre all (with_names seen (map abstract_name abstracts))
  parts_are [] parts all seen ok is limited h = let e : parts ≡ all = cc h in subst (λ xs. PartsAre xs seen) e ok
  parts_are (part ∷ abstracts) parts all seen ok is limited h =
      let p = then_ok (typed_abstract names spec parts part) (λ more. typed_abstracts names spec more abstracts) all h in
      parts_are abstracts p.0 all (with_text seen part.name.text) (part_is parts p.0 part seen ok is.0.1 limited.0 p.1) is.1 limited.1 p.2

  pub parts_typed : (abstracts : List AbstractView) (all : List ExprView) → AllByRecursion IsAbstract abstracts → AllByRecursion (λ (part : AbstractView). IsLimited part.value) abstracts
      → ((n : ℕ) (x : entry.Entry) → slice_get entries n ≡ Some x → with_names no_texts (map abstract_name abstracts) x.name ≡ true)
      → typed_abstracts names spec (replicate (length entries) (Truth false)) abstracts ≡ Ok all → AllZip IsPart entries all
  parts_typed abstracts all is limited each h =
      let none : PartsAre (replicate (length entries) (Truth false)) no_texts = record { count = length-replicate (length entries) (Truth false); parts_fit = λ n x there no. absurd (cc no) } in
      let ok = parts_are abstracts (replicate (length entries) (Truth false)) all no_texts none is limited h in
      zip_from IsPart entries all (Truth false) ok.count (λ n x there. ok.parts_fit n x there (each n x there))
