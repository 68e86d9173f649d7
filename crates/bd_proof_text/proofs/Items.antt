-- What is read up to a 0, token by token.
use Rattle.std.proofs.Common.{◌≡◌, Bool, true, false, cond, List, [], ◌∷◌, ◌++◌, Option, None, Some, Result, Ok, Err, sym, ap, ◌∙◌, subst}
use Rattle.bd_proof_text.specs.declared.fault.Fault.{Fault}
use Rattle.bd_proof_text.specs.declared.fault.ReadFault.{ReadFault}
use Rattle.bd_proof_text.specs.declared.fault.ReadFault.TheVariants as read
use Rattle.bd_proof_text.specs.declared.fault.Why.TheVariants as why
use Rattle.bd_proof_text.specs.declared.token.Place.{Place}
use Rattle.bd_proof_text.specs.declared.token.Token.{Token}
use Rattle.bd_proof_text.specs.declared.token.Word.{Word}
use Rattle.bd_proof_text.specs.ProofText.{◌>>=◌, Fails, items_from, on_item, refused}

module _ {A : Type 0} (item_word : Place → Word → Result (Option A) Fault) (clashes : List A → A → Bool) (first : Place) (before : List A) (t : Token) (ts : List Token) where
  -- where the item may stand after those before
  abbrev unless_clash : A → Bool → Result (List A × List Token) Fault
  unless_clash item b = cond b (refused t.place why.Form) (items_from item_word clashes first (before ++ item ∷ []) ts)

  abbrev next_item : Result (Option A) Fault → Result (List A × List Token) Fault
  next_item r = r >>= (λ found. on_item found (Ok (before, ts)) (λ item. unless_clash item (clashes before item)))

  pub items-more : (item : A) → item_word t.place t.word ≡ Ok (Some item) → clashes before item ≡ false → items_from item_word clashes first before (t ∷ ts) ≡ items_from item_word clashes first (before ++ item ∷ []) ts
  items-more item h apart = ap next_item h ∙ ap (unless_clash item) apart

  pub items-clash : (item : A) → item_word t.place t.word ≡ Ok (Some item) → clashes before item ≡ true → items_from item_word clashes first before (t ∷ ts) ≡ refused t.place why.Form
  items-clash item h clash = ap next_item h ∙ ap (unless_clash item) clash

-- a fault that is answered
pub fails-bad : {B : Type 0} (e : ReadFault) (f : Fault) (reading : Result B Fault) → e ≡ read.Bad f → reading ≡ Err f → Fails e reading
fails-bad e f reading is h = subst (λ x. Fails x reading) (sym is) h
