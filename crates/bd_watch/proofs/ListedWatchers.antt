-- Lists of watchers by literal, with one watcher more.
use Rattle.std.proofs.Common.{◌≡◌, ℕ, ◌<◌, List, [], ◌∷◌, ◌++◌, length, get_or, refl, sym, ap, ◌∙◌, subst, inl, inr, arith, length-set, get_or-set_same, get_or-set_other}
use Rattle.std.specs.List.{All}
use Rattle.std.proofs.lemmas.Bool.{cases_eq}
use Rattle.std.proofs.lemmas.List.{get_or_append_left, get_or_push, length_push}
use Rattle.std.proofs.lemmas.List.Elements.{All-push}
use Rattle.bd_cnf.specs.Literal.{Literal}
use Rattle.bd_watch.specs.declared.watcher.Watcher.{Watcher}
use Rattle.bd_cnf.specs.Packed.{literal_index}
use Rattle.bd_watch.specs.Watching.{list_at, IsListed}
use Rattle.bd_watch.specs.inner.Watchers.{listed_more}

pub length-listed_more : (lists : List (List Watcher)) (l : Literal) (w : Watcher) → length (listed_more lists l w) ≡ length lists
length-listed_more lists l w = length-set lists (literal_index l) _

module _ (lists : List (List Watcher)) (l : Literal) (w : Watcher) where
  now_listed : literal_index l < length lists → list_at (listed_more lists l w) l ≡ list_at lists l ++ w ∷ []
  now_listed h = get_or-set_same lists (literal_index l) _ [] h

  -- what was listed still is
  pub still_listed : (m : Literal) (k : ℕ) → literal_index l < length lists → IsListed (list_at lists m) 0 k → IsListed (list_at (listed_more lists l w) m) 0 k
  still_listed m k h there =
      elim (cases_eq (literal_index m) (literal_index l)) [
        | inl e ↦
            let now : list_at (listed_more lists l w) m ≡ list_at lists l ++ w ∷ [] = ap (λ n. get_or (listed_more lists l w) n []) e ∙ now_listed h in
            let same : list_at lists m ≡ list_at lists l = ap (λ n. get_or lists n []) e in
            subst (λ ws. IsListed ws 0 k) (sym now) (longer (list_at lists l) (subst (λ ws. IsListed ws 0 k) same there))
        | inr apart ↦ subst (λ ws. IsListed ws 0 k) (sym (get_or-set_other lists (literal_index l) (literal_index m) _ [] apart)) there
      ]
    where
      longer : (ws : List Watcher) → IsListed ws 0 k → IsListed (ws ++ w ∷ []) 0 k
      longer ws so = record {
        place = so.place;
        after = so.after;
        within = omega (arith, so.within, length_push ws w);
        is = λ d. ap (λ (x : Watcher). x.clause) (get_or_append_left ws (w ∷ []) d so.place so.within) ∙ so.is d;
      }

  -- so is the new one
  pub now_in_list : (k : ℕ) → literal_index l < length lists → w.clause ≡ k → IsListed (list_at (listed_more lists l w) l) 0 k
  now_in_list k h for =
      subst (λ ws. IsListed ws 0 k) (sym (now_listed h)) (record {
        place = length (list_at lists l);
        after = omega arith;
        within = omega (arith, length_push (list_at lists l) w);
        is = λ d. ap (λ (x : Watcher). x.clause) (get_or_push (list_at lists l) w d (length (list_at lists l)) refl) ∙ for;
      })

  -- what holds of each watcher and of the new one
  pub all_listed : (P : ℕ → Watcher → Type 0) → literal_index l < length lists → ((index : ℕ) → All (P index) (get_or lists index [])) → P (literal_index l) w → (index : ℕ) → All (P index) (get_or (listed_more lists l w) index [])
  all_listed P h all new index =
      elim (cases_eq index (literal_index l)) [
        | inl e ↦ subst (λ n. All (P n) (get_or (listed_more lists l w) n [])) (sym e) (subst (All (P (literal_index l))) (sym (now_listed h)) (All-push (P (literal_index l)) (list_at lists l) w (all (literal_index l)) new))
        | inr apart ↦ subst (All (P index)) (sym (get_or-set_other lists (literal_index l) index _ [] apart)) (all index)
      ]
