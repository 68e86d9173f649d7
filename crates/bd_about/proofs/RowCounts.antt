-- Counts of rows, set entry by entry, are those of the symbols.
use Rattle.std.proofs.Common.{◌≡◌, ◌≢◌, ◌<◌, ◌∙◌, ℕ, zero, suc, Bool, true, false, List, [], ◌∷◌, Contains, Some, if◌then◌else◌, length, slice_get, refl, sym, ap, subst, arith}
use Rattle.std.specs.Prelude.{◌↔◌, slice_index_or}
use Rattle.std.proofs.lemmas.Option.{get_or_from_slice_get, same_Some, slice_get-get_or, slice_get_within}
use Rattle.bd_terms.specs.declared.node.Sym.{Sym}
use Rattle.bd_terms.specs.declared.node.Sym.TheVariants.{Function}
use Rattle.bd_function.specs.declared.flat.FlatSym.{FlatSym}
use Rattle.bd_function.specs.Tables.{is_symbol}
use Rattle.bd_function.proofs.Tabling.{is_symbol-same, is_symbol-self}
use Rattle.bd_cnf.specs.Literal.{Literal}
use Rattle.bd_transitive.specs.declared.graph.Edge.{Edge}
use Rattle.bd_tseitin.specs.declared.row.AtomVar.{AtomVar}
use Rattle.bd_about.specs.Applications.{AreCountsOf, HasRows}
use Rattle.bd_about.specs.Equations.{clauses_of, equations_of, is_variable_of}
use Rattle.bd_about.specs.declared.counting.Applied.{Applied}
use Rattle.bd_about.specs.declared.tallying.Tally.{Tally}
use Rattle.bd_about.specs.inner.Counted.{AreItems, counted_rows, last_count}
use Rattle.bd_about.specs.inner.Tallied.{no_tally}

-- no symbol has two entries
abbrev pub AreOnce : List FlatSym → Type 0
AreOnce syms = (i j : ℕ) (s t : FlatSym) → slice_get syms i ≡ Some s → slice_get syms j ≡ Some t → s.sym ≡ t.sym → i ≡ j

other-by : (f n : ℕ) (s : FlatSym) (b : Bool) → is_symbol s.sym (Function f) ≡ b → s.sym ≢ Function f → counted_rows f n s ≡ n
other-by f n s true e differs = absurd (differs (is_symbol-same s.sym (Function f) e))
other-by f n s false e differs = ap (λ b. if b then length s.rows else n) e

other : (f n : ℕ) (s : FlatSym) → s.sym ≢ Function f → counted_rows f n s ≡ n
other f n s differs = other-by f n s (is_symbol s.sym (Function f)) refl differs

own : (f n : ℕ) (s : FlatSym) → s.sym ≡ Function f → counted_rows f n s ≡ length s.rows
own f n s same = ap (λ b. if b then length s.rows else n) (ap (λ k. is_symbol k (Function f)) same ∙ is_symbol-self (Function f))

none-counted : (f n : ℕ) (syms : List FlatSym) → ((i : ℕ) (s : FlatSym) → slice_get syms i ≡ Some s → s.sym ≢ Function f) → last_count f n syms ≡ n
none-counted f n [] none = refl
none-counted f n (s ∷ ss) none =
    none-counted f (counted_rows f n s) ss (λ i t at. none (suc i) t at) ∙ other f n s (none 0 s refl)

entry-counted : (f n : ℕ) (syms : List FlatSym) → AreOnce syms → (i : ℕ) (s : FlatSym) → slice_get syms i ≡ Some s → s.sym ≡ Function f → last_count f n syms ≡ length s.rows
entry-counted f n [] once i s at same = absurd (cc at)
entry-counted f n (x ∷ ss) once zero s at same =
    let is : x ≡ s = same_Some x s at in
    let own_symbol : x.sym ≡ Function f = ap (λ (t : FlatSym). t.sym) is ∙ same in
    none-counted f (counted_rows f n x) ss (λ j t there equal. let clash : 0 ≡ suc j = once 0 (suc j) x t refl there (own_symbol ∙ sym equal) in absurd (omega (arith, clash)))
    ∙ own f n x own_symbol ∙ ap (λ (t : FlatSym). length t.rows) is
entry-counted f n (x ∷ ss) once (suc i) s at same =
    entry-counted f (counted_rows f n x) ss (λ j k a b there there' equal. let next : suc j ≡ suc k = once (suc j) (suc k) a b there there' equal in omega (arith, next)) i s at same

Contains-at : (syms : List FlatSym) (i : ℕ) (s : FlatSym) → slice_get syms i ≡ Some s → Contains syms s
Contains-at syms i s at = (i, slice_get_within syms i s at, get_or_from_slice_get syms i s s at)

-- the last count is that of the symbol's one entry, if it has any
pub has_rows : (syms : List FlatSym) → AreOnce syms → (f : ℕ) → HasRows syms (Function f) (last_count f 0 syms)
has_rows syms once f = record {
  listed = λ s has same. entry-counted f 0 syms once has.0 s (slice_get-get_or syms has.0 s has.1 ∙ ap Some has.2) same;
  unlisted = λ none. none-counted f 0 syms (λ i s at. none s (Contains-at syms i s at));
}

-- the counts in lists are those of the formula
pub are-counts : (count : ℕ) (syms : List FlatSym) (edges : List Edge) (clauses : List (List Literal)) (atoms : List AtomVar) (is : Sym → ℕ → Bool) → is ≡ is_variable_of syms → AreOnce syms
    → (rows : List ℕ) (es cs : List Tally) → length rows ≡ count → ((f : ℕ) → f < count → slice_index_or rows f 0 ≡ last_count f 0 syms)
    → ((f : ℕ) → f < count → (slice_index_or es f no_tally).count ≡ equations_of is edges (Function f))
    → ((f : ℕ) → f < count → (slice_index_or cs f no_tally).count ≡ clauses_of is atoms clauses (Function f))
    → (among : List Sym) (applied : List Applied) → AreItems rows es cs among applied → AreCountsOf count (Contains among) syms edges clauses atoms applied
are-counts count syms edges clauses atoms is same once rows es cs size of_rows of_edges of_clauses among applied h = record {
  size = h.size ∙ size;
  each = λ f a at.
      let item = h.each f a at in
      let inside : f < count = subst (λ n. f < n) (h.size ∙ size) (slice_get_within applied f a at) in
      record {
        count = subst (HasRows syms (Function f)) (sym (item.count ∙ of_rows f inside)) (has_rows syms once f);
        positive = item.positive;
        equations = item.equations_are ∙ of_edges f inside ∙ ap (λ i. equations_of i edges (Function f)) same;
        clauses_are = item.clauses_are ∙ of_clauses f inside ∙ ap (λ i. clauses_of i atoms clauses (Function f)) same;
      };
}

-- and so where other words say which symbols are positive
pub counts-alike : (count : ℕ) (P Q : Sym → Type 0) (syms : List FlatSym) (edges : List Edge) (clauses : List (List Literal)) (atoms : List AtomVar) (applied : List Applied)
    → ((s : Sym) → P s ↔ Q s) → AreCountsOf count P syms edges clauses atoms applied → AreCountsOf count Q syms edges clauses atoms applied
counts-alike count P Q syms edges clauses atoms applied same h = record {
  size = h.size;
  each = λ f a at.
      let item = h.each f a at in
      record {
        count = item.count;
        positive = (λ on. (same (Function f)).0 (item.positive.0 on), λ is. item.positive.1 ((same (Function f)).1 is));
        equations = item.equations;
        clauses_are = item.clauses_are;
      };
}
