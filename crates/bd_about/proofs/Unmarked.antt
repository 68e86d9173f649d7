-- What no marks have is unread.
use Rattle.std.proofs.Common.{◌≡◌, ◌⊎◌, ◌∙◌, ℕ, Bool, false, List, [], ◌∷◌, length, ap, sym}
use Rattle.std.specs.Prelude.{◌||◌, slice_index_or}
use Rattle.std.proofs.lemmas.List.{length-map}
use Rattle.bd_model.specs.DesignView.{design_view, local_view, port_view}
use Rattle.bd_model.specs.declared.design.Design.{Design}
use Rattle.bd_about.specs.Reached.{InInvariant, InPipe, InSpec, pipe_roots}
use Rattle.bd_about.specs.Unread.{IsUnread}
use Rattle.bd_about.specs.inner.Marking.{AreReached, unset_below}
use Rattle.bd_about.specs.declared.marks.NameMarks.{NameMarks}
use Rattle.bd_about.specs.declared.named.Named.TheVariants.{Entry, Input, Local, Symbol}
use Rattle.bd_about.specs.declared.unread.Unread.{Unread}
use Rattle.bd_about.proofs.Listing.{are_unread, reads_either, reads_no_more}

abbrev pub flag : List Bool → ℕ → Bool
flag flags i = slice_index_or flags i false

-- the places that none of three lists of flags has
abbrev pub in_none : List Bool → List Bool → List Bool → ℕ → List ℕ
in_none a b c n = unset_below (λ i. (flag a i || flag b i) || flag c i) n

pub all_listed : (d : Design) (pipe spec inv : NameMarks) (u : Unread) → AreReached (pipe_roots (design_view d)) (design_view d).pipe.locals pipe
    → AreReached (design_view d).spec.nexts (design_view d).spec.locals spec → AreReached ((design_view d).inv ∷ []) (design_view d).inv_locals inv
    → u.lets ≡ in_none pipe.locals.items [] [] (length d.pipe.locals) → u.spec_lets ≡ in_none spec.locals.items [] [] (length d.spec.locals)
    → u.inv_lets ≡ in_none inv.locals.items [] [] (length d.inv_locals) → u.entries ≡ in_none pipe.entries.items inv.entries.items [] (length d.pipe.entries)
    → u.inputs ≡ in_none pipe.inputs.items [] [] (length d.pipe.ports) → u.symbols ≡ in_none pipe.symbols.items spec.symbols.items inv.symbols.items (length d.symbols)
    → IsUnread (design_view d) u
all_listed d pipe spec inv u p s v lets spec_lets inv_lets entries inputs symbols =
    let v' = design_view d in
    record {
      lets = are_unread (λ i. (flag pipe.locals.items i || false) || false) (λ i. InPipe v' (Local i)) (length v'.pipe.locals) u.lets
          (reads_no_more (λ i. flag pipe.locals.items i || false) (λ i. InPipe v' (Local i)) (reads_no_more (λ i. flag pipe.locals.items i) (λ i. InPipe v' (Local i)) (λ i. p.each (Local i))))
          (lets ∙ ap (λ n. in_none pipe.locals.items [] [] n) (sym (length-map d.pipe.locals local_view)));
      spec_lets = are_unread (λ i. (flag spec.locals.items i || false) || false) (λ i. InSpec v' (Local i)) (length v'.spec.locals) u.spec_lets
          (reads_no_more (λ i. flag spec.locals.items i || false) (λ i. InSpec v' (Local i)) (reads_no_more (λ i. flag spec.locals.items i) (λ i. InSpec v' (Local i)) (λ i. s.each (Local i))))
          (spec_lets ∙ ap (λ n. in_none spec.locals.items [] [] n) (sym (length-map d.spec.locals local_view)));
      inv_lets = are_unread (λ i. (flag inv.locals.items i || false) || false) (λ i. InInvariant v' (Local i)) (length v'.inv_locals) u.inv_lets
          (reads_no_more (λ i. flag inv.locals.items i || false) (λ i. InInvariant v' (Local i)) (reads_no_more (λ i. flag inv.locals.items i) (λ i. InInvariant v' (Local i)) (λ i. v.each (Local i))))
          (inv_lets ∙ ap (λ n. in_none inv.locals.items [] [] n) (sym (length-map d.inv_locals local_view)));
      entries = are_unread (λ i. (flag pipe.entries.items i || flag inv.entries.items i) || false) (λ i. InPipe v' (Entry i) ⊎ InInvariant v' (Entry i)) (length v'.pipe.entries) u.entries
          (reads_no_more (λ i. flag pipe.entries.items i || flag inv.entries.items i) (λ i. InPipe v' (Entry i) ⊎ InInvariant v' (Entry i))
          (reads_either (λ i. flag pipe.entries.items i) (λ i. flag inv.entries.items i) (λ i. InPipe v' (Entry i)) (λ i. InInvariant v' (Entry i)) (λ i. p.each (Entry i)) (λ i. v.each (Entry i))))
          entries;
      inputs = are_unread (λ i. (flag pipe.inputs.items i || false) || false) (λ i. InPipe v' (Input i)) (length v'.pipe.ports) u.inputs
          (reads_no_more (λ i. flag pipe.inputs.items i || false) (λ i. InPipe v' (Input i)) (reads_no_more (λ i. flag pipe.inputs.items i) (λ i. InPipe v' (Input i)) (λ i. p.each (Input i))))
          (inputs ∙ ap (λ n. in_none pipe.inputs.items [] [] n) (sym (length-map d.pipe.ports port_view)));
      symbols = are_unread (λ i. (flag pipe.symbols.items i || flag spec.symbols.items i) || flag inv.symbols.items i) (λ i. (InPipe v' (Symbol i) ⊎ InSpec v' (Symbol i)) ⊎ InInvariant v' (Symbol i)) (length v'.symbols) u.symbols
          (reads_either (λ i. flag pipe.symbols.items i || flag spec.symbols.items i) (λ i. flag inv.symbols.items i) (λ i. InPipe v' (Symbol i) ⊎ InSpec v' (Symbol i)) (λ i. InInvariant v' (Symbol i))
          (reads_either (λ i. flag pipe.symbols.items i) (λ i. flag spec.symbols.items i) (λ i. InPipe v' (Symbol i)) (λ i. InSpec v' (Symbol i)) (λ i. p.each (Symbol i)) (λ i. s.each (Symbol i))) (λ i. v.each (Symbol i)))
          symbols;
    }
