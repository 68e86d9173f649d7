-- What was written of a trail reads as that trail.
use Rattle.std.proofs.Common.{◌≡◌, ℕ, List, Result, Ok, Err, sym, ap, ◌∙◌, subst}
use Rattle.std.specs.Prelude.{IfOk}
use Rattle.std.specs.List.{AllByRecursion}
use Rattle.bd_model.specs.DesignView.{DesignView}
use Rattle.bd_model.specs.Fits.{TrailFits}
use Rattle.bd_model.specs.declared.table.Scalar.{Scalar}
use Rattle.bd_model.specs.declared.case.Trail.{Trail}
use Rattle.bd_case.specs.Content.{IsShortTable, tables_of}
use Rattle.bd_case.specs.Text.{trail_nodes, text_with}
use Rattle.bd_case.specs.declared.kind.Version.{Version}

abbrev with_inputs : Trail → List (List Scalar) → Trail
with_inputs t inputs = record { interp = t.interp; state = t.state; inputs = inputs }

-- what is known of a trail's text is known of what was written, as the parts that were written are those of the trail
pub text_is_read : {V E : Type 0} (items : V → List ℕ) (Q : List ℕ → Type 0) (r : Result V E) (d : DesignView) (t : Trail) (heading known : List ℕ) (version said : Version) (inputs : List (List Scalar))
    → heading ≡ known → version ≡ said → inputs ≡ t.inputs → TrailFits d t
    → IfOk r (λ v. items v ≡ text_with heading (trail_nodes version d (with_inputs t inputs)))
    → (TrailFits d (with_inputs t inputs) → IfOk r (λ v. AllByRecursion IsShortTable (tables_of d (with_inputs t inputs))))
    → (AllByRecursion IsShortTable (tables_of d t) → Q (text_with known (trail_nodes said d t)))
    → IfOk r (λ v. Q (items v))
text_is_read items Q (Ok v) d t heading known version said inputs head is same fits exact short reads =
    let parts : with_inputs t inputs ≡ t = ap (with_inputs t) same in
    let text : items v ≡ text_with known (trail_nodes said d t) = exact ∙ (λ j. text_with (head j) (trail_nodes (is j) d (parts j))) in
    subst Q (sym text) (reads (subst (λ u. AllByRecursion IsShortTable (tables_of d u)) parts (short (subst (TrailFits d) (sym parts) fits))))
text_is_read items Q (Err e) d t heading known version said inputs head is same fits exact short reads = tt
