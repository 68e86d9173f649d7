-- What the values that a design works with reach: the next values of both machines, the values of inputs in flush
-- cycles, the conditions of exact items, the invariant, and the visible entries, which are compared. A machine's lets
-- lead further.
use Rattle.std.specs.Prelude.{◌≡◌, ℕ, true, List, [], ◌∷◌, ◌++◌, map, slice_get, Some}
use Rattle.bd_model.specs.DesignView.{DesignView, LocalView, PortView, ExactView}
use Rattle.bd_model.specs.ExprView.{ExprView, Entry}
use Rattle.bd_about.specs.Named.{any_of, names}
use Rattle.bd_about.specs.declared.named.Named.{Named}
use Rattle.bd_about.specs.declared.named.Named.TheVariants as named

-- one of the expressions names a thing, or the value of a let that is reached does
pub data IsReached (roots : List ExprView) (lets : List LocalView) : Named → Type 0 where
  by_root : (x : Named) → any_of x roots ≡ true → IsReached roots lets x
  by_let : (x : Named) (i : ℕ) (l : LocalView) → IsReached roots lets (named.Local i) →
      slice_get lets i ≡ Some l → names x l.value ≡ true → IsReached roots lets x

-- the expressions that the pipeline works with
abbrev pub pipe_roots : DesignView → List ExprView
pipe_roots d =
    ((d.pipe.nexts ++ map (λ (p : PortView). p.idle) d.pipe.ports)
    ++ map (λ (e : ExactView). e.when) d.exact)
    ++ map Entry d.visible

abbrev pub InPipe : DesignView → Named → Type 0
InPipe d = IsReached (pipe_roots d) d.pipe.locals

abbrev pub InSpec : DesignView → Named → Type 0
InSpec d = IsReached d.spec.nexts d.spec.locals

abbrev pub InInvariant : DesignView → Named → Type 0
InInvariant d = IsReached (d.inv ∷ []) d.inv_locals
