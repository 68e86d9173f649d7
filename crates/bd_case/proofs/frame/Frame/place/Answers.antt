use Rattle.std.proofs.Common.{◌≡◌, ℕ, ◌<◌, List, length, Option, Some, None, sym, ap, ◌∙◌, arith}
use Rattle.std.specs.Prelude.{IfSome}
use Rattle.bd_model.specs.DesignView.{DesignView, design_view}
use Rattle.bd_model.specs.Lawful.{all_names}
use Rattle.bd_case.specs.Kinds.{kinds}
use Rattle.bd_case.specs.Reading.{place_of}
use Rattle.bd_case.specs.declared.kind.EntryKind.{EntryKind}
use Rattle.bd_case.specs.declared.kind.Version.{Version}
use Rattle.bd_case.proofs.Places.{place_of-within}
use Rattle.bd_case.proofs.ReadsBack.{names-kinds}
use Rattle.bd_case.proofs.frame.Frame.place.Goals as goal

found_within : (version : Version) (d : DesignView) (ks : List EntryKind) (name : List ℕ) (r : Option ℕ) → ks ≡ kinds version d → r ≡ place_of name (all_names d) → IfSome r (λ i. i < length ks)
found_within version d ks name None same e = tt
found_within version d ks name (Some i) same e = omega (arith, place_of-within name (all_names d) i (sym e), names-kinds version d, ap length same)

pub returns-clause-within : goal.returns-clause-within
returns-clause-within c =
    let f = c.args.self.now in
    found_within f.layout.version (design_view f.design.now) f.kinds.items c.args.name.now c.copied.result c.requires.kinds (c.copied.ensures ∙ c.get.ensures.value ∙ c.requires.places c.args.name)
