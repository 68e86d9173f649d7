use Rattle.std.proofs.Common.{◌≡◌, ◌++◌, ℕ, List}
use Rattle.std.proofs.lemmas.Result.{on_ok_weaker}
use Rattle.std.specs.Prelude.{codes}
use Rattle.bd_about.specs.ApplicationLines.{said_line}
use Rattle.bd_about.specs.declared.application_lines.Listing.{Listing}
use Rattle.bd_about.specs.declared.application_lines.Listing.TheVariants as listing
use Rattle.bd_about.proofs.Appending.{put-more}
use Rattle.bd_about.proofs.application_lines.push_counts.Goals as goal

pub returns : goal.returns
returns c =
    let out = c.args.out.now.items in
    let line : Listing → List ℕ = λ l. said_line l c.args.symbols.now c.args.applied.now in
    let one : List ℕ = codes "applications     " in
    let two : List ℕ = one ++ line listing.Applied in
    let three : List ℕ = two ++ codes "equations        " in
    let four : List ℕ = three ++ line listing.Equations in
    let five : List ℕ = four ++ codes "clauses          " in
    let six : List ℕ = five ++ line listing.Clauses in
    let seven : List ℕ = six ++ codes "not positive     " in
    let first : c.extend_from_slice.new.self.items ≡ out ++ one = c.in_ok-extend_from_slice.ensures.items in
    let second : c.push_line.new.out.items ≡ out ++ two = put-more out _ _ one _ first c.in_ok-push_line.ensures in
    let third : c.extend_from_slice-2.new.self.items ≡ out ++ three = put-more out _ _ two _ second c.in_ok-extend_from_slice-2.ensures.items in
    let fourth : c.push_line-2.new.out.items ≡ out ++ four = put-more out _ _ three _ third c.in_ok-push_line-2.ensures in
    let fifth : c.extend_from_slice-3.new.self.items ≡ out ++ five = put-more out _ _ four _ fourth c.in_ok-extend_from_slice-3.ensures.items in
    let sixth : c.push_line-3.new.out.items ≡ out ++ six = put-more out _ _ five _ fifth c.in_ok-push_line-3.ensures in
    let seventh : c.extend_from_slice-4.new.self.items ≡ out ++ seven = put-more out _ _ six _ sixth c.in_ok-extend_from_slice-4.ensures.items in
    on_ok_weaker c.push_line-4.result (put-more out _ _ seven (line listing.NotPositive) seventh) c.push_line-4.ensures
