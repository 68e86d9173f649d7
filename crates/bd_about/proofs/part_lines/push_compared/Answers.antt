use Rattle.std.proofs.Common.{◌≡◌, ◌++◌, ℕ, Bool, List, ap, ◌∙◌, true, false}
use Rattle.std.proofs.lemmas.Result.{on_ok_weaker}
use Rattle.std.specs.Prelude.{codes, slice_index_or}
use Rattle.bd_model.specs.DesignView.{design_view}
use Rattle.bd_model.specs.declared.design.Entry.{Entry}
use Rattle.bd_about.specs.PartLines.{is_visible, names_line, shown}
use Rattle.bd_about.proofs.Appending.{put-more}
use Rattle.bd_about.proofs.Naming.{line-alike}
use Rattle.bd_about.proofs.part_lines.push_compared.Goals as goal

pub returns : goal.returns
returns c =
    let d = design_view c.args.design.now in
    let out = c.args.out.now.items in
    let line : Bool → List ℕ = λ v. names_line (λ i. shown v (is_visible d i)) d.pipe.entries in
    let given : List Entry = c.as_slice-entries.result.now in
    let alike : (v : Bool) (flags : List Bool) → flags ≡ c.in_ok-flags.flags.items → names_line (λ i. shown v (slice_index_or flags i false)) given ≡ line v =
    λ v flags same. line-alike (λ i. shown v (slice_index_or flags i false)) (λ i. shown v (is_visible d i)) given
    (λ i. ap (shown v) (ap (λ bs. slice_index_or bs i false) same ∙ c.in_ok-flags.ensures i)) ∙ ap (names_line (λ i. shown v (is_visible d i))) c.as_slice-entries.ensures in
    let one : List ℕ = codes "compared         " in
    let two : List ℕ = one ++ line true in
    let three : List ℕ = two ++ codes "not compared     " in
    let second : c.push_names.new.out.items ≡ out ++ two =
    put-more out _ _ one (line true) c.in_ok-extend_from_slice.ensures.items (c.in_ok-push_names.ensures ∙ ap (λ l. c.extend_from_slice.new.self.items ++ l) (alike true c.as_slice.result.now c.as_slice.ensures.value)) in
    let third : c.extend_from_slice-2.new.self.items ≡ out ++ three = put-more out _ _ two (codes "not compared     ") second c.in_ok-extend_from_slice-2.ensures.items in
    on_ok_weaker c.push_names-2.result (λ last. put-more out _ _ three (line false) third (last ∙ ap (λ l. c.extend_from_slice-2.new.self.items ++ l) (alike false c.as_slice-2.result.now c.as_slice-2.ensures.value))) c.push_names-2.ensures
