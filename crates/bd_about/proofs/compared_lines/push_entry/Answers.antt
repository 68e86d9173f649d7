use Rattle.std.proofs.Common.{◌≡◌, ◌++◌, ◌∙◌, ℕ, List, ap, refl}
use Rattle.std.specs.Prelude.{codes, option_copied}
use Rattle.std.proofs.lemmas.Result.{on_ok_weaker}
use Rattle.bd_about.specs.ComparedLines.{entry_words}
use Rattle.bd_about.specs.UnreadLines.{entry_kind}
use Rattle.bd_about.proofs.Appending.{put-more, put-ok}
use Rattle.bd_about.proofs.NextLines.{lent, with_line, without_line}
use Rattle.bd_about.proofs.compared_lines.push_entry.Goals as goal

pub returns-in_ok-extend_from_slice-in-Some-2 : goal.returns-in_ok-extend_from_slice-in-Some-2
returns-in_ok-extend_from_slice-in-Some-2 c =
    let out = c.args.out.now.items in
    let entry = c.in-Some.entry.now in
    let found = lent _ c.args.entries.now c.args.place c.get.result c.get.ensures.lookup.1 c.get.ensures.lookup.3 ∙ ap option_copied c.in-Some.is in
    let one : List ℕ = codes "the " in
    let two : List ℕ = one ++ entry_kind entry.sort in
    let first : c.extend_from_slice.new.self.items ≡ out ++ one = c.in_ok-extend_from_slice-in-Some.ensures.items in
    let second : c.extend_from_slice-in-Some.new.self.items ≡ out ++ two =
    put-more out _ _ one (entry_kind entry.sort) first
    (c.in_ok-extend_from_slice-in-Some-2.ensures.items ∙ ap (λ kind. c.extend_from_slice.new.self.items ++ kind) (c.as_bytes.ensures.value ∙ c.entry_kind.ensures)) in
    on_ok_weaker c.extend_from_slice-in-Some-2.result
    (λ last. with_line entry_words _ entry out _ found (put-more out _ _ two entry.name second (last ∙ ap (λ name. c.extend_from_slice-in-Some.new.self.items ++ name) c.as_slice.ensures)))
    (put-ok c.extend_from_slice-in-Some-2.result c.extend_from_slice-in-Some.new.self.items _ c.as_slice.result.now c.extend_from_slice-in-Some-2.ensures.items)

pub returns-in-None : goal.returns-in-None
returns-in-None c =
    let found = lent _ c.args.entries.now c.args.place c.get.result c.get.ensures.lookup.1 c.get.ensures.lookup.3 ∙ ap option_copied c.in-None.is in
    without_line entry_words _ c.args.out.now.items c.args.out.now.items found refl
