use Rattle.std.proofs.Common.{◌≡◌, ◌∷◌, Vec, Global, refl, ap, ◌∙◌}
use Rattle.bd_text.specs.Nodes.{add_node, list}
use Rattle.bd_text.specs.inner.Progress.{opening_of, openings_of}
use Rattle.bd_text.specs.View.{nodes_of_all}
use Rattle.bd_text.specs.declared.tree.Tree.{Tree}
use Rattle.bd_text.proofs.Openings.{openings_of-push}
use Rattle.bd_text.proofs.Views.{nodes_of_all-push, node_of-List}
use Rattle.bd_text.proofs.read.Reader.end_list.Goals as goal

pub returns-clause-ok : goal.returns-clause-ok
returns-clause-ok c =
    let inner = c.in-Some.inner in
    let popped : openings_of c.args.self.now.open_lists.items ≡ opening_of inner ∷ openings_of c.pop.new.self.items =
    ap openings_of c.in-Some.ensures.items ∙ openings_of-push c.pop.new.self.items inner in
    let pushed : nodes_of_all c.push.new.self.items ≡ add_node (nodes_of_all c.replace-parts.new.dest.items) (list inner.offset (nodes_of_all c.replace-parts.result.items)) =
    ap nodes_of_all c.in_ok-push.ensures.items ∙ nodes_of_all-push c.replace-parts.new.dest.items _
    ∙ ap (add_node (nodes_of_all c.replace-parts.new.dest.items)) (node_of-List inner.offset c.from_vec.result ∙ ap (list inner.offset) c.from_vec.ensures) in
    let kept = ap (λ (v : Vec Tree Global). add_node (nodes_of_all v.items) (list inner.offset (nodes_of_all c.replace-parts.result.items))) c.replace-parts.ensures.after in
    let moved = ap (λ (v : Vec Tree Global). add_node (nodes_of_all inner.before.items) (list inner.offset (nodes_of_all v.items))) c.replace-parts.ensures.value in
    rw popped (refl, (pushed ∙ kept ∙ moved, refl))
