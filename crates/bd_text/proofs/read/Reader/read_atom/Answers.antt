use Rattle.std.proofs.Common.{◌≡◌, slice_range, refl, ap, ◌∙◌}
use Rattle.bd_text.specs.Nodes.{add_node, atom}
use Rattle.bd_text.specs.View.{nodes_of_all}
use Rattle.bd_text.proofs.Views.{nodes_of_all-push, node_of-Atom}
use Rattle.bd_text.proofs.read.Reader.read_atom.Goals as goal

pub returns-clause-ok : goal.returns-clause-ok
returns-clause-ok c =
    let copied : c.from_vec-text.result ≡ slice_range c.args.bytes.now c.args.at c.atom_end-end.result =
    c.from_vec-text.ensures ∙ c.in_ok-from_slice.ensures.items in (
      c.atom_end-end.ensures,
      ap nodes_of_all c.in_ok-push.ensures.items ∙ nodes_of_all-push c.args.self.now.parts.items _
          ∙ ap (add_node (nodes_of_all c.args.self.now.parts.items)) (node_of-Atom c.args.at c.from_vec-text.result ∙ ap (atom c.args.at) copied),
      refl,
    )
