use Rattle.std.proofs.Common.{option_copied}
use Rattle.bd_equality.proofs.Finishing.{gives_arguments, gives_never}
use Rattle.bd_equality.proofs.encoding.make.Goals as goal

pub returns-in-Arguments : goal.returns-in-Arguments
returns-in-Arguments c =
    gives_arguments c.args.flat.now.graph c.args.flat.now.syms (option_copied c.args.marked) c.args.settled.now c.args.prop.now c.compared.new.prop c.args.wanted.now c.args.way.now c.in-Equation.left c.in-Equation.right
    c.compared.result c.in-Equation.is c.requires.graph c.args.flat.now.root c.args.flat.now.flat c.in-Arguments.pair c.in-Arguments.is c.requires.way (c.compared.ensures (option_copied c.args.marked) c.requires.encoding)

pub returns-in-Never : goal.returns-in-Never
returns-in-Never c =
    gives_never c.args.flat.now.graph c.args.flat.now.syms (option_copied c.args.marked) c.args.settled.now c.args.prop.now c.never.new.prop c.args.wanted.now c.args.way.now c.in-Equation.left c.in-Equation.right
    c.never.result c.in-Equation.is c.requires.graph c.args.flat.now.root c.args.flat.now.flat c.in-Never.is c.requires.way c.never.ensures
