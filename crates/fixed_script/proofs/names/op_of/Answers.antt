use Rattle.std.proofs.Common.{◌++◌, sym, ◌∙◌}
use Rattle.fixed_script.specs.Names.{op_name}
use Rattle.fixed_script.specs.inside.OpGroups.{arithmetic_ops, whole_ops, other_ops}
use Rattle.fixed_script.proofs.NamedGroups.{named_in_front, named_behind}
use Rattle.fixed_script.proofs.names.op_of.Goals as goal

pub returns-in-Some : goal.returns-in-Some
returns-in-Some c =
    sym (named_in_front op_name arithmetic_ops (whole_ops ++ other_ops) c.args.token.now c.in-Some.op (sym c.in-Some.ensures))

pub returns-in-Some-whole_op_of : goal.returns-in-Some-whole_op_of
returns-in-Some-whole_op_of c =
    sym (named_behind op_name arithmetic_ops (whole_ops ++ other_ops) c.args.token.now (sym c.in_default.ensures)
    ∙ named_in_front op_name whole_ops other_ops c.args.token.now c.in-Some-whole_op_of.op (sym c.in-Some-whole_op_of.ensures))

pub returns-in_default-whole_op_of : goal.returns-in_default-whole_op_of
returns-in_default-whole_op_of c =
    c.other_op_of.ensures
    ∙ sym (named_behind op_name arithmetic_ops (whole_ops ++ other_ops) c.args.token.now (sym c.in_default.ensures)
    ∙ named_behind op_name whole_ops other_ops c.args.token.now (sym c.in_default-whole_op_of.ensures))
