use Rattle.std.proofs.Common.{Ok, Err, rules}
use Rattle.rows.specs.declared.field.FieldFault.TheVariants.{Limit}
use Rattle.rows.proofs.Numerals.{field_exact}
use Rattle.rows.proofs.field.read_field.Goals as goal

pub returns-in_err-value-clause-exact : goal.returns-in_err-value-clause-exact
returns-in_err-value-clause-exact c = field_exact c.args.bytes.now c.args.limit c.from_residual.result c.requires (search rules)

pub returns-then-value-limit-clause-exact : goal.returns-then-value-limit-clause-exact
returns-then-value-limit-clause-exact c = field_exact c.args.bytes.now c.args.limit (Err Limit) c.requires (search rules)

pub returns-clause-exact : goal.returns-clause-exact
returns-clause-exact c = field_exact c.args.bytes.now c.args.limit (Ok c.in_ok-value.value) c.requires (search rules)
