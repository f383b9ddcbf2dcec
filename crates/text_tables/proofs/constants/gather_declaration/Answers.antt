use Rattle.text_tables.proofs.Gathering as g
use Rattle.text_tables.proofs.constants.gather_declaration.Goals as goal

pub returns-in-Arrays : goal.returns-in-Arrays
returns-in-Arrays c = g.gather_arrays c.args.text c.args.table.now.items c.args.decl.now _ _ _ c.in-Arrays.is

pub returns-in-Procedure : goal.returns-in-Procedure
returns-in-Procedure c = g.gather_procedure c.args.text c.args.table.now.items c.args.decl.now _ _ _ c.in-Procedure.is

pub returns-in-Class : goal.returns-in-Class
returns-in-Class c = g.gather_class c.args.text c.args.table.now.items c.args.decl.now _ _ _ c.in-Class.is
