-- What breaks no rule is built, and runs as its code may count on.
use Rattle.std.proofs.Common.{List}
use Rattle.sim_base.specs.declared.token.Token.{Token}
use Rattle.sim_scope.specs.Source.{Source}
use Rattle.sim_tree.specs.declared.program.Program.{Program as Tree}
use Rattle.sim_meaning.specs.Sane.{HasRules, NamesObjects, StaysSane}
use Rattle.sim_agree.specs.Inners.{Inners}
use Rattle.sim_agree.specs.TablesOf.{TablesOf}
use Rattle.sim_agree.proofs.InnersWritten.{inners}
use Rattle.sim_agree.proofs.Whole.{tables_agree}
use Rattle.sim_allowed.proofs.Agreed.{tables_of}
use Rattle.sim_allowed.proofs.Allowed.{AllowedIs, allowed_says}
use Rattle.sim_allowed.proofs.Main.{allowed_typed}
use Rattle.sim_sound.specs.Typed.{Typed}
use Rattle.sim_sound.proofs.Main.{names_objects, never_no_rule, stays_sane}
use Rattle.codegen.specs.BuiltProgram.{ProgramBuilt}
use Rattle.sim_built.specs.Allowed.{IsAllowed}
use Rattle.sim_built.proofs.Lying.{lies}
use Rattle.sim_built.proofs.Programs.{program_built}

says : (tokens : List Token) (tree : Tree) (s : Source) → IsAllowed tokens tree s → AllowedIs s
says tokens tree s is = allowed_says tokens tree s is.reads is.checked.program is.checked.allowed

typed : (tokens : List Token) (tree : Tree) (s : Source) → IsAllowed tokens tree s → Typed s
typed tokens tree s is = allowed_typed tokens tree s is.reads is.checked.program is.checked.allowed

pub built : (tokens : List Token) (tree : Tree) (s : Source) → IsAllowed tokens tree s → ProgramBuilt s
built tokens tree s is =
    let said = says tokens tree s is in
    let of : TablesOf s = tables_of s said in
    let inner : Inners s = inners s of said.order in
    program_built s (typed tokens tree s is) (lies s (tables_agree s of said.order) inner) said.filled

pub ruled : (tokens : List Token) (tree : Tree) (s : Source) → IsAllowed tokens tree s → HasRules s
ruled tokens tree s is = never_no_rule s (typed tokens tree s is)

pub sane : (tokens : List Token) (tree : Tree) (s : Source) → IsAllowed tokens tree s → StaysSane s
sane tokens tree s is = stays_sane s (typed tokens tree s is)

pub named : (tokens : List Token) (tree : Tree) (s : Source) → IsAllowed tokens tree s → NamesObjects s
named tokens tree s is = names_objects s (typed tokens tree s is)
