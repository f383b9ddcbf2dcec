use Rattle.codegen.proofs.Listed.{TextsPut}
use Rattle.codegen.proofs.matches.texts_of_classes.Given as goal

abbrev pub invariant-loop-index : goal.invariant-loop-index
invariant-loop-index l = TextsPut l.bound l.draft l.count l.texts.items l.index
