-- A program with a set, as what scopes make of its abstract syntax.
use Rattle.std.specs.Prelude.{[], ◌∷◌, Some, None, codes}
use Rattle.sim_scope.specs.Source.{Source}
use Rattle.sim_tree.specs.declared.stmt.Assignment.TheVariants as assignment
use Rattle.sim_tree.specs.declared.stmt.TypeName.TheVariants as type_name
use Rattle.sim_tree.specs.Syntax.{Also, Assign, Begin, Call, Dot, Named, New, NoDeclaration, NoMore, NoStatement, Then, Variables, With}
use Rattle.sim_meaning.specs.ClassExamples.{Alone, Behind, Reference, at, typed}
use Rattle.sim_meaning.specs.Examples.{identifier, token}
use Rattle.sim_meaning.specs.SetExamples.{source_with_sets}

-- simset begin ref(head) q; ref(link) x; q :- new head; x :- new link; x.into(q); x :- q.first end
abbrev pub link_in_set : Source
link_in_set = source_with_sets ((1, 37) ∷ []) (at 14 Alone (codes "q") ∷ at 17 Alone (codes "head") ∷ at 19 Alone (codes "x") ∷ at 22 Alone (codes "link") ∷ at 24 Alone (codes "x") ∷ at 26 (Behind (codes "link")) (codes "into") ∷ at 28 Alone (codes "q") ∷ at 31 Alone (codes "x") ∷ at 33 Alone (codes "q") ∷ at 35 (Behind (codes "head")) (codes "first") ∷ []) (typed 14 (Reference (codes "head")) ∷ typed 19 (Reference (codes "link")) ∷ typed 31 (Reference (codes "link")) ∷ []) [] (Some (record { class = (identifier 0 (codes "simset")); arguments = NoMore })) (Begin 1 (With (Variables (type_name.Reference (token 2) (identifier 4 (codes "head"))) (record { name = (identifier 6 (codes "q")); value = None } ∷ [])) (With (Variables (type_name.Reference (token 8) (identifier 10 (codes "link"))) (record { name = (identifier 12 (codes "x")); value = None } ∷ [])) NoDeclaration)) (Also (Assign (Named (identifier 14 (codes "q")) NoMore) (record { sign = assignment.Reference; token = 15; value = (New 16 (identifier 17 (codes "head")) NoMore) } ∷ [])) (Also (Assign (Named (identifier 19 (codes "x")) NoMore) (record { sign = assignment.Reference; token = 20; value = (New 21 (identifier 22 (codes "link")) NoMore) } ∷ [])) (Also (Call (Dot 25 (Named (identifier 24 (codes "x")) NoMore) (identifier 26 (codes "into")) (Then (Named (identifier 28 (codes "q")) NoMore) NoMore))) (Also (Assign (Named (identifier 31 (codes "x")) NoMore) (record { sign = assignment.Reference; token = 32; value = (Dot 34 (Named (identifier 33 (codes "q")) NoMore) (identifier 35 (codes "first")) NoMore) } ∷ [])) NoStatement)))) 36)
