-- The grammar's table, at what the lists of `for` statements are read by.
use Rattle.std.proofs.Common.{◌≡◌, ◌∙◌, ap, refl, false, List, [], ◌∷◌, Some, None, if◌then◌else◌}
use Rattle.std.specs.Prelude.{◌||◌}
use Rattle.sim_base.specs.declared.token.TokenKind.{TokenKind}
use Rattle.sim_base.specs.declared.token.TokenKind.TheVariants as k
use Rattle.sim_tree.specs.Grammar as g
use Rattle.sim_tree.specs.Grammar.{Symbol, Kept, Mark, Of, Once, Maybe, Many, just, is, right_side}

abbrev pub values_symbols : List Symbol
values_symbols = Kept (just k.Assign) ∷ Of Once g.ForElement ∷ Of Many g.NextForElement ∷ []

abbrev pub references_symbols : List Symbol
references_symbols = Kept (just k.AssignReference) ∷ Of Once g.ReferenceElement ∷ Of Many g.NextReferenceElement ∷ []

pub values_row : right_side g.ForList k.Assign ≡ Some values_symbols
unfolding right_side is
values_row = refl

pub references_row : right_side g.ForList k.AssignReference ≡ Some references_symbols
unfolding right_side is
references_row = refl

pub no_list : (a : TokenKind) → is a k.Assign ≡ false → is a k.AssignReference ≡ false → right_side g.ForList a ≡ None
unfolding right_side
no_list a h e =
    ap (λ x. if x || false then Some values_symbols else (if is a k.AssignReference || false then Some references_symbols else None)) h
    ∙ ap (λ x. if x || false then Some references_symbols else None) e

abbrev pub element_symbols : List Symbol
element_symbols = Of Once g.Expression ∷ Of Maybe g.ForElementTail ∷ []

abbrev pub reference_symbols : List Symbol
reference_symbols = Of Once g.Expression ∷ Of Maybe g.ReferenceElementTail ∷ []

abbrev pub step_symbols : List Symbol
step_symbols = Kept (just k.Step) ∷ Of Once g.Expression ∷ Mark k.Until ∷ Of Once g.Expression ∷ []

abbrev pub while_symbols : List Symbol
while_symbols = Kept (just k.While) ∷ Of Once g.Expression ∷ []

pub step_row : right_side g.ForElementTail k.Step ≡ Some step_symbols
unfolding right_side is
step_row = refl

pub while_row : right_side g.ForElementTail k.While ≡ Some while_symbols
unfolding right_side is
while_row = refl

pub no_tail : (a : TokenKind) → is a k.Step ≡ false → is a k.While ≡ false → right_side g.ForElementTail a ≡ None
unfolding right_side
no_tail a h e =
    ap (λ x. if x || false then Some step_symbols else (if is a k.While || false then Some while_symbols else None)) h
    ∙ ap (λ x. if x || false then Some while_symbols else None) e
