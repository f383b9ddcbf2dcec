use Rattle.codegen_expr.proofs.Attributes as w
use Rattle.codegen_expr.proofs.dots.is_image_taken.Goals as goal

pub returns-in-Some : goal.returns-in-Some
returns-in-Some c = w.image_of_stream c.args.bound.now c.args.primary.now c.args.rest.now c.index-rest-0.result c.in-Dot.token c.in-Dot.name c.in-Dot.arguments _ _ _ _ c.if-rest-ne1.false c.index-rest-0.is c.in-Dot.is c.stream_of.ensures c.in-Some.is c.denoted.ensures c.is_image.ensures
