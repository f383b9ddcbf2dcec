use Rattle.sim_lexer.proofs.Lines.{placed-reading}
use Rattle.sim_lexer.proofs.laws.places_and_lines.Goals as goal

pub returns : goal.returns
returns c = record {
  place = λ source tokens reading i d within. (placed-reading reading i d within).within;
  line = λ source tokens reading i d within. (placed-reading reading i d within).line;
  broken = λ source rule place reading. placed-reading reading;
}
