use Rattle.std.proofs.Common.{◌≡◌, ◌≤◌, ◌+◌, ◌++◌, List, ℕ, length, take, sym, ap, ◌∙◌, arith, rules, length-take, length-drop}
use Rattle.std.proofs.lemmas.List.{length-take-le}
use Rattle.basic_io.proofs.LineReads.{read_behind, told_more, wants_more}
use Rattle.basic_io.proofs.line.LineBuffer.read_piece.Goals as goal

pub returns-clause-left : goal.returns-clause-left
returns-clause-left g c =
    let held : take c.self.inside.count c.deref_mut.result.now ≡ c.args.self.now.bytes = search rules in
    let within : c.self.inside.count ≤ length c.deref_mut.result.now = search rules in
    let room : c.args.self.now.room ≡ c.self.inside.bytes.len = search rules in
    let given : c.in_ok-count.count ≤ length c.read.new.into = c.in_ok-count.ensures.bound.0 in
    let more = wants_more c.args.self.now c.requires.no_line in
    let size : length c.args.self.now.bytes ≡ c.self.inside.count = sym (ap length held) ∙ length-take-le _ _ within in
    let into : length c.read.new.into + c.self.inside.count ≡ c.self.inside.bytes.len = omega (arith, c.read.auto.into, length-take {A = ℕ}, length-drop {A = ℕ}) in
    let bytes = c.in_ok-count.ensures.bytes in
    let after = λ (post rest : List ℕ). read_behind c.deref_mut.result.now c.read.new.into post rest c.self.inside.bytes.len c.self.inside.count c.in_ok-count.count within given (omega arith) ∙ ap (λ (r : List ℕ). r ++ take c.in_ok-count.count c.read.new.into) held in
    told_more _ _ c.args.self.now c.read.new.into _ c.self.inside.bytes.len _ more.0 given bytes.0 (λ e. bytes.1 e (omega arith)) (after _ _)
