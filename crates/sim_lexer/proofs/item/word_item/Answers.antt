use Rattle.std.proofs.Common.{◌≡◌, ℕ, List, IfOk, ap, arith, length, map, subst, ◌∙◌}
use Rattle.std.specs.Char.{to_ascii_lowercase}
use Rattle.std.specs.List.{prefix_len}
use Rattle.sim_lexer.specs.Pieces.{lower_word, word, word_piece}
use Rattle.sim_lexer.specs.Scanning.{is_no_capital, piece_of}
use Rattle.sim_lexer.proofs.LowerWords.{kept}
use Rattle.sim_lexer.proofs.item.word_item.Goals as goal

pub returns-then-small_len-word : goal.returns-then-small_len-word
unfolding word
returns-then-small_len-word c =
    let front = c.front_word-word.result.now in
    let all : prefix_len is_no_capital front ≡ length front = grind (arith, c.small_len.ensures.len, c.if-small_len-word.true) in
    let same : front ≡ lower_word c.args.rest.now = kept front all ∙ ap (map to_ascii_lowercase) c.front_word-word.ensures.word in
    record {
      item = subst (λ (lower : List ℕ). IfOk c.item_of_word.result (λ item. word_piece lower c.args.rest.now ≡ piece_of item)) same c.item_of_word.ensures.item;
    }
