use Rattle.std.proofs.Common.{◌≡◌, ℕ, ◌+◌, List, [], ◌++◌, ap, ◌∙◌, sym, subst, refl, arith, drop, append-nil}
use Rattle.std.proofs.lemmas.List.{drop-drop}
use Rattle.sim_base.specs.declared.token.Lexeme.{Lexeme}
use Rattle.sim_lexer.specs.Scanning.{IsText, closed, unclosed}
use Rattle.sim_lexer.specs.Texts.{Content}
use Rattle.sim_lexer.specs.declared.item.Item.TheVariants as item
use Rattle.sim_lexer.proofs.TextLemmas.{known_piece, of_piece, read-more, read-none, read-same}
use Rattle.sim_lexer.proofs.texts.text_item.Goals as goal

pub pieces-init : goal.pieces-init
pieces-init c = record {
  are_read = read-same (read-none (drop 1 c.args.rest.now)) c.new-bytes.ensures.items c.split_at.ensures.back;
  place = c.split_at.ensures.back;
  whole = omega (arith, c.split_at.ensures.back_len, c.requires.some);
}

pub pieces-preserved : goal.pieces-preserved
pieces-preserved c =
    let behind = c.pieces.behind.now in
    let size = c.in-Means.size in
    let within = c.in-Means.ensures.within in
    record {
      are_read = read-same (read-more c.pieces.invariant.are_read (sym c.in-Means.ensures.piece)) c.in_ok-push-in-Means.ensures.items c.split_at-in-Means.ensures.back;
      place =
          c.split_at-in-Means.ensures.back ∙ ap (drop size) c.pieces.invariant.place ∙ drop-drop size (1 + c.pieces.read) c.args.rest.now
          ∙ ap (λ (n : ℕ). drop n c.args.rest.now) (omega arith);
      whole = omega (arith, c.split_at-in-Means.ensures.back_len, within.1, c.pieces.invariant.whole);
    }

-- what stands behind the closing quote
pub returns-in-Closing : goal.returns-in-Closing
returns-in-Closing c =
    let all = c.args.rest.now in
    let behind = c.pieces.behind.now in
    let bytes = c.pieces.bytes.items in
    let content : Content (drop 1 all) (bytes ++ []) (drop 1 behind) = c.pieces.invariant.are_read.there [] (drop 1 behind) (of_piece (sym c.in-Closing.ensures.piece) (refl, refl)) in
    let left : drop 1 behind ≡ drop (c.pieces.read + 2) all =
    ap (drop 1) c.pieces.invariant.place ∙ drop-drop 1 (1 + c.pieces.read) all ∙ ap (λ (n : ℕ). drop n all) (omega arith) in
    let meant : Content (drop 1 all) bytes (drop (c.pieces.read + 2) all) =
    subst (λ (r : List ℕ). Content (drop 1 all) bytes r) left (subst (λ (bs : List ℕ). Content (drop 1 all) bs (drop 1 behind)) (append-nil bytes) content) in
    record {
      text =
          subst (λ (lexeme : Lexeme). IsText all (item.Lexeme lexeme (c.pieces.read + 2))) (sym c.text.ensures.lexeme)
          (closed bytes (c.pieces.read + 2) (omega (arith, c.pieces.invariant.whole, c.in-Closing.ensures.within)) meant);
    }

pub returns-in-Bad : goal.returns-in-Bad
returns-in-Bad c =
    record { text = unclosed (λ bytes rest content. let before = c.pieces.invariant.are_read.back bytes rest content in known_piece (sym c.in-Bad.ensures.piece) before.2) }
