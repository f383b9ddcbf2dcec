use Rattle.std.proofs.Common.{◌≡◌, List, [], length, ap, ◌∙◌, take, sym, subst, refl, arith, rules}
use Rattle.std.specs.List.{All}
use Rattle.std.proofs.lemmas.List.Elements.{All-nil}
use Rattle.sim_base.specs.Lexeme.{bare}
use Rattle.sim_base.specs.declared.token.Token.{Token}
use Rattle.sim_base.specs.declared.token.TokenKind.TheVariants as k
use Rattle.sim_lexer.specs.Pieces.{piece}
use Rattle.sim_lexer.specs.Scanning.{IsItem, past, token_at}
use Rattle.sim_lexer.specs.Spelling.{Reads, Spelled, with_next}
use Rattle.sim_lexer.specs.declared.item.Item.{Item}
use Rattle.sim_lexer.specs.declared.item.Item.TheVariants.{Skipped, Lexeme, Fault}
use Rattle.sim_lexer.proofs.Following.{follows-start, follows-passes, follows-gives, follows-ends, follows-breaks, follows-same, given-inside, given-some, none_left, passed-some}
use Rattle.sim_lexer.proofs.JoiningLemmas.{end_behind, few}
use Rattle.sim_lexer.proofs.NoEnd.{IsInside, inside-next}
use Rattle.sim_lexer.proofs.spelling.read.Goals as goal

pub items-init : goal.items-init
items-init c = record {
  follows = follows-same (follows-start c.requires) c.new-tokens.ensures.items refl refl;
  place = omega arith;
  line = omega arith;
  inside = subst (All IsInside) (sym c.new-tokens.ensures.items) (All-nil IsInside);
  few = omega (arith, ap length c.new-tokens.ensures.items);
}

-- the source ends
pub returns-in_default : goal.returns-in_default
returns-in_default c =
    let at = c.items.at in
    let tokens : c.add.new.tokens.items ≡ with_next c.items.tokens.items (token_at at (bare k.EndOfSource)) =
    c.in_ok-add.ensures.tokens ∙ ap (with_next c.items.tokens.items) (c.token.ensures.token ∙ ap (token_at at) c.bare-end.ensures) in
    let none : c.items.rest.now ≡ [] = none_left c.items.rest.now (search rules) in
    record {
      sound = subst (λ (ts : List Token). Reads c.args.source.now (Spelled ts)) (sym tokens) (follows-ends c.items.invariant.follows none);
      ended = record {
        before = c.items.tokens.items;
        last = token_at at (bare k.EndOfSource);
        split = tokens ∙ end_behind c.items.tokens.items (token_at at (bare k.EndOfSource)) refl;
        end = refl;
        only = c.items.invariant.inside;
      };
      few = omega (arith, ap length tokens, few c.items.tokens.items (token_at at (bare k.EndOfSource)), c.items.invariant.few);
    }

pub split_at-requires : goal.split_at-requires
split_at-requires c =
    let at = c.items.at in
    let rest = c.items.rest.now in
    let found : IsItem (piece at.begins_line rest) rest (Skipped c.in-Skipped.size) = subst (λ (i : Item). IsItem (piece at.begins_line rest) rest i) c.in-Skipped.is c.in_ok-size.ensures.item in
    (follows-passes c.items.invariant.follows c.in-Skipped.size found).1

pub split_at-requires-in-Lexeme : goal.split_at-requires-in-Lexeme
split_at-requires-in-Lexeme c =
    let at = c.items.at in
    let rest = c.items.rest.now in
    let found : IsItem (piece at.begins_line rest) rest (Lexeme c.in-Lexeme.lexeme c.in-Lexeme.size) = subst (λ (i : Item). IsItem (piece at.begins_line rest) rest i) c.in-Lexeme.is c.in_ok-size.ensures.item in
    (follows-gives c.items.invariant.follows c.in-Lexeme.lexeme c.in-Lexeme.size found).1

pub items-smaller-in-Skipped : goal.items-smaller-in-Skipped
items-smaller-in-Skipped c =
    let at = c.items.at in
    let rest = c.items.rest.now in
    let size = c.in-Skipped.size in
    let found : IsItem (piece at.begins_line rest) rest (Skipped size) = subst (λ (i : Item). IsItem (piece at.begins_line rest) rest i) c.in-Skipped.is c.in_ok-size.ensures.item in
    omega (arith, c.split_at.ensures.back_len, passed-some at.begins_line rest size found, (follows-passes c.items.invariant.follows size found).1)

pub items-smaller : goal.items-smaller
items-smaller c =
    let at = c.items.at in
    let rest = c.items.rest.now in
    let lexeme = c.in-Lexeme.lexeme in
    let size = c.in-Lexeme.size in
    let found : IsItem (piece at.begins_line rest) rest (Lexeme lexeme size) = subst (λ (i : Item). IsItem (piece at.begins_line rest) rest i) c.in-Lexeme.is c.in_ok-size.ensures.item in
    omega (arith, c.split_at-in-Lexeme.ensures.back_len, given-some at.begins_line rest lexeme size found, (follows-gives c.items.invariant.follows lexeme size found).1)

-- a separator is passed over
pub items-preserved-in-Skipped : goal.items-preserved-in-Skipped
items-preserved-in-Skipped c =
    let at = c.items.at in
    let rest = c.items.rest.now in
    let size = c.in-Skipped.size in
    let found : IsItem (piece at.begins_line rest) rest (Skipped size) = subst (λ (i : Item). IsItem (piece at.begins_line rest) rest i) c.in-Skipped.is c.in_ok-size.ensures.item in
    let follows = follows-passes c.items.invariant.follows size found in
    let next : c.past-at.result ≡ past at (take size rest) = c.past-at.ensures.position ∙ ap (past at) c.split_at.ensures.front in
    record {
      follows = follows-same follows.0 refl next c.split_at.ensures.back;
      place = omega (arith, c.past-at.ensures.place, c.split_at.ensures.front_len, c.split_at.ensures.back_len, c.items.invariant.place, follows.1);
      line = c.past-at.ensures.line;
      inside = c.items.invariant.inside;
      few = omega (arith, c.split_at.ensures.back_len, c.items.invariant.few);
    }

-- a lexeme gives a token
pub items-preserved : goal.items-preserved
items-preserved c =
    let at = c.items.at in
    let rest = c.items.rest.now in
    let lexeme = c.in-Lexeme.lexeme in
    let size = c.in-Lexeme.size in
    let before = c.items.tokens.items in
    let found : IsItem (piece at.begins_line rest) rest (Lexeme lexeme size) = subst (λ (i : Item). IsItem (piece at.begins_line rest) rest i) c.in-Lexeme.is c.in_ok-size.ensures.item in
    let follows = follows-gives c.items.invariant.follows lexeme size found in
    let next : c.past-at-in-Lexeme.result ≡ past at (take size rest) = c.past-at-in-Lexeme.ensures.position ∙ ap (past at) c.split_at-in-Lexeme.ensures.front in
    let tokens : c.add-in-Lexeme.new.tokens.items ≡ with_next before (token_at at lexeme) = c.in_ok-add-in-Lexeme.ensures.tokens ∙ ap (with_next before) c.token-in-Lexeme.ensures.token in
    record {
      follows = follows-same follows.0 tokens next c.split_at-in-Lexeme.ensures.back;
      place = omega (arith, c.past-at-in-Lexeme.ensures.place, c.split_at-in-Lexeme.ensures.front_len, c.split_at-in-Lexeme.ensures.back_len, c.items.invariant.place, follows.1);
      line = c.past-at-in-Lexeme.ensures.line;
      inside = subst (All IsInside) (sym tokens) (inside-next before (token_at at lexeme) c.items.invariant.inside (given-inside at.begins_line rest lexeme size found));
      few = omega (arith, c.split_at-in-Lexeme.ensures.back_len, c.items.invariant.few, given-some at.begins_line rest lexeme size found, follows.1, ap length tokens, few before (token_at at lexeme));
    }

pub returns-in-Fault : goal.returns-in-Fault
returns-in-Fault c =
    let at = c.items.at in
    let rest = c.items.rest.now in
    let found : IsItem (piece at.begins_line rest) rest (Fault c.in-Fault.rule) = subst (λ (i : Item). IsItem (piece at.begins_line rest) rest i) c.in-Fault.is c.in_ok-size.ensures.item in
    record { sound = follows-breaks c.items.invariant.follows c.in-Fault.rule found; ended = tt; few = tt }
