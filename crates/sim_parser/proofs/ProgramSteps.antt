-- How a whole program is read.
use Rattle.std.proofs.Common.{◌≡◌, ◌<◌, ℕ, Bool, true, false, List, [], ◌∷◌, length, Option, Some, None, refl, sym, subst, ap, ◌∙◌, if◌then◌else◌}
use Rattle.std.specs.Prelude.{◌||◌}
use Rattle.sim_base.specs.declared.token.Token.{Token}
use Rattle.sim_tree.specs.declared.program.BlockPrefix.{BlockPrefix}
use Rattle.sim_base.specs.declared.token.TokenKind.{TokenKind}
use Rattle.sim_base.specs.declared.token.TokenKind.TheVariants as k
use Rattle.sim_tree.specs.Grammar as g
use Rattle.sim_tree.specs.Grammar.{Once, Maybe, Kept, Of, Symbol, is, just, right_side}
use Rattle.sim_tree.specs.Reading.{Forest, done, node, kind_at, Reads, reads-done, reads-part, Fails, fails-part, fails-inside, Fault, Unexpected, TooDeep}
use Rattle.sim_tree.specs.Claim.{one}
use Rattle.sim_tree.specs.Tree.{limit, IsEnded}
use Rattle.sim_expr_parser.specs.declared.refusal.Stop.{Stop}
use Rattle.sim_expr_parser.specs.declared.refusal.Stop.TheVariants as stop
use Rattle.sim_expr_parser.specs.Parsing.{Stops}
use Rattle.sim_expr_parser.proofs.Tables.{by_test}
use Rattle.sim_expr_parser.proofs.Ranges.{fails_within, stays}
use Rattle.sim_parser.specs.Program.{NamesToken, ReadsPrefix, program_rest}

abbrev pub prefixed_symbols : List Symbol
prefixed_symbols = Kept (just k.Identifier) ∷ Of Maybe g.Arguments ∷ program_rest

abbrev choice : Bool → Bool → Option (List Symbol)
choice b i = if b || false then Some program_rest else (if i || false then Some prefixed_symbols else None)

program-row : (a : TokenKind) (b i : Bool) → is a k.Begin ≡ b → is a k.Identifier ≡ i → right_side g.Program a ≡ choice b i
unfolding right_side
program-row a b i eb ei = ap (λ x. choice x (is a k.Identifier)) eb ∙ ap (choice b) ei

is-identifier : right_side g.Program k.Identifier ≡ Some prefixed_symbols
unfolding right_side is
is-identifier = refl

pub plain-row : (a : TokenKind) → is a k.Begin ≡ true → right_side g.Program a ≡ Some program_rest
plain-row a h = program-row a true (is a k.Identifier) h refl

pub no-row : (a : TokenKind) → is a k.Begin ≡ false → is a k.Identifier ≡ false → right_side g.Program a ≡ None
no-row a h e = program-row a false false h e

module _ (ws : List Token) where
  pub program-reads : (right : List Symbol) (f : Forest) (m : ℕ) → right_side g.Program (kind_at ws 0) ≡ Some right → Reads limit ws 0 right 0 f m → Reads limit ws 0 (one g.Program) 0 (node g.Program f done) m
  program-reads right f m b r = reads-part b refl r reads-done

  pub program-fails : (right : List Symbol) (e : Fault) → right_side g.Program (kind_at ws 0) ≡ Some right → Fails limit ws 0 right 0 e → Fails limit ws 0 (one g.Program) 0 e
  program-fails right e b r = fails-inside b refl r

  pub program-stops : (right : List Symbol) (e : Stop) → right_side g.Program (kind_at ws 0) ≡ Some right → Stops ws 0 right 0 e → Stops ws 0 (one g.Program) 0 e
  program-stops right (stop.Unexpected k) b h = fails-inside b refl h
  program-stops right (stop.TooDeep k) b h = fails-inside b refl h
  program-stops right stop.Memory b h = tt

  pub no-program : (e : Stop) → right_side g.Program (kind_at ws 0) ≡ None → e ≡ stop.Unexpected 0 → Stops ws 0 (one g.Program) 0 e
  no-program e none h = subst (λ z. Stops ws 0 (one g.Program) 0 z) (sym h) (fails-part none refl)

  -- where reading stops, a token is named
  pub names-token : IsEnded ws → (d i : ℕ) (s : List Symbol) (e : Stop) → stays s ≡ true → i < length ws → Stops ws d s i e → NamesToken ws e
  names-token ended d i s (stop.Unexpected k) h w r = fails_within ended r h w
  names-token ended d i s (stop.TooDeep k) h w r = fails_within ended r h w
  names-token ended d i s stop.Memory h w r = tt

  pub prefix-stops : {p : Option BlockPrefix} {j : ℕ} → ReadsPrefix ws p j → (e : Stop) → Stops ws 0 program_rest j e → Stops ws 0 (one g.Program) 0 e
  prefix-stops r (stop.Unexpected k) h = r.fails (Unexpected k) h
  prefix-stops r (stop.TooDeep k) h = r.fails (TooDeep k) h
  prefix-stops r stop.Memory h = tt

pub prefixed-row : (a : TokenKind) → is a k.Identifier ≡ true → right_side g.Program a ≡ Some prefixed_symbols
prefixed-row a h = by_test g.Program a k.Identifier prefixed_symbols h is-identifier

pub stays-identifier : stays (Kept (just k.Identifier) ∷ []) ≡ true
unfolding is
stays-identifier = refl
