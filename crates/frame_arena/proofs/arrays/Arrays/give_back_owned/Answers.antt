use Rattle.std.proofs.Common.{◌<◌, sym, subst, arith}
use Rattle.frame_arena.specs.Arrays.{HoldsArrays, KeepLeading}
use Rattle.frame_arena.proofs.Giving.{newer_list, newer_words}
use Rattle.frame_arena.proofs.arrays.Arrays.give_back_owned.Goals as goal

pub returns-then-owner-self-clause-holds : goal.returns-then-owner-self-clause-holds
returns-then-owner-self-clause-holds c arrays h =
    let newer : c.args.self.now.newest < c.args.owner = subst (λ a. a.newest < c.args.owner) c.self.view_is c.if-owner-self.true in
    subst (λ l. HoldsArrays c.args.self.now l) (sym (newer_list c.args.self.now arrays c.args.owner h newer)) h

pub returns-then-owner-self-clause-words : goal.returns-then-owner-self-clause-words
returns-then-owner-self-clause-words c arrays h =
    let newer : c.args.self.now.newest < c.args.owner = subst (λ a. a.newest < c.args.owner) c.self.view_is c.if-owner-self.true in
    let none = newer_words c.args.self.now arrays c.args.owner h newer in
    omega (arith, none)

pub returns-then-owner-self-clause-leads : goal.returns-then-owner-self-clause-leads
returns-then-owner-self-clause-leads c arrays h =
    let newer : c.args.self.now.newest < c.args.owner = subst (λ a. a.newest < c.args.owner) c.self.view_is c.if-owner-self.true in
    subst (λ l. KeepLeading c.args.self.now arrays c.args.self.now l) (sym (newer_list c.args.self.now arrays c.args.owner h newer)) (λ r leads. leads)
